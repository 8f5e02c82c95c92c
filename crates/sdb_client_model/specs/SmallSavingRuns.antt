-- Small runs of a server that saves its log and restarts, and what they can lead to.
use Rattle.std.specs.Prelude.{◌≡◌, ℕ, List, [], ◌∷◌, Some, All, Contains, ⊤}
use Rattle.sdb_oplog.specs.Snap.{document_of}
use Rattle.sdb_oplog.specs.Decide.{refused, decide}
use Rattle.sdb_oplog.specs.declared.codes.Code.{Code}
use Rattle.sdb_oplog.specs.RebasedContents.{IsWellFormedDocument}
use Rattle.sdb_client_model.specs.Client.{SentEdit, shown_document}
use Rattle.sdb_client_model.specs.Machine.{ClientStep, submission_of}
use Rattle.sdb_client_model.specs.SmallRuns.{IsSmallRun, IsReachedBySmallRun}
use Rattle.sdb_client_model.specs.Messages.{submit, ClientConnection}
use Rattle.sdb_client_model.specs.MessageMachine.{source_client, client_advances}
use Rattle.sdb_client_model.specs.MessageLaws.{edit_steps, edit_steps_of}
use Rattle.sdb_client_model.specs.SmallMessageRuns.{IsMessageStepMade, HasNextEntry}
use Rattle.sdb_client_model.specs.SavingMachine.{SavingState, SavingStep, message_step, server_saves, server_releases, server_restarts, saved_document, IsSavingStep, IsSavingRun}
use Rattle.sdb_client_model.specs.SavingLaws.{IsReachedWithFile, message_steps}

-- an edit is made for what its client shows
abbrev pub IsSavingStepMade : SavingStep → SavingState → Type 0
IsSavingStepMade (message_step step) s = IsMessageStepMade step s.current
IsSavingStepMade (server_saves n) s = ⊤
IsSavingStepMade (server_releases source) s = ⊤
IsSavingStepMade server_restarts s = ⊤

-- each step of the run is so
abbrev pub AreSavingStepsMade : (steps : List SavingStep) (old new : SavingState) → IsSavingRun steps old new → Type 0
AreSavingStepsMade [] old new run = ⊤
AreSavingStepsMade (step ∷ steps) old new run = IsSavingStepMade step old × AreSavingStepsMade steps run.0 new run.2

-- s is reached from a well-formed document by a run whose edits keep the ranges, and are made for what their clients
-- show
pub record IsReachedBySmallSavingRun (steps : List SavingStep) (start s : SavingState) : Type 0 where
  pub reached : IsReachedWithFile steps start s
  pub well_formed : IsWellFormedDocument (document_of start.file)
  pub made : AreSavingStepsMade steps start s reached.run
  pub small : IsSmallRun (edit_steps_of (message_steps steps)) (saved_document start)

-- ---- each is a small run without messages, with the saved entries as its log

pub record HasSmallSavedRun (steps : List SavingStep) (start s : SavingState) : Type 0 where
  pub client_steps : List ClientStep
  pub reached : IsReachedBySmallRun client_steps (saved_document start) (saved_document s)
  pub edits : edit_steps client_steps ≡ edit_steps_of (message_steps steps)

abbrev pub SmallSavingRunsAreSmallRuns : Type 0
SmallSavingRunsAreSmallRuns =
    (steps : List SavingStep) (start s : SavingState) → IsReachedBySmallSavingRun steps start s
    → HasSmallSavedRun steps start s

-- ---- what follows

-- as `NoSubmissionIsRefused`: the server stores a submission that a client has sent, or it is a duplicate
abbrev pub NoSubmissionIsRefusedWithFile : Type 0
NoSubmissionIsRefusedWithFile =
    (steps : List SavingStep) (start s : SavingState) (source : List ℕ) (k : ClientConnection) (t : SentEdit) (now : ℕ)
    (code : Code)
    → IsReachedBySmallSavingRun steps start s → s.current.connections source ≡ Some k
    → Contains k.to_server (submit t)
    → (decide s.current.shared.log (submission_of (record { source = source; sent = t }) k.via k.by) now).reply
    ≡ refused code
    → ⊥

-- as `NextEntriesAreProcessed`: a client can process the entry at its version that it has received
abbrev pub NextEntriesAreProcessedWithFile : Type 0
NextEntriesAreProcessedWithFile =
    (steps : List SavingStep) (start s : SavingState) (source : List ℕ) → IsReachedBySmallSavingRun steps start s
    → HasNextEntry (source_client s.current source) (s.current.received source)
    → (later : SavingState) × IsSavingStep (message_step (client_advances source)) s later

-- ---- each can lead to convergence

-- a run without an edit leads from s to a later state, in which all entries are saved, and the clients of the sources
-- have no pending edit and show the saved document
pub record CanConvergeWithFile (sources : List (List ℕ)) (s : SavingState) : Type 0 where
  pub steps : List SavingStep
  pub later : SavingState
  pub run : IsSavingRun steps s later
  pub none_edited : edit_steps_of (message_steps steps) ≡ []
  pub all_saved : later.file ≡ later.current.shared.log
  pub none_pending : All (λ source. (source_client later.current source).pending ≡ []) sources
  pub shown : All (λ source. shown_document (source_client later.current source) ≡ document_of later.file) sources

abbrev pub ClientsCanConvergeWithFile : Type 0
ClientsCanConvergeWithFile =
    (steps : List SavingStep) (start s : SavingState) (sources : List (List ℕ))
    → IsReachedBySmallSavingRun steps start s → CanConvergeWithFile sources s
