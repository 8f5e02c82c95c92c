-- Small runs with messages, and what they can lead to.
use Rattle.std.specs.Prelude.{◌≡◌, ℕ, List, [], ◌∷◌, Some, All, Contains, ⊤}
use Rattle.sdb_oplog.specs.Plain.{PlainEntry}
use Rattle.sdb_oplog.specs.Snap.{document_of}
use Rattle.sdb_oplog.specs.Decide.{refused, decide}
use Rattle.sdb_oplog.specs.declared.codes.Code.{Code}
use Rattle.sdb_oplog.specs.RebasedContents.{IsWellFormedDocument}
use Rattle.sdb_client_model.specs.Client.{SentEdit, Client, shown_document}
use Rattle.sdb_client_model.specs.Machine.{ClientStep, submission_of}
use Rattle.sdb_client_model.specs.RunPremises.{IsMadeForShown}
use Rattle.sdb_client_model.specs.SmallRuns.{IsSmallRun, IsReachedBySmallRun}
use Rattle.sdb_client_model.specs.Messages.{submit, ClientConnection, ReceivedEntries}
use Rattle.sdb_client_model.specs.MessageMachine.{MessageState, source_client, MessageStep, client_edits, client_advances, IsMessageStep, IsMessageRun}
use Rattle.sdb_client_model.specs.MessageLaws.{IsReachedByMessages, edit_steps, edit_steps_of}

-- an edit is made for what its client shows
abbrev pub IsMessageStepMade : MessageStep → MessageState → Type 0
IsMessageStepMade (client_edits source op) s = IsMadeForShown op (shown_document (source_client s source))
IsMessageStepMade _ s = ⊤

-- each step of the run is so
abbrev pub AreMessageStepsMade : (steps : List MessageStep) (old new : MessageState) → IsMessageRun steps old new
    → Type 0
AreMessageStepsMade [] old new run = ⊤
AreMessageStepsMade (step ∷ steps) old new run =
    IsMessageStepMade step old × AreMessageStepsMade steps run.0 new run.2

-- s is reached from a well-formed document by a run whose edits keep the ranges, and are made for what their clients
-- show
pub record IsReachedBySmallMessageRun (steps : List MessageStep) (start s : MessageState) : Type 0 where
  pub reached : IsReachedByMessages steps start s
  pub well_formed : IsWellFormedDocument (document_of start.shared.log)
  pub made : AreMessageStepsMade steps start s reached.run
  pub small : IsSmallRun (edit_steps_of steps) start.shared

-- ---- each is a small run without messages

pub record HasSmallClientRun (steps : List MessageStep) (start s : MessageState) : Type 0 where
  pub client_steps : List ClientStep
  pub reached : IsReachedBySmallRun client_steps start.shared s.shared
  pub edits : edit_steps client_steps ≡ edit_steps_of steps

abbrev pub SmallMessageRunsAreSmallRuns : Type 0
SmallMessageRunsAreSmallRuns =
    (steps : List MessageStep) (start s : MessageState) → IsReachedBySmallMessageRun steps start s
    → HasSmallClientRun steps start s

-- ---- what follows

-- `decide` refuses no submission that a client has sent: it stores it, or it is a duplicate
abbrev pub NoSubmissionIsRefused : Type 0
NoSubmissionIsRefused =
    (steps : List MessageStep) (start s : MessageState) (source : List ℕ) (k : ClientConnection) (t : SentEdit)
    (now : ℕ) (code : Code)
    → IsReachedBySmallMessageRun steps start s → s.connections source ≡ Some k → Contains k.to_server (submit t)
    → (decide s.shared.log (submission_of (record { source = source; sent = t }) k.via k.by) now).reply ≡ refused code
    → ⊥

-- the client has received the entry at its version
pub data HasNextEntry (c : Client) (r : ReceivedEntries) : Type 0 where
  next_is_early : (e : PlainEntry) → r.early c.version ≡ Some e → HasNextEntry c r
  next_is_acknowledged : r.ack ≡ Some c.version → HasNextEntry c r

-- it can process that entry
abbrev pub NextEntriesAreProcessed : Type 0
NextEntriesAreProcessed =
    (steps : List MessageStep) (start s : MessageState) (source : List ℕ) → IsReachedBySmallMessageRun steps start s
    → HasNextEntry (source_client s source) (s.received source)
    → (later : MessageState) × IsMessageStep (client_advances source) s later

-- ---- each can lead to convergence

-- a run without an edit leads from s to a later state, in which the clients of the sources have no pending edit and
-- show the server's document
pub record CanConverge (sources : List (List ℕ)) (s : MessageState) : Type 0 where
  pub steps : List MessageStep
  pub later : MessageState
  pub run : IsMessageRun steps s later
  pub none_edited : edit_steps_of steps ≡ []
  pub none_pending : All (λ source. (source_client later source).pending ≡ []) sources
  pub shown : All (λ source. shown_document (source_client later source) ≡ document_of later.shared.log) sources

abbrev pub ClientsCanConverge : Type 0
ClientsCanConverge =
    (steps : List MessageStep) (start s : MessageState) (sources : List (List ℕ))
    → IsReachedBySmallMessageRun steps start s → CanConverge sources s
