-- Laws of a server that saves its log and restarts, and of its clients.
use Rattle.std.specs.Prelude.{◌≡◌, ℕ, ◌<◌, ◌≤◌, List, [], ◌∷◌, ◌++◌, map, length, take, Some, All}
use Rattle.sdb_oplog.specs.Plain.{PlainEntry}
use Rattle.sdb_oplog.specs.Snap.{snap, document_of}
use Rattle.sdb_client_model.specs.Client.{shown_document}
use Rattle.sdb_client_model.specs.Machine.{ClientStep}
use Rattle.sdb_client_model.specs.Convergence.{IsReached, IsQuiet}
use Rattle.sdb_client_model.specs.StoredOnce.{EditsAreStored}
use Rattle.sdb_client_model.specs.Messages.{ClientConnection}
use Rattle.sdb_client_model.specs.MessageMachine.{MessageState, MessageStep, source_client}
use Rattle.sdb_client_model.specs.MessageLaws.{IsMessageStart, edit_steps, edit_steps_of, IsReceivedOrSent, AreOfLog, IsOfLog, HasReceivedAll}
use Rattle.sdb_client_model.specs.SavingMachine.{HeldMessage, SavingState, SavingStep, message_step, server_saves, server_releases, server_restarts, saved_document, IsSavingRun}

-- ---- the start of a run

-- all entries are saved, no connection is open, and nothing is received
pub record IsSavingStart (s : SavingState) : Type 0 where
  pub current : IsMessageStart s.current
  pub all_saved : s.file ≡ s.current.shared.log
  pub none_held : (source : List ℕ) → s.held source ≡ []

-- s is reached from such a start by a run
pub record IsReachedWithFile (steps : List SavingStep) (start s : SavingState) : Type 0 where
  pub starts : IsSavingStart start
  pub run : IsSavingRun steps start s

-- ---- each run is one of the machine without messages, with the saved entries as its log

abbrev pub message_steps : List SavingStep → List MessageStep
message_steps [] = []
message_steps (message_step step ∷ steps) = step ∷ message_steps steps
message_steps (server_saves n ∷ steps) = message_steps steps
message_steps (server_releases source ∷ steps) = message_steps steps
message_steps (server_restarts ∷ steps) = message_steps steps

-- it leads from the same entries and clients to the same ones, with the same edits
pub record HasSavedClientRun (steps : List SavingStep) (start s : SavingState) : Type 0 where
  pub client_steps : List ClientStep
  pub reached : IsReached client_steps (saved_document start) (saved_document s)
  pub edits : edit_steps client_steps ≡ edit_steps_of (message_steps steps)

abbrev pub SavingRunsAreClientRuns : Type 0
SavingRunsAreClientRuns =
    (steps : List SavingStep) (start s : SavingState) → IsReachedWithFile steps start s
    → HasSavedClientRun steps start s

-- each edit of a client is saved once, in the order in which the client made them, or is sent or in its queue
abbrev pub EditsAreSaved : Type 0
EditsAreSaved =
    (steps : List SavingStep) (start s : SavingState) (source : List ℕ) → IsReachedWithFile steps start s
    → EditsAreStored source (edit_steps_of (message_steps steps)) (saved_document start) (saved_document s)

-- a client without a pending edit that has processed all saved entries shows the saved document
abbrev pub SavedClientsConverge : Type 0
SavedClientsConverge =
    (steps : List SavingStep) (start s : SavingState) (source : List ℕ) → IsReachedWithFile steps start s
    → IsQuiet s.file (source_client s.current source)
    → shown_document (source_client s.current source) ≡ document_of s.file

-- ---- what is saved and what was sent stays, over any number of restarts

-- the list is the first part of the longer one
abbrev pub BeginsWith : List PlainEntry → List PlainEntry → Type 0
BeginsWith longer es = (rest : List PlainEntry) × (longer ≡ es ++ rest)

-- the log begins with the file, and each later file and log with this one's
abbrev pub SavedEntriesStay : Type 0
SavedEntriesStay =
    (steps later_steps : List SavingStep) (start s later : SavingState) → IsReachedWithFile steps start s
    → IsSavingRun later_steps s later → BeginsWith later.file s.file × BeginsWith later.current.shared.log later.file

-- what the client of a source has processed and received, and what is in its channel, is of the log
pub record HasEntriesOf (log : List PlainEntry) (source : List ℕ) (s : MessageState) : Type 0 where
  -- its document is the log's document at its version
  pub version_reached : (source_client s source).version ≤ length log
  pub document : snap (take (source_client s source).version log) ≡ Some (Some (source_client s source).document)
  pub received : AreOfLog source log (source_client s source).sent (s.received source)
  pub sent : (k : ClientConnection) → s.connections source ≡ Some k → All (IsOfLog source log) k.to_client

-- that is of each later file
abbrev pub SentEntriesStay : Type 0
SentEntriesStay =
    (steps later_steps : List SavingStep) (start s later : SavingState) (source : List ℕ)
    → IsReachedWithFile steps start s → IsSavingRun later_steps s later → HasEntriesOf later.file source s.current

-- ---- no entry is missing

-- the connection with the messages that its session will send
abbrev pub with_held : ClientConnection → List HeldMessage → ClientConnection
with_held k hs = record k { to_client = k.to_client ++ map (λ (h : HeldMessage). h.message) hs }

-- as `NoneIsMissing`: the client has each entry up to the queue's position, or will receive it over its connection
abbrev pub NoneIsMissingWithFile : Type 0
NoneIsMissingWithFile =
    (steps : List SavingStep) (start s : SavingState) (source : List ℕ) (k : ClientConnection) (position i : ℕ)
    → IsReachedWithFile steps start s → s.current.connections source ≡ Some k → k.queue ≡ Some position
    → (source_client s.current source).version ≤ i → i < position
    → IsReceivedOrSent (source_client s.current source) (s.current.received source) (with_held k (s.held source)) i

-- a client that has received all has processed all entries of the log, and these are saved
pub record HasProcessedAll (source : List ℕ) (s : SavingState) : Type 0 where
  pub version_is : (source_client s.current source).version ≡ length s.current.shared.log
  pub all_saved : s.file ≡ s.current.shared.log

abbrev pub ClientsProcessAllWithFile : Type 0
ClientsProcessAllWithFile =
    (steps : List SavingStep) (start s : SavingState) (source : List ℕ) (k : ClientConnection)
    → IsReachedWithFile steps start s → s.current.connections source ≡ Some k
    → HasReceivedAll s.current.shared.log (source_client s.current source) (s.current.received source)
    (with_held k (s.held source))
    → HasProcessedAll source s

-- so it shows the server's document, if it has no pending edit
abbrev pub ClientsConvergeWithFile : Type 0
ClientsConvergeWithFile =
    (steps : List SavingStep) (start s : SavingState) (source : List ℕ) (k : ClientConnection)
    → IsReachedWithFile steps start s → s.current.connections source ≡ Some k
    → HasReceivedAll s.current.shared.log (source_client s.current source) (s.current.received source)
    (with_held k (s.held source))
    → (source_client s.current source).pending ≡ []
    → shown_document (source_client s.current source) ≡ document_of s.current.shared.log
