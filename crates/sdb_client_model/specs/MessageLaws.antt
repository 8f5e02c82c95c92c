-- Laws of clients that exchange messages with the server.
use Rattle.std.specs.Prelude.{◌≡◌, ℕ, ◌<◌, ◌≤◌, List, [], ◌∷◌, length, slice_get, false, Option, Some, None, All, Contains, ⊤}
use Rattle.sdb_oplog.specs.Plain.{PlainEntry}
use Rattle.sdb_oplog.specs.Snap.{document_of, stored_at}
use Rattle.sdb_client_model.specs.Client.{SentEdit, Client, shown_document, is_sent_edit}
use Rattle.sdb_client_model.specs.Machine.{ClientStep, make_edit, send_edit, decide_edit, process_entry}
use Rattle.sdb_client_model.specs.Convergence.{IsStart, IsReached, IsQuiet}
use Rattle.sdb_client_model.specs.StoredOnce.{EditsAreStored}
use Rattle.sdb_client_model.specs.Messages.{ServerMessage, op_message, caught_up, acknowledged, failed, ClientConnection, ReceivedEntries}
use Rattle.sdb_client_model.specs.MessageMachine.{MessageState, source_client, MessageStep, client_edits, client_sends, client_resends, client_receives, client_advances, server_handles, server_refuses, server_handles_unread, server_pumps, client_connects, client_subscribes, connection_ends, IsMessageRun}

-- ---- the start of a run

-- the log has a document, and each client has that; no connection is open, and nothing is received
pub record IsMessageStart (s : MessageState) : Type 0 where
  pub shared : IsStart s.shared
  pub none_early : (source : List ℕ) (v : ℕ) → (s.received source).early v ≡ None
  pub none_acknowledged : (source : List ℕ) → (s.received source).ack ≡ None
  pub none_connected : (source : List ℕ) → s.connections source ≡ None
  pub none_unread : s.unread ≡ []

-- s is reached from such a start by a run
pub record IsReachedByMessages (steps : List MessageStep) (start s : MessageState) : Type 0 where
  pub starts : IsMessageStart start
  pub run : IsMessageRun steps start s

-- ---- each run is one of the machine without messages

-- the steps that make an edit
abbrev pub edit_steps : List ClientStep → List ClientStep
edit_steps [] = []
edit_steps (make_edit source op ∷ steps) = make_edit source op ∷ edit_steps steps
edit_steps (send_edit source ∷ steps) = edit_steps steps
edit_steps (decide_edit m via by now ∷ steps) = edit_steps steps
edit_steps (process_entry source ∷ steps) = edit_steps steps

abbrev pub edit_steps_of : List MessageStep → List ClientStep
edit_steps_of [] = []
edit_steps_of (client_edits source op ∷ steps) = make_edit source op ∷ edit_steps_of steps
edit_steps_of (client_sends source ∷ steps) = edit_steps_of steps
edit_steps_of (client_resends source ∷ steps) = edit_steps_of steps
edit_steps_of (client_receives source ∷ steps) = edit_steps_of steps
edit_steps_of (client_advances source ∷ steps) = edit_steps_of steps
edit_steps_of (server_handles source now ∷ steps) = edit_steps_of steps
edit_steps_of (server_refuses source ∷ steps) = edit_steps_of steps
edit_steps_of (server_handles_unread m now ∷ steps) = edit_steps_of steps
edit_steps_of (server_pumps source ∷ steps) = edit_steps_of steps
edit_steps_of (client_connects source via ∷ steps) = edit_steps_of steps
edit_steps_of (client_subscribes source ∷ steps) = edit_steps_of steps
edit_steps_of (connection_ends source ∷ steps) = edit_steps_of steps

-- a run of the machine without messages, from the same log and clients to the same ones, with the same edits
pub record HasClientRun (steps : List MessageStep) (start s : MessageState) : Type 0 where
  pub client_steps : List ClientStep
  pub reached : IsReached client_steps start.shared s.shared
  pub edits : edit_steps client_steps ≡ edit_steps_of steps

abbrev pub MessageRunsAreClientRuns : Type 0
MessageRunsAreClientRuns =
    (steps : List MessageStep) (start s : MessageState) → IsReachedByMessages steps start s → HasClientRun steps start s

-- each edit of a client is stored once, in the order in which the client made them, or is sent or in its queue
abbrev pub MessageEditsAreStored : Type 0
MessageEditsAreStored =
    (steps : List MessageStep) (start s : MessageState) (source : List ℕ) → IsReachedByMessages steps start s
    → EditsAreStored source (edit_steps_of steps) start.shared s.shared

-- a quiet client shows the server's document
abbrev pub MessageClientsConverge : Type 0
MessageClientsConverge =
    (steps : List MessageStep) (start s : MessageState) (source : List ℕ) → IsReachedByMessages steps start s
    → IsQuiet s.shared.log (source_client s source) → shown_document (source_client s source) ≡ document_of s.shared.log

-- ---- no entry is missing

-- the client has the entry of version i, or will receive it over its connection
pub data IsReceivedOrSent (c : Client) (r : ReceivedEntries) (k : ClientConnection) (i : ℕ) : Type 0 where
  -- it is in `early`
  is_early : (e : PlainEntry) → r.early i ≡ Some e → IsReceivedOrSent c r k i
  -- it is the client's sent edit, and `ack` is its version
  is_acknowledged : r.ack ≡ Some i → IsReceivedOrSent c r k i
  -- its message is in the channel
  is_entry_sent : (e : PlainEntry) → Contains k.to_client (op_message e) → e.version ≡ i → IsReceivedOrSent c r k i
  -- it is the client's sent edit, and its acknowledgement is in the channel
  is_acknowledgement_sent :
      (t : SentEdit) → c.sent ≡ Some t → Contains k.to_client (acknowledged t.seq i) → IsReceivedOrSent c r k i

-- this holds of each entry from the client's version up to the queue's position, if the session is subscribed
abbrev pub NoneIsMissing : Type 0
NoneIsMissing =
    (steps : List MessageStep) (start s : MessageState) (source : List ℕ) (k : ClientConnection) (position i : ℕ)
    → IsReachedByMessages steps start s → s.connections source ≡ Some k → k.queue ≡ Some position
    → (source_client s source).version ≤ i → i < position
    → IsReceivedOrSent (source_client s source) (s.received source) k i

-- what a client has received is of the log
pub record AreOfLog (source : List ℕ) (log : List PlainEntry) (sent : Option SentEdit) (r : ReceivedEntries)
    : Type 0 where
  -- an entry in `early` is the log's at that version, and isn't the client's sent edit
  pub early :
      (v : ℕ) (e : PlainEntry) → r.early v ≡ Some e
      → (slice_get log v ≡ Some e) × (is_sent_edit source sent e ≡ false)
  -- `ack` is the version at which its sent edit is stored
  pub ack :
      (v : ℕ) → r.ack ≡ Some v → (t : SentEdit) × (sent ≡ Some t) × (stored_at source t.seq log ≡ Some v)

abbrev pub ReceivedAreOfLog : Type 0
ReceivedAreOfLog =
    (steps : List MessageStep) (start s : MessageState) (source : List ℕ) → IsReachedByMessages steps start s
    → AreOfLog source s.shared.log (source_client s source).sent (s.received source)

-- so is each message to a client: an entry is the log's at its version, and an acknowledgement has the version at which
-- the edit with its seq is stored
abbrev pub IsOfLog : List ℕ → List PlainEntry → ServerMessage → Type 0
IsOfLog source log (op_message e) = slice_get log e.version ≡ Some e
IsOfLog source log caught_up = ⊤
IsOfLog source log (acknowledged seq v) = stored_at source seq log ≡ Some v
IsOfLog source log (failed o) = ⊤

abbrev pub MessagesAreOfLog : Type 0
MessagesAreOfLog =
    (steps : List MessageStep) (start s : MessageState) (source : List ℕ) (k : ClientConnection)
    → IsReachedByMessages steps start s → s.connections source ≡ Some k → All (IsOfLog source s.shared.log) k.to_client

-- ---- a client that has received all

-- the queue has read the whole log, the channel to the client is empty, and the client can't advance
pub record HasReceivedAll (log : List PlainEntry) (c : Client) (r : ReceivedEntries) (k : ClientConnection)
    : Type 0 where
  pub all_read : k.queue ≡ Some (length log)
  pub none_in_channel : k.to_client ≡ []
  pub none_early : r.early c.version ≡ None
  pub none_acknowledged : r.ack ≡ Some c.version → ⊥

-- such a client has processed all entries
abbrev pub ConnectedClientsProcessAll : Type 0
ConnectedClientsProcessAll =
    (steps : List MessageStep) (start s : MessageState) (source : List ℕ) (k : ClientConnection)
    → IsReachedByMessages steps start s → s.connections source ≡ Some k
    → HasReceivedAll s.shared.log (source_client s source) (s.received source) k
    → (source_client s source).version ≡ length s.shared.log

-- so it shows the server's document, if it has no pending edit
abbrev pub ConnectedClientsConverge : Type 0
ConnectedClientsConverge =
    (steps : List MessageStep) (start s : MessageState) (source : List ℕ) (k : ClientConnection)
    → IsReachedByMessages steps start s → s.connections source ≡ Some k
    → HasReceivedAll s.shared.log (source_client s source) (s.received source) k → (source_client s source).pending ≡ []
    → shown_document (source_client s source) ≡ document_of s.shared.log
