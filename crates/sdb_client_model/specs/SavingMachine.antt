-- A server that saves its log in a file and may restart, with its clients and their messages.
--
-- A session's output is held until the entries that were in the log when it was written are saved. So no client
-- receives what depends on an unsaved entry. A round saves entries in the order of the log. Other entries may be stored
-- meanwhile. A server that is killed starts again with the saved entries. What it has read and not saved is then lost,
-- and what its sessions hold.
use Rattle.std.specs.Prelude.{◌≡◌, ℕ, ◌+◌, ◌≤◌, List, [], ◌∷◌, ◌++◌, map, length, take, drop, slice_get, Option, Some, None, All, Contains}
use Rattle.sdb_oplog.specs.Plain.{PlainEntry}
use Rattle.sdb_oplog.specs.Decide.{decide}
use Rattle.sdb_client_model.specs.Machine.{SharedDocument, submission_of, after_decision}
use Rattle.sdb_client_model.specs.Messages.{ClientMessage, subscribe, submit, ServerMessage, failed, ClientConnection, subscribe_answers, submit_answers, seq_of_message, subscription_messages}
use Rattle.sdb_client_model.specs.MessageMachine.{UnreadSubmission, MessageState, MessageStep, server_handles, server_refuses, server_pumps, connection_ends, with_value, with_connection, with_shared, ReadsMessage, unread_submissions, IsMessageStep}

-- a message that a session has written, and the length of the log then
pub record HeldMessage : Type 0 where
  pub message : ServerMessage
  pub log_length : ℕ

pub record SavingState : Type 0 where
  -- the server's memory, the connections and the clients
  pub current : MessageState
  -- the saved entries
  pub file : List PlainEntry
  -- what the session of each connection has written and not sent, in order
  pub held : List ℕ → List HeldMessage

pub data SavingStep : Type 0 where
  -- a step of a client, of a session or of the network
  message_step : MessageStep → SavingStep
  -- a round saves the next entries of the log, at most so many
  server_saves : ℕ → SavingStep
  -- the session of a source sends the first message that it holds
  server_releases : List ℕ → SavingStep
  -- the server is killed, and starts with the file
  server_restarts : SavingStep

-- ---- the sessions

abbrev pub held_message : ℕ → ServerMessage → HeldMessage
held_message n m = record { message = m; log_length = n }

-- a session has messages left to read, its queue has a position, and what it has written is held
abbrev pub after_writing : SavingState → List ℕ → ClientConnection → List ClientMessage → Option ℕ → List ServerMessage
    → SharedDocument → SavingState
after_writing s source k rest queue written shared =
    record {
      current = with_shared (with_connection s.current source (Some (record k { to_server = rest; queue = queue }))) shared;
      file = s.file;
      held = with_value s.held source (s.held source ++ map (held_message (length shared.log)) written);
    }

-- it answers a message as a session without a file does
abbrev pub after_held_answers : SavingState → List ℕ → ClientConnection → ClientMessage → List ClientMessage → ℕ
    → SavingState
after_held_answers s source k (subscribe v) rest now =
    let shared = s.current.shared in
    after_writing s source k rest (Some (length shared.log)) (subscribe_answers shared.log v) shared
after_held_answers s source k (submit t) rest now =
    let submission = submission_of (record { source = source; sent = t }) k.via k.by in
    after_writing s source k rest k.queue
    (submit_answers t.seq (decide s.current.shared.log submission now).reply)
    (after_decision s.current.shared submission now)

-- it refuses it
abbrev pub after_held_refusal : SavingState → List ℕ → ClientConnection → ClientMessage → List ClientMessage
    → SavingState
after_held_refusal s source k m rest =
    after_writing s source k rest k.queue (failed (seq_of_message m) ∷ []) s.current.shared

-- the queue of its subscription reads the entry at its position, saved or not
pub record WritesEntry (source : List ℕ) (old new : SavingState) : Type 0 where
  pub connection : ClientConnection
  pub is_open : old.current.connections source ≡ Some connection
  pub position : ℕ
  pub subscribed : connection.queue ≡ Some position
  pub entry : PlainEntry
  pub entry_is : slice_get old.current.shared.log position ≡ Some entry
  pub new_is :
      new
      ≡ after_writing old source connection connection.to_server (Some (position + 1))
      (subscription_messages connection.by source connection.via entry) old.current.shared

-- its connection ends, and what it holds is lost
pub record LosesHeld (source : List ℕ) (old new : SavingState) : Type 0 where
  pub state : MessageState
  pub ends : IsMessageStep (connection_ends source) old.current state
  pub new_is : new ≡ record { current = state; file = old.file; held = with_value old.held source [] }

abbrev pub with_current : SavingState → MessageState → SavingState
with_current s state = record { current = state; file = s.file; held = s.held }

-- another step writes no answer, and is as without a file
pub record WritesNone (step : MessageStep) (old new : SavingState) : Type 0 where
  pub state : MessageState
  pub changes : IsMessageStep step old.current state
  pub new_is : new ≡ with_current old state

-- a step of a client, of a session or of the network
abbrev pub IsHoldingStep : MessageStep → SavingState → SavingState → Type 0
IsHoldingStep (server_handles source now) old new =
    ReadsMessage source old.current new (λ k m rest. after_held_answers old source k m rest now)
IsHoldingStep (server_refuses source) old new = ReadsMessage source old.current new (after_held_refusal old source)
IsHoldingStep (server_pumps source) old new = WritesEntry source old new
IsHoldingStep (connection_ends source) old new = LosesHeld source old new
IsHoldingStep step old new = WritesNone step old new

-- ---- the file

abbrev pub unsaved_entries : SavingState → List PlainEntry
unsaved_entries s = drop (length s.file) s.current.shared.log

-- a round saves at most n of them, in order
abbrev pub after_round : SavingState → ℕ → SavingState
after_round s n = record { current = s.current; file = s.file ++ take n (unsaved_entries s); held = s.held }

-- the first held message is sent, since the entries that were in the log when it was written are saved
pub record SendsHeld (source : List ℕ) (old new : SavingState) : Type 0 where
  pub connection : ClientConnection
  pub is_open : old.current.connections source ≡ Some connection
  pub first : HeldMessage
  pub rest : List HeldMessage
  pub held_is : old.held source ≡ first ∷ rest
  pub is_saved : first.log_length ≤ length old.file
  pub new_is :
      new
      ≡ record {
        current =
            with_connection old.current source
            (Some (record connection { to_client = connection.to_client ++ first.message ∷ [] }));
        file = old.file;
        held = with_value old.held source rest;
      }

-- ---- a restart

-- a submission that the server hasn't read: of a connection that has ended, or in the channel of an open one
pub data IsUnread (s : MessageState) (m : UnreadSubmission) : Type 0 where
  is_of_ended : Contains s.unread m → IsUnread s m
  is_in_channel :
      (k : ClientConnection) → s.connections m.edit.source ≡ Some k
      → Contains (unread_submissions m.edit.source k k.to_server) m → IsUnread s m

-- the clients, what they have sent, and the saved entries
abbrev pub saved_document : SavingState → SharedDocument
saved_document s =
    record { log = s.file; clients = s.current.shared.clients; submitted = s.current.shared.submitted }

-- the log is the file, all connections have ended, and what their sessions held is lost. The clients keep what they
-- have received. Pass numbers go on.
abbrev pub after_kill : SavingState → List UnreadSubmission → SavingState
after_kill s unread =
    record {
      current =
          record {
            shared = saved_document s;
            received = s.current.received;
            connections = λ source. None;
            unread = unread;
            next_pass = s.current.next_pass;
          };
      file = s.file;
      held = λ source. [];
    }

-- any of the submissions that the server hadn't read may still be read
pub record Restarts (old new : SavingState) : Type 0 where
  pub unread : List UnreadSubmission
  pub are_unread : All (IsUnread old.current) unread
  pub new_is : new ≡ after_kill old unread

-- ---- runs

abbrev pub IsSavingStep : SavingStep → SavingState → SavingState → Type 0
IsSavingStep (message_step step) old new = IsHoldingStep step old new
IsSavingStep (server_saves n) old new = new ≡ after_round old n
IsSavingStep (server_releases source) old new = SendsHeld source old new
IsSavingStep server_restarts old new = Restarts old new

-- the steps lead from old to new
abbrev pub IsSavingRun : List SavingStep → SavingState → SavingState → Type 0
IsSavingRun [] old new = new ≡ old
IsSavingRun (step ∷ steps) old new = (mid : SavingState) × IsSavingStep step old mid × IsSavingRun steps mid new
