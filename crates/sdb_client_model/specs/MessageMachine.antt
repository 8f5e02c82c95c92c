-- A server with one document and its clients, which exchange messages over connections.
--
-- A connection keeps the order of its messages, and may end at any time. What the client hasn't received then is lost.
-- Each submission that the server hasn't read then may still be read at any time, any number of times or never. What
-- arrives at a client before it notices the end is received before that step.
use Rattle.std.specs.Prelude.{◌≡◌, ◌⊎◌, ℕ, ◌+◌, ◌-◌, List, [], ◌∷◌, ◌++◌, cond, length, slice_get, true, ◌||◌, Option, Some, None, bytes_eq, Contains}
use Rattle.sdb_component.specs.Plain.{PlainComponent}
use Rattle.sdb_oplog.specs.Plain.{PlainEntry}
use Rattle.sdb_oplog.specs.Decide.{decide}
use Rattle.sdb_client_model.specs.Client.{SentEdit, Client, after_edit, next_sent, after_acknowledgement, after_content}
use Rattle.sdb_client_model.specs.Machine.{SubmittedEdit, SharedDocument, with_changed_client, after_sending, submission_of, after_decision}
use Rattle.sdb_client_model.specs.Messages.{ClientMessage, subscribe, submit, ServerMessage, failed, ClientConnection, ReceivedEntries, with_early, with_ack, after_message, is_list_end, subscribe_answers, submit_answers, seq_of_message, subscription_messages, new_connection, with_sent_message, with_answers}

-- a submission that the server hadn't read when its connection ended
pub record UnreadSubmission : Type 0 where
  pub edit : SubmittedEdit
  pub via : List ℕ
  pub by : ℕ

pub record MessageState : Type 0 where
  -- the log, the client of each source, and each edit that was ever sent
  pub shared : SharedDocument
  -- what each client has received and not processed yet
  pub received : List ℕ → ReceivedEntries
  pub connections : List ℕ → Option ClientConnection
  pub unread : List UnreadSubmission
  -- the pass number of the next connection
  pub next_pass : ℕ

pub data MessageStep : Type 0 where
  -- the client of a source makes an edit
  client_edits : List ℕ → List PlainComponent → MessageStep
  -- it sends the first edit of its queue, or its sent edit once more
  client_sends : List ℕ → MessageStep
  client_resends : List ℕ → MessageStep
  -- it receives the first message of its channel
  client_receives : List ℕ → MessageStep
  -- it processes what it has received for its version
  client_advances : List ℕ → MessageStep
  -- the server handles the first message of a channel, at a moment
  server_handles : List ℕ → ℕ → MessageStep
  -- it refuses the first message of a channel, as after a failed allocation
  server_refuses : List ℕ → MessageStep
  -- it handles a submission of a connection that has ended
  server_handles_unread : UnreadSubmission → ℕ → MessageStep
  -- the queue of a subscription reads the entry at its position
  server_pumps : List ℕ → MessageStep
  -- a client opens a connection, and will use a collection name
  client_connects : List ℕ → List ℕ → MessageStep
  -- it subscribes over its connection
  client_subscribes : List ℕ → MessageStep
  connection_ends : List ℕ → MessageStep

-- ---- states

-- a function with another value at one source
abbrev pub with_value : {A : Type 0} → (List ℕ → A) → List ℕ → A → List ℕ → A
with_value f source x other = cond (bytes_eq source other) x (f other)

abbrev pub with_connection : MessageState → List ℕ → Option ClientConnection → MessageState
with_connection s source k = record s { connections = with_value s.connections source k }

abbrev pub with_received : MessageState → List ℕ → ReceivedEntries → MessageState
with_received s source r = record s { received = with_value s.received source r }

abbrev pub with_shared : MessageState → SharedDocument → MessageState
with_shared s shared = record s { shared = shared }

abbrev pub source_client : MessageState → List ℕ → Client
source_client s source = s.shared.clients source

-- ---- a client's steps

-- the client's connection is open, and its subscription is answered
pub record IsConnected (source : List ℕ) (s : MessageState) (k : ClientConnection) : Type 0 where
  pub is_open : s.connections source ≡ Some k
  pub answered : k.is_caught_up ≡ true

-- no edit is sent, and the first pending one is sent now
pub record SendsNext (source : List ℕ) (old new : MessageState) : Type 0 where
  pub connection : ClientConnection
  pub connected : IsConnected source old connection
  pub operation : List PlainComponent
  pub queue : List (List PlainComponent)
  pub none_sent : (source_client old source).sent ≡ None
  pub first : (source_client old source).pending ≡ operation ∷ queue
  pub new_is :
      new
      ≡ with_shared
      (with_connection old source
      (Some (with_sent_message connection (submit (next_sent (source_client old source) operation)))))
      (after_sending old.shared source operation)

-- the sent edit is sent once more, with its seq, base version and operation
pub record SendsAgain (source : List ℕ) (old new : MessageState) : Type 0 where
  pub connection : ClientConnection
  pub connected : IsConnected source old connection
  pub edit : SentEdit
  pub is_sent : (source_client old source).sent ≡ Some edit
  pub new_is : new ≡ with_connection old source (Some (with_sent_message connection (submit edit)))

abbrev pub after_receiving : MessageState → List ℕ → ClientConnection → ServerMessage → List ServerMessage
    → MessageState
after_receiving s source k m rest =
    with_received
    (with_connection s source (Some (record k { to_client = rest; is_caught_up = k.is_caught_up || is_list_end m })))
    source (after_message source (source_client s source) m (s.received source))

pub record ReceivesMessage (source : List ℕ) (old new : MessageState) : Type 0 where
  pub connection : ClientConnection
  pub is_open : old.connections source ≡ Some connection
  pub message : ServerMessage
  pub rest : List ServerMessage
  pub first : connection.to_client ≡ message ∷ rest
  pub new_is : new ≡ after_receiving old source connection message rest

-- `ack` is the client's version: its sent edit is stored there
pub record ProcessesOwn (source : List ℕ) (old new : MessageState) : Type 0 where
  pub ack_is : (old.received source).ack ≡ Some (source_client old source).version
  pub client : Client
  pub client_is : after_acknowledgement (source_client old source) (source_client old source).pending ≡ Some client
  pub new_is :
      new
      ≡ with_received (with_shared old (with_changed_client old.shared source client)) source
      (with_ack None (old.received source))

-- `early` has an entry at the client's version
pub record ProcessesEarly (source : List ℕ) (old new : MessageState) : Type 0 where
  pub entry : PlainEntry
  pub entry_is : (old.received source).early (source_client old source).version ≡ Some entry
  pub client : Client
  pub client_is : after_content (source_client old source) entry.content ≡ Some client
  pub new_is :
      new
      ≡ with_received (with_shared old (with_changed_client old.shared source client)) source
      (with_early (source_client old source).version None (old.received source))

abbrev pub after_connecting : MessageState → List ℕ → List ℕ → MessageState
after_connecting s source via =
    record (with_connection s source (Some (new_connection s.next_pass via))) { next_pass = s.next_pass + 1 }

-- the client sends `s` from the entry before its version on, which it compares with the one that it has processed
pub record Subscribes (source : List ℕ) (old new : MessageState) : Type 0 where
  pub connection : ClientConnection
  pub is_open : old.connections source ≡ Some connection
  pub new_is :
      new
      ≡ with_connection old source
      (Some (with_sent_message connection (subscribe ((source_client old source).version - 1))))

-- ---- the server's steps

abbrev pub after_handling : MessageState → List ℕ → ClientConnection → ClientMessage → List ClientMessage → ℕ
    → MessageState
after_handling s source k (subscribe v) rest now =
    with_connection s source
    (Some (with_answers k rest (Some (length s.shared.log)) (subscribe_answers s.shared.log v)))
after_handling s source k (submit t) rest now =
    let submission = submission_of (record { source = source; sent = t }) k.via k.by in
    with_shared
    (with_connection s source
    (Some (with_answers k rest k.queue (submit_answers t.seq (decide s.shared.log submission now).reply))))
    (after_decision s.shared submission now)

-- a refusal changes nothing else
abbrev pub after_refusing : MessageState → List ℕ → ClientConnection → ClientMessage → List ClientMessage → MessageState
after_refusing s source k m rest =
    with_connection s source (Some (with_answers k rest k.queue (failed (seq_of_message m) ∷ [])))

-- the server reads the first message of a channel; `after` is the state then
pub record ReadsMessage {S : Type 0} (source : List ℕ) (old : MessageState) (new : S)
    (after : ClientConnection → ClientMessage → List ClientMessage → S) : Type 0 where
  pub connection : ClientConnection
  pub is_open : old.connections source ≡ Some connection
  pub message : ClientMessage
  pub rest : List ClientMessage
  pub first : connection.to_server ≡ message ∷ rest
  pub new_is : new ≡ after connection message rest

-- its answer is lost
abbrev pub after_handling_unread : MessageState → UnreadSubmission → ℕ → MessageState
after_handling_unread s m now = with_shared s (after_decision s.shared (submission_of m.edit m.via m.by) now)

pub record PumpsEntry (source : List ℕ) (old new : MessageState) : Type 0 where
  pub connection : ClientConnection
  pub is_open : old.connections source ≡ Some connection
  pub position : ℕ
  pub subscribed : connection.queue ≡ Some position
  pub entry : PlainEntry
  pub entry_is : slice_get old.shared.log position ≡ Some entry
  pub new_is :
      new
      ≡ with_connection old source
      (Some (with_answers connection connection.to_server (Some (position + 1))
      (subscription_messages connection.by source connection.via entry)))

-- ---- the end of a connection

abbrev pub unread_submissions : List ℕ → ClientConnection → List ClientMessage → List UnreadSubmission
unread_submissions source k [] = []
unread_submissions source k (subscribe v ∷ ms) = unread_submissions source k ms
unread_submissions source k (submit t ∷ ms) =
    record { edit = record { source = source; sent = t }; via = k.via; by = k.by } ∷ unread_submissions source k ms

-- the session ends, and the messages to the client are lost; the client keeps what it has received
abbrev pub after_end : MessageState → List ℕ → ClientConnection → MessageState
after_end s source k =
    record (with_connection s source None) { unread = s.unread ++ unread_submissions source k k.to_server }

pub record EndsConnection (source : List ℕ) (old new : MessageState) : Type 0 where
  pub connection : ClientConnection
  pub is_open : old.connections source ≡ Some connection
  pub new_is : new ≡ after_end old source connection

-- ---- runs

abbrev pub IsMessageStep : MessageStep → MessageState → MessageState → Type 0
IsMessageStep (client_edits source op) old new =
    new ≡ with_shared old (with_changed_client old.shared source (after_edit op (source_client old source)))
IsMessageStep (client_sends source) old new = SendsNext source old new
IsMessageStep (client_resends source) old new = SendsAgain source old new
IsMessageStep (client_receives source) old new = ReceivesMessage source old new
IsMessageStep (client_advances source) old new = ProcessesOwn source old new ⊎ ProcessesEarly source old new
IsMessageStep (server_handles source now) old new =
    ReadsMessage source old new (λ k m rest. after_handling old source k m rest now)
IsMessageStep (server_refuses source) old new = ReadsMessage source old new (after_refusing old source)
IsMessageStep (server_handles_unread m now) old new = Contains old.unread m × (new ≡ after_handling_unread old m now)
IsMessageStep (server_pumps source) old new = PumpsEntry source old new
IsMessageStep (client_connects source via) old new =
    (old.connections source ≡ None) × (new ≡ after_connecting old source via)
IsMessageStep (client_subscribes source) old new = Subscribes source old new
IsMessageStep (connection_ends source) old new = EndsConnection source old new

-- the steps lead from old to new
abbrev pub IsMessageRun : List MessageStep → MessageState → MessageState → Type 0
IsMessageRun [] old new = new ≡ old
IsMessageRun (step ∷ steps) old new = (mid : MessageState) × IsMessageStep step old mid × IsMessageRun steps mid new
