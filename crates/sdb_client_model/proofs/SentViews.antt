-- A server with a file, viewed as one that has sent all that its sessions hold. A step of its clients, its sessions or
-- the network is then a step of the machine without a file.
use Rattle.std.proofs.Common.{◌≡◌, ℕ, ◌+◌, ◌-◌, List, [], ◌∷◌, ◌++◌, map, length, Bool, true, false, cond, ◌||◌, Option, Some, None, ◌⊎◌, inl, inr, refl, sym, ap, ◌∙◌, bytes_eq, append_assoc}
use mathlib.Core.Path.{fun_ext}
use Rattle.sdb_oplog.specs.Decide.{decide}
use Rattle.sdb_client_model.specs.Client.{next_sent}
use Rattle.sdb_client_model.specs.Machine.{SharedDocument, after_sending, submission_of, after_decision}
use Rattle.sdb_client_model.specs.Messages.{ClientMessage, subscribe, submit, ServerMessage, failed, ClientConnection, after_message, is_list_end, subscribe_answers, submit_answers, seq_of_message, subscription_messages, new_connection, with_sent_message, with_answers}
use Rattle.sdb_client_model.specs.MessageMachine.{UnreadSubmission, MessageState, MessageStep, client_edits, client_sends, client_resends, client_receives, client_advances, server_handles, server_refuses, server_handles_unread, server_pumps, client_connects, client_subscribes, connection_ends, with_value, with_connection, with_received, with_shared, source_client, SendsNext, SendsAgain, ReceivesMessage, ProcessesOwn, ProcessesEarly, after_connecting, Subscribes, after_handling, after_refusing, ReadsMessage, PumpsEntry, unread_submissions, after_end, EndsConnection, IsMessageStep}
use Rattle.sdb_client_model.specs.SavingMachine.{HeldMessage, held_message, SavingState, with_current, after_writing, after_held_answers, after_held_refusal, WritesEntry, LosesHeld, IsHoldingStep, SendsHeld}
use Rattle.sdb_client_model.specs.SavingLaws.{with_held}
use Rattle.sdb_client_model.proofs.AppendLemmas.{same_source}

-- ---- the view

abbrev pub messages_of : List HeldMessage → List ServerMessage
messages_of hs = map (λ (h : HeldMessage). h.message) hs

abbrev pub open_with_held : Option ClientConnection → List HeldMessage → Option ClientConnection
open_with_held None hs = None
open_with_held (Some k) hs = Some (with_held k hs)

abbrev pub connections_with_held : SavingState → List ℕ → Option ClientConnection
connections_with_held s source = open_with_held (s.current.connections source) (s.held source)

abbrev pub sent_view : SavingState → MessageState
sent_view s = record {
  shared = s.current.shared;
  received = s.current.received;
  connections = connections_with_held s;
  unread = s.current.unread;
  next_pass = s.current.next_pass;
}

abbrev with_connections : MessageState → (List ℕ → Option ClientConnection) → MessageState
with_connections s f = record {
  shared = s.shared;
  received = s.received;
  connections = f;
  unread = s.unread;
  next_pass = s.next_pass;
}

-- ---- one connection

opened_at : (source x : List ℕ) (b : Bool) (o : Option ClientConnection) (l : ClientConnection)
    (g : List ℕ → List HeldMessage) → bytes_eq source x ≡ b
    → open_with_held (cond b (Some l) o) (g x) ≡ cond b (Some (with_held l (g source))) (open_with_held o (g x))
opened_at source x true o l g is = ap (λ y. Some (with_held l (g y))) (sym (same_source source x is))
opened_at source x false o l g is = refl

view_connections : (s : SavingState) (source : List ℕ) (l : ClientConnection)
    → connections_with_held (with_current s (with_connection s.current source (Some l)))
    ≡ with_value (connections_with_held s) source (Some (with_held l (s.held source)))
view_connections s source l =
    fun_ext (λ x. opened_at source x (bytes_eq source x) (s.current.connections x) l s.held refl)

-- another connection at a source
pub view_connection : (s : SavingState) (source : List ℕ) (l : ClientConnection)
    → sent_view (with_current s (with_connection s.current source (Some l)))
    ≡ with_connection (sent_view s) source (Some (with_held l (s.held source)))
view_connection s source l = ap (with_connections (sent_view s)) (view_connections s source l)

written_at : (b : Bool) (l o : Option ClientConnection) (hs gs : List HeldMessage)
    → open_with_held (cond b l o) (cond b hs gs) ≡ cond b (open_with_held l hs) (open_with_held o gs)
written_at true l o hs gs = refl
written_at false l o hs gs = refl

abbrev with_both : SavingState → List ℕ → Option ClientConnection → List HeldMessage → SavingState
with_both s source l hs = record {
  current = with_connection s.current source l;
  file = s.file;
  held = with_value s.held source hs;
}

-- another connection, or none, and other held messages
view_both : (s : SavingState) (source : List ℕ) (l : Option ClientConnection) (hs : List HeldMessage)
    → connections_with_held (with_both s source l hs)
    ≡ with_value (connections_with_held s) source (open_with_held l hs)
view_both s source l hs =
    fun_ext (λ x. written_at (bytes_eq source x) l (s.current.connections x) hs (s.held x))

-- ---- written messages

messages_of_append : (hs gs : List HeldMessage) → messages_of (hs ++ gs) ≡ messages_of hs ++ messages_of gs
messages_of_append [] gs = refl
messages_of_append (h ∷ hs) gs = ap (λ l. h.message ∷ l) (messages_of_append hs gs)

messages_of_written : (n : ℕ) (ms : List ServerMessage) → messages_of (map (held_message n) ms) ≡ ms
messages_of_written n [] = refl
messages_of_written n (m ∷ ms) = ap (λ l. m ∷ l) (messages_of_written n ms)

abbrev with_channel : ClientConnection → List ClientMessage → Option ℕ → List ServerMessage → ClientConnection
with_channel k rest queue ms = record k { to_server = rest; queue = queue; to_client = ms }

-- what is written and held stands in the channel, in the view
pub held_answers : (k : ClientConnection) (hs : List HeldMessage) (rest : List ClientMessage) (queue : Option ℕ) (n : ℕ)
    (ms : List ServerMessage)
    → with_held (record k { to_server = rest; queue = queue }) (hs ++ map (held_message n) ms)
    ≡ with_answers (with_held k hs) rest queue ms
held_answers k hs rest queue n ms =
    ap (with_channel k rest queue)
    (ap (λ l. k.to_client ++ l)
    (messages_of_append hs (map (held_message n) ms) ∙ ap (λ l. messages_of hs ++ l) (messages_of_written n ms))
    ∙ sym (append_assoc k.to_client (messages_of hs) ms))

abbrev with_shared_and_connections : MessageState → SharedDocument → (List ℕ → Option ClientConnection) → MessageState
with_shared_and_connections s shared f = with_connections (with_shared s shared) f

pub view_written : (s : SavingState) (source : List ℕ) (k : ClientConnection) (rest : List ClientMessage)
    (queue : Option ℕ) (ms : List ServerMessage) (shared : SharedDocument)
    → sent_view (after_writing s source k rest queue ms shared)
    ≡ with_shared (with_connection (sent_view s) source (Some (with_answers (with_held k (s.held source)) rest queue ms)))
    shared
view_written s source k rest queue ms shared =
    ap (with_shared_and_connections (sent_view s) shared)
    (view_both s source (Some (record k { to_server = rest; queue = queue }))
    (s.held source ++ map (held_message (length shared.log)) ms)
    ∙ ap (λ l. with_value (connections_with_held s) source (Some l))
    (held_answers k (s.held source) rest queue (length shared.log) ms))

pub unread_with_held : (source : List ℕ) (k : ClientConnection) (hs : List HeldMessage) (xs : List ClientMessage)
    → unread_submissions source k xs ≡ unread_submissions source (with_held k hs) xs
unread_with_held source k hs [] = refl
unread_with_held source k hs (subscribe v ∷ xs) = unread_with_held source k hs xs
unread_with_held source k hs (submit t ∷ xs) =
    ap (λ l. record { edit = record { source = source; sent = t }; via = k.via; by = k.by } ∷ l)
    (unread_with_held source k hs xs)

-- ---- each step that writes nothing

module _ (old new : SavingState) (source : List ℕ) where
  abbrev hs : List HeldMessage
  hs = old.held source

  open_view : (k : ClientConnection) → old.current.connections source ≡ Some k
      → (sent_view old).connections source ≡ Some (with_held k hs)
  open_view k is = ap (λ o. open_with_held o hs) is

  module _ (state : MessageState) (new_is : new ≡ with_current old state) where
    view_is : (x : MessageState) → state ≡ x → sent_view new ≡ sent_view (with_current old x)
    view_is x is = ap sent_view new_is ∙ ap (λ y. sent_view (with_current old y)) is

    -- a sent edit stands in the channel of the view too
    view_sends : SendsNext source old.current state → SendsNext source (sent_view old) (sent_view new)
    view_sends h =
        let sent = with_sent_message h.connection (submit (next_sent (source_client old.current source) h.operation)) in
        record {
          connection = with_held h.connection hs;
          connected = record {
            is_open = open_view h.connection h.connected.is_open;
            answered = h.connected.answered;
          };
          operation = h.operation;
          queue = h.queue;
          none_sent = h.none_sent;
          first = h.first;
          new_is =
              view_is _ h.new_is
              ∙ ap (λ x. with_shared x (after_sending old.current.shared source h.operation))
              (view_connection old source sent);
        }

    view_resends : SendsAgain source old.current state → SendsAgain source (sent_view old) (sent_view new)
    view_resends h = record {
      connection = with_held h.connection hs;
      connected = record {
        is_open = open_view h.connection h.connected.is_open;
        answered = h.connected.answered;
      };
      edit = h.edit;
      is_sent = h.is_sent;
      new_is = view_is _ h.new_is ∙ view_connection old source (with_sent_message h.connection (submit h.edit));
    }

    -- the first message of the channel is that of the view, which has the held ones after it
    view_receives : ReceivesMessage source old.current state → ReceivesMessage source (sent_view old) (sent_view new)
    view_receives h =
        let k = h.connection in
        let read = record k { to_client = h.rest; is_caught_up = k.is_caught_up || is_list_end h.message } in
        let client = source_client old.current source in
        record {
          connection = with_held k hs;
          is_open = open_view k h.is_open;
          message = h.message;
          rest = h.rest ++ messages_of hs;
          first = ap (λ l. l ++ messages_of hs) h.first;
          new_is =
              view_is _ h.new_is
              ∙ ap (λ x. with_received x source (after_message source client h.message (old.current.received source)))
              (view_connection old source read);
        }

    view_advances : ProcessesOwn source old.current state ⊎ ProcessesEarly source old.current state
        → ProcessesOwn source (sent_view old) (sent_view new) ⊎ ProcessesEarly source (sent_view old) (sent_view new)
    view_advances (inl p) = inl
        (record { ack_is = p.ack_is; client = p.client; client_is = p.client_is; new_is = view_is _ p.new_is })
    view_advances (inr p) = inr
        (record {
          entry = p.entry;
          entry_is = p.entry_is;
          client = p.client;
          client_is = p.client_is;
          new_is = view_is _ p.new_is;
        })

    pub view_connects : (via : List ℕ) → hs ≡ [] → state ≡ after_connecting old.current source via
        → sent_view new ≡ after_connecting (sent_view old) source via
    view_connects via none is =
        let opened = new_connection old.current.next_pass via in
        view_is _ is
        ∙ ap (λ (x : MessageState). record x { next_pass = old.current.next_pass + 1 })
        (view_connection old source opened
        ∙ ap (λ l. with_connection (sent_view old) source (Some (with_held opened l))) none)

    view_subscribes : Subscribes source old.current state → Subscribes source (sent_view old) (sent_view new)
    view_subscribes h =
        let client = source_client old.current source in
        record {
          connection = with_held h.connection hs;
          is_open = open_view h.connection h.is_open;
          new_is =
              view_is _ h.new_is
              ∙ view_connection old source (with_sent_message h.connection (subscribe (client.version - 1)));
        }

  -- ---- a step that writes

  pub answered_view : (k : ClientConnection) (m : ClientMessage) (rest : List ClientMessage) (now : ℕ)
      → new ≡ after_held_answers old source k m rest now
      → sent_view new ≡ after_handling (sent_view old) source (with_held k hs) m rest now
  answered_view k (subscribe v) rest now is =
      let shared = old.current.shared in
      ap sent_view is
      ∙ view_written old source k rest (Some (length shared.log)) (subscribe_answers shared.log v) shared
  answered_view k (submit t) rest now is =
      let submission = submission_of (record { source = source; sent = t }) k.via k.by in
      ap sent_view is
      ∙ view_written old source k rest k.queue
      (submit_answers t.seq (decide old.current.shared.log submission now).reply)
      (after_decision old.current.shared submission now)

  view_answers : (now : ℕ) → ReadsMessage source old.current new (λ k m rest. after_held_answers old source k m rest now)
      → ReadsMessage source (sent_view old) (sent_view new)
      (λ k m rest. after_handling (sent_view old) source k m rest now)
  view_answers now h = record {
    connection = with_held h.connection hs;
    is_open = open_view h.connection h.is_open;
    message = h.message;
    rest = h.rest;
    first = h.first;
    new_is = answered_view h.connection h.message h.rest now h.new_is;
  }

  -- a refusal is written and held, and stands in the channel of the view
  view_refuses : ReadsMessage source old.current new (after_held_refusal old source)
      → ReadsMessage source (sent_view old) (sent_view new) (after_refusing (sent_view old) source)
  view_refuses h = record {
    connection = with_held h.connection hs;
    is_open = open_view h.connection h.is_open;
    message = h.message;
    rest = h.rest;
    first = h.first;
    new_is =
        ap sent_view h.new_is
        ∙ view_written old source h.connection h.rest h.connection.queue (failed (seq_of_message h.message) ∷ [])
        old.current.shared;
  }

  -- so is an entry of the subscription
  view_pumps : WritesEntry source old new → PumpsEntry source (sent_view old) (sent_view new)
  view_pumps h = record {
    connection = with_held h.connection hs;
    is_open = open_view h.connection h.is_open;
    position = h.position;
    subscribed = h.subscribed;
    entry = h.entry;
    entry_is = h.entry_is;
    new_is =
        ap sent_view h.new_is
        ∙ view_written old source h.connection h.connection.to_server (Some (h.position + 1))
        (subscription_messages h.connection.by source h.connection.via h.entry) old.current.shared;
  }

  abbrev after_unread : List UnreadSubmission → (List ℕ → Option ClientConnection) → MessageState
  after_unread unread f = record {
    shared = old.current.shared;
    received = old.current.received;
    connections = f;
    unread = old.current.unread ++ unread;
    next_pass = old.current.next_pass;
  }

  pub view_ended : (k : ClientConnection)
      → sent_view (record { current = after_end old.current source k; file = old.file; held = with_value old.held source [] })
      ≡ after_end (sent_view old) source (with_held k hs)
  view_ended k =
      ap (after_unread (unread_submissions source k k.to_server)) (view_both old source None [])
      ∙ ap (λ us. after_unread us (with_value (connections_with_held old) source None))
      (unread_with_held source k hs k.to_server)

  -- the connection of the view ends too
  view_ends : LosesHeld source old new → EndsConnection source (sent_view old) (sent_view new)
  view_ends h =
      let k = h.ends.connection in
      record {
        connection = with_held k hs;
        is_open = open_view k h.ends.is_open;
        new_is =
            ap sent_view h.new_is
            ∙ ap (λ x. sent_view (record { current = x; file = old.file; held = with_value old.held source [] }))
            h.ends.new_is
            ∙ view_ended k;
      }

-- ---- each step

-- nothing is held for a client without a connection
abbrev pub HoldsForOpen : SavingState → Type 0
HoldsForOpen s = (source : List ℕ) → s.current.connections source ≡ None → s.held source ≡ []

-- each step is one of the view
pub view_step : (step : MessageStep) (old new : SavingState) → HoldsForOpen old → IsHoldingStep step old new
    → IsMessageStep step (sent_view old) (sent_view new)
view_step (client_edits source op) old new none h = view_is old new source h.state h.new_is _ h.changes
view_step (client_sends source) old new none h = view_sends old new source h.state h.new_is h.changes
view_step (client_resends source) old new none h = view_resends old new source h.state h.new_is h.changes
view_step (client_receives source) old new none h = view_receives old new source h.state h.new_is h.changes
view_step (client_advances source) old new none h = view_advances old new source h.state h.new_is h.changes
view_step (server_handles source now) old new none h = view_answers old new source now h
view_step (server_refuses source) old new none h = view_refuses old new source h
view_step (server_handles_unread m now) old new none h =
    (h.changes.0, view_is old new m.edit.source h.state h.new_is _ h.changes.1)
view_step (server_pumps source) old new none h = view_pumps old new source h
view_step (client_connects source via) old new none h = (
  ap (λ o. open_with_held o (old.held source)) h.changes.0,
  view_connects old new source h.state h.new_is via (none source h.changes.0) h.changes.1,
)
view_step (client_subscribes source) old new none h = view_subscribes old new source h.state h.new_is h.changes
view_step (connection_ends source) old new none h = view_ends old new source h

-- ---- a release

released_at : (source x : List ℕ) (b : Bool) (f : List ℕ → Option ClientConnection) (g : List ℕ → List HeldMessage)
    (k l : ClientConnection) (gs rest : List HeldMessage) → bytes_eq source x ≡ b → f source ≡ Some k → g source ≡ gs
    → with_held l rest ≡ with_held k gs
    → open_with_held (cond b (Some l) (f x)) (cond b rest (g x)) ≡ open_with_held (f x) (g x)
released_at source x true f g k l gs rest is is_open held same =
    ap (λ y. Some y) same
    ∙ ap (λ o. open_with_held o gs) (sym is_open)
    ∙ ap (λ y. open_with_held (f source) y) (sym held)
    ∙ ap (λ y. open_with_held (f y) (g y)) (same_source source x is)
released_at source x false f g k l gs rest is is_open held same = refl

-- it changes nothing of the view
pub view_releases : (source : List ℕ) (old new : SavingState) → SendsHeld source old new
    → sent_view new ≡ sent_view old
view_releases source old new h =
    let k = h.connection in
    let l = record k { to_client = k.to_client ++ h.first.message ∷ [] } in
    ap sent_view h.new_is
    ∙ ap (with_connections (sent_view old))
    (fun_ext (λ x.
    released_at source x (bytes_eq source x) old.current.connections old.held k l (h.first ∷ h.rest) h.rest refl
    h.is_open h.held_is
    (ap (λ ms. record k { to_client = ms }) (append_assoc k.to_client (h.first.message ∷ []) (messages_of h.rest)))))
