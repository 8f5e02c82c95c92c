-- A run of the machine without a file, from a state in which all that the sessions hold counts as sent, is a run of the
-- server with the file: it saves all entries after each step, and sends a held message before a client receives it.
use Rattle.std.proofs.Common.{◌≡◌, ℕ, ◌+◌, ◌-◌, ◌≤◌, List, [], ◌∷◌, ◌++◌, take, drop, length, ◌||◌, Option, Some, None, All, ◌⊎◌, inl, inr, refl, sym, ap, ◌∙◌, subst, arith, append_assoc, length-append}
use Rattle.std.proofs.lemmas.List.{take_all}
use lib.Seq.{drop-append_seam}
use Rattle.std.proofs.lemmas.List.Elements.{All-head}
use Rattle.sdb_client_model.specs.Client.{after_edit, next_sent}
use Rattle.sdb_client_model.specs.Machine.{with_changed_client, after_sending}
use Rattle.sdb_client_model.specs.Messages.{subscribe, submit, ServerMessage, failed, ClientConnection, after_message, is_list_end, seq_of_message, subscription_messages, with_sent_message, with_answers}
use Rattle.sdb_client_model.specs.MessageMachine.{MessageState, MessageStep, client_edits, client_sends, client_resends, client_receives, client_advances, server_handles, server_refuses, server_handles_unread, server_pumps, client_connects, client_subscribes, connection_ends, with_value, with_connection, with_received, with_shared, source_client, SendsNext, SendsAgain, after_receiving, ReceivesMessage, ProcessesOwn, ProcessesEarly, after_connecting, Subscribes, after_handling, after_refusing, ReadsMessage, after_handling_unread, PumpsEntry, after_end, EndsConnection, IsMessageStep, IsMessageRun}
use Rattle.sdb_client_model.specs.MessageLaws.{edit_steps_of}
use Rattle.sdb_client_model.specs.SavingMachine.{HeldMessage, SavingState, SavingStep, message_step, server_saves, server_releases, server_restarts, with_current, after_writing, after_held_answers, after_held_refusal, IsHoldingStep, after_round, SendsHeld, IsSavingRun}
use Rattle.sdb_client_model.specs.SavingLaws.{message_steps, with_held}
use Rattle.sdb_client_model.proofs.PendingLemmas.{same_some}
use Rattle.sdb_client_model.proofs.MessageRuns.{edit_steps_of_first}
use Rattle.sdb_client_model.proofs.MessageContinuations.{value_at}
use Rattle.sdb_client_model.proofs.SentViews.{messages_of, open_with_held, sent_view, view_connection, view_connects, answered_view, view_written, view_ended, view_releases}
use Rattle.sdb_client_model.proofs.SavingInvariant.{IsHeldOf, HoldsWithFile}
use Rattle.sdb_client_model.proofs.SavingRuns.{run_kept, saving_run_append}

-- ---- one step

-- steps of the server with the file, after which its view is the state
pub record HasViewStep (step : MessageStep) (old : SavingState) (later : MessageState) : Type 0 where
  pub steps : List SavingStep
  pub new : SavingState
  pub run : IsSavingRun steps old new
  pub edits : message_steps steps ≡ step ∷ []
  pub view : sent_view new ≡ later

one_step : (step : MessageStep) (old new : SavingState) (later : MessageState) → IsHoldingStep step old new
    → sent_view new ≡ later → HasViewStep step old later
one_step step old new later is view = record {
  steps = message_step step ∷ [];
  new = new;
  run = (new, is, refl);
  edits = refl;
  view = view;
}

-- the connection of the view
record OpenInView (o : Option ClientConnection) (hs : List HeldMessage) (l : ClientConnection) : Type 0 where
  pub connection : ClientConnection
  pub is_open : o ≡ Some connection
  pub same : with_held connection hs ≡ l

open_in_view : (o : Option ClientConnection) (hs : List HeldMessage) (l : ClientConnection)
    → open_with_held o hs ≡ Some l → OpenInView o hs l
open_in_view None hs l is = cc
open_in_view (Some k) hs l is = record { connection = k; is_open = refl; same = same_some (with_held k hs) l is }

closed_in_view : (o : Option ClientConnection) (hs : List HeldMessage) → open_with_held o hs ≡ None → o ≡ None
closed_in_view None hs is = refl
closed_in_view (Some k) hs is = cc

module _ (old : SavingState) (source : List ℕ) (later : MessageState) where
  abbrev hs : List HeldMessage
  hs = old.held source

  opened : (l : ClientConnection) → (sent_view old).connections source ≡ Some l
      → OpenInView (old.current.connections source) hs l
  opened l is = open_in_view (old.current.connections source) hs l is

  -- the connection without the held messages sends the edit
  sends_step : SendsNext source (sent_view old) later → HasViewStep (client_sends source) old later
  sends_step p =
      let o = opened p.connection p.connected.is_open in
      let c = source_client old.current source in
      let after : ClientConnection → MessageState → MessageState =
      λ k s.
      with_shared
      (with_connection s source (Some (with_sent_message k (submit (next_sent c p.operation)))))
      (after_sending old.current.shared source p.operation) in
      let state = after o.connection old.current in
      let new = with_current old state in
      let is : SendsNext source old.current state =
      record {
        connection = o.connection;
        connected = record {
          is_open = o.is_open;
          answered = ap (λ (k : ClientConnection). k.is_caught_up) o.same ∙ p.connected.answered;
        };
        operation = p.operation;
        queue = p.queue;
        none_sent = p.none_sent;
        first = p.first;
        new_is = refl;
      } in
      one_step (client_sends source) old new later (record { state = state; changes = is; new_is = refl })
      (ap (λ s. with_shared s (after_sending old.current.shared source p.operation))
      (view_connection old source (with_sent_message o.connection (submit (next_sent c p.operation))))
      ∙ ap (λ k. after k (sent_view old)) o.same
      ∙ sym p.new_is)

  -- and sends it once more
  resends_step : SendsAgain source (sent_view old) later → HasViewStep (client_resends source) old later
  resends_step p =
      let o = opened p.connection p.connected.is_open in
      let after : ClientConnection → MessageState → MessageState =
      λ k s. with_connection s source (Some (with_sent_message k (submit p.edit))) in
      let state = after o.connection old.current in
      let new = with_current old state in
      let is : SendsAgain source old.current state =
      record {
        connection = o.connection;
        connected = record {
          is_open = o.is_open;
          answered = ap (λ (k : ClientConnection). k.is_caught_up) o.same ∙ p.connected.answered;
        };
        edit = p.edit;
        is_sent = p.is_sent;
        new_is = refl;
      } in
      one_step (client_resends source) old new later (record { state = state; changes = is; new_is = refl })
      (view_connection old source (with_sent_message o.connection (submit p.edit))
      ∙ ap (λ k. after k (sent_view old)) o.same
      ∙ sym p.new_is)

  -- it sends `s`
  subscribes_step : Subscribes source (sent_view old) later → HasViewStep (client_subscribes source) old later
  subscribes_step p =
      let o = opened p.connection p.is_open in
      let c = source_client old.current source in
      let after : ClientConnection → MessageState → MessageState =
      λ k s. with_connection s source (Some (with_sent_message k (subscribe (c.version - 1)))) in
      let state = after o.connection old.current in
      let new = with_current old state in
      let is : Subscribes source old.current state =
      record { connection = o.connection; is_open = o.is_open; new_is = refl } in
      one_step (client_subscribes source) old new later (record { state = state; changes = is; new_is = refl })
      (view_connection old source (with_sent_message o.connection (subscribe (c.version - 1)))
      ∙ ap (λ k. after k (sent_view old)) o.same
      ∙ sym p.new_is)

  -- the client of the view is the same one
  advances_step : ProcessesOwn source (sent_view old) later ⊎ ProcessesEarly source (sent_view old) later
      → HasViewStep (client_advances source) old later
  advances_step (inl p) = one_step (client_advances source) old _ later
      (record {
        state = _;
        changes = inl
            (record { ack_is = p.ack_is; client = p.client; client_is = p.client_is; new_is = refl });
        new_is = refl;
      }) (sym p.new_is)
  advances_step (inr p) = one_step (client_advances source) old _ later
      (record {
        state = _;
        changes = inr
            (record {
              entry = p.entry;
              entry_is = p.entry_is;
              client = p.client;
              client_is = p.client_is;
              new_is = refl;
            });
        new_is = refl;
      }) (sym p.new_is)

  -- ---- a session's steps

  -- the session writes the answers, and holds them
  handles_step : (now : ℕ)
      → ReadsMessage source (sent_view old) later (λ k m rest. after_handling (sent_view old) source k m rest now)
      → HasViewStep (server_handles source now) old later
  handles_step now p =
      let o = opened p.connection p.is_open in
      let new = after_held_answers old source o.connection p.message p.rest now in
      one_step (server_handles source now) old new later
      (record {
        connection = o.connection;
        is_open = o.is_open;
        message = p.message;
        rest = p.rest;
        first = ap (λ (k : ClientConnection). k.to_server) o.same ∙ p.first;
        new_is = refl;
      })
      (answered_view old new source o.connection p.message p.rest now refl
      ∙ ap (λ k. after_handling (sent_view old) source k p.message p.rest now) o.same
      ∙ sym p.new_is)

  -- it writes a refusal
  refuses_step : ReadsMessage source (sent_view old) later (after_refusing (sent_view old) source)
      → HasViewStep (server_refuses source) old later
  refuses_step p =
      let o = opened p.connection p.is_open in
      let new = after_held_refusal old source o.connection p.message p.rest in
      one_step (server_refuses source) old new later
      (record {
        connection = o.connection;
        is_open = o.is_open;
        message = p.message;
        rest = p.rest;
        first = ap (λ (k : ClientConnection). k.to_server) o.same ∙ p.first;
        new_is = refl;
      })
      (view_written old source o.connection p.rest o.connection.queue (failed (seq_of_message p.message) ∷ [])
      old.current.shared
      ∙ ap (λ k. after_refusing (sent_view old) source k p.message p.rest) o.same
      ∙ sym p.new_is)

  -- it writes an entry of the subscription
  pumps_step : PumpsEntry source (sent_view old) later → HasViewStep (server_pumps source) old later
  pumps_step p =
      let o = opened p.connection p.is_open in
      let k = o.connection in
      let next = Some (p.position + 1) in
      let new =
      after_writing old source k k.to_server next (subscription_messages k.by source k.via p.entry) old.current.shared
      in
      one_step (server_pumps source) old new later
      (record {
        connection = k;
        is_open = o.is_open;
        position = p.position;
        subscribed = ap (λ (l : ClientConnection). l.queue) o.same ∙ p.subscribed;
        entry = p.entry;
        entry_is = p.entry_is;
        new_is = refl;
      })
      (view_written old source k k.to_server next (subscription_messages k.by source k.via p.entry) old.current.shared
      ∙ ap (λ (l : ClientConnection).
      with_connection (sent_view old) source
      (Some (with_answers l l.to_server next (subscription_messages l.by source l.via p.entry)))) o.same
      ∙ sym p.new_is)

  -- ---- a connection begins and ends

  connects_step : (via : List ℕ) → (old.current.connections source ≡ None → hs ≡ [])
      → (sent_view old).connections source ≡ None → later ≡ after_connecting (sent_view old) source via
      → HasViewStep (client_connects source via) old later
  connects_step via none_held none is =
      let closed = closed_in_view (old.current.connections source) hs none in
      let state = after_connecting old.current source via in
      let new = with_current old state in
      one_step (client_connects source via) old new later
      (record { state = state; changes = (closed, refl); new_is = refl })
      (view_connects old new source state refl via (none_held closed) refl ∙ sym is)

  -- the connection ends with what is held
  ends_step : EndsConnection source (sent_view old) later → HasViewStep (connection_ends source) old later
  ends_step p =
      let o = opened p.connection p.is_open in
      let state = after_end old.current source o.connection in
      let new : SavingState = record { current = state; file = old.file; held = with_value old.held source [] } in
      let ends : EndsConnection source old.current state =
      record { connection = o.connection; is_open = o.is_open; new_is = refl } in
      let is : IsHoldingStep (connection_ends source) old new = record { state = state; ends = ends; new_is = refl } in
      one_step (connection_ends source) old new later is
      (view_ended old new source o.connection
      ∙ ap (after_end (sent_view old) source) o.same
      ∙ sym p.new_is)

  -- ---- a client receives a message, which is in the channel

  receives_step : (k : ClientConnection) (m : ServerMessage) (rest : List ServerMessage)
      → old.current.connections source ≡ Some k → k.to_client ≡ m ∷ rest
      → later ≡ after_receiving (sent_view old) source (with_held k hs) m (rest ++ messages_of hs)
      → HasViewStep (client_receives source) old later
  receives_step k m rest is_open first is =
      let client = source_client old.current source in
      let state = after_receiving old.current source k m rest in
      let new = with_current old state in
      let p : ReceivesMessage source old.current state =
      record { connection = k; is_open = is_open; message = m; rest = rest; first = first; new_is = refl } in
      one_step (client_receives source) old new later (record { state = state; changes = p; new_is = refl })
      (ap (λ s. with_received s source (after_message source client m (old.current.received source)))
      (view_connection old source (record k { to_client = rest; is_caught_up = k.is_caught_up || is_list_end m }))
      ∙ sym is)

-- ---- a client receives a message, which its session may hold

module _ (old : SavingState) (h : HoldsWithFile old) (all_saved : old.file ≡ old.current.shared.log) (source : List ℕ)
    (later : MessageState) where
  module _ (k : ClientConnection) (is_open : old.current.connections source ≡ Some k) where
    abbrev received : MessageState → ClientConnection → ServerMessage → List ServerMessage → MessageState
    received s l m rest = after_receiving s source l m rest

    module _ (first : HeldMessage) (gs : List HeldMessage) (held_is : old.held source ≡ first ∷ gs) where
      abbrev sending : ClientConnection
      sending = record k { to_client = k.to_client ++ first.message ∷ [] }

      abbrev released : SavingState
      released = record {
        current = with_connection old.current source (Some sending);
        file = old.file;
        held = with_value old.held source gs;
      }

      -- all entries are saved, so the session may send the message
      releases : SendsHeld source old released
      releases =
          let all = subst (All (IsHeldOf source old.current.shared.log)) held_is (h.held source) in
          let reached = (All-head (IsHeldOf source old.current.shared.log) first gs all).reached in
          record {
            connection = k;
            is_open = is_open;
            first = first;
            rest = gs;
            held_is = held_is;
            is_saved = subst (λ log. first.log_length ≤ length log) (sym all_saved) reached;
            new_is = refl;
          }

      same_view : sent_view released ≡ sent_view old
      same_view = view_releases source old released releases

      same_connection : with_held sending (released.held source) ≡ with_held k (old.held source)
      same_connection =
          ap (with_held sending) (value_at old.held source gs)
          ∙ ap (λ ms. record k { to_client = ms }) (append_assoc k.to_client (first.message ∷ []) (messages_of gs))
          ∙ ap (with_held k) (sym held_is)

      -- the session sends the message, and the client receives it
      released_step : k.to_client ≡ []
          → later ≡ received (sent_view old) (with_held k (old.held source)) first.message (messages_of gs)
          → HasViewStep (client_receives source) old later
      released_step none is =
          let r =
          receives_step released source later sending first.message []
          (value_at old.current.connections source (Some sending)) (ap (λ ms. ms ++ first.message ∷ []) none)
          (is
          ∙ ap (λ s. received s (with_held k (old.held source)) first.message (messages_of gs)) (sym same_view)
          ∙ ap (λ l. received (sent_view released) l first.message (messages_of gs)) (sym same_connection)
          ∙ ap (λ hs. received (sent_view released) (with_held sending (released.held source)) first.message
          (messages_of hs)) (sym (value_at old.held source gs))) in
          record {
            steps = server_releases source ∷ r.steps;
            new = r.new;
            run = (released, releases, r.run);
            edits = r.edits;
            view = r.view;
          }

    -- the first message of the view is in the channel, or the first held one
    receives_from : (ms : List ServerMessage) (hs : List HeldMessage) (m : ServerMessage) (rest : List ServerMessage)
        → k.to_client ≡ ms → old.held source ≡ hs → ms ++ messages_of hs ≡ m ∷ rest
        → later ≡ received (sent_view old) (with_held k (old.held source)) m rest
        → HasViewStep (client_receives source) old later
    receives_from (x ∷ xs) hs m rest to_client held_is first is =
        let same_message : m ≡ x = cc in
        let same_rest : rest ≡ xs ++ messages_of hs = cc in
        let l = with_held k (old.held source) in
        receives_step old source later k x xs is_open to_client
        (is
        ∙ ap (λ y. received (sent_view old) l y rest) same_message
        ∙ ap (received (sent_view old) l x) (same_rest ∙ ap (λ gs. xs ++ messages_of gs) (sym held_is)))
    receives_from [] [] m rest to_client held_is first is = cc
    receives_from [] (g ∷ gs) m rest to_client held_is first is =
        let same_message : m ≡ g.message = cc in
        let same_rest : rest ≡ messages_of gs = cc in
        let l = with_held k (old.held source) in
        released_step g gs held_is to_client
        (is
        ∙ ap (λ y. received (sent_view old) l y rest) same_message
        ∙ ap (received (sent_view old) l g.message) same_rest)

  receives_in_view : ReceivesMessage source (sent_view old) later → HasViewStep (client_receives source) old later
  receives_in_view p =
      let o = opened old source later p.connection p.is_open in
      let k = o.connection in
      receives_from k o.is_open k.to_client (old.held source) p.message p.rest refl refl
      (ap (λ (l : ClientConnection). l.to_client) o.same ∙ p.first)
      (p.new_is ∙ ap (λ l. after_receiving (sent_view old) source l p.message p.rest) (sym o.same))

-- ---- each step

-- each step of the view
has_view_step : (step : MessageStep) (old : SavingState) (later : MessageState) → HoldsWithFile old
    → old.file ≡ old.current.shared.log → IsMessageStep step (sent_view old) later → HasViewStep step old later
has_view_step (client_edits source op) old later h all_saved p =
    let client = after_edit op (source_client old.current source) in
    let state = with_shared old.current (with_changed_client old.current.shared source client) in
    one_step (client_edits source op) old (with_current old state) later
    (record { state = state; changes = refl; new_is = refl }) (sym p)
has_view_step (client_sends source) old later h all_saved p = sends_step old source later p
has_view_step (client_resends source) old later h all_saved p = resends_step old source later p
has_view_step (client_receives source) old later h all_saved p = receives_in_view old h all_saved source later p
has_view_step (client_advances source) old later h all_saved p = advances_step old source later p
has_view_step (server_handles source now) old later h all_saved p = handles_step old source later now p
has_view_step (server_refuses source) old later h all_saved p = refuses_step old source later p
has_view_step (server_handles_unread m now) old later h all_saved p =
    let state = after_handling_unread old.current m now in
    one_step (server_handles_unread m now) old (with_current old state) later
    (record { state = state; changes = (p.0, refl); new_is = refl }) (sym p.1)
has_view_step (server_pumps source) old later h all_saved p = pumps_step old source later p
has_view_step (client_connects source via) old later h all_saved p =
    connects_step old source later via (h.none_held source) p.0 p.1
has_view_step (client_subscribes source) old later h all_saved p = subscribes_step old source later p
has_view_step (connection_ends source) old later h all_saved p = ends_step old source later p

-- ---- runs

-- a round that saves all entries
abbrev pub after_saving_all : SavingState → SavingState
after_saving_all s = after_round s (length s.current.shared.log)

pub saved_all : (s : SavingState) → HoldsWithFile s → (after_saving_all s).file ≡ s.current.shared.log
saved_all s h =
    let n = length s.current.shared.log in
    let longer = ap length h.log_is in
    ap (λ l. s.file ++ take n l) (ap (drop (length s.file)) h.log_is ∙ drop-append_seam s.file h.unsaved)
    ∙ ap (λ l. s.file ++ l) (take_all n h.unsaved (omega (arith, longer, length-append s.file h.unsaved)))
    ∙ sym h.log_is

pub holds_saved_all : (s : SavingState) → HoldsWithFile s → HoldsWithFile (after_saving_all s)
holds_saved_all s h =
    (run_kept (server_saves (length s.current.shared.log) ∷ []) s (after_saving_all s) h
    (after_saving_all s, refl, refl)).holds

message_steps_append : (xs ys : List SavingStep) → message_steps (xs ++ ys) ≡ message_steps xs ++ message_steps ys
message_steps_append [] ys = refl
message_steps_append (message_step step ∷ xs) ys = ap (λ l. step ∷ l) (message_steps_append xs ys)
message_steps_append (server_saves n ∷ xs) ys = message_steps_append xs ys
message_steps_append (server_releases source ∷ xs) ys = message_steps_append xs ys
message_steps_append (server_restarts ∷ xs) ys = message_steps_append xs ys

-- a run of the server with the file, after which its view is the state, and all entries are saved
pub record HasViewRun (steps : List MessageStep) (old : SavingState) (later : MessageState) : Type 0 where
  pub saving_steps : List SavingStep
  pub new : SavingState
  pub run : IsSavingRun saving_steps old new
  pub edits : edit_steps_of (message_steps saving_steps) ≡ edit_steps_of steps
  pub all_saved : new.file ≡ new.current.shared.log
  pub view : sent_view new ≡ later

-- each step of the run, and a round after it
pub view_run : (steps : List MessageStep) (old : SavingState) (later : MessageState) → HoldsWithFile old
    → old.file ≡ old.current.shared.log → IsMessageRun steps (sent_view old) later → HasViewRun steps old later
view_run [] old later h all_saved run = record {
  saving_steps = [];
  new = old;
  run = refl;
  edits = refl;
  all_saved = all_saved;
  view = sym run;
}
view_run (step ∷ steps) old later h all_saved run =
    let a = has_view_step step old run.0 h all_saved run.1 in
    let holds = (run_kept a.steps old a.new h a.run).holds in
    let saved = after_saving_all a.new in
    let n = length a.new.current.shared.log in
    let rest =
    view_run steps saved later (holds_saved_all a.new holds) (saved_all a.new holds)
    (subst (λ s. IsMessageRun steps s later) (sym a.view) run.2) in
    record {
      saving_steps = a.steps ++ server_saves n ∷ rest.saving_steps;
      new = rest.new;
      run =
          saving_run_append a.steps (server_saves n ∷ rest.saving_steps) old a.new rest.new a.run
          (saved, refl, rest.run);
      edits =
          ap edit_steps_of
          (message_steps_append a.steps (server_saves n ∷ rest.saving_steps)
          ∙ ap (λ l. l ++ message_steps rest.saving_steps) a.edits)
          ∙ sym (edit_steps_of_first step (message_steps rest.saving_steps))
          ∙ ap (λ l. edit_steps_of (step ∷ []) ++ l) rest.edits
          ∙ edit_steps_of_first step steps;
      all_saved = rest.all_saved;
      view = rest.view;
    }
