-- The state after a step of the machine with messages, if the step is possible: a function that computes the example.
use Rattle.std.proofs.Common.{◌≡◌, ℕ, ◌+◌, ◌-◌, List, [], ◌∷◌, slice_get, nat_eq, Bool, true, false, cond, Option, Some, None, ◌⊎◌, inl, inr, refl, sym, ap, ◌∙◌, subst, eqb-true, IfSome}
use Rattle.std.specs.Prelude.{⊤}
use Rattle.sdb_component.specs.Plain.{PlainComponent}
use Rattle.sdb_transform.specs.Cross.{and_then}
use Rattle.sdb_oplog.specs.Plain.{PlainEntry}
use Rattle.sdb_client_model.specs.Client.{SentEdit, Client, after_edit, next_sent, after_acknowledgement, after_content}
use Rattle.sdb_client_model.specs.Machine.{with_changed_client, after_sending}
use Rattle.sdb_client_model.specs.Messages.{ClientMessage, subscribe, submit, ServerMessage, ClientConnection, ReceivedEntries, with_early, with_ack, subscription_messages, with_sent_message, with_answers}
use Rattle.sdb_client_model.specs.MessageMachine.{MessageState, with_connection, with_received, with_shared, source_client, MessageStep, client_edits, client_sends, client_resends, client_receives, client_advances, server_handles, server_refuses, server_handles_unread, server_pumps, client_connects, client_subscribes, connection_ends, SendsNext, SendsAgain, after_receiving, ReceivesMessage, ProcessesOwn, ProcessesEarly, after_connecting, after_handling, ReadsMessage, PumpsEntry, after_end, IsMessageStep}
use Rattle.sdb_client_model.specs.SmallMessageRuns.{IsMessageStepMade}
use Rattle.sdb_client_model.proofs.PendingLemmas.{same_some, some_step}
use Rattle.sdb_client_model.proofs.MessageContinuations.{MadeMessageRun}

-- ---- one step

-- the state, if the test is true
abbrev pub if_true : {A : Type 0} → Bool → Option A → Option A
if_true true o = o
if_true false o = None

module _ (s : MessageState) (source : List ℕ) where
  abbrev c : Client
  c = source_client s source

  abbrev r : ReceivedEntries
  r = s.received source

  abbrev after_next_sent : ClientConnection → List PlainComponent → MessageState
  after_next_sent k op =
      with_shared (with_connection s source (Some (with_sent_message k (submit (next_sent c op)))))
      (after_sending s.shared source op)

  abbrev sends_next : ClientConnection → Option SentEdit → List (List PlainComponent) → Option MessageState
  sends_next k (Some t) ops = None
  sends_next k None [] = None
  sends_next k None (op ∷ ops) = if_true k.is_caught_up (Some (after_next_sent k op))

  abbrev sends_again : ClientConnection → Option SentEdit → Option MessageState
  sends_again k None = None
  sends_again k (Some t) = if_true k.is_caught_up (Some
      (with_connection s source (Some (with_sent_message k (submit t)))))

  abbrev receives_first : ClientConnection → List ServerMessage → Option MessageState
  receives_first k [] = None
  receives_first k (m ∷ rest) = Some (after_receiving s source k m rest)

  abbrev handles_first : ClientConnection → ℕ → List ClientMessage → Option MessageState
  handles_first k now [] = None
  handles_first k now (m ∷ rest) = Some (after_handling s source k m rest now)

  abbrev after_processing : ReceivedEntries → Client → Option MessageState
  after_processing q client = Some (with_received (with_shared s (with_changed_client s.shared source client)) source q)

  abbrev processes_early : Option PlainEntry → Option MessageState
  processes_early None = None
  processes_early (Some e) = and_then (after_content c e.content) (after_processing (with_early c.version None r))

  abbrev processes_own : Option MessageState
  processes_own = and_then (after_acknowledgement c c.pending) (after_processing (with_ack None r))

  abbrev advances : Option ℕ → Option MessageState
  advances None = processes_early (r.early c.version)
  advances (Some v) = cond (nat_eq v c.version) processes_own (processes_early (r.early c.version))

  abbrev pumps_entry : ClientConnection → Option ℕ → Option MessageState
  pumps_entry k None = None
  pumps_entry k (Some position) =
      and_then (slice_get s.shared.log position) (λ e.
      Some
      (with_connection s source
      (Some (with_answers k k.to_server (Some (position + 1)) (subscription_messages k.by source k.via e)))))

  abbrev connects : List ℕ → Option ClientConnection → Option MessageState
  connects via None = Some (after_connecting s source via)
  connects via (Some k) = None

-- not computed: the server refuses a message, and handles a submission of an ended connection
abbrev pub state_after : MessageStep → MessageState → Option MessageState
state_after (client_edits source op) s = Some (with_shared s
    (with_changed_client s.shared source (after_edit op (source_client s source))))
state_after (client_sends source) s = and_then (s.connections source)
    (λ k. sends_next s source k (source_client s source).sent (source_client s source).pending)
state_after (client_resends source) s = and_then (s.connections source)
    (λ k. sends_again s source k (source_client s source).sent)
state_after (client_receives source) s = and_then (s.connections source) (λ k. receives_first s source k k.to_client)
state_after (client_advances source) s = advances s source (s.received source).ack
state_after (server_handles source now) s = and_then (s.connections source)
    (λ k. handles_first s source k now k.to_server)
state_after (server_refuses source) s = None
state_after (server_handles_unread m now) s = None
state_after (server_pumps source) s = and_then (s.connections source) (λ k. pumps_entry s source k k.queue)
state_after (client_connects source via) s = connects s source via (s.connections source)
state_after (client_subscribes source) s =
    and_then (s.connections source) (λ k.
    Some (with_connection s source (Some (with_sent_message k (subscribe ((source_client s source).version - 1))))))
state_after (connection_ends source) s = and_then (s.connections source) (λ k. Some (after_end s source k))

-- ---- it is a step of the machine

pub if_true_parts : {A : Type 0} (b : Bool) (o : Option A) (x : A) → if_true b o ≡ Some x → (b ≡ true) × (o ≡ Some x)
if_true_parts true o x h = (refl, h)
if_true_parts false o x h = cc

module _ (s new : MessageState) (source : List ℕ) where
  abbrev here : Client
  here = source_client s source

  next_is_sent : (k : ClientConnection) (o : Option SentEdit) (ops : List (List PlainComponent))
      → s.connections source ≡ Some k → here.sent ≡ o → here.pending ≡ ops → sends_next s source k o ops ≡ Some new
      → SendsNext source s new
  next_is_sent k (Some t) ops is_open sent pending h = cc
  next_is_sent k None [] is_open sent pending h = cc
  next_is_sent k None (op ∷ ops) is_open sent pending h =
      let p = if_true_parts k.is_caught_up (Some (after_next_sent s source k op)) new h in
      record {
        connection = k;
        connected = record { is_open = is_open; answered = p.0 };
        operation = op;
        queue = ops;
        none_sent = sent;
        first = pending;
        new_is = sym (same_some (after_next_sent s source k op) new p.1);
      }

  is_sent_again : (k : ClientConnection) (o : Option SentEdit) → s.connections source ≡ Some k → here.sent ≡ o
      → sends_again s source k o ≡ Some new → SendsAgain source s new
  is_sent_again k None is_open sent h = cc
  is_sent_again k (Some t) is_open sent h =
      let p = if_true_parts k.is_caught_up (Some (with_connection s source (Some (with_sent_message k (submit t))))) new
      h in
      record {
        connection = k;
        connected = record { is_open = is_open; answered = p.0 };
        edit = t;
        is_sent = sent;
        new_is = sym (same_some (with_connection s source (Some (with_sent_message k (submit t)))) new p.1);
      }

  first_is_received : (k : ClientConnection) (ms : List ServerMessage) → s.connections source ≡ Some k
      → k.to_client ≡ ms → receives_first s source k ms ≡ Some new → ReceivesMessage source s new
  first_is_received k [] is_open first h = cc
  first_is_received k (m ∷ rest) is_open first h =
      record {
        connection = k;
        is_open = is_open;
        message = m;
        rest = rest;
        first = first;
        new_is = sym
            (same_some (after_receiving s source k m rest) new h);
      }

  first_is_handled : (k : ClientConnection) (now : ℕ) (ms : List ClientMessage) → s.connections source ≡ Some k
      → k.to_server ≡ ms → handles_first s source k now ms ≡ Some new
      → ReadsMessage source s new (λ k m rest. after_handling s source k m rest now)
  first_is_handled k now [] is_open first h = cc
  first_is_handled k now (m ∷ rest) is_open first h =
      record {
        connection = k;
        is_open = is_open;
        message = m;
        rest = rest;
        first = first;
        new_is = sym
            (same_some (after_handling s source k m rest now) new h);
      }

  early_is_processed : (o : Option PlainEntry) → (s.received source).early here.version ≡ o
      → processes_early s source o ≡ Some new → ProcessesEarly source s new
  early_is_processed None is h = cc
  early_is_processed (Some e) is h =
      let d = some_step (after_content here e.content) (after_processing s source
      (with_early here.version None (s.received source))) new h in
      record { entry = e; entry_is = is; client = d.0; client_is = d.1; new_is = sym (same_some _ new d.2) }

  advances_by : (b : Bool) (v : ℕ) → (s.received source).ack ≡ Some v → nat_eq v here.version ≡ b
      → cond b (processes_own s source) (processes_early s source ((s.received source).early here.version)) ≡ Some new
      → ProcessesOwn source s new ⊎ ProcessesEarly source s new
  advances_by true v ack is h =
      let d = some_step (after_acknowledgement here here.pending)
      (after_processing s source (with_ack None (s.received source))) new h in
      inl
      (record {
        ack_is = ack ∙ ap (λ n. Some n) (eqb-true v here.version is);
        client = d.0;
        client_is = d.1;
        new_is = sym (same_some _ new d.2);
      })
  advances_by false v ack is h = inr (early_is_processed ((s.received source).early here.version) refl h)

  is_advanced : (o : Option ℕ) → (s.received source).ack ≡ o → advances s source o ≡ Some new
      → ProcessesOwn source s new ⊎ ProcessesEarly source s new
  is_advanced None ack h = inr (early_is_processed ((s.received source).early here.version) refl h)
  is_advanced (Some v) ack h = advances_by (nat_eq v here.version) v ack refl h

  is_pumped : (k : ClientConnection) (o : Option ℕ) → s.connections source ≡ Some k → k.queue ≡ o
      → pumps_entry s source k o ≡ Some new → PumpsEntry source s new
  is_pumped k None is_open queue h = cc
  is_pumped k (Some position) is_open queue h =
      let e = some_step (slice_get s.shared.log position) (λ e.
      Some
      (with_connection s source
      (Some (with_answers k k.to_server (Some (position + 1)) (subscription_messages k.by source k.via e))))) new h in
      record {
        connection = k;
        is_open = is_open;
        position = position;
        subscribed = queue;
        entry = e.0;
        entry_is = e.1;
        new_is = sym (same_some _ new e.2);
      }

  is_connected : (via : List ℕ) (o : Option ClientConnection) → s.connections source ≡ o
      → connects s source via o ≡ Some new → (s.connections source ≡ None) × (new ≡ after_connecting s source via)
  is_connected via None none h = (none, sym (same_some (after_connecting s source via) new h))
  is_connected via (Some k) is_open h = cc

pub step_of_state_after : (step : MessageStep) (old new : MessageState) → state_after step old ≡ Some new
    → IsMessageStep step old new
step_of_state_after (client_edits source op) old new h = sym (same_some _ new h)
step_of_state_after (client_sends source) old new h =
    let k = some_step (old.connections source) (λ k. sends_next old source k (source_client old source).sent
    (source_client old source).pending) new h in
    next_is_sent old new source k.0 (source_client old source).sent (source_client old source).pending k.1 refl refl k.2
step_of_state_after (client_resends source) old new h =
    let k = some_step (old.connections source) (λ k. sends_again old source k (source_client old source).sent) new h in
    is_sent_again old new source k.0 (source_client old source).sent k.1 refl k.2
step_of_state_after (client_receives source) old new h =
    let k = some_step (old.connections source) (λ k. receives_first old source k k.to_client) new h in
    first_is_received old new source k.0 k.0.to_client k.1 refl k.2
step_of_state_after (client_advances source) old new h = is_advanced old new source (old.received source).ack refl h
step_of_state_after (server_handles source now) old new h =
    let k = some_step (old.connections source) (λ k. handles_first old source k now k.to_server) new h in
    first_is_handled old new source k.0 now k.0.to_server k.1 refl k.2
step_of_state_after (server_refuses source) old new h = cc
step_of_state_after (server_handles_unread m now) old new h = cc
step_of_state_after (server_pumps source) old new h =
    let k = some_step (old.connections source) (λ k. pumps_entry old source k k.queue) new h in
    is_pumped old new source k.0 k.0.queue k.1 refl k.2
step_of_state_after (client_connects source via) old new h = is_connected old new source via (old.connections source)
    refl h
step_of_state_after (client_subscribes source) old new h =
    let k = some_step (old.connections source) (λ k.
    Some (with_connection old source (Some (with_sent_message k (subscribe ((source_client old source).version - 1))))))
    new h in
    record { connection = k.0; is_open = k.1; new_is = sym (same_some _ new k.2) }
step_of_state_after (connection_ends source) old new h =
    let k = some_step (old.connections source) (λ k. Some (after_end old source k)) new h in
    record { connection = k.0; is_open = k.1; new_is = sym (same_some _ new k.2) }

-- ---- runs

abbrev pub state_after_all : List MessageStep → MessageState → Option MessageState
state_after_all [] s = Some s
state_after_all (step ∷ steps) s = and_then (state_after step s) (state_after_all steps)

-- each edit is made for what its client shows
abbrev pub AreEditsMadeAlong : List MessageStep → MessageState → Type 0
AreEditsMadeAlong [] s = ⊤
AreEditsMadeAlong (step ∷ steps) s = IsMessageStepMade step s
    × IfSome (state_after step s) (λ mid. AreEditsMadeAlong steps mid)

pub run_of_state_after : (steps : List MessageStep) (old new : MessageState) → state_after_all steps old ≡ Some new
    → AreEditsMadeAlong steps old → MadeMessageRun steps old new
run_of_state_after [] old new h made = record { run = sym (same_some old new h); made = tt }
run_of_state_after (step ∷ steps) old new h made =
    let mid = some_step (state_after step old) (state_after_all steps) new h in
    let rest = run_of_state_after steps mid.0 new mid.2
    (subst (λ o. IfSome o (λ m. AreEditsMadeAlong steps m)) mid.1 made.1) in
    record { run = (mid.0, step_of_state_after step old mid.0 mid.1, rest.run); made = (made.0, rest.made) }
