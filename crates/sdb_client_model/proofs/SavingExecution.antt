-- The state after a step of a server with a file, if the step is possible: a function that computes the example.
use Rattle.std.proofs.Common.{◌≡◌, ℕ, ◌+◌, List, [], ◌∷◌, ◌++◌, length, slice_get, nat_le, Option, Some, None, option_map, refl, sym, subst, IfSome, leb-true}
use Rattle.std.specs.Prelude.{⊤}
use Rattle.std.proofs.lemmas.List.Elements.{All-nil}
use Rattle.sdb_transform.specs.Cross.{and_then}
use Rattle.sdb_oplog.specs.Plain.{PlainEntry}
use Rattle.sdb_client_model.specs.Messages.{ClientMessage, ClientConnection, subscription_messages}
use Rattle.sdb_client_model.specs.MessageMachine.{MessageState, MessageStep, client_edits, client_sends, client_resends, client_receives, client_advances, server_handles, server_refuses, server_handles_unread, server_pumps, client_connects, client_subscribes, connection_ends, with_value, with_connection, ReadsMessage}
use Rattle.sdb_client_model.specs.SavingMachine.{HeldMessage, SavingState, SavingStep, message_step, server_saves, server_releases, server_restarts, with_current, after_writing, after_held_answers, WritesEntry, WritesNone, IsHoldingStep, after_round, SendsHeld, IsUnread, after_kill, IsSavingStep, IsSavingRun}
use Rattle.sdb_client_model.specs.SmallSavingRuns.{IsSavingStepMade, AreSavingStepsMade}
use Rattle.sdb_client_model.proofs.PendingLemmas.{same_some, some_step, map_step}
use Rattle.sdb_client_model.proofs.MessageExecution.{if_true, if_true_parts, state_after, step_of_state_after}

-- ---- one step

module _ (s : SavingState) (source : List ℕ) where
  abbrev answers_first : ClientConnection → ℕ → List ClientMessage → Option SavingState
  answers_first k now [] = None
  answers_first k now (m ∷ rest) = Some (after_held_answers s source k m rest now)

  abbrev after_entry_of : ClientConnection → ℕ → PlainEntry → SavingState
  after_entry_of k position e =
      after_writing s source k k.to_server (Some (position + 1)) (subscription_messages k.by source k.via e)
      s.current.shared

  abbrev writes_entry : ClientConnection → Option ℕ → Option SavingState
  writes_entry k None = None
  writes_entry k (Some position) = option_map (after_entry_of k position) (slice_get s.current.shared.log position)

  abbrev after_ended : MessageState → SavingState
  after_ended state = record { current = state; file = s.file; held = with_value s.held source [] }

  abbrev after_release : ClientConnection → HeldMessage → List HeldMessage → SavingState
  after_release k h rest = record {
    current =
        with_connection s.current source (Some (record k { to_client = k.to_client ++ h.message ∷ [] }));
    file = s.file;
    held = with_value s.held source rest;
  }

  abbrev releases_first : ClientConnection → List HeldMessage → Option SavingState
  releases_first k [] = None
  releases_first k (h ∷ rest) = if_true (nat_le h.log_length (length s.file)) (Some (after_release k h rest))

abbrev state_after_others : MessageStep → SavingState → Option SavingState
state_after_others step s = option_map (with_current s) (state_after step s.current)

-- not computed: a refusal, and a submission of an ended connection
abbrev pub state_after_holding : MessageStep → SavingState → Option SavingState
state_after_holding (client_edits source op) s = state_after_others (client_edits source op) s
state_after_holding (client_sends source) s = state_after_others (client_sends source) s
state_after_holding (client_resends source) s = state_after_others (client_resends source) s
state_after_holding (client_receives source) s = state_after_others (client_receives source) s
state_after_holding (client_advances source) s = state_after_others (client_advances source) s
state_after_holding (server_handles source now) s =
    and_then (s.current.connections source) (λ k. answers_first s source k now k.to_server)
state_after_holding (server_refuses source) s = None
state_after_holding (server_handles_unread m now) s = None
state_after_holding (server_pumps source) s =
    and_then (s.current.connections source) (λ k. writes_entry s source k k.queue)
state_after_holding (client_connects source via) s = state_after_others (client_connects source via) s
state_after_holding (client_subscribes source) s = state_after_others (client_subscribes source) s
state_after_holding (connection_ends source) s =
    option_map (after_ended s source) (state_after (connection_ends source) s.current)

-- at a restart all submissions are lost that the server hasn't read
abbrev pub state_after_saving : SavingStep → SavingState → Option SavingState
state_after_saving (message_step step) s = state_after_holding step s
state_after_saving (server_saves n) s = Some (after_round s n)
state_after_saving (server_releases source) s =
    and_then (s.current.connections source) (λ k. releases_first s source k (s.held source))
state_after_saving server_restarts s = Some (after_kill s [])

-- ---- it is a step of the machine

writes_none : (step : MessageStep) (old new : SavingState) → state_after_others step old ≡ Some new
    → WritesNone step old new
writes_none step old new h =
    let x = map_step (state_after step old.current) (with_current old) new h in
    record { state = x.0; changes = step_of_state_after step old.current x.0 x.1; new_is = sym x.2 }

module _ (old new : SavingState) (source : List ℕ) where
  first_is_answered : (k : ClientConnection) (now : ℕ) (ms : List ClientMessage)
      → old.current.connections source ≡ Some k → k.to_server ≡ ms → answers_first old source k now ms ≡ Some new
      → ReadsMessage source old.current new (λ k m rest. after_held_answers old source k m rest now)
  first_is_answered k now [] is_open is h = cc
  first_is_answered k now (m ∷ rest) is_open is h = record {
    connection = k;
    is_open = is_open;
    message = m;
    rest = rest;
    first = is;
    new_is = sym (same_some (after_held_answers old source k m rest now) new h);
  }

  -- the entry at the position of the queue
  entry_is_written : (k : ClientConnection) (o : Option ℕ) → old.current.connections source ≡ Some k → k.queue ≡ o
      → writes_entry old source k o ≡ Some new → WritesEntry source old new
  entry_is_written k None is_open queue h = cc
  entry_is_written k (Some position) is_open queue h =
      let e = map_step (slice_get old.current.shared.log position) (after_entry_of old source k position) new h in
      record {
        connection = k;
        is_open = is_open;
        position = position;
        subscribed = queue;
        entry = e.0;
        entry_is = e.1;
        new_is = sym e.2;
      }

  -- the first held message, if its entries are saved
  first_is_released : (k : ClientConnection) (hs : List HeldMessage) → old.current.connections source ≡ Some k
      → old.held source ≡ hs → releases_first old source k hs ≡ Some new → SendsHeld source old new
  first_is_released k [] is_open is h = cc
  first_is_released k (first ∷ rest) is_open is h =
      let p =
      if_true_parts (nat_le first.log_length (length old.file)) (Some (after_release old source k first rest)) new h in
      record {
        connection = k;
        is_open = is_open;
        first = first;
        rest = rest;
        held_is = is;
        is_saved = leb-true first.log_length (length old.file) p.0;
        new_is = sym (same_some (after_release old source k first rest) new p.1);
      }

-- each case of the function is a step
step_of_holding : (step : MessageStep) (old new : SavingState) → state_after_holding step old ≡ Some new
    → IsHoldingStep step old new
step_of_holding (client_edits source op) old new h = writes_none (client_edits source op) old new h
step_of_holding (client_sends source) old new h = writes_none (client_sends source) old new h
step_of_holding (client_resends source) old new h = writes_none (client_resends source) old new h
step_of_holding (client_receives source) old new h = writes_none (client_receives source) old new h
step_of_holding (client_advances source) old new h = writes_none (client_advances source) old new h
step_of_holding (server_handles source now) old new h =
    let k = some_step (old.current.connections source) (λ k. answers_first old source k now k.to_server) new h in
    first_is_answered old new source k.0 now k.0.to_server k.1 refl k.2
step_of_holding (server_refuses source) old new h = cc
step_of_holding (server_handles_unread m now) old new h = cc
step_of_holding (server_pumps source) old new h =
    let k = some_step (old.current.connections source) (λ k. writes_entry old source k k.queue) new h in
    entry_is_written old new source k.0 k.0.queue k.1 refl k.2
step_of_holding (client_connects source via) old new h = writes_none (client_connects source via) old new h
step_of_holding (client_subscribes source) old new h = writes_none (client_subscribes source) old new h
step_of_holding (connection_ends source) old new h =
    let x = map_step (state_after (connection_ends source) old.current) (after_ended old source) new h in
    record {
      state = x.0;
      ends = step_of_state_after (connection_ends source) old.current x.0 x.1;
      new_is = sym x.2;
    }

step_of_saving : (step : SavingStep) (old new : SavingState) → state_after_saving step old ≡ Some new
    → IsSavingStep step old new
step_of_saving (message_step step) old new h = step_of_holding step old new h
step_of_saving (server_saves n) old new h = sym (same_some (after_round old n) new h)
step_of_saving (server_releases source) old new h =
    let k = some_step (old.current.connections source) (λ k. releases_first old source k (old.held source)) new h in
    first_is_released old new source k.0 (old.held source) k.1 refl k.2
step_of_saving server_restarts old new h = record {
  unread = [];
  are_unread = All-nil (IsUnread old.current);
  new_is = sym (same_some (after_kill old []) new h);
}

-- ---- runs

abbrev pub state_after_all_saving : List SavingStep → SavingState → Option SavingState
state_after_all_saving [] s = Some s
state_after_all_saving (step ∷ steps) s = and_then (state_after_saving step s) (state_after_all_saving steps)

-- each edit is made for what its client shows
abbrev pub AreSavingEditsMade : List SavingStep → SavingState → Type 0
AreSavingEditsMade [] s = ⊤
AreSavingEditsMade (step ∷ steps) s = IsSavingStepMade step s
    × IfSome (state_after_saving step s) (λ mid. AreSavingEditsMade steps mid)

-- a run, and that its edits are made
pub record MadeSavingRun (steps : List SavingStep) (old new : SavingState) : Type 0 where
  pub run : IsSavingRun steps old new
  pub made : AreSavingStepsMade steps old new run

pub run_of_saving : (steps : List SavingStep) (old new : SavingState) → state_after_all_saving steps old ≡ Some new
    → AreSavingEditsMade steps old → MadeSavingRun steps old new
run_of_saving [] old new h made = record { run = sym (same_some old new h); made = tt }
run_of_saving (step ∷ steps) old new h made =
    let mid = some_step (state_after_saving step old) (state_after_all_saving steps) new h in
    let rest = run_of_saving steps mid.0 new mid.2
    (subst (λ o. IfSome o (λ m. AreSavingEditsMade steps m)) mid.1 made.1) in
    record { run = (mid.0, step_of_saving step old mid.0 mid.1, rest.run); made = (made.0, rest.made) }

pub made_saving_append : (xs ys : List SavingStep) (old mid new : SavingState) → MadeSavingRun xs old mid
    → MadeSavingRun ys mid new → MadeSavingRun (xs ++ ys) old new
made_saving_append [] ys old mid new x y = subst (λ m. MadeSavingRun ys m new) x.run y
made_saving_append (step ∷ xs) ys old mid new x y =
    let rest = made_saving_append xs ys x.run.0 mid new (record { run = x.run.2; made = x.made.1 }) y in
    record { run = (x.run.0, x.run.1, rest.run); made = (x.made.0, rest.made) }
