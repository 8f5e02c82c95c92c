use Rattle.std.proofs.Common.{◌≡◌, ◌+◌, ◌∷◌, [], ◌++◌, List, length, length-append, arith, ap, sym, subst, ◌∙◌}
use Rattle.sdb_desk.specs.ShardState.{plain_queues}
use Rattle.sdb_desk.specs.Machine.{QueuesByKey}
use Rattle.sdb_desk.specs.ShardView.{logs_of}
use Rattle.sdb_steps.specs.LookInvariant.{AllHaveLookAt}
use Rattle.sdb_steps.specs.StateView.{session_states_of, queue_slots_at, count_slots}
use Rattle.sdb_steps.specs.declared.session_data.Session.{Session}
use Rattle.sdb_steps.proofs.LookLemmas.{looked_more, looked_none}
use Rattle.sdb_steps.proofs.WorldLemmas.{none_more, fresh_more, fresh_session, count_more}
use Rattle.sdb_steps.proofs.world_state.WorldState.new.Goals as goal

pub invariant_of-result : goal.invariant_of-result
invariant_of-result c = record {
  all = omega (arith, c.loop.invariant.count, c.loop-test.false, c.loop.auto.counter-end);
  slots_open = λ i k n at. let e = c.loop.invariant.empty i k in cc;
  apart = λ i j k n at by. let e = c.loop.invariant.empty i k in cc;
  counted = λ k. ap length (ap (λ (f : QueuesByKey). (f k).queues) (ap plain_queues c.new-2.ensures)) ∙ sym (c.loop.invariant.none_open k);
  looked = c.loop.invariant.looked (logs_of c.new-2.result);
}

pub loop-preserved : goal.loop-preserved
loop-preserved c =
    let xs = c.loop.sessions.items in
    let x = c.new.result in
    let pushed = c.in_ok-push.ensures.items in
    let more : length (xs ++ x ∷ []) ≡ length xs + 1 = length-append xs (x ∷ []) in
    record {
      count = ap length pushed ∙ more ∙ ap (λ n. n + 1) c.loop.invariant.count;
      unused = λ q n. ap (λ (ys : List Session). session_states_of q ys n) pushed ∙ fresh_more q xs x (fresh_session q x c.new.ensures.attempt c.new.ensures.slots) (c.loop.invariant.unused q) n;
      looked = λ logs. subst (λ (ys : List Session). AllHaveLookAt logs ys) (sym pushed) (looked_more logs xs x (looked_none logs x.attempt c.new.ensures.attempt) (c.loop.invariant.looked logs));
      none_open = λ k. ap (λ (ys : List Session). count_slots ys k) pushed ∙ count_more xs x k c.new.ensures.slots (c.loop.invariant.none_open k);
      empty = λ n k. ap (λ (ys : List Session). queue_slots_at ys n k) pushed ∙ none_more xs x c.new.ensures.slots c.loop.invariant.empty n k;
    }

pub returns-clause-logs : goal.returns-clause-logs
returns-clause-logs c = ap (λ s. s.logs) c.new-2.ensures

pub returns-clause-queues : goal.returns-clause-queues
returns-clause-queues c = ap plain_queues c.new-2.ensures

pub returns-clause-caches : goal.returns-clause-caches
returns-clause-caches c = ap (λ s. s.caches) c.new-2.ensures
