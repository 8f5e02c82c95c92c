use Rattle.std.proofs.Common.{length}
use Rattle.sdb_steps.proofs.world.World.new.Goals as goal

pub returns : goal.returns
returns c = λ i. record {
  machine = record { logs = c.in_ok-new.ensures.logs i; issued_ids = λ k. (c.in_ok-new.ensures.queues i k).next };
  sessions = c.in_ok-new.ensures.sessions i;
  caches = c.in_ok-new.ensures.caches i;
  queue_counts = λ k. length (c.in_ok-new.ensures.queues i k).queues;
}
