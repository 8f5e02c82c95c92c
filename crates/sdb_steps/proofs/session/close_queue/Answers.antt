use Rattle.std.proofs.Common.{ap, sym, ◌∙◌}
use Rattle.sdb_oplog.specs.Keys.{plain_key}
use Rattle.sdb_desk.specs.ShardView.{state_of, queues_of}
use Rattle.sdb_desk.specs.laws.KeyLaws.{with_queues_same}
use Rattle.sdb_desk.specs.laws.StateLaws.{queues_of_close}
use Rattle.sdb_desk.specs.Machine.{with_queues}
use Rattle.sdb_steps.specs.Slots.{close_in}
use Rattle.sdb_steps.proofs.session.close_queue.Goals as goal

pub returns-in-Some-clause-queues : goal.returns-in-Some-clause-queues
returns-in-Some-clause-queues c =
    let f = queues_of c.args.shard.now in
    let k = plain_key c.args.key.now in
    (queues_of_close k c.args.by c.in-Some.id (state_of c.args.shard.now) (state_of c.unsubscribe.new.self) c.unsubscribe.ensures.closed).queues
    ∙ ap (λ o. with_queues f k (close_in c.args.by o (f k))) (sym c.in-Some.is)

pub returns-in-Some-clause-logs_unchanged : goal.returns-in-Some-clause-logs_unchanged
returns-in-Some-clause-logs_unchanged c = ap (λ s. s.logs) c.unsubscribe.ensures.closed

pub returns-in-Some-clause-caches_unchanged : goal.returns-in-Some-clause-caches_unchanged
returns-in-Some-clause-caches_unchanged c = ap (λ s. s.caches) c.unsubscribe.ensures.closed

pub returns-in-None-clause-queues : goal.returns-in-None-clause-queues
returns-in-None-clause-queues c =
    let f = queues_of c.args.shard.now in
    let k = plain_key c.args.key.now in
    sym (with_queues_same f k) ∙ ap (λ o. with_queues f k (close_in c.args.by o (f k))) (sym c.in-None.is)
