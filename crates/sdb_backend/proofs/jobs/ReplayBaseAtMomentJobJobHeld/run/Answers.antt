use Rattle.std.proofs.lemmas.Result.{err_from_is_err_and}
use Rattle.sdb_oplog.specs.Keys.{plain_key}
use Rattle.sdb_desk.specs.ShardView.{machine_of, logs_of, caches_of, state_of}
use Rattle.sdb_desk.specs.View.{plain_replay_base}
use Rattle.sdb_desk.specs.laws.StateLaws.{machine_of_cache_change}
use Rattle.sdb_backend.proofs.HistoryGrowth.{same_grown}
use Rattle.sdb_backend.proofs.ReplayLemmas.{out_of_memory_borrowed, current_base}
use Rattle.sdb_backend.proofs.jobs.ReplayBaseAtMomentJobJobHeld.run.Goals as goal

pub returns-in_err-base-clause-extends : goal.returns-in_err-base-clause-extends
returns-in_err-base-clause-extends c =
    (same_grown c.args._number (machine_of c.args.held.now.shard) (machine_of c.replay_base.new.self) (machine_of_cache_change (plain_key c.args.self.key.now) (state_of c.args.held.now.shard) (state_of c.replay_base.new.self) c.replay_base.ensures.cache.1)).extends

pub returns-in_err-base-clause-postcondition : goal.returns-in_err-base-clause-postcondition
returns-in_err-base-clause-postcondition c =
    let log = logs_of c.args.held.now.shard (plain_key c.args.self.key.now) in
    let p = err_from_is_err_and c.from_residual.result c.from_residual.ensures.1 in
    rw (p.1, p.2) (out_of_memory_borrowed log c.version_at-version.result c.args.self.moment c.in_err-base.field-0.0 c.version_at-version.ensures c.in_err-base.ensures.err, (machine_of_cache_change (plain_key c.args.self.key.now) (state_of c.args.held.now.shard) (state_of c.replay_base.new.self) c.replay_base.ensures.cache.1))

pub returns-clause-extends : goal.returns-clause-extends
returns-clause-extends c =
    (same_grown c.args._number (machine_of c.args.held.now.shard) (machine_of c.replay_base.new.self) (machine_of_cache_change (plain_key c.args.self.key.now) (state_of c.args.held.now.shard) (state_of c.replay_base.new.self) c.replay_base.ensures.cache.1)).extends

pub returns-clause-others_unchanged : goal.returns-clause-others_unchanged
returns-clause-others_unchanged c =
    (same_grown c.args._number (machine_of c.args.held.now.shard) (machine_of c.replay_base.new.self) (machine_of_cache_change (plain_key c.args.self.key.now) (state_of c.args.held.now.shard) (state_of c.replay_base.new.self) c.replay_base.ensures.cache.1)).others

pub returns-clause-postcondition : goal.returns-clause-postcondition
returns-clause-postcondition c =
    let e = c.in_ok-base.ensures in
    let log = logs_of c.args.held.now.shard (plain_key c.args.self.key.now) in
    let kept = caches_of c.args.held.now.shard (plain_key c.args.self.key.now) in (
      (c.version_at-version.ensures, e.replay_base, current_base log kept c.version_at-version.result (plain_replay_base c.in_ok-base.base) e.cached_base),
      machine_of_cache_change (plain_key c.args.self.key.now) (state_of c.args.held.now.shard) (state_of c.replay_base.new.self) c.replay_base.ensures.cache.1,
    )

pub returns-in_err-base-clause-others_unchanged : goal.returns-in_err-base-clause-others_unchanged
returns-in_err-base-clause-others_unchanged c =
    (same_grown c.args._number (machine_of c.args.held.now.shard) (machine_of c.replay_base.new.self) (machine_of_cache_change (plain_key c.args.self.key.now) (state_of c.args.held.now.shard) (state_of c.replay_base.new.self) c.replay_base.ensures.cache.1)).others
