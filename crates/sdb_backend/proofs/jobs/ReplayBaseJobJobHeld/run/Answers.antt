use Rattle.std.proofs.Common.{ℕ, Some, Result, Ok, Err, IfOk, IfErr}
use Rattle.sdb_oplog.specs.declared.codes.Code.{Code}
use Rattle.sdb_desk.specs.Machine.{Machine, ReadOrOutOfMemory, read_has_version, snapshot_at}
use Rattle.sdb_desk.specs.Reads.{IsReplayBaseUpTo}
use Rattle.sdb_desk.specs.View.{plain_replay_base}
use Rattle.sdb_desk.specs.declared.replay_base.ReplayBase.{ReplayBase}
use Rattle.sdb_backend.specs.ReplayBases.{IsReplayBaseOrError, replay_base_view}
use Rattle.sdb_oplog.specs.Keys.{PlainKey, plain_key}
use Rattle.sdb_desk.specs.ShardView.{machine_of, state_of}
use Rattle.sdb_desk.specs.laws.StateLaws.{machine_of_cache_change}
use Rattle.sdb_backend.proofs.HistoryGrowth.{same_grown}
use Rattle.sdb_backend.proofs.jobs.ReplayBaseJobJobHeld.run.Goals as goal

pub returns-clause-extends : goal.returns-clause-extends
returns-clause-extends c =
    (same_grown c.args._number (machine_of c.args.held.now.shard) (machine_of c.replay_base.new.self) (machine_of_cache_change (plain_key c.args.self.key.now) (state_of c.args.held.now.shard) (state_of c.replay_base.new.self) c.replay_base.ensures.cache.1)).extends

pub returns-clause-others_unchanged : goal.returns-clause-others_unchanged
returns-clause-others_unchanged c =
    (same_grown c.args._number (machine_of c.args.held.now.shard) (machine_of c.replay_base.new.self) (machine_of_cache_change (plain_key c.args.self.key.now) (state_of c.args.held.now.shard) (state_of c.replay_base.new.self) c.replay_base.ensures.cache.1)).others

base_or_error : (m : Machine) (k : PlainKey) (v max : ℕ) (r : Result ReplayBase Code) → IfOk r (λ l. IsReplayBaseUpTo (m.logs k) v max (plain_replay_base l))
    → IfErr r (λ code. ReadOrOutOfMemory read_has_version (Err code) (snapshot_at (m.logs k) (Some v))) → IsReplayBaseOrError m k v max (replay_base_view r)
base_or_error m k v max (Ok l) ok err = ok
base_or_error m k v max (Err code) ok err = err

pub returns-clause-postcondition : goal.returns-clause-postcondition
returns-clause-postcondition c =
    let k = plain_key c.args.self.key.now in (
      base_or_error (machine_of c.args.held.now.shard) k c.args.self.version c.args.self.max c.replay_base.result c.replay_base.ensures.replay_base c.replay_base.ensures.err,
      machine_of_cache_change k (state_of c.args.held.now.shard) (state_of c.replay_base.new.self) c.replay_base.ensures.cache.1,
    )
