use Rattle.sdb_oplog.specs.Keys.{plain_key}
use Rattle.sdb_desk.specs.ShardView.{state_of}
use Rattle.sdb_desk.specs.View.{fetch_result_view}
use Rattle.sdb_submit.specs.laws.ShardLaws.{snapshot_at_time_call}
use Rattle.sdb_backend.proofs.HistoryGrowth.{call_grown}
use Rattle.sdb_backend.proofs.jobs.SnapshotAtTimeJobJobHeld.run.Goals as goal

pub returns-clause-extends : goal.returns-clause-extends
returns-clause-extends c = (call_grown _ _ _ _ _ _ tt (snapshot_at_time_call c.args._number (plain_key c.args.self.key.now) (state_of c.args.held.now.shard) (state_of c.snapshot_at_time.new.self) c.args.self.moment (fetch_result_view c.snapshot_at_time.result) c.snapshot_at_time.ensures.snapshot c.snapshot_at_time.ensures.cache)).extends

pub returns-clause-others_unchanged : goal.returns-clause-others_unchanged
returns-clause-others_unchanged c = (call_grown _ _ _ _ _ _ tt (snapshot_at_time_call c.args._number (plain_key c.args.self.key.now) (state_of c.args.held.now.shard) (state_of c.snapshot_at_time.new.self) c.args.self.moment (fetch_result_view c.snapshot_at_time.result) c.snapshot_at_time.ensures.snapshot c.snapshot_at_time.ensures.cache)).others

pub returns-clause-postcondition : goal.returns-clause-postcondition
returns-clause-postcondition c = (snapshot_at_time_call c.args._number (plain_key c.args.self.key.now) (state_of c.args.held.now.shard) (state_of c.snapshot_at_time.new.self) c.args.self.moment (fetch_result_view c.snapshot_at_time.result) c.snapshot_at_time.ensures.snapshot c.snapshot_at_time.ensures.cache).step
