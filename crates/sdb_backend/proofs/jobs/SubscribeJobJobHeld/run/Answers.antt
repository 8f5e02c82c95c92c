use Rattle.sdb_oplog.specs.Keys.{plain_key}
use Rattle.sdb_desk.specs.ShardView.{state_of}
use Rattle.sdb_desk.specs.View.{subscribe_result_view}
use Rattle.sdb_submit.specs.laws.ShardLaws.{subscribe_call}
use Rattle.sdb_backend.proofs.HistoryGrowth.{call_grown}
use Rattle.sdb_backend.proofs.jobs.SubscribeJobJobHeld.run.Goals as goal

pub returns-clause-extends : goal.returns-clause-extends
returns-clause-extends c = (call_grown _ _ _ _ _ _ tt (subscribe_call c.args.number (plain_key c.args.self.key.now) (state_of c.args.held.now.shard) (state_of c.subscribe.new.self) c.args.self.version (subscribe_result_view c.subscribe.result) c.subscribe.ensures.subscribes c.subscribe.ensures.state)).extends

pub returns-clause-others_unchanged : goal.returns-clause-others_unchanged
returns-clause-others_unchanged c = (call_grown _ _ _ _ _ _ tt (subscribe_call c.args.number (plain_key c.args.self.key.now) (state_of c.args.held.now.shard) (state_of c.subscribe.new.self) c.args.self.version (subscribe_result_view c.subscribe.result) c.subscribe.ensures.subscribes c.subscribe.ensures.state)).others

pub returns-clause-postcondition : goal.returns-clause-postcondition
returns-clause-postcondition c = (subscribe_call c.args.number (plain_key c.args.self.key.now) (state_of c.args.held.now.shard) (state_of c.subscribe.new.self) c.args.self.version (subscribe_result_view c.subscribe.result) c.subscribe.ensures.subscribes c.subscribe.ensures.state).step
