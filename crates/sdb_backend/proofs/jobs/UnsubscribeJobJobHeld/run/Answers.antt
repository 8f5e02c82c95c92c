use Rattle.sdb_oplog.specs.Keys.{plain_key}
use Rattle.sdb_desk.specs.ShardView.{state_of}
use Rattle.sdb_submit.specs.laws.ShardLaws.{unsubscribe_call}
use Rattle.sdb_backend.proofs.HistoryGrowth.{call_grown}
use Rattle.sdb_backend.proofs.jobs.UnsubscribeJobJobHeld.run.Goals as goal

pub returns-clause-extends : goal.returns-clause-extends
returns-clause-extends c = (call_grown _ _ _ _ _ _ tt (unsubscribe_call c.args.number (plain_key c.args.self.key.now) (state_of c.args.held.now.shard) (state_of c.unsubscribe.new.self) c.args.self.id c.unsubscribe.ensures.closed c.unsubscribe.ensures.removed)).extends

pub returns-clause-others_unchanged : goal.returns-clause-others_unchanged
returns-clause-others_unchanged c = (call_grown _ _ _ _ _ _ tt (unsubscribe_call c.args.number (plain_key c.args.self.key.now) (state_of c.args.held.now.shard) (state_of c.unsubscribe.new.self) c.args.self.id c.unsubscribe.ensures.closed c.unsubscribe.ensures.removed)).others

pub returns-clause-postcondition : goal.returns-clause-postcondition
returns-clause-postcondition c = (unsubscribe_call c.args.number (plain_key c.args.self.key.now) (state_of c.args.held.now.shard) (state_of c.unsubscribe.new.self) c.args.self.id c.unsubscribe.ensures.closed c.unsubscribe.ensures.removed).step
