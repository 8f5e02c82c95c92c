use Rattle.std.proofs.Common.{[], ap}
use Rattle.sdb_oplog.specs.Keys.{plain_key}
use Rattle.sdb_desk.specs.ShardView.{state_of, caches_of}
use Rattle.sdb_desk.specs.laws.MapLaws.{value_of_updated}
use Rattle.sdb_submit.specs.laws.ShardLaws.{forget_call}
use Rattle.sdb_backend.proofs.HistoryGrowth.{call_grown}
use Rattle.sdb_backend.proofs.jobs.ForgetJobJobHeld.run.Goals as goal

pub returns-clause-extends : goal.returns-clause-extends
returns-clause-extends c = (call_grown _ _ _ _ _ _ tt (forget_call c.args._number (plain_key c.args.self.key.now) (state_of c.args.held.now.shard) (state_of c.forget.new.self) c.forget.ensures)).extends

pub returns-clause-others_unchanged : goal.returns-clause-others_unchanged
returns-clause-others_unchanged c = (call_grown _ _ _ _ _ _ tt (forget_call c.args._number (plain_key c.args.self.key.now) (state_of c.args.held.now.shard) (state_of c.forget.new.self) c.forget.ensures)).others

pub returns-clause-postcondition : goal.returns-clause-postcondition
returns-clause-postcondition c = (
  (forget_call c.args._number (plain_key c.args.self.key.now) (state_of c.args.held.now.shard) (state_of c.forget.new.self) c.forget.ensures).step,
  value_of_updated (caches_of c.args.held.now.shard) (caches_of c.forget.new.self) (plain_key c.args.self.key.now) [] (ap (λ s. s.caches) c.forget.ensures),
)
