use Rattle.sdb_oplog.specs.Keys.{plain_key}
use Rattle.sdb_desk.specs.ShardView.{state_of}
use Rattle.sdb_desk.specs.View.{fetch_result_view}
use Rattle.sdb_submit.specs.laws.ShardLaws.{fetch_call}
use Rattle.sdb_backend.proofs.HistoryGrowth.{call_grown}
use Rattle.sdb_backend.proofs.jobs.FetchJobJobHeld.run.Goals as goal

pub returns-clause-extends : goal.returns-clause-extends
returns-clause-extends c = (call_grown _ _ _ _ _ _ tt (fetch_call c.args._number (plain_key c.args.self.key.now) (state_of c.args.held.now.shard) (state_of c.fetch.new.self) (fetch_result_view c.fetch.result) c.fetch.ensures.fetched c.fetch.ensures.unchanged)).extends

pub returns-clause-others_unchanged : goal.returns-clause-others_unchanged
returns-clause-others_unchanged c = (call_grown _ _ _ _ _ _ tt (fetch_call c.args._number (plain_key c.args.self.key.now) (state_of c.args.held.now.shard) (state_of c.fetch.new.self) (fetch_result_view c.fetch.result) c.fetch.ensures.fetched c.fetch.ensures.unchanged)).others

pub returns-clause-postcondition : goal.returns-clause-postcondition
returns-clause-postcondition c = (fetch_call c.args._number (plain_key c.args.self.key.now) (state_of c.args.held.now.shard) (state_of c.fetch.new.self) (fetch_result_view c.fetch.result) c.fetch.ensures.fetched c.fetch.ensures.unchanged).step
