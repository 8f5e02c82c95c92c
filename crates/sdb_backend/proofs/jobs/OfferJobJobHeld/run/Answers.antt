use Rattle.sdb_oplog.specs.Keys.{plain_key}
use Rattle.sdb_desk.specs.ShardView.{machine_of, state_of}
use Rattle.sdb_desk.specs.laws.StateLaws.{machine_of_cache_change}
use Rattle.sdb_backend.proofs.HistoryGrowth.{same_grown}
use Rattle.sdb_backend.proofs.jobs.OfferJobJobHeld.run.Goals as goal

pub returns-clause-extends : goal.returns-clause-extends
returns-clause-extends c =
    (same_grown c.args._number (machine_of c.args.held.now.shard) (machine_of c.offer.new.self) (machine_of_cache_change (plain_key c.args.self.key.now) (state_of c.args.held.now.shard) (state_of c.offer.new.self) c.offer.ensures.cache.1)).extends

pub returns-clause-others_unchanged : goal.returns-clause-others_unchanged
returns-clause-others_unchanged c =
    (same_grown c.args._number (machine_of c.args.held.now.shard) (machine_of c.offer.new.self) (machine_of_cache_change (plain_key c.args.self.key.now) (state_of c.args.held.now.shard) (state_of c.offer.new.self) c.offer.ensures.cache.1)).others

pub returns-clause-postcondition : goal.returns-clause-postcondition
returns-clause-postcondition c = (c.requires, c.offer.ensures.is_made, machine_of_cache_change (plain_key c.args.self.key.now) (state_of c.args.held.now.shard) (state_of c.offer.new.self) c.offer.ensures.cache.1)
