use Rattle.sdb_desk.proofs.StateLemmas.{unchanged_of_write}
use Rattle.sdb_desk.proofs.shard.Shard.freeze.Goals as goal

pub returns-in-Some-clause-unchanged : goal.returns-in-Some-clause-unchanged
returns-in-Some-clause-unchanged c =
    let new = c.freeze.new.self in
    unchanged_of_write c.args.self.now.slots.entries _ c.args.key.now c.in-Some.slot.now new c.in-Some.ensures.value (c.get_mut.follows.holds new).0 c.freeze.ensures.unchanged
