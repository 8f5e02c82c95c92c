use Rattle.std.proofs.Common.{option_map, refl, ap}
use Rattle.sdb_value.specs.View.{value_of}
use Rattle.sdb_oplog.specs.Keys.{plain_key}
use Rattle.sdb_desk.specs.MapModel.{value_at_key}
use Rattle.sdb_desk.specs.Reads.{CacheAfterOffer}
use Rattle.sdb_desk.specs.ShardState.{state_of_slots}
use Rattle.sdb_desk.specs.ShardView.{state_of, caches_of}
use Rattle.sdb_desk.specs.SlotModel.{empty_slot}
use Rattle.sdb_desk.proofs.CacheLemmas.{offers_none}
use Rattle.sdb_desk.proofs.StateLemmas.{only_cache_of_unchanged, only_cache_of_write}
use Rattle.sdb_desk.proofs.shard.Shard.offer.Goals as goal

pub returns-in-Some-clause-cache : goal.returns-in-Some-clause-cache
returns-in-Some-clause-cache c =
    let new = c.offer.new.self in
    only_cache_of_write c.args.self.now.slots.entries _ c.args.key.now c.in-Some.slot.now new c.in-Some.ensures.value (c.get_mut.follows.holds new).0
    (λ log. CacheAfterOffer c.args.version (option_map (λ v. value_of v.now) c.args.snapshot)) c.offer.ensures.cache

pub returns-in_default-clause-cache : goal.returns-in_default-clause-cache
returns-in_default-clause-cache c =
    let k = plain_key c.args.key.now in
    let offered = option_map (λ v. value_of v.now) c.args.snapshot in
    let cache = caches_of c.args.self.now k in
    only_cache_of_unchanged (CacheAfterOffer c.args.version offered) k (state_of c.args.self.now) _
    (ap (λ m. state_of_slots (value_at_key empty_slot m.entries)) c.get_mut.follows.holds-at-none) (offers_none offered c.args.version cache cache refl)
