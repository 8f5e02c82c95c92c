use Rattle.std.proofs.Common.{◌≤◌, length, inl, Option, None, Result, Ok, refl, ap, arith}
use Rattle.sdb_oplog.specs.Keys.{plain_key}
use Rattle.sdb_oplog.specs.declared.codes.Code.{Code}
use Rattle.sdb_value.specs.declared.value.Json.{Json}
use Rattle.sdb_desk.specs.MapModel.{value_at_key}
use Rattle.sdb_desk.specs.Reads.{CacheAfterRead}
use Rattle.sdb_desk.specs.ShardState.{state_of_slots}
use Rattle.sdb_desk.specs.ShardView.{state_of, logs_of}
use Rattle.sdb_desk.specs.SlotModel.{empty_slot}
use Rattle.sdb_desk.specs.laws.MapLaws.{value_at_lookup_none}
use Rattle.sdb_desk.proofs.StateLemmas.{only_cache_of_unchanged, only_cache_of_write}
use Rattle.sdb_desk.proofs.shard.Shard.snapshot_of.Goals as goal

pub returns-in-Some-clause-cache : goal.returns-in-Some-clause-cache
returns-in-Some-clause-cache c =
    let new = c.snapshot_at.new.self in
    only_cache_of_write c.args.self.now.slots.entries _ c.args.key.now c.in-Some.slot.now new c.in-Some.ensures.value (c.get_mut.follows.holds new).0
    (λ log. CacheAfterRead log c.args.version c.snapshot_at.result) c.snapshot_at.ensures.cache

pub returns-in-None-clause-cache : goal.returns-in-None-clause-cache
returns-in-None-clause-cache c =
    let k = plain_key c.args.key.now in
    let log = logs_of c.args.self.now k in
    let none = value_at_lookup_none empty_slot c.args.self.now.slots.entries c.args.key.now c.in-None.ensures.value in
    let empty : length log ≤ c.args.version = omega (arith, ap (λ t. length t.document.log) none) in
    let absent : Result (Option Json) Code = Ok None in
    only_cache_of_unchanged (CacheAfterRead log c.args.version absent) k (state_of c.args.self.now) _
    (ap (λ m. state_of_slots (value_at_key empty_slot m.entries)) c.get_mut.follows.holds-at-none) (inl (empty, refl))
