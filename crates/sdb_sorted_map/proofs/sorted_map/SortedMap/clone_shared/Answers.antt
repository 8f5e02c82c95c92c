use Rattle.std.proofs.Common.{map, ap, []}
use Rattle.sdb_sorted_map.specs.MapEntry.{key_value}
use Rattle.sdb_sorted_map.proofs.EditLemmas.{length_unchanged, ascending_unchanged}
use Rattle.sdb_sorted_map.proofs.EntryLemmas.{items_of_shared, same_items, same_texts}
use Rattle.sdb_sorted_map.proofs.sorted_map.SortedMap.clone_shared.Goals as goal

pub invariant_of-result : goal.invariant_of-result
invariant_of-result g c =
    let old = c.args.self.now in
    let e = same_texts old.entries c.in-Some.entries (items_of_shared c.in_ok-entries.field-0 c.args.self.now.entries c.in-Some.entries c.in-Some.is c.in_ok-entries.ensures.equal) in
    record { small = length_unchanged (λ v. v) old.entries c.in-Some.entries [] 0 e old.small; keys_ascending = ascending_unchanged (λ v. v) old.entries c.in-Some.entries [] 0 e old.keys_ascending }

pub returns-in-Some-clause-equal : goal.returns-in-Some-clause-equal
returns-in-Some-clause-equal g c = ap (map key_value) (same_items c.args.self.now.entries c.in-Some.entries (items_of_shared c.in_ok-entries.field-0 c.args.self.now.entries c.in-Some.entries c.in-Some.is c.in_ok-entries.ensures.equal))
