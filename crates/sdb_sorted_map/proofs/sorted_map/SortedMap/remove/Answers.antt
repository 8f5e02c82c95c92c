use Rattle.std.proofs.Common.{◌∙◌, sym, ap, option_map}
use Rattle.sdb_chunks.specs.laws.ChunkLaws.{second_if_ok, first_on_err}
use Rattle.sdb_sorted_map.specs.laws.SortedMapLaws.{lookup_none_of_insert_index}
use Rattle.sdb_sorted_map.specs.SortedMap.{map_entry_models}
use Rattle.sdb_sorted_map.proofs.EditLemmas.{gap_seen, value_found, none_found, on_err, shared_at, taken_small, taken_ascending, taken_entries}
use Rattle.sdb_sorted_map.proofs.OrderLemmas.{gap_remove}
use Rattle.sdb_sorted_map.proofs.sorted_map.SortedMap.remove.Goals as goal

pub invariant_of-self : goal.invariant_of-self
invariant_of-self g c =
    let f = g.V.TryClone.model in
    let l = c.args.self.now.entries in
    record {
      small = taken_small f l c.remove.new.self c.args.key.now c.in-Ok.index c.remove.result (second_if_ok _ _ c.remove.result c.remove.ensures.ok) (first_on_err _ _ c.remove.result c.remove.ensures.err) c.args.self.now.small;
      keys_ascending = taken_ascending f l c.remove.new.self c.args.key.now c.in-Ok.index c.remove.result (second_if_ok _ _ c.remove.result c.remove.ensures.ok) (first_on_err _ _ c.remove.result c.remove.ensures.err) c.args.self.now.keys_ascending;
    }

pub returns-in-Some-clause-ok : goal.returns-in-Some-clause-ok
returns-in-Some-clause-ok g c =
    taken_entries g.V.TryClone.model c.args.self.now.entries c.remove.new.self c.args.key.now c.in-Ok.index c.in-Ok.ensures.key_index c.in_ok-member-in-Ok.ensures.ok.1

pub returns-in-Some-clause-value : goal.returns-in-Some-clause-value
returns-in-Some-clause-value g c =
    let f = g.V.TryClone.model in
    ap (option_map (λ m. f m.value)) (sym c.in-Some.is)
    ∙ value_found f (λ m. m) c.args.self.now.entries c.args.key.now c.in-Ok.index c.in_ok-member-in-Ok.field-0 c.in-Ok.ensures.key_index c.in_ok-member-in-Ok.ensures.ok.0

pub unreachable-requires : goal.unreachable-requires
unreachable-requires g c =
    none_found g.V.TryClone.model c.args.self.now.entries c.args.key.now c.in-Ok.index c.in_ok-member-in-Ok.field-0 c.in-Ok.ensures.key_index c.in_ok-member-in-Ok.ensures.ok.0 c.in-None.is

pub returns-in_err-member-in-Ok-clause-shared_on_err : goal.returns-in_err-member-in-Ok-clause-shared_on_err
returns-in_err-member-in-Ok-clause-shared_on_err g c =
    on_err c.from_residual.result (shared_at c.args.self.now.entries c.in-Ok.index c.in_err-member-in-Ok.ensures.err.1)

pub returns-in-Err-clause-ok : goal.returns-in-Err-clause-ok
returns-in-Err-clause-ok g c =
    let m = c.args.self.now in
    sym (gap_remove c.args.key.now (map_entry_models g.V.TryClone.model m) c.in-Err.field-0 (gap_seen g.V.TryClone.model m.entries m.entries c.args.key.now c.in-Err.field-0 c.in-Err.ensures.insert_index))

pub returns-in-Err-clause-value : goal.returns-in-Err-clause-value
returns-in-Err-clause-value g c =
    let m = c.args.self.now in
    sym (lookup_none_of_insert_index c.args.key.now (map_entry_models g.V.TryClone.model m) c.in-Err.field-0 (gap_seen g.V.TryClone.model m.entries m.entries c.args.key.now c.in-Err.field-0 c.in-Err.ensures.insert_index))
