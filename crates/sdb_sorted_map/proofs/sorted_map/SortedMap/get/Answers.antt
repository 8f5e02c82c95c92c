use Rattle.std.proofs.Common.{◌∙◌, sym, ap, option_map, Bor}
use Rattle.sdb_sorted_map.specs.laws.SortedMapLaws.{lookup_none_of_insert_index}
use Rattle.sdb_sorted_map.specs.SortedMap.{map_entry_models}
use Rattle.sdb_sorted_map.specs.declared.map_entry.MapEntry.{MapEntry}
use Rattle.sdb_sorted_map.proofs.EditLemmas.{gap_seen, value_found}
use Rattle.sdb_sorted_map.proofs.sorted_map.SortedMap.get.Goals as goal

pub returns-in_err-get-in-Ok : goal.returns-in_err-get-in-Ok
returns-in_err-get-in-Ok g c =
    let m = c.args.self.now in
    let f = g.V.TryClone.model in
    let at = λ (b : Bor (MapEntry g.row.V.Denot)). b.now in
    ap (option_map (λ (v : Bor g.row.V.Denot). f v.now)) c.from_residual.ensures
    ∙ sym (ap (option_map (λ b. f (at b).value)) c.in_err-get-in-Ok.was)
    ∙ value_found f at m.entries c.args.key.now c.in-Ok.index c.get.result c.in-Ok.ensures.key_index c.get.ensures

pub returns-in_ok-get-in-Ok : goal.returns-in_ok-get-in-Ok
returns-in_ok-get-in-Ok g c =
    let m = c.args.self.now in
    let f = g.V.TryClone.model in
    let at = λ (b : Bor (MapEntry g.row.V.Denot)). b.now in
    sym (ap (option_map (λ b. f (at b).value)) c.in_ok-get-in-Ok.was)
    ∙ value_found f at m.entries c.args.key.now c.in-Ok.index c.get.result c.in-Ok.ensures.key_index c.get.ensures

pub returns-in-Err : goal.returns-in-Err
returns-in-Err g c =
    let m = c.args.self.now in
    sym (lookup_none_of_insert_index c.args.key.now (map_entry_models g.V.TryClone.model m) c.in-Err.field-0 (gap_seen g.V.TryClone.model m.entries m.entries c.args.key.now c.in-Err.field-0 c.in-Err.ensures.insert_index))
