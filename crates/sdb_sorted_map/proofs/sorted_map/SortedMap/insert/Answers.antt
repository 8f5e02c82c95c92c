use Rattle.std.proofs.Common.{◌≡◌, ◌+◌, ◌<◌, ◌^◌, ◌∙◌, sym, ap, subst, length, option_map, string_bytes, arith}
use Rattle.sdb_chunks.specs.laws.ChunkLaws.{unique_vec_at_of_all, first_if_ok, second_if_ok, first_on_err}
use Rattle.sdb_chunks.specs.ChunkedVec.{is_unique_vec_at}
use Rattle.sdb_sorted_map.specs.laws.SortedMapLaws.{lookup_none_of_insert_index}
use Rattle.sdb_sorted_map.specs.SortedMap.{map_entry_models}
use Rattle.sdb_sorted_map.specs.KeyOrder.{IsKeyIndex, IsInsertIndex}
use Rattle.sdb_sorted_map.specs.SearchModel.{vec_keys}
use Rattle.sdb_sorted_map.proofs.EditLemmas.{gap_seen, value_found, none_found, not_both, on_err, length_unchanged, ascending_unchanged, replaced_texts, replaced_entries, put_entries, put_small, put_ascending}
use Rattle.sdb_sorted_map.proofs.sorted_map.SortedMap.insert.Goals as goal

-- ---- the key is present

pub invariant_of-self : goal.invariant_of-self
invariant_of-self g c =
    let f = g.V.TryClone.model in
    let l = c.args.self.now.entries in
    let i = c.in-Ok.index in
    let k = string_bytes c.args.key in
    let at = subst (λ t. IsKeyIndex (vec_keys l) t i) c.as_str.ensures.value c.in-Ok.ensures.key_index in
    let e = replaced_texts f l c.replace.new.self k _ i _ c.new.ensures c.replace.result at (second_if_ok _ _ c.replace.result c.replace.ensures.ok) (first_on_err _ _ c.replace.result c.replace.ensures.err) in
    record { small = length_unchanged f l c.replace.new.self k i e c.args.self.now.small; keys_ascending = ascending_unchanged f l c.replace.new.self k i e c.args.self.now.keys_ascending }

pub returns-in-Some-clause-ok : goal.returns-in-Some-clause-ok
returns-in-Some-clause-ok g c =
    let l = c.args.self.now.entries in
    let i = c.in-Ok.index in
    let at = subst (λ t. IsKeyIndex (vec_keys l) t i) c.as_str.ensures.value c.in-Ok.ensures.key_index in
    replaced_entries g.V.TryClone.model l c.replace.new.self (string_bytes c.args.key) _ i _ c.new.ensures at c.in_ok-old-in-Ok.ensures.ok.1

pub returns-in-Some-clause-value : goal.returns-in-Some-clause-value
returns-in-Some-clause-value g c =
    let f = g.V.TryClone.model in
    let l = c.args.self.now.entries in
    let i = c.in-Ok.index in
    let at = subst (λ t. IsKeyIndex (vec_keys l) t i) c.as_str.ensures.value c.in-Ok.ensures.key_index in
    ap (option_map (λ m. f m.value)) (sym c.in-Some.is) ∙ value_found f (λ m. m) l (string_bytes c.args.key) i c.in_ok-old-in-Ok.field-0 at c.in_ok-old-in-Ok.ensures.ok.0

pub unreachable-requires : goal.unreachable-requires
unreachable-requires g c =
    none_found g.V.TryClone.model c.args.self.now.entries c.as_str.result.now c.in-Ok.index c.in_ok-old-in-Ok.field-0 c.in-Ok.ensures.key_index c.in_ok-old-in-Ok.ensures.ok.0 c.in-None.is

pub returns-in_err-old-in-Ok-clause-absent_on_err : goal.returns-in_err-old-in-Ok-clause-absent_on_err
returns-in_err-old-in-Ok-clause-absent_on_err g c own =
    let l = c.args.self.now.entries in
    on_err c.from_residual.result (absurd (not_both (is_unique_vec_at l c.in-Ok.index) (unique_vec_at_of_all l c.in-Ok.index own) c.in_err-old-in-Ok.ensures.err.1))

-- ---- the key is new

pub invariant_of-self-in-Err : goal.invariant_of-self-in-Err
invariant_of-self-in-Err g c =
    let f = g.V.TryClone.model in
    let l = c.args.self.now.entries in
    let i = c.in-Err.index in
    let k = string_bytes c.args.key in
    let at = subst (λ t. IsInsertIndex (vec_keys l) t i) c.as_str.ensures.value c.in-Err.ensures.insert_index in
    let room : length (vec_keys l) + 1 < 2 ^ 64 = omega (arith, c.args.self.now.small, c.len.ensures, c.if-len-eq18446744073709551615.false) in
    record {
      small = put_small f l c.insert.new.self k _ i _ c.new-in-Err.ensures c.insert.result at (second_if_ok _ _ c.insert.result c.insert.ensures.ok) (first_if_ok _ _ c.insert.result c.insert.ensures.ok) c.insert.ensures.err room;
      keys_ascending = put_ascending f l c.insert.new.self k _ i _ c.new-in-Err.ensures c.insert.result at (second_if_ok _ _ c.insert.result c.insert.ensures.ok) (first_if_ok _ _ c.insert.result c.insert.ensures.ok) c.insert.ensures.err c.args.self.now.keys_ascending;
    }

pub returns-in_ok-insert-in-Err-clause-ok : goal.returns-in_ok-insert-in-Err-clause-ok
returns-in_ok-insert-in-Err-clause-ok g c =
    let l = c.args.self.now.entries in
    let i = c.in-Err.index in
    let at = subst (λ t. IsInsertIndex (vec_keys l) t i) c.as_str.ensures.value c.in-Err.ensures.insert_index in
    put_entries g.V.TryClone.model l c.insert.new.self (string_bytes c.args.key) _ i _ c.new-in-Err.ensures c.in_ok-insert-in-Err.field-0 at c.in_ok-insert-in-Err.ensures.ok.1 c.in_ok-insert-in-Err.ensures.ok.0

pub returns-in_ok-insert-in-Err-clause-value : goal.returns-in_ok-insert-in-Err-clause-value
returns-in_ok-insert-in-Err-clause-value g c =
    let l = c.args.self.now.entries in
    let i = c.in-Err.index in
    let at = subst (λ t. IsInsertIndex (vec_keys l) t i) c.as_str.ensures.value c.in-Err.ensures.insert_index in
    sym (lookup_none_of_insert_index (string_bytes c.args.key) (map_entry_models g.V.TryClone.model c.args.self.now) i (gap_seen g.V.TryClone.model l l (string_bytes c.args.key) i at))

pub returns-then-len-eq18446744073709551615-clause-absent_on_err : goal.returns-then-len-eq18446744073709551615-clause-absent_on_err
returns-then-len-eq18446744073709551615-clause-absent_on_err g c own =
    let l = c.args.self.now.entries in
    let i = c.in-Err.index in
    let at = subst (λ t. IsInsertIndex (vec_keys l) t i) c.as_str.ensures.value c.in-Err.ensures.insert_index in
    lookup_none_of_insert_index (string_bytes c.args.key) (map_entry_models g.V.TryClone.model c.args.self.now) i (gap_seen g.V.TryClone.model l l (string_bytes c.args.key) i at)

pub returns-in_err-insert-in-Err-clause-absent_on_err : goal.returns-in_err-insert-in-Err-clause-absent_on_err
returns-in_err-insert-in-Err-clause-absent_on_err g c own =
    let l = c.args.self.now.entries in
    let i = c.in-Err.index in
    let at = subst (λ t. IsInsertIndex (vec_keys l) t i) c.as_str.ensures.value c.in-Err.ensures.insert_index in
    on_err c.from_residual-in_err-insert-in-Err.result
    (lookup_none_of_insert_index (string_bytes c.args.key) (map_entry_models g.V.TryClone.model c.args.self.now) i (gap_seen g.V.TryClone.model l l (string_bytes c.args.key) i at))
