use Rattle.std.proofs.Common.{◌≡◌, ◌<◌, ◌^◌, [], ◌∷◌, length, map, ap, sym, ◌∙◌, subst, arith}
use Rattle.std.specs.List.{flat_map}
use Rattle.sdb_chunks.specs.laws.ChunkLaws.{vec_models_of_chunk_items}
use Rattle.sdb_chunks.specs.ChunkedVec.{vec_items}
use Rattle.sdb_sorted_map.specs.MapEntry.{key_value, entry_key}
use Rattle.sdb_sorted_map.specs.KeyOrder.{IsAscending}
use Rattle.sdb_sorted_map.specs.SearchModel.{vec_keys}
use Rattle.sdb_sorted_map.proofs.EntryLemmas.{items_parts}
use Rattle.sdb_sorted_map.proofs.OrderLemmas.{no_texts}
use Rattle.sdb_sorted_map.proofs.sorted_map.SortedMap.new.Goals as goal

pub invariant_of-result : goal.invariant_of-result
invariant_of-result g c =
    let e : vec_keys c.from_vec.result ≡ [] =
    vec_models_of_chunk_items entry_key c.from_vec.result ∙ ap (λ p. map entry_key (flat_map (λ xs. xs) p)) c.from_vec.ensures.items
    ∙ ap (λ xs. map entry_key (flat_map (λ ys. ys) (xs ∷ []))) c.new.ensures.items in
    record { small = subst (λ ts. length ts < 2 ^ 64) (sym e) (omega arith); keys_ascending = subst IsAscending (sym e) no_texts }

pub returns-clause-members : goal.returns-clause-members
returns-clause-members g c =
    ap (map key_value) (items_parts c.from_vec.result ∙ ap (flat_map (λ xs. xs)) c.from_vec.ensures.items
    ∙ ap (λ xs. flat_map (λ ys. ys) (xs ∷ [])) c.new.ensures.items)
