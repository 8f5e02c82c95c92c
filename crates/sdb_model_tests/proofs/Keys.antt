-- The keys of members depend only on the models of the members.
use Rattle.std.proofs.Common.{◌≡◌, List, [], ◌∷◌, map, refl, sym, ap, ◌∙◌}
use Rattle.sdb_chunks.specs.ChunkedVec.{repr_models, vec_models}
use Rattle.sdb_chunks.specs.declared.chunked_vec.Repr.{Repr}
use Rattle.sdb_chunks.specs.declared.chunked_vec.ChunkedVec.{ChunkedVec}
use Rattle.sdb_sorted_map.specs.laws.SortedMapLaws.{keys_of_vec_models}
use Rattle.sdb_sorted_map.specs.MapEntry.{entry_key, entry_model}
use Rattle.sdb_sorted_map.specs.SortedMap.{entry_keys}
use Rattle.sdb_sorted_map.specs.SearchModel.{entry_key_bytes, vec_keys}
use Rattle.sdb_sorted_map.specs.declared.map_entry.MapEntry.{MapEntry}

names_each : {X S : Type 0} (f : X → S) (ms : List (MapEntry X)) → entry_keys (map (entry_model f) ms) ≡ entry_key_bytes ms
names_each f [] = refl
names_each f (m ∷ ms) = ap (λ l. entry_key m ∷ l) (names_each f ms)

module _ {X S : Type 0} (f : X → S) (l : ChunkedVec (MapEntry X)) where
  -- a list made from a representation with equal models has the keys of the list
  pub form_texts : (n : ChunkedVec (MapEntry X)) (w v : Repr (MapEntry X)) → w ≡ l.repr → repr_models (entry_model f) v ≡ repr_models (entry_model f) w → n.repr ≡ v → vec_keys n ≡ vec_keys l
  form_texts n w v was same now =
      let e : vec_models (entry_model f) n ≡ vec_models (entry_model f) l = ap (repr_models (entry_model f)) now ∙ same ∙ ap (repr_models (entry_model f)) was in
      sym (keys_of_vec_models f n) ∙ ap entry_keys e ∙ keys_of_vec_models f l

  -- a vector with equal models has the keys of the list
  pub vector_texts : (ms : List (MapEntry X)) → map (entry_model f) ms ≡ vec_models (entry_model f) l → entry_key_bytes ms ≡ vec_keys l
  vector_texts ms e = sym (names_each f ms) ∙ ap entry_keys e ∙ keys_of_vec_models f l
