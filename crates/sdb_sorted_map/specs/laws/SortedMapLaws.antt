-- Laws of sorted maps: the index of a key, and the map that the entries are.
use Rattle.std.specs.Prelude.{◌≡◌, ℕ, zero, suc, List, [], ◌∷◌, take, drop, map, refl, Some, None, option_map, slice_get, slice_set, cond}
use Rattle.std.proofs.Common.{ap, sym, ◌∙◌}
use Rattle.std.specs.Ordering.{is_eq}
use Rattle.std.specs.declared.cmp.Ordering.TheVariants.{Equal}
use Rattle.std.specs.Map.{lookup, set_value}
use Rattle.std.specs.BTreeMap.{is_at}
use Rattle.std.specs.Cmp.{IsTotalOrder}
use Rattle.std.proofs.lemmas.Cmp.{nat_list_cmp_total, tied_itself}
use Rattle.sdb_chunks.specs.laws.ChunkLaws.{vec_models_of_items}
use Rattle.sdb_chunks.specs.ChunkedVec.{vec_items, vec_models}
use Rattle.sdb_chunks.specs.declared.chunked_vec.ChunkedVec.{ChunkedVec}
use Rattle.sdb_sorted_map.specs.MapEntry.{key_value, entry_key, entry_model}
use Rattle.sdb_sorted_map.specs.SortedMap.{map_entries, map_entry_models, entry_keys}
use Rattle.sdb_sorted_map.specs.KeyOrder.{compare_bytes, IsAboveAll, IsBelowAll, IsInsertIndex, IsKeyIndex}
use Rattle.sdb_sorted_map.specs.SearchModel.{entry_key_bytes, vec_keys}
use Rattle.sdb_sorted_map.specs.declared.map_entry.MapEntry.{MapEntry}
use Rattle.sdb_sorted_map.specs.declared.sorted_map.SortedMap.{SortedMap}

bytes_total_order : IsTotalOrder compare_bytes
bytes_total_order = nat_list_cmp_total

pub compare_equal : (k t : List ℕ) → t ≡ k → compare_bytes k t ≡ Equal
compare_equal k t e = ap (compare_bytes k) e ∙ tied_itself bytes_total_order k

-- ---- the value of a key

module _ {X : Type 0} (k : List ℕ) where
  lookup_of_index : (es : List (List ℕ × X)) (i : ℕ) → slice_get (entry_keys es) i ≡ Some k → IsAboveAll k (take i (entry_keys es))
      → lookup (is_at (compare_bytes k)) es ≡ option_map (λ e. e.1) (slice_get es i)
  lookup_of_index [] i e a = cc
  lookup_of_index (d ∷ es) zero e a = let is : d.0 ≡ k = cc in
      ap (λ o. cond (is_eq o) (Some d.1) (lookup (is_at (compare_bytes k)) es)) (compare_equal k d.0 is)
  lookup_of_index (d ∷ es) (suc i) e a =
      ap (λ o. cond (is_eq o) (Some d.1) (lookup (is_at (compare_bytes k)) es)) a.0 ∙ lookup_of_index es i e a.1

  -- the value at the key's index is the key's value
  pub lookup_of_key_index : (es : List (List ℕ × X)) (i : ℕ) → IsKeyIndex (entry_keys es) k i
      → lookup (is_at (compare_bytes k)) es ≡ option_map (λ e. e.1) (slice_get es i)
  lookup_of_key_index es i f = lookup_of_index es i f.key_at_index f.above_all_before

  set_at_index : (es : List (List ℕ × X)) (i : ℕ) (v : X) → slice_get (entry_keys es) i ≡ Some k → IsAboveAll k (take i (entry_keys es))
      → set_value (is_at (compare_bytes k)) es v ≡ slice_set es i (k, v)
  set_at_index [] i v e a = cc
  set_at_index (d ∷ es) zero v e a = let is : d.0 ≡ k = cc in
      ap (λ o. cond (is_eq o) ((d.0, v) ∷ es) (d ∷ set_value (is_at (compare_bytes k)) es v)) (compare_equal k d.0 is) ∙ ap (λ t. (t, v) ∷ es) is
  set_at_index (d ∷ es) (suc i) v e a =
      ap (λ o. cond (is_eq o) ((d.0, v) ∷ es) (d ∷ set_value (is_at (compare_bytes k)) es v)) a.0
      ∙ ap (λ l. d ∷ l) (set_at_index es i v e a.1)

  -- a write at the key's index is a write of the key
  pub set_at_key_index : (es : List (List ℕ × X)) (i : ℕ) (v : X) → IsKeyIndex (entry_keys es) k i
      → set_value (is_at (compare_bytes k)) es v ≡ slice_set es i (k, v)
  set_at_key_index es i v f = set_at_index es i v f.key_at_index f.above_all_before

  -- a key that is absent
  lookup_none_of_below : (es : List (List ℕ × X)) → IsBelowAll k (entry_keys es) → lookup (is_at (compare_bytes k)) es ≡ None
  lookup_none_of_below [] b = refl
  lookup_none_of_below (d ∷ es) b = ap (λ o. cond (is_eq o) (Some d.1) (lookup (is_at (compare_bytes k)) es)) b.0 ∙ lookup_none_of_below es b.1

  lookup_none_of_gap : (es : List (List ℕ × X)) (i : ℕ) → IsAboveAll k (take i (entry_keys es)) → IsBelowAll k (drop i (entry_keys es))
      → lookup (is_at (compare_bytes k)) es ≡ None
  lookup_none_of_gap [] i a b = refl
  lookup_none_of_gap (d ∷ es) zero a b = lookup_none_of_below (d ∷ es) b
  lookup_none_of_gap (d ∷ es) (suc i) a b = ap (λ o. cond (is_eq o) (Some d.1) (lookup (is_at (compare_bytes k)) es)) a.0 ∙ lookup_none_of_gap es i a.1 b

  pub lookup_none_of_insert_index : (es : List (List ℕ × X)) (i : ℕ) → IsInsertIndex (entry_keys es) k i → lookup (is_at (compare_bytes k)) es ≡ None
  lookup_none_of_insert_index es i g = lookup_none_of_gap es i g.above_all_before g.below

-- ---- the entries and their views

models_map : {X S : Type 0} (f : X → S) (ms : List (MapEntry X)) → map (entry_model f) ms ≡ map (λ e. (e.0, f e.1)) (map key_value ms)
models_map f [] = refl
models_map f (m ∷ ms) = ap (λ l. entry_model f m ∷ l) (models_map f ms)

keys_of_models : {X S : Type 0} (f : X → S) (ms : List (MapEntry X)) → entry_keys (map (entry_model f) ms) ≡ entry_key_bytes ms
keys_of_models f [] = refl
keys_of_models f (m ∷ ms) = ap (λ l. entry_key m ∷ l) (keys_of_models f ms)

-- the views of a list are the views of its entries
pub vec_models_of_entries : {X S : Type 0} (f : X → S) (l : ChunkedVec (MapEntry X)) → vec_models (entry_model f) l ≡ map (λ e. (e.0, f e.1)) (map key_value (vec_items l))
vec_models_of_entries f l = vec_models_of_items (entry_model f) l ∙ models_map f (vec_items l)

pub map_models_of_entries : {X S : Type 0} (f : X → S) (m : SortedMap X) → map_entry_models f m ≡ map (λ e. (e.0, f e.1)) (map_entries m)
map_models_of_entries f m = vec_models_of_entries f m.entries

-- the keys of the views are those of the list
pub keys_of_vec_models : {X S : Type 0} (f : X → S) (l : ChunkedVec (MapEntry X)) → entry_keys (vec_models (entry_model f) l) ≡ vec_keys l
keys_of_vec_models f l = ap entry_keys (vec_models_of_items (entry_model f) l) ∙ keys_of_models f (vec_items l) ∙ sym (vec_models_of_items entry_key l)

keys_of_entries : {X : Type 0} (ms : List (MapEntry X)) → entry_keys (map key_value ms) ≡ entry_key_bytes ms
keys_of_entries [] = refl
keys_of_entries (m ∷ ms) = ap (λ l. entry_key m ∷ l) (keys_of_entries ms)

pub keys_of_vec_entries : {X : Type 0} (l : ChunkedVec (MapEntry X)) → entry_keys (map key_value (vec_items l)) ≡ vec_keys l
keys_of_vec_entries l = keys_of_entries (vec_items l) ∙ sym (vec_models_of_items entry_key l)
