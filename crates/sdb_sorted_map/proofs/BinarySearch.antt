-- The comparison of a key with one of a chunk.
use Rattle.std.proofs.Common.{◌≡◌, ℕ, zero, suc, ◌+◌, ◌<◌, List, [], ◌∷◌, length, take, drop, sym, ap, ◌∙◌, subst, arith, Some, slice_get, get_or}
use Rattle.std.specs.declared.cmp.Ordering.{Ordering}
use Rattle.std.specs.declared.cmp.Ordering.TheVariants.{Less, Equal, Greater}
use Rattle.sdb_sorted_map.specs.MapEntry.{entry_key}
use Rattle.sdb_sorted_map.specs.KeyOrder.{compare_bytes, IsAscending, IsAboveAll, IsBelowAll, IsKeyIndex}
use Rattle.sdb_sorted_map.specs.SearchModel.{entry_key_bytes}
use Rattle.sdb_sorted_map.specs.declared.map_entry.MapEntry.{MapEntry}
use Rattle.sdb_sorted_map.proofs.OrderLemmas.{below_from, above_to, found_at}

text_at : {X : Type 0} (ks : List (MapEntry X)) (m : ℕ) (p : MapEntry X) → m < length ks → p ≡ get_or ks m p → slice_get (entry_key_bytes ks) m ≡ Some (entry_key p)
text_at [] m p h e = absurd (omega (arith, h))
text_at (k ∷ ks) zero p h e = ap (λ q. Some (entry_key q)) (sym e)
text_at (k ∷ ks) (suc m) p h e = text_at ks m p (omega (arith, h)) e

module _ {X : Type 0} (k : List ℕ) (ks : List (MapEntry X)) (m : ℕ) (p : MapEntry X) (r : Ordering) (u : List ℕ)
    (s : IsAscending (entry_key_bytes ks)) (h : m < length ks) (e : p ≡ get_or ks m p) (is : u ≡ entry_key (get_or ks m p)) (c : r ≡ compare_bytes k u) where
  compare_at_key : (o : Ordering) → r ≡ o → compare_bytes k (entry_key p) ≡ o
  compare_at_key o d = ap (compare_bytes k) (ap entry_key e ∙ sym is) ∙ sym c ∙ d

  pub below_middle : r ≡ Less → IsBelowAll k (drop m (entry_key_bytes ks))
  below_middle d = below_from k (entry_key_bytes ks) m (entry_key p) s (text_at ks m p h e) (compare_at_key Less d)

  pub above_middle : r ≡ Greater → IsAboveAll k (take (m + 1) (entry_key_bytes ks))
  above_middle d = let one : suc m ≡ m + 1 = omega arith in
      subst (λ n. IsAboveAll k (take n (entry_key_bytes ks))) one (above_to k (entry_key_bytes ks) m (entry_key p) s (text_at ks m p h e) (compare_at_key Greater d))

  pub found_middle : r ≡ Equal → IsKeyIndex (entry_key_bytes ks) k m
  found_middle d = found_at k (entry_key_bytes ks) m (entry_key p) s (text_at ks m p h e) (compare_at_key Equal d)
