-- The position of a key in sorted texts, and in a map.
use Rattle.std.proofs.Common.{◌≡◌, ℕ, zero, suc, ◌<◌, ◌≤◌, List, [], ◌∷◌, length, take, drop, refl, sym, ap, ◌∙◌, arith, Some, slice_get, slice_set, cond}
use Rattle.std.specs.List.{insert, remove}
use Rattle.std.specs.List.Sorted.{IsStrictlySortedBy}
use Rattle.std.specs.Ordering.{is_eq, ordering_reverse, match_ordering}
use Rattle.std.specs.declared.cmp.Ordering.TheVariants.{Less, Equal, Greater}
use Rattle.std.specs.Map.{remove_entry}
use Rattle.std.specs.BTreeMap.{insert_entry, is_at}
use Rattle.std.specs.Cmp.{IsTotalOrder}
use Rattle.std.proofs.lemmas.Cmp.{nat_list_cmp_total}
use Rattle.std.proofs.lemmas.Map.Lookups.{exact_bytes}
use Rattle.sdb_sorted_map.specs.laws.SortedMapLaws.{compare_equal}
use Rattle.sdb_sorted_map.specs.SortedMap.{entry_keys}
use Rattle.sdb_sorted_map.specs.KeyOrder.{compare_bytes, IsAscending, IsAboveAll, IsBelowAll, IsInsertIndex, IsKeyIndex}

bytes_order : IsTotalOrder compare_bytes
bytes_order = nat_list_cmp_total

pub less_back : (x y : List ℕ) → compare_bytes x y ≡ Less → compare_bytes y x ≡ Greater
less_back x y e = bytes_order.antisymm y x ∙ ap ordering_reverse e

pub greater_back : (x y : List ℕ) → compare_bytes x y ≡ Greater → compare_bytes y x ≡ Less
greater_back x y e = bytes_order.antisymm y x ∙ ap ordering_reverse e

-- ---- sorted texts

pub below_along : (k t : List ℕ) (ts : List (List ℕ)) → compare_bytes k t ≡ Less → IsBelowAll t ts → IsBelowAll k ts
below_along k t [] e b = tt
below_along k t (x ∷ xs) e b = (bytes_order.trans k t x e b.0, below_along k t xs e b.1)

pub below_from : (k : List ℕ) (ts : List (List ℕ)) (i : ℕ) (t : List ℕ) → IsAscending ts → slice_get ts i ≡ Some t → compare_bytes k t ≡ Less
    → IsBelowAll k (drop i ts)
unfolding IsStrictlySortedBy
below_from k [] i t s e h = cc
below_from k (x ∷ xs) zero t s e h = let is : x ≡ t = cc in let h' : compare_bytes k x ≡ Less = ap (compare_bytes k) is ∙ h in (h', below_along k x xs h' s.0)
below_from k (x ∷ xs) (suc i) t s e h = below_from k xs i t s.1 e h

less_at : (t : List ℕ) (ts : List (List ℕ)) (i : ℕ) (u : List ℕ) → IsBelowAll t ts → slice_get ts i ≡ Some u → compare_bytes t u ≡ Less
less_at t [] i u b e = cc
less_at t (x ∷ xs) zero u b e = let is : x ≡ u = cc in ap (compare_bytes t) (sym is) ∙ b.0
less_at t (x ∷ xs) (suc i) u b e = less_at t xs i u b.1 e

pub above_to : (k : List ℕ) (ts : List (List ℕ)) (i : ℕ) (t : List ℕ) → IsAscending ts → slice_get ts i ≡ Some t → compare_bytes k t ≡ Greater
    → IsAboveAll k (take (suc i) ts)
unfolding IsStrictlySortedBy
above_to k [] i t s e h = cc
above_to k (x ∷ xs) zero t s e h = let is : x ≡ t = cc in (ap (compare_bytes k) is ∙ h, tt)
above_to k (x ∷ xs) (suc i) t s e h =
    (less_back x k (bytes_order.trans x t k (less_at x xs i t s.0 e) (greater_back k t h)), above_to k xs i t s.1 e h)

above_before : (k : List ℕ) (ts : List (List ℕ)) (i : ℕ) → IsAscending ts → slice_get ts i ≡ Some k → IsAboveAll k (take i ts)
unfolding IsStrictlySortedBy
above_before k [] i s e = cc
above_before k (x ∷ xs) zero s e = tt
above_before k (x ∷ xs) (suc i) s e = (less_back x k (less_at x xs i k s.0 e), above_before k xs i s.1 e)

pub found_at : (k : List ℕ) (ts : List (List ℕ)) (i : ℕ) (t : List ℕ) → IsAscending ts → slice_get ts i ≡ Some t → compare_bytes k t ≡ Equal → IsKeyIndex ts k i
found_at k ts i t s e h =
    let is : slice_get ts i ≡ Some k = e ∙ ap (λ x. Some x) (sym (exact_bytes k t h)) in
    record { key_at_index = is; above_all_before = above_before k ts i s is }

below_put : (t : List ℕ) (ts : List (List ℕ)) (i : ℕ) (k : List ℕ) → i ≤ length ts → IsBelowAll t ts → compare_bytes t k ≡ Less → IsBelowAll t (insert ts i k)
below_put t [] zero k w b h = (h, tt)
below_put t [] (suc i) k w b h = absurd (omega (arith, w))
below_put t (x ∷ xs) zero k w b h = (h, b)
below_put t (x ∷ xs) (suc i) k w b h = (b.0, below_put t xs i k (omega (arith, w)) b.1 h)

put_gap : (k : List ℕ) (ts : List (List ℕ)) (i : ℕ) → i ≤ length ts → IsAscending ts → IsAboveAll k (take i ts) → IsBelowAll k (drop i ts) → IsAscending (insert ts i k)
unfolding IsStrictlySortedBy
put_gap k [] zero w s a b = (tt, tt)
put_gap k [] (suc i) w s a b = absurd (omega (arith, w))
put_gap k (x ∷ xs) zero w s a b = (b, s)
put_gap k (x ∷ xs) (suc i) w s a b =
    (below_put x xs i k (omega (arith, w)) s.0 (greater_back k x a.0), put_gap k xs i (omega (arith, w)) s.1 a.1 b)

pub ascending_put : (k : List ℕ) (ts : List (List ℕ)) (i : ℕ) → IsAscending ts → IsInsertIndex ts k i → IsAscending (insert ts i k)
ascending_put k ts i s g = put_gap k ts i g.in_range s g.above_all_before g.below

below_taken : (t : List ℕ) (ts : List (List ℕ)) (i : ℕ) → IsBelowAll t ts → IsBelowAll t (remove ts i)
below_taken t [] zero b = tt
below_taken t [] (suc i) b = tt
below_taken t (x ∷ xs) zero b = b.1
below_taken t (x ∷ xs) (suc i) b = (b.0, below_taken t xs i b.1)

pub ascending_taken : (ts : List (List ℕ)) (i : ℕ) → IsAscending ts → IsAscending (remove ts i)
unfolding IsStrictlySortedBy
ascending_taken [] zero s = tt
ascending_taken [] (suc i) s = tt
ascending_taken (x ∷ xs) zero s = s.1
ascending_taken (x ∷ xs) (suc i) s = (below_taken x xs i s.0, ascending_taken xs i s.1)

-- ---- the map of entries

module _ {X : Type 0} (k : List ℕ) where
  found_put : (es : List (List ℕ × X)) (i : ℕ) (v : X) → slice_get (entry_keys es) i ≡ Some k → IsAboveAll k (take i (entry_keys es))
      → insert_entry compare_bytes es k v ≡ slice_set es i (k, v)
  found_put [] i v e a = cc
  found_put (d ∷ es) zero v e a = let is : d.0 ≡ k = cc in
      ap (λ o. match_ordering o ((k, v) ∷ d ∷ es) ((d.0, v) ∷ es) (d ∷ insert_entry compare_bytes es k v)) (compare_equal k d.0 is) ∙ ap (λ t. (t, v) ∷ es) is
  found_put (d ∷ es) (suc i) v e a =
      ap (λ o. match_ordering o ((k, v) ∷ d ∷ es) ((d.0, v) ∷ es) (d ∷ insert_entry compare_bytes es k v)) a.0
      ∙ ap (λ l. d ∷ l) (found_put es i v e a.1)

  pub found_insert : (es : List (List ℕ × X)) (i : ℕ) (v : X) → IsKeyIndex (entry_keys es) k i → insert_entry compare_bytes es k v ≡ slice_set es i (k, v)
  found_insert es i v f = found_put es i v f.key_at_index f.above_all_before

  found_taken : (es : List (List ℕ × X)) (i : ℕ) → slice_get (entry_keys es) i ≡ Some k → IsAboveAll k (take i (entry_keys es))
      → remove_entry (is_at (compare_bytes k)) es ≡ remove es i
  found_taken [] i e a = cc
  found_taken (d ∷ es) zero e a = let is : d.0 ≡ k = cc in
      ap (λ o. cond (is_eq o) es (d ∷ remove_entry (is_at (compare_bytes k)) es)) (compare_equal k d.0 is)
  found_taken (d ∷ es) (suc i) e a =
      ap (λ o. cond (is_eq o) es (d ∷ remove_entry (is_at (compare_bytes k)) es)) a.0 ∙ ap (λ l. d ∷ l) (found_taken es i e a.1)

  pub found_remove : (es : List (List ℕ × X)) (i : ℕ) → IsKeyIndex (entry_keys es) k i → remove_entry (is_at (compare_bytes k)) es ≡ remove es i
  found_remove es i f = found_taken es i f.key_at_index f.above_all_before

  -- a key that is absent
  unchanged_below : (es : List (List ℕ × X)) → IsBelowAll k (entry_keys es) → remove_entry (is_at (compare_bytes k)) es ≡ es
  unchanged_below [] b = refl
  unchanged_below (d ∷ es) b =
      ap (λ o. cond (is_eq o) es (d ∷ remove_entry (is_at (compare_bytes k)) es)) b.0 ∙ ap (λ l. d ∷ l) (unchanged_below es b.1)

  unchanged_at : (es : List (List ℕ × X)) (i : ℕ) → IsAboveAll k (take i (entry_keys es)) → IsBelowAll k (drop i (entry_keys es))
      → remove_entry (is_at (compare_bytes k)) es ≡ es
  unchanged_at [] i a b = refl
  unchanged_at (d ∷ es) zero a b = unchanged_below (d ∷ es) b
  unchanged_at (d ∷ es) (suc i) a b =
      ap (λ o. cond (is_eq o) es (d ∷ remove_entry (is_at (compare_bytes k)) es)) a.0 ∙ ap (λ l. d ∷ l) (unchanged_at es i a.1 b)

  pub gap_remove : (es : List (List ℕ × X)) (i : ℕ) → IsInsertIndex (entry_keys es) k i → remove_entry (is_at (compare_bytes k)) es ≡ es
  gap_remove es i g = unchanged_at es i g.above_all_before g.below

  put_at : (es : List (List ℕ × X)) (i : ℕ) (v : X) → i ≤ length (entry_keys es) → IsAboveAll k (take i (entry_keys es)) → IsBelowAll k (drop i (entry_keys es))
      → insert_entry compare_bytes es k v ≡ insert es i (k, v)
  put_at [] zero v n a b = refl
  put_at [] (suc i) v n a b = absurd (omega (arith, n))
  put_at (d ∷ es) zero v n a b =
      ap (λ o. match_ordering o ((k, v) ∷ d ∷ es) ((d.0, v) ∷ es) (d ∷ insert_entry compare_bytes es k v)) b.0
  put_at (d ∷ es) (suc i) v n a b =
      ap (λ o. match_ordering o ((k, v) ∷ d ∷ es) ((d.0, v) ∷ es) (d ∷ insert_entry compare_bytes es k v)) a.0
      ∙ ap (λ l. d ∷ l) (put_at es i v (omega (arith, n)) a.1 b)

  pub gap_insert : (es : List (List ℕ × X)) (i : ℕ) (v : X) → IsInsertIndex (entry_keys es) k i → insert_entry compare_bytes es k v ≡ insert es i (k, v)
  gap_insert es i v g = put_at es i v g.in_range g.above_all_before g.below

pub no_texts : IsAscending []
unfolding IsStrictlySortedBy
no_texts = tt
