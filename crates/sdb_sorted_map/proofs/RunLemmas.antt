-- A key in runs: chunks, or groups of chunks.
use Rattle.std.proofs.Common.{◌≡◌, ℕ, zero, suc, ◌+◌, ◌<◌, ◌≤◌, List, [], ◌∷◌, ◌++◌, length, take, drop, refl, sym, ap, ◌∙◌, subst, arith, Some, None, slice_get, get_or, Bool, true, false, not, append_assoc, length-append}
use Rattle.std.proofs.Math.ListN.{take-append-drop}
use Rattle.std.proofs.lemmas.List.{take_more, drop_more}
use Rattle.std.specs.List.{AllByRecursion, flat_map}
use Rattle.std.specs.List.Sorted.{IsStrictlySortedBy}
use Rattle.std.specs.Ordering.{is_lt}
use Rattle.std.specs.declared.cmp.Ordering.{Ordering}
use Rattle.std.specs.declared.cmp.Ordering.TheVariants.{Less, Equal, Greater}
use Rattle.std.specs.Cmp.{IsTotalOrder}
use Rattle.std.proofs.lemmas.Cmp.{nat_list_cmp_total}
use Rattle.std.proofs.lemmas.Map.Lookups.{exact_bytes}
use Rattle.sdb_sorted_map.specs.KeyOrder.{compare_bytes, IsAscending, IsAboveAll, IsBelowAll, IsKeyIndex, IsInsertIndex}
use Rattle.sdb_sorted_map.specs.SearchModel.{keys_of_first_runs, keys_of_other_runs, first_key_above, first_key_at_most}
use Rattle.sdb_sorted_map.proofs.OrderLemmas.{below_along, less_back, greater_back}

bytes_order : IsTotalOrder compare_bytes
bytes_order = nat_list_cmp_total

-- ---- the texts before a run, its own, and those after it

pub append_none : {X : Type 0} (xs : List X) → xs ++ [] ≡ xs
append_none [] = refl
append_none (x ∷ xs) = ap (λ l. x ∷ l) (append_none xs)

flat_append : {X Y : Type 0} (t : X → List Y) (ps qs : List X) → flat_map t (ps ++ qs) ≡ flat_map t ps ++ flat_map t qs
flat_append t [] qs = refl
flat_append t (p ∷ ps) qs = ap (λ l. t p ++ l) (flat_append t ps qs) ∙ sym (append_assoc (t p) (flat_map t ps) (flat_map t qs))

pub flat_more : {X Y : Type 0} (t : X → List Y) (ps : List X) (p : X) → flat_map t (ps ++ p ∷ []) ≡ flat_map t ps ++ t p
flat_more t ps p = flat_append t ps (p ∷ []) ∙ ap (λ l. flat_map t ps ++ l) (append_none (t p))

module _ {P : Type 0} (t : P → List (List ℕ)) where
  pub keys_split_at : (ps : List P) (e : ℕ) → flat_map t ps ≡ keys_of_first_runs t ps e ++ keys_of_other_runs t ps e
  keys_split_at ps e = ap (flat_map t) (sym (take-append-drop e ps)) ∙ flat_append t (take e ps) (drop e ps)

  module _ (ps : List P) (e : ℕ) (p : P) (w : e < length ps) (h : p ≡ get_or ps e p) where
    pub other_keys_cons : keys_of_other_runs t ps e ≡ t p ++ keys_of_other_runs t ps (e + 1)
    other_keys_cons = ap (flat_map t) (drop_more ps e p w) ∙ ap (λ q. t q ++ keys_of_other_runs t ps (e + 1)) (sym h)

    pub first_keys_append : keys_of_first_runs t ps (e + 1) ≡ keys_of_first_runs t ps e ++ t p
    first_keys_append = ap (flat_map t) (take_more ps e p w) ∙ flat_more t (take e ps) (get_or ps e p) ∙ ap (λ q. keys_of_first_runs t ps e ++ t q) (sym h)

    pub keys_split_around : flat_map t ps ≡ keys_of_first_runs t ps e ++ (t p ++ keys_of_other_runs t ps (e + 1))
    keys_split_around = keys_split_at ps e ∙ ap (λ r. keys_of_first_runs t ps e ++ r) other_keys_cons

    pub length_more : length (keys_of_first_runs t ps e) + length (t p) ≡ length (keys_of_first_runs t ps (e + 1))
    length_more = sym (ap length first_keys_append ∙ length-append (keys_of_first_runs t ps e) (t p))

    pub length_to : length (keys_of_first_runs t ps e) + length (t p) ≤ length (flat_map t ps)
    length_to = omega (arith, ap length keys_split_around, length-append (keys_of_first_runs t ps e) (t p ++ keys_of_other_runs t ps (e + 1)), length-append (t p) (keys_of_other_runs t ps (e + 1)))

-- ---- sorted texts after others

ascending_after : (fs gs : List (List ℕ)) → IsAscending (fs ++ gs) → IsAscending gs
unfolding IsStrictlySortedBy
ascending_after [] gs s = s
ascending_after (f ∷ fs) gs s = ascending_after fs gs s.1

ascending_prefix : (fs gs : List (List ℕ)) → IsAscending (fs ++ gs) → IsAscending fs
unfolding IsStrictlySortedBy
ascending_prefix [] gs s = tt
ascending_prefix (f ∷ fs) gs s = (all_prefix (λ t. compare_bytes f t ≡ Less) fs gs s.0, ascending_prefix fs gs s.1)
  where
    all_prefix : (P : List ℕ → Type 0) (xs ys : List (List ℕ)) → AllByRecursion P (xs ++ ys) → AllByRecursion P xs
    all_prefix P [] ys a = tt
    all_prefix P (x ∷ xs) ys a = (a.0, all_prefix P xs ys a.1)

is_less : (o : Ordering) → is_lt o ≡ true → o ≡ Less
is_less Less e = refl
is_less Equal e = cc
is_less Greater e = cc

not_false : (b : Bool) → not b ≡ false → b ≡ true
not_false true e = refl
not_false false e = cc

below_start : (k : List ℕ) (xs rs : List (List ℕ)) → IsAscending (xs ++ rs) → first_key_above k (slice_get xs 0) ≡ true → IsBelowAll k (xs ++ rs)
unfolding IsStrictlySortedBy
below_start k [] rs s e = cc
below_start k (x ∷ xs) rs s e =
    let h : compare_bytes k x ≡ Less = is_less (compare_bytes k x) e in
    (h, below_along k x (xs ++ rs) h s.0)

below_no_start : (k : List ℕ) (xs rs : List (List ℕ)) → IsAscending (xs ++ rs) → first_key_at_most k (slice_get xs 0) ≡ false → IsBelowAll k rs → IsBelowAll k (xs ++ rs)
below_no_start k [] rs s e b = b
below_no_start k (x ∷ xs) rs s e b = below_start k (x ∷ xs) rs s (not_false (is_lt (compare_bytes k x)) e)

less_prefix : (f t : List ℕ) (fs gs : List (List ℕ)) → IsBelowAll f (fs ++ (t ∷ gs)) → compare_bytes f t ≡ Less
less_prefix f t [] gs b = b.0
less_prefix f t (x ∷ fs) gs b = less_prefix f t fs gs b.1

-- a text less than t is less than k
above_upto : (k t f : List ℕ) (o : Ordering) → compare_bytes k t ≡ o → not (is_lt o) ≡ true → compare_bytes f t ≡ Less → compare_bytes k f ≡ Greater
above_upto k t f Less c e h = cc
above_upto k t f Equal c e h = let same : k ≡ t = exact_bytes k t c in less_back f k (ap (compare_bytes f) same ∙ h)
above_upto k t f Greater c e h = less_back f k (bytes_order.trans f t k h (greater_back k t c))

above_prefix : (k t : List ℕ) (fs gs : List (List ℕ)) → IsAscending (fs ++ (t ∷ gs)) → not (is_lt (compare_bytes k t)) ≡ true → IsAboveAll k fs
unfolding IsStrictlySortedBy
above_prefix k t [] gs s e = tt
above_prefix k t (f ∷ fs) gs s e = (above_upto k t f (compare_bytes k t) refl e (less_prefix f t fs gs s.0), above_prefix k t fs gs s.1 e)

above_start : (k : List ℕ) (fs xs rs : List (List ℕ)) → IsAscending (fs ++ (xs ++ rs)) → first_key_at_most k (slice_get xs 0) ≡ true → IsAboveAll k fs
above_start k fs [] rs s e = cc
above_start k fs (x ∷ xs) rs s e = above_prefix k x fs (xs ++ rs) s e

module _ {P : Type 0} (t : P → List (List ℕ)) (ps : List P) (e : ℕ) (p : P) (w : e < length ps) (h : p ≡ get_or ps e p) (s : IsAscending (flat_map t ps)) where
  ordered_thirds : IsAscending (keys_of_first_runs t ps e ++ (t p ++ keys_of_other_runs t ps (e + 1)))
  ordered_thirds = subst IsAscending (keys_split_around t ps e p w h) s

  run_ascending : IsAscending (t p ++ keys_of_other_runs t ps (e + 1))
  run_ascending = ascending_after (keys_of_first_runs t ps e) (t p ++ keys_of_other_runs t ps (e + 1)) ordered_thirds

  pub ascending_part : IsAscending (t p)
  ascending_part = ascending_prefix (t p) (keys_of_other_runs t ps (e + 1)) run_ascending

  -- the run begins above the key
  pub below_part : (k : List ℕ) → first_key_above k (slice_get (t p) 0) ≡ true → IsBelowAll k (keys_of_other_runs t ps e)
  below_part k a = subst (IsBelowAll k) (sym (other_keys_cons t ps e p w h)) (below_start k (t p) (keys_of_other_runs t ps (e + 1)) run_ascending a)

  -- the run begins above the key or is empty
  pub below_or_none : (k : List ℕ) → first_key_at_most k (slice_get (t p) 0) ≡ false → IsBelowAll k (keys_of_other_runs t ps (e + 1)) → IsBelowAll k (keys_of_other_runs t ps e)
  below_or_none k a b = subst (IsBelowAll k) (sym (other_keys_cons t ps e p w h)) (below_no_start k (t p) (keys_of_other_runs t ps (e + 1)) run_ascending a b)

  -- the run begins with the key or below it
  pub above_parts : (k : List ℕ) → first_key_at_most k (slice_get (t p) 0) ≡ true → IsAboveAll k (keys_of_first_runs t ps e)
  above_parts k a = above_start k (keys_of_first_runs t ps e) (t p) (keys_of_other_runs t ps (e + 1)) ordered_thirds a

-- ---- the index in a run, and the index in all

all_joined : (P : List ℕ → Type 0) (xs ys : List (List ℕ)) → AllByRecursion P xs → AllByRecursion P ys → AllByRecursion P (xs ++ ys)
all_joined P [] ys a b = b
all_joined P (x ∷ xs) ys a b = (a.0, all_joined P xs ys a.1 b)

get_prefix : (xs rs : List (List ℕ)) (i : ℕ) (k : List ℕ) → slice_get xs i ≡ Some k → slice_get (xs ++ rs) i ≡ Some k
get_prefix [] rs i k e = cc
get_prefix (x ∷ xs) rs zero k e = e
get_prefix (x ∷ xs) rs (suc i) k e = get_prefix xs rs i k e

get_inside : (fs xs rs : List (List ℕ)) (i n : ℕ) (k : List ℕ) → n ≡ length fs + i → slice_get xs i ≡ Some k → slice_get (fs ++ (xs ++ rs)) n ≡ Some k
get_inside [] xs rs i n k w e = let s : i ≡ n = omega (arith, w) in subst (λ m. slice_get (xs ++ rs) m ≡ Some k) s (get_prefix xs rs i k e)
get_inside (f ∷ fs) xs rs i zero k w e = absurd (omega (arith, w))
get_inside (f ∷ fs) xs rs i (suc n) k w e = get_inside fs xs rs i n k (omega (arith, w)) e

get_within : (xs : List (List ℕ)) (i : ℕ) (k : List ℕ) → slice_get xs i ≡ Some k → i < length xs
get_within [] i k e = cc
get_within (x ∷ xs) zero k e = omega arith
get_within (x ∷ xs) (suc i) k e = let w = get_within xs i k e in omega (arith, w)

module _ (P : List ℕ → Type 0) where
  taken_prefix : (xs rs : List (List ℕ)) (i : ℕ) → i ≤ length xs → AllByRecursion P (take i xs) → AllByRecursion P (take i (xs ++ rs))
  taken_prefix [] [] zero w b = tt
  taken_prefix [] (r ∷ rs) zero w b = tt
  taken_prefix [] rs (suc i) w b = absurd (omega (arith, w))
  taken_prefix (x ∷ xs) rs zero w b = tt
  taken_prefix (x ∷ xs) rs (suc i) w b = (b.0, taken_prefix xs rs i (omega (arith, w)) b.1)

  taken_all : (fs xs rs : List (List ℕ)) (i n : ℕ) → n ≡ length fs + i → i ≤ length xs → AllByRecursion P fs → AllByRecursion P (take i xs)
      → AllByRecursion P (take n (fs ++ (xs ++ rs)))
  taken_all [] xs rs i n e w a b = let s : i ≡ n = omega (arith, e) in subst (λ m. AllByRecursion P (take m (xs ++ rs))) s (taken_prefix xs rs i w b)
  taken_all (f ∷ fs) xs rs i zero e w a b = absurd (omega (arith, e))
  taken_all (f ∷ fs) xs rs i (suc n) e w a b = (a.0, taken_all fs xs rs i n (omega (arith, e)) w a.1 b)

  left_prefix : (xs rs : List (List ℕ)) (i : ℕ) → i ≤ length xs → AllByRecursion P (drop i xs) → AllByRecursion P rs → AllByRecursion P (drop i (xs ++ rs))
  left_prefix [] [] zero w b c = c
  left_prefix [] (r ∷ rs) zero w b c = c
  left_prefix [] rs (suc i) w b c = absurd (omega (arith, w))
  left_prefix (x ∷ xs) rs zero w b c = all_joined P (x ∷ xs) rs b c
  left_prefix (x ∷ xs) rs (suc i) w b c = left_prefix xs rs i (omega (arith, w)) b c

  left_all : (fs xs rs : List (List ℕ)) (i n : ℕ) → n ≡ length fs + i → i ≤ length xs → AllByRecursion P (drop i xs) → AllByRecursion P rs
      → AllByRecursion P (drop n (fs ++ (xs ++ rs)))
  left_all [] xs rs i n e w b c = let s : i ≡ n = omega (arith, e) in subst (λ m. AllByRecursion P (drop m (xs ++ rs))) s (left_prefix xs rs i w b c)
  left_all (f ∷ fs) xs rs i zero e w b c = absurd (omega (arith, e))
  left_all (f ∷ fs) xs rs i (suc n) e w b c = left_all fs xs rs i n (omega (arith, e)) w b c

place_found : (k : List ℕ) (fs xs rs : List (List ℕ)) (i n : ℕ) → n ≡ length fs + i → IsAboveAll k fs → IsKeyIndex xs k i → IsKeyIndex (fs ++ (xs ++ rs)) k n
place_found k fs xs rs i n e a g =
    let within : i < length xs = get_within xs i k g.key_at_index in
    record {
      key_at_index = get_inside fs xs rs i n k e g.key_at_index;
      above_all_before = taken_all (λ t. compare_bytes k t ≡ Greater) fs xs rs i n e (omega (arith, within)) a g.above_all_before;
    }

place_gap : (k : List ℕ) (fs xs rs : List (List ℕ)) (i n : ℕ) → n ≡ length fs + i → IsAboveAll k fs → IsInsertIndex xs k i → IsBelowAll k rs → IsInsertIndex (fs ++ (xs ++ rs)) k n
place_gap k fs xs rs i n e a g b = record {
  in_range = omega (arith, e, g.in_range, length-append fs (xs ++ rs), length-append xs rs);
  above_all_before = taken_all (λ t. compare_bytes k t ≡ Greater) fs xs rs i n e g.in_range a g.above_all_before;
  below = left_all (λ t. compare_bytes k t ≡ Less) fs xs rs i n e g.in_range g.below b;
}

module _ {P : Type 0} (t : P → List (List ℕ)) (ps : List P) (e : ℕ) (p : P) (w : e < length ps) (h : p ≡ get_or ps e p) (k : List ℕ) where
  pub found_in_part : (i n : ℕ) → n ≡ length (keys_of_first_runs t ps e) + i → IsAboveAll k (keys_of_first_runs t ps e) → IsKeyIndex (t p) k i → IsKeyIndex (flat_map t ps) k n
  found_in_part i n m a g =
      subst (λ ts. IsKeyIndex ts k n) (sym (keys_split_around t ps e p w h)) (place_found k (keys_of_first_runs t ps e) (t p) (keys_of_other_runs t ps (e + 1)) i n m a g)

  pub gap_in_part : (i n : ℕ) → n ≡ length (keys_of_first_runs t ps e) + i → IsAboveAll k (keys_of_first_runs t ps e) → IsInsertIndex (t p) k i
      → IsBelowAll k (keys_of_other_runs t ps (e + 1)) → IsInsertIndex (flat_map t ps) k n
  gap_in_part i n m a g b =
      subst (λ ts. IsInsertIndex ts k n) (sym (keys_split_around t ps e p w h)) (place_gap k (keys_of_first_runs t ps e) (t p) (keys_of_other_runs t ps (e + 1)) i n m a g b)

pub found_within : (ts : List (List ℕ)) (k : List ℕ) (i : ℕ) → IsKeyIndex ts k i → i < length ts
found_within ts k i g = get_within ts i k g.key_at_index

-- a key less than all
pub gap_first : (k : List ℕ) (ts : List (List ℕ)) → IsBelowAll k ts → IsInsertIndex ts k 0
gap_first k [] b = record { in_range = omega arith; above_all_before = tt; below = b }
gap_first k (t ∷ ts) b = record { in_range = omega arith; above_all_before = tt; below = b }

-- the first text of all, if there are none before the run
pub first_text : {P : Type 0} (t : P → List (List ℕ)) (ps : List P) (e : ℕ) (p : P) (x : List ℕ) → e < length ps → p ≡ get_or ps e p
    → keys_of_first_runs t ps e ≡ [] → slice_get (t p) 0 ≡ Some x → slice_get (flat_map t ps) 0 ≡ Some x
first_text t ps e p x w h none is =
    ap (λ l. slice_get l 0) (keys_split_around t ps e p w h ∙ ap (λ l. l ++ (t p ++ keys_of_other_runs t ps (e + 1))) none) ∙ get_prefix (t p) (keys_of_other_runs t ps (e + 1)) 0 x is

pub no_text : (ts : List (List ℕ)) → slice_get ts 0 ≡ None → ts ≡ []
no_text [] e = refl
no_text (t ∷ ts) e = cc
