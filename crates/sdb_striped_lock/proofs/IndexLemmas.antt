-- Items that are set at an index of a list, or appended.
use Rattle.std.proofs.Common.{◌≡◌, ◌≢◌, ℕ, zero, suc, Result, Ok, Err, IfOk, ◌+◌, ◌<◌, ◌≤◌, ◌⊎◌, inl, inr, true, false, nat_eq, List, [], ◌∷◌, ◌++◌, length, length-append, append-nil, slice_index_or, slice_set, sym, ap, ◌∙◌, subst, arith}
use Rattle.std.proofs.Math.Seq.{get_or-append_seam}
use Rattle.std.proofs.lemmas.Bool.Decides.{eqb_tells}
use Rattle.std.proofs.lemmas.List.{get_or_default, get_or-set_same, get_or-set_other, get_or_append_left}
use Rattle.sdb_growlock.specs.LockRule.{ForEach}
use Rattle.sdb_striped_lock.specs.AtIndex.{AtEachIndex}

-- the item at an index, for any default
pub get_or_is : {A : Type 0} (xs : List A) (i : ℕ) (x d : A) → i < length xs → x ≡ slice_index_or xs i x → slice_index_or xs i d ≡ x
get_or_is xs i x d lt is = get_or_default xs i d x lt ∙ sym is

module _ {A : Type 0} (P : ℕ → A → Type 0) where
  -- a property of each item from index n up to, and without, m
  abbrev pub AtEachItem : List A → ℕ → ℕ → Type 0
  AtEachItem xs n m = (i : ℕ) (x : A) → n ≤ i → i < m → P i (slice_index_or xs i x)

  get_or_set : (xs : List A) (n m i : ℕ) (t : A) (j : ℕ) (x : A) → ((nat_eq j i ≡ true) × (j ≡ i)) ⊎ ((nat_eq j i ≡ false) × (j ≡ i → ⊥)) → n ≤ j → j < m
      → i < length xs → (j ≡ i → ⊥ → P j (slice_index_or xs j x)) → ((j ≡ i → ⊥) → P j (slice_index_or xs j x)) → P i t → P j (slice_index_or (slice_set xs i t) j x)
  get_or_set xs n m i t j x (inl at) from below within same other here =
      subst (λ (k : ℕ). P k (slice_index_or (slice_set xs i t) k x)) (sym at.1) (subst (P i) (sym (get_or-set_same xs i t x within)) here)
  get_or_set xs n m i t j x (inr at) from below within same other here = subst (P j) (sym (get_or-set_other xs i j t x at.1)) (other at.1)

  -- an item that is set at i
  pub each_item_of_set : (xs : List A) (n m i : ℕ) (t : A) → i < length xs → ((j : ℕ) (x : A) → n ≤ j → j < m → j ≢ i → P j (slice_index_or xs j x)) → P i t → AtEachItem (slice_set xs i t) n m
  each_item_of_set xs n m i t within others here j x from below =
      get_or_set xs n m i t j x (eqb_tells j i) from below within (λ e no. absurd no) (λ ne. others j x from below ne) here

  get_or_push : (xs : List A) (m : ℕ) (t : A) (j : ℕ) (x : A) → ((nat_eq j m ≡ true) × (j ≡ m)) ⊎ ((nat_eq j m ≡ false) × (j ≡ m → ⊥)) → j < m + 1
      → length xs ≡ m → AtEachItem xs 0 m → P m t → P j (slice_index_or (xs ++ t ∷ []) j x)
  get_or_push xs m t j x (inl at) lt long h here =
      subst (P j) (sym (ap (λ (k : ℕ). slice_index_or (xs ++ t ∷ []) k x) (at.1 ∙ sym long) ∙ get_or-append_seam xs t [] x)) (subst (λ (k : ℕ). P k t) (sym at.1) here)
  get_or_push xs m t j x (inr at) lt long h here =
      let ne = at.1 in
      let below : j < m = omega (arith, lt, ne) in
      subst (P j) (sym (get_or_append_left xs (t ∷ []) x j (omega (arith, below, long)))) (h j x (omega arith) below)

  -- an item that is appended
  pub each_item_of_push : (xs : List A) (m : ℕ) (t : A) → length xs ≡ m → AtEachItem xs 0 m → P m t → AtEachItem (xs ++ t ∷ []) 0 (m + 1)
  each_item_of_push xs m t long h here j x from lt = get_or_push xs m t j x (eqb_tells j m) lt long h here

-- ---- a list whose last item was removed, and that began with the items of another

module _ {A : Type 0} (xs init orig : List A) (x : A) (e : xs ≡ init ++ x ∷ []) (same : (i : ℕ) (d : A) → i < length xs → slice_index_or xs i d ≡ slice_index_or orig i d) where
  pub length_of_pop : length xs ≡ length init + 1
  length_of_pop = ap length e ∙ length-append init (x ∷ [])

  pub last_of_pop : (d : A) → slice_index_or orig (length init) d ≡ x
  last_of_pop d =
      let n = length_of_pop in
      sym (same (length init) d (omega (arith, n))) ∙ ap (λ (l : List A). slice_index_or l (length init) d) e ∙ get_or-append_seam init x [] d

  pub get_or_pop : (i : ℕ) (d : A) → i < length init → slice_index_or init i d ≡ slice_index_or orig i d
  get_or_pop i d lt =
      let n = length_of_pop in
      sym (get_or_append_left init (x ∷ []) d i lt) ∙ ap (λ (l : List A). slice_index_or l i d) (sym e) ∙ same i d (omega (arith, n, lt))

-- a property of each item of a list, at the seam of two parts
pub for_each_at_seam : {A : Type 0} (P : A → Type 0) (xs ys : List A) (x : A) → ForEach P (xs ++ x ∷ ys) → P x
for_each_at_seam P [] ys x h = h.0
for_each_at_seam P (y ∷ xs) ys x h = for_each_at_seam P xs ys x h.1

-- a property of each item of a list, and of one that is appended
pub for_each_of_push : {A : Type 0} (P : A → Type 0) (xs : List A) (x : A) → ForEach P xs → P x → ForEach P (xs ++ x ∷ [])
for_each_of_push P [] x h here = (here, tt)
for_each_of_push P (y ∷ xs) x h here = (h.0, for_each_of_push P xs x h.1 here)

pub for_each_mono : {A : Type 0} (P Q : A → Type 0) → ((x : A) → P x → Q x) → (xs : List A) → ForEach P xs → ForEach Q xs
for_each_mono P Q f [] h = tt
for_each_mono P Q f (x ∷ xs) h = (f x h.0, for_each_mono P Q f xs h.1)

pub for_each_at : {A : Type 0} (P : A → Type 0) (xs : List A) (i : ℕ) (d : A) → i < length xs → ForEach P xs → P (slice_index_or xs i d)
for_each_at P [] i d lt h = absurd (omega (arith, lt))
for_each_at P (x ∷ xs) zero d lt h = h.0
for_each_at P (x ∷ xs) (suc i) d lt h = for_each_at P xs i d (omega (arith, lt)) h.1

pub if_ok_mono : {A E : Type 0} {P Q : A → Type 0} (r : Result A E) → ((x : A) → P x → Q x) → IfOk r P → IfOk r Q
if_ok_mono (Ok x) f h = f x h
if_ok_mono (Err e) f h = tt

-- a list that was read to its end
pub all_of_done : {A : Type 0} (done rest all : List A) → done ++ rest ≡ all → length rest ≡ 0 → done ≡ all
all_of_done done [] all e none = sym (append-nil done) ∙ e
all_of_done done (x ∷ rest) all e none = absurd (omega (arith, none))

-- two items that are appended to two lists of one length
pub at_each_of_push : {A B : Type 0} (P : A → B → Type 0) (xs : List A) (ys : List B) (m : ℕ) (x : A) (y : B) → length xs ≡ m → length ys ≡ m → AtEachIndex P xs ys 0 m → P x y
    → AtEachIndex P (xs ++ x ∷ []) (ys ++ y ∷ []) 0 (m + 1)
at_each_of_push P xs ys m x y long_xs long_ys h here i s d from lt =
    let Q : ℕ → _ → Type 0 = λ i t. (d : _) → P t (slice_index_or (ys ++ y ∷ []) i d) in
    each_item_of_push Q xs m x long_xs
    (λ i s from lt d. subst (P (slice_index_or xs i s)) (sym (get_or_append_left ys (y ∷ []) d i (omega (arith, lt, long_ys)))) (h i s d from lt))
    (λ d. subst (P x) (sym (ap (λ (k : ℕ). slice_index_or (ys ++ y ∷ []) k d) (sym long_ys) ∙ get_or-append_seam ys y [] d)) here) i s from lt d
