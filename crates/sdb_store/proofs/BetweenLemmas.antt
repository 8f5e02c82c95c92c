-- Items that a list has between two places.
use Rattle.std.proofs.Common.{◌≡◌, ◌⊎◌, true, false, nat_eq, ℕ, zero, suc, ◌+◌, ◌<◌, ◌≤◌, List, [], ◌∷◌, ◌++◌, length, slice_get, slice_index_or, slice_set, Option, Some, Ok, Err, inl, inr, refl, sym, ap, ◌∙◌, arith}
use Rattle.std.specs.Prelude.{take, drop, unwrap_or, Result, IfOk, OnOk, OnErr}
use Rattle.std.proofs.lemmas.Bool.Decides.{eqb_tells}
use Rattle.sdb_dump.specs.StoreMachine.{IsIn}

module _ {A : Type 0} (x : A) where
  pub in_take : (n : ℕ) (xs : List A) → IsIn x (take n xs) → IsIn x xs
  in_take zero xs h = absurd h
  in_take (suc n) [] h = h
  in_take (suc n) (y ∷ xs) (inl e) = inl e
  in_take (suc n) (y ∷ xs) (inr h) = inr (in_take n xs h)

  pub in_drop : (n : ℕ) (xs : List A) → IsIn x (drop n xs) → IsIn x xs
  in_drop zero xs h = h
  in_drop (suc n) [] h = h
  in_drop (suc n) (y ∷ xs) h = inr (in_drop n xs h)

  pub in_append : (xs ys : List A) → IsIn x xs → IsIn x (xs ++ ys)
  in_append [] ys h = absurd h
  in_append (y ∷ xs) ys (inl e) = inl e
  in_append (y ∷ xs) ys (inr h) = inr (in_append xs ys h)

  pub last_in : (xs : List A) → IsIn x (xs ++ x ∷ [])
  last_in [] = inl refl
  last_in (y ∷ xs) = inr (last_in xs)

  pub head_in : (xs : List A) → 0 < length xs → x ≡ slice_index_or xs 0 x → IsIn x xs
  head_in [] lt e = absurd (omega (arith, lt))
  head_in (y ∷ ys) lt e = inl e

  -- an item that was set at an index
  pub set_in : (xs : List A) (i : ℕ) → i < length xs → IsIn x (slice_set xs i x)
  set_in [] i lt = absurd (omega (arith, lt))
  set_in (y ∷ ys) zero lt = inl refl
  set_in (y ∷ ys) (suc i) lt = inr (set_in ys i (omega (arith, lt)))

module _ {A : Type 0} where
  -- the items from an index on
  pub drop_at : (n : ℕ) (xs : List A) (x : A) → slice_get xs n ≡ Some x → drop n xs ≡ x ∷ drop (suc n) xs
  drop_at zero [] x e = absurd (cc)
  drop_at zero (y ∷ xs) x e = ap (λ (o : Option A). unwrap_or o y ∷ xs) e
  drop_at (suc n) [] x e = absurd (cc)
  drop_at (suc n) (y ∷ xs) x e = drop_at n xs x e

  pub drop_all : (n : ℕ) (xs : List A) → length xs ≤ n → drop n xs ≡ []
  drop_all zero [] le = refl
  drop_all zero (y ∷ xs) le = absurd (omega (arith, le))
  drop_all (suc n) [] le = refl
  drop_all (suc n) (y ∷ xs) le = drop_all n xs (omega (arith, le))

  head_get : (xs : List A) (x : A) → 0 < length xs → x ≡ slice_index_or xs 0 x → slice_get xs 0 ≡ Some x
  head_get [] x lt e = absurd (omega (arith, lt))
  head_get (y ∷ ys) x lt e = ap Some (sym e)

  pub get_is : (n : ℕ) (xs : List A) (x : A) → n < length xs → x ≡ slice_index_or xs n x → slice_get xs n ≡ Some x
  get_is n [] x lt e = absurd (omega (arith, lt))
  get_is zero (y ∷ xs) x lt e = ap Some (sym e)
  get_is (suc n) (y ∷ xs) x lt e = get_is n xs x (omega (arith, lt)) e

  drop_get : (n : ℕ) (xs : List A) → slice_get (drop n xs) 0 ≡ slice_get xs n
  drop_get zero xs = refl
  drop_get (suc n) [] = refl
  drop_get (suc n) (y ∷ xs) = drop_get n xs

  take_get : (m n : ℕ) (xs : List A) (x : A) → slice_get (take m xs) n ≡ Some x → slice_get xs n ≡ Some x
  take_get zero n xs x e = absurd (cc)
  take_get (suc m) n [] x e = e
  take_get (suc m) zero (y ∷ xs) x e = e
  take_get (suc m) (suc n) (y ∷ xs) x e = take_get m n xs x e

  -- the first item between two places
  pub first_between : (from to : ℕ) (xs ys : List A) (x : A) → ys ≡ drop from (take to xs) → 0 < length ys
      → x ≡ slice_index_or ys 0 x → slice_get xs from ≡ Some x
  first_between from to xs ys x is lt e =
      take_get to from xs x (sym (drop_get from (take to xs)) ∙ ap (λ (l : List A). slice_get l 0) (sym is) ∙ head_get ys x lt e)

pub below_or_last : (n i : ℕ) → i < n + 1 → (i < n) ⊎ (i ≡ n)
below_or_last n i lt = cases (eqb_tells i n) where
  cases : ((nat_eq i n ≡ true) × (i ≡ n)) ⊎ ((nat_eq i n ≡ false) × (i ≡ n → ⊥)) → (i < n) ⊎ (i ≡ n)
  cases (inl at) = inr at.1
  cases (inr at) = let ne = at.1 in inl (omega (arith, lt, ne))

pub map_if_ok : {A E : Type 0} {P Q : A → Type 0} (r : Result A E) → ((a : A) → P a → Q a) → IfOk r P → IfOk r Q
map_if_ok (Ok a) f h = f a h
map_if_ok (Err e) f h = h

pub map_on_ok : {A E : Type 0} {P Q : Type 0} (r : Result A E) → (P → Q) → OnOk r P → OnOk r Q
map_on_ok (Ok a) f h = f h
map_on_ok (Err e) f h = h

pub map_on_err : {A E : Type 0} {P Q : Type 0} (r : Result A E) → (P → Q) → OnErr r P → OnErr r Q
map_on_err (Ok a) f h = h
map_on_err (Err e) f h = f h

pub on_err_of : {A E : Type 0} {P : Type 0} (r : Result A E) → P → OnErr r P
on_err_of (Ok a) h = tt
on_err_of (Err e) h = h

pub on_ok_both : {A E : Type 0} (P Q : Type 0) (r : Result A E) → OnOk r P → OnOk r Q → OnOk r (P × Q)
on_ok_both P Q (Ok a) p q = (p, q)
on_ok_both P Q (Err e) p q = p
