-- The contents of a seat from step to step.
use Rattle.std.proofs.Common.{◌≡◌, ℕ, false, List, [], ◌∷◌, map, length, sym, refl, ap, ◌∙◌, subst, arith, Option, Some, None}
use Rattle.atomic_table.specs.Table.{Me, rest}
use Rattle.sdb_growlock.specs.declared.view.View.{View}
use Rattle.sdb_growlock.specs.laws.SeatLaws.{single_observation}
use Rattle.sdb_growlock.specs.LockRule.{idle_view, holder_view, acquired_view, released_view, number_of, is_out}

module _ {A : Type 0} where
  pub empty_of_length_zero : (l : List A) → length l ≡ 0 → l ≡ []
  empty_of_length_zero [] e = refl
  empty_of_length_zero (x ∷ xs) e = absurd (omega arith)

abbrev pub M : Type 0 → Type 0
M T = Me (Option T) (View T)

module _ {T : Type 0} where
  abbrev pub slot_value_or : T → List (ℕ × Option T) → T
  slot_value_or d [] = d
  slot_value_or d (x ∷ xs) = elim (x.1) [ Some y ↦ y | None ↦ d ]

  pub none_of_not_out : (o : Option T) → is_out o ≡ false → o ≡ None
  none_of_not_out (Some x) e = absurd (cc)
  none_of_not_out None e = refl

  -- the view that the invariant of a seat gives
  pub idle_view_of_fields : (m : M T) (n k : ℕ) → length m.1 ≡ 0 → map number_of m.0.seen ≡ n ∷ [] → is_out m.0.out ≡ false → m.0.next ≡ k → length m.0.notes ≡ 0 → (x : T) × (m ≡ (idle_view n x k, []))
  idle_view_of_fields m n k none one out next noted = let s = single_observation m.0.seen n one in let o = none_of_not_out m.0.out out in let c = empty_of_length_zero m.1 none in let e = empty_of_length_zero m.0.notes noted in
      (s.0, λ i. (record { seen = s.1 i; out = o i; next = next i; notes = e i }, c i))

  pub fields_of_idle_view : (m : M T) (n k : ℕ) (x : T) → m ≡ (idle_view n x k, []) → (length m.1 ≡ 0) × (map number_of m.0.seen ≡ n ∷ []) × (is_out m.0.out ≡ false) × (m.0.next ≡ k) × (length m.0.notes ≡ 0)
  fields_of_idle_view m n k x e = subst (λ (m : M T). (length m.1 ≡ 0) × (map number_of m.0.seen ≡ n ∷ []) × (is_out m.0.out ≡ false) × (m.0.next ≡ k) × (length m.0.notes ≡ 0)) (sym e) (refl, refl, refl, refl, refl)

  -- the value that the seat takes out is the one that moved to it
  pub same_value : (v y d : T) (c c' : List (ℕ × Option T)) (r : Option T) (l : List (ℕ × Option T)) → l ≡ (0, Some v) ∷ c → l ≡ (0, r) ∷ c' → r ≡ Some y → v ≡ y
  same_value v y d c c' r l e f g = ap (slot_value_or d) (sym e ∙ (f ∙ ap (λ (o : Option T). (0, o) ∷ c') g))

  pub holder_view_of_acquire : (m m1 : M T) (n k : ℕ) (x v : T) → m ≡ (idle_view n x k, []) → m1 ≡ (acquired_view m.0 v, (0, Some v) ∷ m.1) → m1 ≡ (holder_view n v k, (0, Some v) ∷ [])
  holder_view_of_acquire m m1 n k x v e h = h ∙ ap (λ (z : M T). let r : M T = (acquired_view z.0 v, (0, Some v) ∷ z.1) in r) e

  -- the seat's slot, as an exchange observes it
  pub slot_of_acquire : (m m1 : M T) (n k : ℕ) (x v : T) → m ≡ (idle_view n x k, []) → m1 ≡ (acquired_view m.0 v, (0, Some v) ∷ m.1) → (o : Option T) × (m1.1 ≡ (0, o) ∷ rest m1.1)
  slot_of_acquire m m1 n k x v e h = let t = holder_view_of_acquire m m1 n k x v e h in (Some v, subst (λ (z : M T). z.1 ≡ (0, Some v) ∷ rest z.1) (sym t) refl)

  pub slot_after_exchange : (m m1 : M T) (a : View T) (o : Option T) (new : Option T) → m ≡ (a, (0, o) ∷ []) → m1 ≡ (m.0, (0, new) ∷ rest m.1) → m1 ≡ (a, (0, new) ∷ [])
  slot_after_exchange m m1 a o new e h = h ∙ ap (λ (z : M T). let r : M T = (z.0, (0, new) ∷ rest z.1) in r) e

  pub idle_view_of_release : (m m1 : M T) (n k : ℕ) (v w : T) → m ≡ (holder_view n v k, (0, Some w) ∷ []) → ((y : T) → m.1 ≡ (0, Some y) ∷ [] → m1 ≡ (released_view m.0 y, [])) → m1 ≡ (idle_view n w k, [])
  idle_view_of_release m m1 n k v w e h = h w (ap (λ (z : M T). z.1) e) ∙ ap (λ (z : M T). let r : M T = (released_view z.0 w, []) in r) e
