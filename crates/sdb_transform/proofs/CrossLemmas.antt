-- The laws of crossings for any table that increases no weight.
use Rattle.std.proofs.Common.{◌≡◌, ℕ, zero, suc, pred, ◌+◌, ◌*◌, ◌-◌, ◌^◌, min, ◌<◌, ◌≤◌, List, [], ◌∷◌, ◌++◌, Option, Some, None, ◌⊎◌, inl, inr, refl, sym, ap, ◌∙◌, subst, arith, append_assoc, append-nil}
use Rattle.sdb_transform.specs.CrossMachine.{WorkItem, LeftChanges, RightChange, right_frames, run_work, add_done, step_bound, StateInvariant}
use Rattle.sdb_transform.specs.Cross.{TransformTable, Crossing, sum_weight, and_then, join_crossings, cross_in, cross, append_right}
use Rattle.sdb_transform.proofs.CrossWeight.{IsWeighted, IsWithinWeight, append_left}

-- congruence after a step that succeeded
pub and_then_cong : {A B : Type 0} (o p : Option A) (f g : A → Option B) → o ≡ p → ((a : A) → p ≡ Some a → f a ≡ g a) → and_then o f ≡ and_then p g
and_then_cong o None f g e h = ap (λ q. and_then q f) e
and_then_cong o (Some a) f g e h = ap (λ q. and_then q f) e ∙ h a refl

pub and_then_assoc : {A B D : Type 0} (o : Option A) (f : A → Option B) (g : B → Option D) → and_then (and_then o f) g ≡ and_then o (λ a. and_then (f a) g)
and_then_assoc None f g = refl
and_then_assoc (Some a) f g = refl

pub and_then_swap : {A B D : Type 0} (o : Option A) (p : Option B) (f : A → B → Option D) → and_then o (λ a. and_then p (λ b. f a b)) ≡ and_then p (λ b. and_then o (λ a. f a b))
and_then_swap None None f = refl
and_then_swap None (Some b) f = refl
and_then_swap (Some a) None f = refl
and_then_swap (Some a) (Some b) f = refl

pub and_then_id : {A : Type 0} (o : Option A) (f : A → A) → ((a : A) → f a ≡ a) → and_then o (λ a. Some (f a)) ≡ o
and_then_id None f h = refl
and_then_id (Some a) f h = ap Some (h a)

some_same : {A : Type 0} (x y : A) → Some x ≡ Some y → x ≡ y
some_same x y e = cc

-- a step that succeeded has a first part that did
pub and_then_some : {A B P : Type 0} (o : Option A) (f : A → Option B) (x : B) → and_then o f ≡ Some x → ((a : A) → o ≡ Some a → f a ≡ Some x → P) → P
and_then_some None f x e k = elim (none_some x e) [ ]
  where
    none_some : {B : Type 0} (x : B) → None ≡ Some x → ⊥
    none_some x e = cc
and_then_some (Some a) f x e k = k a refl e

pub total-append : {C : Type 0} (weigh : C → ℕ) (a b : List C) → sum_weight weigh (a ++ b) ≡ sum_weight weigh a + sum_weight weigh b
total-append weigh [] b = omega arith
total-append weigh (c ∷ a) b = omega (arith, total-append weigh a b)

mul_le_both : (a b c d : ℕ) → a ≤ c → b ≤ d → a * b ≤ c * d
mul_le_both a b c d h k =
    let x1 : a * b ≤ a * d = grind arith in
    let x2 : a * d ≤ c * d = grind arith in
    omega arith

product_bound : (a b c d a1 c1 b1 d1 p q s : ℕ) → 0 < a → 0 < c → a1 ≤ a → c1 ≤ c → b1 ≤ b → d1 ≤ d → p ≤ a1 * d → q ≤ b * c1 → s ≤ b1 * d1 → suc (p + q + s) ≤ (a + b) * (c + d)
product_bound a b c d a1 c1 b1 d1 p q s h1 h2 h3 h4 h5 h6 h7 h8 h9 =
    let x1 : a1 * d ≤ a * d = grind arith in
    let x2 : b * c1 ≤ b * c = grind arith in
    let x3 : b1 * d1 ≤ b * d = mul_le_both b1 d1 b d h5 h6 in
    let x4 : 1 * 1 ≤ a * c = mul_le_both 1 1 a c h1 h2 in
    omega arith

same_crossing : {C : Type 0} (l l' r r' : List C) (p p' : ℕ) → l ≡ l' → r ≡ r' → p ≡ p' → ◌≡◌ {A = Crossing C} (record { left = l; right = r; pairs = p }) (record { left = l'; right = r'; pairs = p' })
same_crossing l l' r r' p p' e f g = cc

same_column : {C : Type 0} (a b v c d : Crossing C) → join_crossings (append_right a b) v (append_right c d) ≡ append_right (join_crossings a v c) (append_left b d)
same_column a b v c d = same_crossing _ _ _ _ _ _ refl (sym (append_assoc v.right c.right d.right)) (omega arith)

same_row : {C : Type 0} (u a b c d : Crossing C) → join_crossings u (append_left a b) (append_left c d) ≡ append_left (join_crossings u a c) (append_right b d)
same_row u a b c d = same_crossing _ _ _ _ _ _ (sym (append_assoc u.left c.left d.left)) refl (omega arith)

disjoint_twice : {C : Type 0} (x y z : Crossing C) → append_right (append_right x y) z ≡ append_right x (append_right y z)
disjoint_twice x y z = same_crossing _ _ _ _ _ _ refl (append_assoc x.right y.right z.right) (omega arith)

-- with one pair counted
abbrev pub with_one_pair : {C : Type 0} → Crossing C → Crossing C
with_one_pair y = record { left = y.left; right = y.right; pairs = suc y.pairs }

pub and_then_none : {A B : Type 0} (o : Option A) (f : A → Option B) → ((a : A) → f a ≡ None) → and_then o f ≡ None
and_then_none None f h = refl
and_then_none (Some a) f h = h a

min_more : (k p q m : ℕ) → p ≡ min k m → q ≡ min (p + 1) m → q ≡ min (suc k) m
min_more k p q m e f = omega arith

module _ {C : Type 0} {tl tr : TransformTable C} {weigh : C → ℕ} (ok : IsWeighted tl tr weigh) where
  light_step : (l r : C) (L R l1 r1 : List C) (u v w x : Crossing C) → tl l r ≡ Some l1 → tr r l ≡ Some r1 → IsWithinWeight weigh l1 R u → IsWithinWeight weigh L r1 v → IsWithinWeight weigh v.left u.right w → join_crossings u v w ≡ x → IsWithinWeight weigh (l ∷ L) (r ∷ R) x
  light_step l r L R l1 r1 u v w x e1 e2 a b c q =
      let h1 = ok.on_left l r l1 e1 in
      let h2 = ok.on_right r l r1 e2 in
      let p1 = ok.positive l in
      let p2 = ok.positive r in
      let a1 = a.on_left in
      let a2 = a.on_right in
      let b1 = b.on_left in
      let b2 = b.on_right in
      let c1 = c.on_left in
      let c2 = c.on_right in
      subst (IsWithinWeight weigh (l ∷ L) (r ∷ R)) q (record {
        on_left = omega (arith, total-append weigh u.left w.left);
        on_right = omega (arith, total-append weigh v.right w.right);
        pairs_within_product = product_bound (weigh l) (sum_weight weigh L) (weigh r) (sum_weight weigh R) (sum_weight weigh l1) (sum_weight weigh r1) (sum_weight weigh v.left) (sum_weight weigh u.right) u.pairs v.pairs w.pairs p1 p2 h1 h2 b1 a2 a.pairs_within_product b.pairs_within_product c.pairs_within_product;
      })

  pub cross_within_weight : (n : ℕ) (L R : List C) (x : Crossing C) → cross_in tl tr n L R ≡ Some x → IsWithinWeight weigh L R x
  unfolding cross_in
  cross_within_weight n [] R x e =
      let q : record { left = []; right = R; pairs = 0 } ≡ x = some_same _ _ e in
      subst (IsWithinWeight weigh [] R) q (record { on_left = omega arith; on_right = omega arith; pairs_within_product = omega arith })
  cross_within_weight n (l ∷ L) [] x e =
      let q : record { left = l ∷ L; right = []; pairs = 0 } ≡ x = some_same _ _ e in
      subst (IsWithinWeight weigh (l ∷ L) []) q (record { on_left = omega arith; on_right = omega arith; pairs_within_product = omega arith })
  cross_within_weight zero (l ∷ L) (r ∷ R) x e = absurd (cc)
  cross_within_weight (suc n) (l ∷ L) (r ∷ R) x e =
      and_then_some _ _ x e (λ l1 e1 f1.
      and_then_some _ _ x f1 (λ r1 e2 f2.
      and_then_some _ _ x f2 (λ u e3 f3.
      and_then_some _ _ x f3 (λ v e4 f4.
      and_then_some _ _ x f4 (λ w e5 f5.
      light_step l r L R l1 r1 u v w x e1 e2 (cross_within_weight n l1 R u e3) (cross_within_weight n L r1 v e4) (cross_within_weight n v.left u.right w e5) (some_same _ _ f5))))))

  -- a depth above both weights changes nothing
  cross_fuel_irrelevant : (n m : ℕ) (L R : List C) → sum_weight weigh L + sum_weight weigh R ≤ n → sum_weight weigh L + sum_weight weigh R ≤ m → cross_in tl tr n L R ≡ cross_in tl tr m L R
  unfolding cross_in
  cross_fuel_irrelevant n m [] R h k = refl
  cross_fuel_irrelevant n m (l ∷ L) [] h k = refl
  cross_fuel_irrelevant zero m (l ∷ L) (r ∷ R) h k = absurd (omega (arith, ok.positive l))
  cross_fuel_irrelevant (suc n) zero (l ∷ L) (r ∷ R) h k = absurd (omega (arith, ok.positive l))
  cross_fuel_irrelevant (suc n) (suc m) (l ∷ L) (r ∷ R) h k =
      let p1 = ok.positive l in
      let p2 = ok.positive r in
      and_then_cong (tl l r) (tl l r) _ _ refl (λ l1 e1.
      and_then_cong (tr r l) (tr r l) _ _ refl (λ r1 e2.
      let h1 = ok.on_left l r l1 e1 in
      let h2 = ok.on_right r l r1 e2 in
      and_then_cong (cross_in tl tr n l1 R) (cross_in tl tr m l1 R) _ _ (cross_fuel_irrelevant n m l1 R (omega arith) (omega arith)) (λ u e3.
      and_then_cong (cross_in tl tr n L r1) (cross_in tl tr m L r1) _ _ (cross_fuel_irrelevant n m L r1 (omega arith) (omega arith)) (λ v e4.
      let a2 = (cross_within_weight m l1 R u e3).on_right in
      let b1 = (cross_within_weight m L r1 v e4).on_left in
      and_then_cong (cross_in tl tr n v.left u.right) (cross_in tl tr m v.left u.right) _ _ (cross_fuel_irrelevant n m v.left u.right (omega arith) (omega arith)) (λ w e5. refl)))))

  pub cross_left_empty : (R : List C) → cross tl tr weigh [] R ≡ Some (record { left = []; right = R; pairs = 0 })
  unfolding cross cross_in
  cross_left_empty R = refl

  pub cross_right_empty : (L : List C) → cross tl tr weigh L [] ≡ Some (record { left = L; right = []; pairs = 0 })
  unfolding cross cross_in
  cross_right_empty [] = refl
  cross_right_empty (l ∷ L) = refl

  -- the rule for a pair, without a depth
  pub cross_pair : (l r : C) (L R : List C) → cross tl tr weigh (l ∷ L) (r ∷ R) ≡
      and_then (tl l r) (λ l1. and_then (tr r l) (λ r1. and_then (cross tl tr weigh l1 R) (λ u. and_then (cross tl tr weigh L r1) (λ v.
      and_then (cross tl tr weigh v.left u.right) (λ w. Some (join_crossings u v w))))))
  unfolding cross cross_in
  cross_pair l r L R =
      let p1 = ok.positive l in
      let p2 = ok.positive r in
      let k = weigh l + sum_weight weigh L + (weigh r + sum_weight weigh R) in
      let n = pred k in
      let s : k ≡ suc n = omega arith in
      ap (λ j. cross_in tl tr j (l ∷ L) (r ∷ R)) s
      ∙ and_then_cong (tl l r) (tl l r) _ _ refl (λ l1 e1.
      and_then_cong (tr r l) (tr r l) _ _ refl (λ r1 e2.
      let h1 = ok.on_left l r l1 e1 in
      let h2 = ok.on_right r l r1 e2 in
      and_then_cong (cross_in tl tr n l1 R) (cross tl tr weigh l1 R) _ _ (cross_fuel_irrelevant n (sum_weight weigh l1 + sum_weight weigh R) l1 R (omega arith) (omega arith)) (λ u e3.
      and_then_cong (cross_in tl tr n L r1) (cross tl tr weigh L r1) _ _ (cross_fuel_irrelevant n (sum_weight weigh L + sum_weight weigh r1) L r1 (omega arith) (omega arith)) (λ v e4.
      let a2 = (cross_within_weight (sum_weight weigh l1 + sum_weight weigh R) l1 R u e3).on_right in
      let b1 = (cross_within_weight (sum_weight weigh L + sum_weight weigh r1) L r1 v e4).on_left in
      and_then_cong (cross_in tl tr n v.left u.right) (cross tl tr weigh v.left u.right) _ _ (cross_fuel_irrelevant n (sum_weight weigh v.left + sum_weight weigh u.right) v.left u.right (omega arith) (omega arith)) (λ w e5. refl)))))

  pub cross_light : (L R : List C) (x : Crossing C) → cross tl tr weigh L R ≡ Some x → IsWithinWeight weigh L R x
  unfolding cross
  cross_light L R x e = cross_within_weight (sum_weight weigh L + sum_weight weigh R) L R x e

  abbrev CrossOf : List C → List C → Option (Crossing C)
  CrossOf L R = cross tl tr weigh L R

  -- the laws of appending on the right and on the left, up to a weight
  record CrossLaws (n : ℕ) : Type 0 where
    column : (L Ra Rb : List C) → sum_weight weigh L + sum_weight weigh Ra + sum_weight weigh Rb < n → CrossOf L (Ra ++ Rb) ≡ and_then (CrossOf L Ra) (λ x. and_then (CrossOf x.left Rb) (λ y. Some (append_right x y)))
    row : (L1 L2 R : List C) → sum_weight weigh L1 + sum_weight weigh L2 + sum_weight weigh R < n → CrossOf (L1 ++ L2) R ≡ and_then (CrossOf L1 R) (λ x. and_then (CrossOf L2 x.right) (λ y. Some (append_left x y)))

  column_empty_left : (Ra Rb : List C) → CrossOf [] (Ra ++ Rb) ≡ and_then (CrossOf [] Ra) (λ x. and_then (CrossOf x.left Rb) (λ y. Some (append_right x y)))
  unfolding cross cross_in
  column_empty_left Ra Rb = refl

  column_empty_right : (L Rb : List C) → CrossOf L Rb ≡ and_then (CrossOf L []) (λ x. and_then (CrossOf x.left Rb) (λ y. Some (append_right x y)))
  column_empty_right L Rb =
      sym (ap (λ o. and_then o (λ x. and_then (CrossOf x.left Rb) (λ y. Some (append_right x y)))) (cross_right_empty L)
      ∙ and_then_id (CrossOf L Rb) _ (λ y. same_crossing _ _ _ _ _ _ refl refl (omega arith)))

  column_step : (n : ℕ) → CrossLaws n → (l r : C) (L Ra Rb : List C) → sum_weight weigh (l ∷ L) + sum_weight weigh (r ∷ Ra) + sum_weight weigh Rb < suc n → CrossOf (l ∷ L) ((r ∷ Ra) ++ Rb) ≡ and_then (CrossOf (l ∷ L) (r ∷ Ra)) (λ x. and_then (CrossOf x.left Rb) (λ y. Some (append_right x y)))
  column_step n ih l r L Ra Rb h =
      let K = λ (x : Crossing C). and_then (CrossOf x.left Rb) (λ y. Some (append_right x y)) in
      let p1 = ok.positive l in
      let p2 = ok.positive r in
      cross_pair l r L (Ra ++ Rb)
      ∙ and_then_cong (tl l r) (tl l r) _ _ refl (λ l1 e1.
      and_then_cong (tr r l) (tr r l) _ _ refl (λ r1 e2.
      let h1 = ok.on_left l r l1 e1 in
      let h2 = ok.on_right r l r1 e2 in
      ap (λ o. and_then o (λ u. and_then (CrossOf L r1) (λ v. and_then (CrossOf v.left u.right) (λ w. Some (join_crossings u v w))))) (ih.column l1 Ra Rb (omega arith))
      ∙ and_then_assoc (CrossOf l1 Ra) _ _
      ∙ and_then_cong (CrossOf l1 Ra) (CrossOf l1 Ra) _ _ refl (λ a ea.
      let ia = cross_light l1 Ra a ea in
      and_then_assoc (CrossOf a.left Rb) _ _
      ∙ and_then_swap (CrossOf a.left Rb) (CrossOf L r1) (λ b v. and_then (CrossOf v.left (a.right ++ b.right)) (λ w. Some (join_crossings (append_right a b) v w)))
      ∙ and_then_cong (CrossOf L r1) (CrossOf L r1) _ _ refl (λ v ev.
      let iv = cross_light L r1 v ev in
      and_then_cong (CrossOf a.left Rb) (CrossOf a.left Rb) _ (λ b. and_then (CrossOf v.left a.right) (λ c. and_then (CrossOf c.left b.right) (λ d. Some (join_crossings (append_right a b) v (append_right c d))))) refl (λ b eb.
      let ib = cross_light a.left Rb b eb in
      ap (λ o. and_then o (λ w. Some (join_crossings (append_right a b) v w))) (ih.column v.left a.right b.right (omega arith))
      ∙ and_then_assoc (CrossOf v.left a.right) _ _
      ∙ and_then_cong (CrossOf v.left a.right) (CrossOf v.left a.right) _ _ refl (λ c ec. and_then_assoc (CrossOf c.left b.right) _ _))
      ∙ and_then_swap (CrossOf a.left Rb) (CrossOf v.left a.right) (λ b c. and_then (CrossOf c.left b.right) (λ d. Some (join_crossings (append_right a b) v (append_right c d))))
      ∙ and_then_cong (CrossOf v.left a.right) (CrossOf v.left a.right) _ (λ c. K (join_crossings a v c)) refl (λ c ec.
      let ic = cross_light v.left a.right c ec in
      sym (ap (λ o. and_then o (λ y. Some (append_right (join_crossings a v c) y))) (ih.row a.left c.left Rb (omega arith))
      ∙ and_then_assoc (CrossOf a.left Rb) _ _
      ∙ and_then_cong (CrossOf a.left Rb) (CrossOf a.left Rb) _ _ refl (λ b eb.
      and_then_assoc (CrossOf c.left b.right) _ _
      ∙ and_then_cong (CrossOf c.left b.right) (CrossOf c.left b.right) _ _ refl (λ d ed. ap Some (sym (same_column a b v c d))))))
      ∙ sym (and_then_assoc (CrossOf v.left a.right) _ K))
      ∙ sym (and_then_assoc (CrossOf L r1) _ K))
      ∙ sym (and_then_assoc (CrossOf l1 Ra) _ K))
      ∙ sym (and_then_assoc (tr r l) _ K))
      ∙ sym (and_then_assoc (tl l r) _ K)
      ∙ sym (ap (λ o. and_then o K) (cross_pair l r L Ra))

  row_empty_left : (L2 R : List C) → CrossOf L2 R ≡ and_then (CrossOf [] R) (λ x. and_then (CrossOf L2 x.right) (λ y. Some (append_left x y)))
  unfolding cross cross_in
  row_empty_left L2 R = sym (and_then_id (CrossOf L2 R) _ (λ y. same_crossing _ _ _ _ _ _ refl refl (omega arith)))

  row_empty_right : (L1 L2 : List C) → CrossOf (L1 ++ L2) [] ≡ and_then (CrossOf L1 []) (λ x. and_then (CrossOf L2 x.right) (λ y. Some (append_left x y)))
  row_empty_right L1 L2 =
      cross_right_empty (L1 ++ L2)
      ∙ sym (ap (λ o. and_then o (λ x. and_then (CrossOf L2 x.right) (λ y. Some (append_left x y)))) (cross_right_empty L1)
      ∙ ap (λ o. and_then o (λ y. Some (append_left (record { left = L1; right = []; pairs = 0 }) y))) (cross_right_empty L2))

  row_step : (n : ℕ) → CrossLaws n → (l r : C) (L1 L2 R : List C) → sum_weight weigh (l ∷ L1) + sum_weight weigh L2 + sum_weight weigh (r ∷ R) < suc n → CrossOf ((l ∷ L1) ++ L2) (r ∷ R) ≡ and_then (CrossOf (l ∷ L1) (r ∷ R)) (λ x. and_then (CrossOf L2 x.right) (λ y. Some (append_left x y)))
  row_step n ih l r L1 L2 R h =
      let K = λ (x : Crossing C). and_then (CrossOf L2 x.right) (λ y. Some (append_left x y)) in
      let p1 = ok.positive l in
      let p2 = ok.positive r in
      cross_pair l r (L1 ++ L2) R
      ∙ and_then_cong (tl l r) (tl l r) _ _ refl (λ l1 e1.
      and_then_cong (tr r l) (tr r l) _ _ refl (λ r1 e2.
      let h1 = ok.on_left l r l1 e1 in
      let h2 = ok.on_right r l r1 e2 in
      and_then_cong (CrossOf l1 R) (CrossOf l1 R) _ _ refl (λ u eu.
      let iu = cross_light l1 R u eu in
      ap (λ o. and_then o (λ v. and_then (CrossOf v.left u.right) (λ w. Some (join_crossings u v w)))) (ih.row L1 L2 r1 (omega arith))
      ∙ and_then_assoc (CrossOf L1 r1) _ _
      ∙ and_then_cong (CrossOf L1 r1) (CrossOf L1 r1) _ _ refl (λ a ea.
      let ia = cross_light L1 r1 a ea in
      and_then_assoc (CrossOf L2 a.right) _ _
      ∙ and_then_cong (CrossOf L2 a.right) (CrossOf L2 a.right) _ (λ b. and_then (CrossOf a.left u.right) (λ c. and_then (CrossOf b.left c.right) (λ d. Some (join_crossings u (append_left a b) (append_left c d))))) refl (λ b eb.
      let ib = cross_light L2 a.right b eb in
      ap (λ o. and_then o (λ w. Some (join_crossings u (append_left a b) w))) (ih.row a.left b.left u.right (omega arith))
      ∙ and_then_assoc (CrossOf a.left u.right) _ _
      ∙ and_then_cong (CrossOf a.left u.right) (CrossOf a.left u.right) _ _ refl (λ c ec. and_then_assoc (CrossOf b.left c.right) _ _))
      ∙ and_then_swap (CrossOf L2 a.right) (CrossOf a.left u.right) (λ b c. and_then (CrossOf b.left c.right) (λ d. Some (join_crossings u (append_left a b) (append_left c d))))
      ∙ and_then_cong (CrossOf a.left u.right) (CrossOf a.left u.right) _ (λ c. K (join_crossings u a c)) refl (λ c ec.
      let ic = cross_light a.left u.right c ec in
      sym (ap (λ o. and_then o (λ y. Some (append_left (join_crossings u a c) y))) (ih.column L2 a.right c.right (omega arith))
      ∙ and_then_assoc (CrossOf L2 a.right) _ _
      ∙ and_then_cong (CrossOf L2 a.right) (CrossOf L2 a.right) _ _ refl (λ b eb.
      and_then_assoc (CrossOf b.left c.right) _ _
      ∙ and_then_cong (CrossOf b.left c.right) (CrossOf b.left c.right) _ _ refl (λ d ed. ap Some (sym (same_row u a b c d))))))
      ∙ sym (and_then_assoc (CrossOf a.left u.right) _ K))
      ∙ sym (and_then_assoc (CrossOf L1 r1) _ K))
      ∙ sym (and_then_assoc (CrossOf l1 R) _ K))
      ∙ sym (and_then_assoc (tr r l) _ K))
      ∙ sym (and_then_assoc (tl l r) _ K)
      ∙ sym (ap (λ o. and_then o K) (cross_pair l r L1 R))

  column_under : (n : ℕ) → CrossLaws n → (L Ra Rb : List C) → sum_weight weigh L + sum_weight weigh Ra + sum_weight weigh Rb < suc n → CrossOf L (Ra ++ Rb) ≡ and_then (CrossOf L Ra) (λ x. and_then (CrossOf x.left Rb) (λ y. Some (append_right x y)))
  column_under n ih [] Ra Rb h = column_empty_left Ra Rb
  column_under n ih (l ∷ L) [] Rb h = column_empty_right (l ∷ L) Rb
  column_under n ih (l ∷ L) (r ∷ Ra) Rb h = column_step n ih l r L Ra Rb h

  row_under : (n : ℕ) → CrossLaws n → (L1 L2 R : List C) → sum_weight weigh L1 + sum_weight weigh L2 + sum_weight weigh R < suc n → CrossOf (L1 ++ L2) R ≡ and_then (CrossOf L1 R) (λ x. and_then (CrossOf L2 x.right) (λ y. Some (append_left x y)))
  row_under n ih [] L2 R h = row_empty_left L2 R
  row_under n ih (l ∷ L1) L2 [] h = row_empty_right (l ∷ L1) L2
  row_under n ih (l ∷ L1) L2 (r ∷ R) h = row_step n ih l r L1 L2 R h

  cross_laws : (n : ℕ) → CrossLaws n
  cross_laws zero = record { column = λ L Ra Rb h. absurd (omega arith); row = λ L1 L2 R h. absurd (omega arith) }
  cross_laws (suc n) = let ih = cross_laws n in record { column = column_under n ih; row = row_under n ih }

  pub cross_column : (L Ra Rb : List C) → cross tl tr weigh L (Ra ++ Rb) ≡ and_then (cross tl tr weigh L Ra) (λ x. and_then (cross tl tr weigh x.left Rb) (λ y. Some (append_right x y)))
  cross_column L Ra Rb = (cross_laws (suc (sum_weight weigh L + sum_weight weigh Ra + sum_weight weigh Rb))).column L Ra Rb (omega arith)

  pub cross_row : (L1 L2 R : List C) → cross tl tr weigh (L1 ++ L2) R ≡ and_then (cross tl tr weigh L1 R) (λ x. and_then (cross tl tr weigh L2 x.right) (λ y. Some (append_left x y)))
  cross_row L1 L2 R = (cross_laws (suc (sum_weight weigh L1 + sum_weight weigh L2 + sum_weight weigh R))).row L1 L2 R (omega arith)

  abbrev RunOf : List C → List (WorkItem C) → Option (Crossing C)
  RunOf L ts = run_work tl tr weigh L ts

  through_moves : (L R : List C) (ts : List (WorkItem C)) → RunOf L (right_frames R ++ ts) ≡ and_then (CrossOf L R) (λ x. and_then (RunOf x.left ts) (λ y. Some (append_right x y)))
  through_moves L [] ts =
      sym (ap (λ o. and_then o (λ x. and_then (RunOf x.left ts) (λ y. Some (append_right x y)))) (cross_right_empty L)
      ∙ and_then_id (RunOf L ts) _ (λ y. same_crossing _ _ _ _ _ _ refl refl (omega arith)))
  through_moves L (r ∷ R) ts =
      and_then_cong (CrossOf L (r ∷ [])) (CrossOf L (r ∷ [])) _ _ refl (λ x ex.
      ap (λ o. and_then o (λ y. Some (append_right x y))) (through_moves x.left R ts)
      ∙ and_then_assoc (CrossOf x.left R) _ _
      ∙ and_then_cong (CrossOf x.left R) (CrossOf x.left R) _ _ refl (λ z ez.
      and_then_assoc (RunOf z.left ts) _ _
      ∙ and_then_cong (RunOf z.left ts) (RunOf z.left ts) _ _ refl (λ y ey. ap Some (sym (disjoint_twice x z y))))
      ∙ sym (and_then_assoc (CrossOf x.left R) _ _))
      ∙ sym (and_then_assoc (CrossOf L (r ∷ [])) _ _)
      ∙ sym (ap (λ o. and_then o (λ x. and_then (RunOf x.left ts) (λ y. Some (append_right x y)))) (cross_column L (r ∷ []) R))

  -- all the work at the start
  pub through_all : (L R : List C) → run_work tl tr weigh L (right_frames R) ≡ cross tl tr weigh L R
  through_all L R =
      ap (λ ts. RunOf L ts) (sym (append-nil (right_frames R)))
      ∙ through_moves L R []
      ∙ and_then_id (CrossOf L R) _ (λ x. same_crossing _ _ _ _ _ _ refl (append-nil x.right) (omega arith))

  -- no left change is left
  pub through_none : (r : C) (ts : List (WorkItem C)) → run_work tl tr weigh [] (RightChange r ∷ ts) ≡ and_then (run_work tl tr weigh [] ts) (λ y. Some (add_done (r ∷ []) 0 y))
  unfolding cross cross_in
  through_none r ts = refl

  -- one pair
  pub through_pair : (l r : C) (L : List C) (ts : List (WorkItem C)) → run_work tl tr weigh (l ∷ L) (RightChange r ∷ ts) ≡
      and_then (tl l r) (λ l1. and_then (tr r l) (λ r1. and_then (run_work tl tr weigh L (right_frames r1 ++ (LeftChanges l1 ∷ ts))) (λ y. Some (with_one_pair y))))
  through_pair l r L ts =
      let K = λ (x : Crossing C). and_then (RunOf x.left ts) (λ y. Some (append_right x y)) in
      ap (λ o. and_then o K) (cross_pair l r L [])
      ∙ and_then_assoc (tl l r) _ K
      ∙ and_then_cong (tl l r) (tl l r) _ _ refl (λ l1 e1.
      and_then_assoc (tr r l) _ K
      ∙ and_then_cong (tr r l) (tr r l) _ _ refl (λ r1 e2.
      let M = λ (u : Crossing C). and_then (CrossOf L r1) (λ v. and_then (CrossOf v.left u.right) (λ w. Some (join_crossings u v w))) in
      ap (λ o. and_then (and_then o M) K) (cross_right_empty l1)
      ∙ and_then_assoc (CrossOf L r1) _ K
      ∙ and_then_cong (CrossOf L r1) (CrossOf L r1) _ _ refl (λ v ev.
      let u : Crossing C = record { left = l1; right = []; pairs = 0 } in
      ap (λ o. and_then (and_then o (λ w. Some (join_crossings u v w))) K) (cross_right_empty v.left)
      ∙ and_then_cong (RunOf (l1 ++ v.left) ts) (RunOf (l1 ++ v.left) ts) _ _ refl (λ y ey.
      ap Some (same_crossing _ _ _ _ _ _ refl (ap (λ q. q ++ y.right) (append-nil v.right)) (omega arith)))
      ∙ sym (and_then_assoc (RunOf (l1 ++ v.left) ts) _ _))
      ∙ sym (and_then_assoc (CrossOf L r1) _ _)
      ∙ sym (ap (λ o. and_then o (λ y. Some (with_one_pair y))) (through_moves L r1 (LeftChanges l1 ∷ ts)))))

  abbrev InvariantOf : Option (Crossing C) → List C → List (WorkItem C) → List C → ℕ → Type 0
  InvariantOf goal L ts done p = StateInvariant tl tr weigh goal L ts done p

  pub view_start : (L W R : List C) (ts : List (WorkItem C)) → W ≡ L → ts ≡ right_frames R → InvariantOf (CrossOf L R) W ts [] 0
  view_start L W R ts e f =
      record {
        pair_count = 0;
        pairs_saturated = omega arith;
        rest =
            sym (ap (λ v. and_then (RunOf v ts) (λ y. Some (add_done [] 0 y))) e
            ∙ ap (λ v. and_then (RunOf L v) (λ y. Some (add_done [] 0 y))) f
            ∙ ap (λ o. and_then o (λ y. Some (add_done [] 0 y))) (through_all L R)
            ∙ and_then_id (CrossOf L R) _ (λ y. same_crossing _ _ _ _ _ _ refl refl (omega arith)));
      }

  pub view_waits : (goal : Option (Crossing C)) (W W' ls : List C) (ts : List (WorkItem C)) (done : List C) (p : ℕ) → W' ≡ ls ++ W → InvariantOf goal W (LeftChanges ls ∷ ts) done p → InvariantOf goal W' ts done p
  view_waits goal W W' ls ts done p e h =
      record { pair_count = h.pair_count; pairs_saturated = h.pairs_saturated; rest = h.rest ∙ ap (λ v. and_then (RunOf v ts) (λ y. Some (add_done done h.pair_count y))) (sym e) }

  pub view_none : (goal : Option (Crossing C)) (W W' : List C) (r : C) (ts : List (WorkItem C)) (done done' : List C) (p : ℕ) → W ≡ [] → W' ≡ [] → done' ≡ done ++ r ∷ [] → InvariantOf goal W (RightChange r ∷ ts) done p → InvariantOf goal W' ts done' p
  view_none goal W W' r ts done done' p e f g h =
      record {
        pair_count = h.pair_count;
        pairs_saturated = h.pairs_saturated;
        rest =
            h.rest
            ∙ ap (λ v. and_then (RunOf v (RightChange r ∷ ts)) (λ y. Some (add_done done h.pair_count y))) e
            ∙ ap (λ o. and_then o (λ y. Some (add_done done h.pair_count y))) (through_none r ts)
            ∙ and_then_assoc (RunOf [] ts) _ _
            ∙ and_then_cong (RunOf [] ts) (RunOf [] ts) _ (λ y. Some (add_done (done ++ r ∷ []) h.pair_count y)) refl (λ y ey. ap Some (same_crossing _ _ _ _ _ _ refl (sym (append_assoc done (r ∷ []) y.right)) (omega arith)))
            ∙ ap (λ d. and_then (RunOf [] ts) (λ y. Some (add_done d h.pair_count y))) (sym g)
            ∙ ap (λ v. and_then (RunOf v ts) (λ y. Some (add_done done' h.pair_count y))) (sym f);
      }

  pub view_pair : (goal : Option (Crossing C)) (W W' : List C) (l r : C) (ts ts' : List (WorkItem C)) (done : List C) (p p' : ℕ) (l1 r1 : List C) → W ≡ l ∷ W' → tl l r ≡ Some l1 → tr r l ≡ Some r1 → p' ≡ min (p + 1) (2 ^ 128 - 1) → ts' ≡ right_frames r1 ++ (LeftChanges l1 ∷ ts) → InvariantOf goal W (RightChange r ∷ ts) done p → InvariantOf goal W' ts' done p'
  view_pair goal W W' l r ts ts' done p p' l1 r1 e e1 e2 f g h =
      let F = λ (y : Crossing C). Some (add_done done h.pair_count y) in
      record {
        pair_count = suc h.pair_count;
        pairs_saturated = min_more h.pair_count p p' (2 ^ 128 - 1) h.pairs_saturated f;
        rest =
            h.rest
            ∙ ap (λ v. and_then (RunOf v (RightChange r ∷ ts)) F) e
            ∙ ap (λ o. and_then o F) (through_pair l r W' ts)
            ∙ ap (λ o. and_then (and_then o (λ l1. and_then (tr r l) (λ r1. and_then (RunOf W' (right_frames r1 ++ (LeftChanges l1 ∷ ts))) (λ y. Some (with_one_pair y))))) F) e1
            ∙ ap (λ o. and_then (and_then o (λ r1. and_then (RunOf W' (right_frames r1 ++ (LeftChanges l1 ∷ ts))) (λ y. Some (with_one_pair y)))) F) e2
            ∙ and_then_assoc (RunOf W' (right_frames r1 ++ (LeftChanges l1 ∷ ts))) _ F
            ∙ and_then_cong (RunOf W' (right_frames r1 ++ (LeftChanges l1 ∷ ts))) (RunOf W' (right_frames r1 ++ (LeftChanges l1 ∷ ts))) _ (λ y. Some (add_done done (suc h.pair_count) y)) refl (λ y ey. ap Some (same_crossing _ _ _ _ _ _ refl refl (omega arith)))
            ∙ ap (λ v. and_then (RunOf W' v) (λ y. Some (add_done done (suc h.pair_count) y))) (sym g);
      }

  pub view_refused : (goal : Option (Crossing C)) (W W' : List C) (l r : C) (ts : List (WorkItem C)) (done : List C) (p : ℕ) → W ≡ l ∷ W' → InvariantOf goal W (RightChange r ∷ ts) done p → (tl l r ≡ None) ⊎ (tr r l ≡ None) → goal ≡ None
  view_refused goal W W' l r ts done p e h q =
      let F = λ (y : Crossing C). Some (add_done done h.pair_count y) in
      h.rest
      ∙ ap (λ v. and_then (RunOf v (RightChange r ∷ ts)) F) e
      ∙ ap (λ o. and_then o F) (through_pair l r W' ts ∙ run_of_refused l r W' ts q)
    where
      run_of_refused : (l r : C) (W' : List C) (ts : List (WorkItem C)) → (tl l r ≡ None) ⊎ (tr r l ≡ None) → and_then (tl l r) (λ l1. and_then (tr r l) (λ r1. and_then (RunOf W' (right_frames r1 ++ (LeftChanges l1 ∷ ts))) (λ y. Some (with_one_pair y)))) ≡ None
      run_of_refused l r W' ts (inl a) = ap (λ o. and_then o (λ l1. and_then (tr r l) (λ r1. and_then (RunOf W' (right_frames r1 ++ (LeftChanges l1 ∷ ts))) (λ y. Some (with_one_pair y))))) a
      run_of_refused l r W' ts (inr b) = and_then_none (tl l r) _ (λ l1. ap (λ o. and_then o (λ r1. and_then (RunOf W' (right_frames r1 ++ (LeftChanges l1 ∷ ts))) (λ y. Some (with_one_pair y)))) b)

  pub view_end : (goal : Option (Crossing C)) (W : List C) (ts : List (WorkItem C)) (done : List C) (p : ℕ) → ts ≡ [] → InvariantOf goal W ts done p → (k : ℕ) × (goal ≡ Some (record { left = W; right = done; pairs = k })) × (p ≡ min k (2 ^ 128 - 1))
  view_end goal W ts done p e h =
      (h.pair_count, h.rest ∙ ap (λ v. and_then (RunOf W v) (λ y. Some (add_done done h.pair_count y))) e ∙ ap Some (same_crossing _ _ _ _ _ _ refl (append-nil done) (omega arith)), h.pairs_saturated)

  -- the bound on the steps
  turns_moves : (n : ℕ) (R : List C) (ts : List (WorkItem C)) → step_bound weigh n (right_frames R ++ ts) ≡ sum_weight weigh R * (1 + 2 * n) + step_bound weigh n ts
  turns_moves n [] ts = omega arith
  turns_moves n (r ∷ R) ts = omega (arith, turns_moves n R ts)

  turns_more : (n m : ℕ) (ts : List (WorkItem C)) → n ≤ m → step_bound weigh n ts ≤ step_bound weigh m ts
  turns_more n m [] h = omega arith
  turns_more n m (LeftChanges ls ∷ ts) h = omega (arith, turns_more (sum_weight weigh ls + n) (sum_weight weigh ls + m) ts (omega arith))
  turns_more n m (RightChange r ∷ ts) h = omega (arith, turns_more n m ts h, mul_le_both (weigh r) (1 + 2 * n) (weigh r) (1 + 2 * m) (omega arith) (omega arith))

  pub turns_waits : (W W' ls : List C) (ts : List (WorkItem C)) → W' ≡ ls ++ W → step_bound weigh (sum_weight weigh W') ts < step_bound weigh (sum_weight weigh W) (LeftChanges ls ∷ ts)
  turns_waits W W' ls ts e = let k : sum_weight weigh W' ≡ sum_weight weigh ls + sum_weight weigh W = ap (sum_weight weigh) e ∙ total-append weigh ls W in rw k (omega arith)

  pub turns_none : (W W' : List C) (r : C) (ts : List (WorkItem C)) → W ≡ W' → step_bound weigh (sum_weight weigh W') ts < step_bound weigh (sum_weight weigh W) (RightChange r ∷ ts)
  turns_none W W' r ts e = let h = ok.positive r in rw e (omega (arith, mul_le_both 1 1 (weigh r) (1 + 2 * sum_weight weigh W') (omega arith) (omega arith)))

  pub turns_pair : (W W' : List C) (l r : C) (ts ts' : List (WorkItem C)) (l1 r1 : List C) → W ≡ l ∷ W' → tl l r ≡ Some l1 → tr r l ≡ Some r1 → ts' ≡ right_frames r1 ++ (LeftChanges l1 ∷ ts) → step_bound weigh (sum_weight weigh W') ts' < step_bound weigh (sum_weight weigh W) (RightChange r ∷ ts)
  turns_pair W W' l r ts ts' l1 r1 e e1 e2 g =
      let n = sum_weight weigh W' in
      let h1 = ok.on_left l r l1 e1 in
      let h2 = ok.on_right r l r1 e2 in
      let p1 = ok.positive l in
      let p2 = ok.positive r in
      let more = turns_more (sum_weight weigh l1 + n) (weigh l + n) ts (omega arith) in
      let runs = turns_moves n r1 (LeftChanges l1 ∷ ts) in
      let less = mul_le_both (sum_weight weigh r1) (1 + 2 * n) (weigh r) (1 + 2 * n) h2 (omega arith) in
      let met = mul_le_both 1 1 (weigh l) (weigh r) p1 p2 in
      rw (e, g) (omega (arith, more, runs, less, met))
