-- Convergence of operations, by the rule of crossings for a pair.
use Rattle.std.proofs.Common.{◌≡◌, ℕ, zero, suc, ◌+◌, ℤ, ◌+ℤ◌, List, [], ◌∷◌, ◌++◌, Option, Some, None, option_map, option_and_then, ◌⊎◌, inl, inr, refl, sym, ap, ◌∙◌, subst}
use Rattle.sdb_value.specs.Value.{Value, whole, with_value_at}
use Rattle.sdb_value.specs.WellFormed.{IsWellFormed}
use Rattle.sdb_value.specs.FromJson.{checked_whole}
use Rattle.sdb_component.specs.Plain.{PlainAct, na, PlainComponent}
use Rattle.sdb_component.specs.Weight.{component_weight}
use Rattle.sdb_apply.specs.Apply.{apply_act, apply_one, apply}
use Rattle.sdb_transform.specs.declared.side.Side.TheVariants.{Left, Right}
use Rattle.sdb_transform.specs.Transform.{transform}
use Rattle.sdb_transform.specs.Cross.{Crossing, sum_weight, join_crossings, cross_in, cross, cross_ops}
use Rattle.sdb_transform.specs.OperationConvergence.{AreMadeFor, SumLeavesRange, SomeSumLeavesRange, TransformsConverge, ConvergeIfCrossed}
use Rattle.sdb_transform.proofs.CrossLemmas.{and_then_some}
use Rattle.sdb_transform.proofs.ConvergeBounds.{fits_where_made}
use Rattle.sdb_transform.proofs.FormedValues.{IsFormed, formed_of}
use Rattle.sdb_transform.proofs.OperationRuns.{OperationRun, MadeOrOverflows, run_append, component_formed, run_formed, run_of, made_or_overflows}
use Rattle.sdb_transform.proofs.PairRuns.{pair_runs}

-- e is the result of one operation, and f that of the other
pub record CrossingRuns (e f : Value) (x : Crossing PlainComponent) : Type 0 where
  pub result : Value
  pub left_run : OperationRun x.left f result
  pub right_run : OperationRun x.right e result

some_same : {A : Type 0} (x y : A) → Some x ≡ Some y → x ≡ y
some_same x y e = cc

-- the results of a pair's three crossings, joined
joined_runs : (c e f : Value) (u v w : Crossing PlainComponent) (a : CrossingRuns c f u) (b : CrossingRuns e c v) → CrossingRuns b.result a.result w → CrossingRuns e f (join_crossings u v w)
joined_runs c e f u v w a b r = record {
  result = r.result;
  left_run = run_append u.left w.left f a.result r.result a.left_run r.left_run;
  right_run = run_append v.right w.right e b.result r.result b.right_run r.right_run;
}

pub cross_runs : (n : ℕ) (L R : List PlainComponent) (x : Crossing PlainComponent) → cross_in (transform Left) (transform Right) n L R ≡ Some x → (d e f : Value) → IsFormed d → OperationRun L d e → OperationRun R d f → CrossingRuns e f x
unfolding cross_in
cross_runs n [] R x h d e f wf a b =
    let is : record { left = []; right = R; pairs = 0 } ≡ x = some_same _ _ h in
    subst (CrossingRuns e f) is (record { result = f; left_run = refl; right_run = subst (λ z. OperationRun R z f) a b })
cross_runs n (l ∷ L) [] x h d e f wf a b =
    let is : record { left = l ∷ L; right = []; pairs = 0 } ≡ x = some_same _ _ h in
    subst (CrossingRuns e f) is (record { result = e; left_run = subst (λ z. OperationRun (l ∷ L) z e) b a; right_run = refl })
cross_runs zero (l ∷ L) (r ∷ R) x h d e f wf a b = absurd (cc)
cross_runs (suc n) (l ∷ L) (r ∷ R) x h d e f wf a b =
    and_then_some _ _ x h (λ l1 e1 f1.
    and_then_some _ _ x f1 (λ r1 e2 f2.
    and_then_some _ _ x f2 (λ u e3 f3.
    and_then_some _ _ x f3 (λ v e4 f4.
    and_then_some _ _ x f4 (λ w e5 f5.
    let p = pair_runs d l r a.0 b.0 wf a.1 b.1 (fits_where_made Left l r l1 e1) (fits_where_made Right r l r1 e2) in
    let left_run : OperationRun l1 b.0 p.result = subst (λ cs. OperationRun cs b.0 p.result) (some_same p.left l1 (sym p.on_left ∙ e1)) p.left_run in
    let right_run : OperationRun r1 a.0 p.result = subst (λ cs. OperationRun cs a.0 p.result) (some_same p.right r1 (sym p.on_right ∙ e2)) p.right_run in
    let after_l = component_formed l d a.0 wf a.1 in
    let after_r = component_formed r d b.0 wf b.1 in
    let after_both = run_formed l1 b.0 p.result after_r left_run in
    let g = cross_runs n l1 R u e3 b.0 p.result f after_r left_run b.2 in
    let k = cross_runs n L r1 v e4 a.0 e p.result after_l a.2 right_run in
    let m = cross_runs n v.left u.right w e5 p.result k.result g.result after_both k.left_run g.right_run in
    subst (CrossingRuns e f) (some_same _ _ f5) (joined_runs p.result e f u v w g k m))))))

converge_or_overflow : (e f : Value) (x : Crossing PlainComponent) (r : CrossingRuns e f x) → MadeOrOverflows x.left f r.result → MadeOrOverflows x.right e r.result
    → TransformsConverge e f x ⊎ (SomeSumLeavesRange x.right e ⊎ SomeSumLeavesRange x.left f)
converge_or_overflow e f x r (inl a) (inl b) = inl (record { left_made = a.made; right_made = b.made; result = r.result; by_left = b.applied; by_right = a.applied })
converge_or_overflow e f x r (inr a) b = inr (inr a)
converge_or_overflow e f x r (inl a) (inr b) = inr (inl b)

pub all_operations_converge : (d : Value) (L R : List PlainComponent) → IsWellFormed d → AreMadeFor L d → AreMadeFor R d → ConvergeIfCrossed d L R
unfolding cross
all_operations_converge d L R wf a b x h =
    let l = run_of L d a in
    let r = run_of R d b in
    let c = cross_runs (sum_weight component_weight L + sum_weight component_weight R) L R x h d l.result r.result (formed_of d wf) l.run r.run in
    record {
      after_left = l.result;
      after_right = r.result;
      left_applied = l.applied;
      right_applied = r.applied;
      ends = converge_or_overflow l.result r.result x c (made_or_overflows x.left r.result c.result c.left_run) (made_or_overflows x.right l.result c.result c.right_run);
    }

-- ---- both orders, each as one operation

apply_append_at : (o : Option Value) (cs more : List PlainComponent) → ((f : Value) → apply (cs ++ more) f ≡ option_and_then (apply more) (apply cs f))
    → option_and_then (apply (cs ++ more)) o ≡ option_and_then (apply more) (option_and_then (apply cs) o)
apply_append_at None cs more below = refl
apply_append_at (Some f) cs more below = below f

apply_append : (cs more : List PlainComponent) (d : Value) → apply (cs ++ more) d ≡ option_and_then (apply more) (apply cs d)
apply_append [] more d = refl
apply_append (c ∷ cs) more d = apply_append_at (apply_one c d) cs more (λ f. apply_append cs more f)

-- components that apply after a prefix
after_prefix : (cs more : List PlainComponent) (d u e : Value) → apply cs d ≡ Some u → apply (cs ++ more) d ≡ Some e → apply more u ≡ Some e
after_prefix cs more d u e h k = sym (apply_append cs more d ∙ ap (option_and_then (apply more)) h) ∙ k

-- a component whose sum leaves the range isn't applied
not_applied : (x : PlainAct) (n y : ℤ) → x ≡ na y → checked_whole (n +ℤ y) ≡ None → apply_act x (whole n) ≡ None
not_applied x n y is h = ap (λ a. apply_act a (whole n)) is ∙ ap (option_map whole) h

component_not_applied : (c : PlainComponent) (d : Value) → SumLeavesRange c d → apply_one c d ≡ None
component_not_applied c d s =
    ap (option_and_then (λ u. option_map (with_value_at d c.path) (apply_act c.act u))) s.found
    ∙ ap (option_map (with_value_at d c.path)) (not_applied c.act s.number s.x s.adds s.leaves)

overflow_not_applied : {G : Type 0} (cs : List PlainComponent) (d e : Value) → SomeSumLeavesRange cs d → apply cs d ≡ Some e → G
overflow_not_applied cs d e o h =
    let rest = after_prefix o.prefix (o.component ∷ o.rest) d o.before e o.applied (sym (ap (λ l. apply l d) o.parts) ∙ h) in
    none_some e (sym (ap (option_and_then (apply o.rest)) (component_not_applied o.component o.before o.sum)) ∙ rest)
  where
    none_some : {G : Type 0} (e : Value) → None ≡ Some e → G
    none_some e h = cc

agree_at_ends : (p q e f : Value) (x : Crossing PlainComponent) → apply x.right p ≡ Some e → apply x.left q ≡ Some f → TransformsConverge p q x ⊎ (SomeSumLeavesRange x.right p ⊎ SomeSumLeavesRange x.left q) → e ≡ f
agree_at_ends p q e f x h k (inl t) = some_same e f (sym h ∙ t.by_left ∙ sym t.by_right ∙ k)
agree_at_ends p q e f x h k (inr (inl o)) = overflow_not_applied x.right p e o h
agree_at_ends p q e f x h k (inr (inr o)) = overflow_not_applied x.left q f o k

pub orders_agree : (d e f : Value) (L R : List PlainComponent) (x : Crossing PlainComponent) → IsWellFormed d → AreMadeFor L d → AreMadeFor R d
    → cross_ops L R ≡ Some x → apply (L ++ x.right) d ≡ Some e → apply (R ++ x.left) d ≡ Some f → e ≡ f
orders_agree d e f L R x wf a b c h k =
    let r = all_operations_converge d L R wf a b x c in
    agree_at_ends r.after_left r.after_right e f x (after_prefix L x.right d r.after_left e r.left_applied h) (after_prefix R x.left d r.after_right f r.right_applied k) r.ends
