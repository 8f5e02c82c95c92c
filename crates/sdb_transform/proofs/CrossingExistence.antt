-- The crossing of two operations exists, if no position can leave the range.
use Rattle.std.proofs.Common.{◌≡◌, ℕ, zero, suc, ◌+◌, ◌≤◌, List, [], ◌∷◌, ◌++◌, Option, Some, refl, ap, ◌∙◌, arith}
use Rattle.sdb_value.specs.Value.{Value}
use Rattle.sdb_value.specs.WellFormed.{IsWellFormed}
use Rattle.sdb_component.specs.Plain.{PlainComponent}
use Rattle.sdb_component.specs.Weight.{component_weight}
use Rattle.sdb_transform.specs.declared.side.Side.TheVariants.{Left, Right}
use Rattle.sdb_transform.specs.Transform.{transform}
use Rattle.sdb_transform.specs.Cross.{Crossing, sum_weight, and_then, join_crossings, cross_in, cross, cross_ops}
use Rattle.sdb_transform.specs.OperationConvergence.{AreMadeFor, highest_position, inserted_size, total_inserted_size, AllStayInRange}
use Rattle.sdb_transform.proofs.CrossLemmas.{cross_within_weight}
use Rattle.sdb_transform.proofs.WeightLemmas.{transform_is_weighted}
use Rattle.sdb_transform.proofs.FormedValues.{IsFormed, formed_of}
use Rattle.sdb_transform.proofs.OperationRuns.{OperationRun, component_formed, run_formed, run_of}
use Rattle.sdb_transform.proofs.PairRuns.{pair_runs}
use Rattle.sdb_transform.proofs.RaisedPositions.{IsWithin, component_position, transformed_within, pair_in_range, position_append, size_append}
use Rattle.sdb_transform.proofs.OperationLemmas.{CrossingRuns, cross_runs}

-- the crossing with at most n nested pairs, whose positions are raised by at most the inserted sizes
record CrossingWithin (n : ℕ) (L R : List PlainComponent) : Type 0 where
  pub crossing : Crossing PlainComponent
  pub is : cross_in (transform Left) (transform Right) n L R ≡ Some crossing
  pub left : IsWithin (highest_position L + total_inserted_size R) (total_inserted_size L) crossing.left
  pub right : IsWithin (highest_position R + total_inserted_size L) (total_inserted_size R) crossing.right

then_is : {A B : Type 0} (o : Option A) (f : A → Option B) (a : A) (y : Option B) → o ≡ Some a → f a ≡ y → and_then o f ≡ y
then_is o f a y e h = ap (λ o. and_then o f) e ∙ h

append_within : (n m k : ℕ) (cs more : List PlainComponent) → IsWithin n m cs → IsWithin n k more → IsWithin n (m + k) (cs ++ more)
append_within n m k cs more h g = record { position = omega (arith, h.position, g.position, position_append cs more); size = omega (arith, h.size, g.size, size_append cs more) }

within_more : (n m k j : ℕ) (cs : List PlainComponent) → IsWithin n m cs → n ≤ k → m ≤ j → IsWithin k j cs
within_more n m k j cs h a b = record { position = omega (arith, h.position, a); size = omega (arith, h.size, b) }

-- the crossings of all lists whose weights are at most n
abbrev CrossingsWithin : ℕ → Type 0
CrossingsWithin n =
    (L R : List PlainComponent) → sum_weight component_weight L + sum_weight component_weight R ≤ n → (d e f : Value) → IsFormed d → OperationRun L d e → OperationRun R d f
    → AllStayInRange L R → AllStayInRange R L → CrossingWithin n L R

-- the crossing of l and L with r and R, from the three crossings after that of the pair
joined_is : (n : ℕ) (l r : PlainComponent) (L R l1 r1 : List PlainComponent) (u v w : Crossing PlainComponent) → transform Left l r ≡ Some l1 → transform Right r l ≡ Some r1
    → cross_in (transform Left) (transform Right) n l1 R ≡ Some u → cross_in (transform Left) (transform Right) n L r1 ≡ Some v → cross_in (transform Left) (transform Right) n v.left u.right ≡ Some w
    → cross_in (transform Left) (transform Right) (suc n) (l ∷ L) (r ∷ R) ≡ Some (join_crossings u v w)
unfolding cross_in
joined_is n l r L R l1 r1 u v w e1 e2 e3 e4 e5 =
    then_is (transform Left l r) _ l1 _ e1
    (then_is (transform Right r l) _ r1 _ e2
    (then_is (cross_in (transform Left) (transform Right) n l1 R) _ u _ e3
    (then_is (cross_in (transform Left) (transform Right) n L r1) _ v _ e4
    (then_is (cross_in (transform Left) (transform Right) n v.left u.right) _ w _ e5 refl))))

joined_within : (n : ℕ) (l r : PlainComponent) (L R l1 r1 : List PlainComponent) (u : CrossingWithin n l1 R) (v : CrossingWithin n L r1) → CrossingWithin n v.crossing.left u.crossing.right
    → transform Left l r ≡ Some l1 → transform Right r l ≡ Some r1 → IsWithin (component_position l + inserted_size r.act) (inserted_size l.act) l1 → IsWithin (component_position r + inserted_size l.act) (inserted_size r.act) r1
    → CrossingWithin (suc n) (l ∷ L) (r ∷ R)
joined_within n l r L R l1 r1 u v w e1 e2 s1 s2 =
    let size_l = total_inserted_size L in
    let size_r = total_inserted_size R in
    let top_left = highest_position (l ∷ L) + total_inserted_size (r ∷ R) in
    let top_right = highest_position (r ∷ R) + total_inserted_size (l ∷ L) in
    record {
      crossing = join_crossings u.crossing v.crossing w.crossing;
      is = joined_is n l r L R l1 r1 u.crossing v.crossing w.crossing e1 e2 u.is v.is w.is;
      left =
          append_within top_left (inserted_size l.act) size_l u.crossing.left w.crossing.left
          (within_more (highest_position l1 + size_r) (total_inserted_size l1) top_left (inserted_size l.act) u.crossing.left u.left (omega (arith, s1.position)) s1.size)
          (within_more (highest_position v.crossing.left + total_inserted_size u.crossing.right) (total_inserted_size v.crossing.left) top_left size_l w.crossing.left w.left
          (omega (arith, v.left.position, u.right.size, s2.size)) v.left.size);
      right =
          append_within top_right (inserted_size r.act) size_r v.crossing.right w.crossing.right
          (within_more (highest_position r1 + size_l) (total_inserted_size r1) top_right (inserted_size r.act) v.crossing.right v.right (omega (arith, s2.position)) s2.size)
          (within_more (highest_position u.crossing.right + total_inserted_size v.crossing.left) (total_inserted_size u.crossing.right) top_right size_r w.crossing.right w.right
          (omega (arith, u.right.position, v.left.size, s1.size)) u.right.size);
    }

-- the last of the three crossings
last_crossing : (n : ℕ) (l r : PlainComponent) (L R l1 r1 : List PlainComponent) (u : CrossingWithin n l1 R) (v : CrossingWithin n L r1) (c e f : Value) → CrossingsWithin n
    → sum_weight component_weight (l ∷ L) + sum_weight component_weight (r ∷ R) ≤ suc n
    → IsWithin (component_position l + inserted_size r.act) (inserted_size l.act) l1 → IsWithin (component_position r + inserted_size l.act) (inserted_size r.act) r1
    → IsFormed c → CrossingRuns c f u.crossing → CrossingRuns e c v.crossing → AllStayInRange (l ∷ L) (r ∷ R) → AllStayInRange (r ∷ R) (l ∷ L)
    → CrossingWithin n v.crossing.left u.crossing.right
last_crossing n l r L R l1 r1 u v c e f below h s1 s2 wf g k i j =
    let ok = transform_is_weighted in
    let wu = (cross_within_weight ok n l1 R u.crossing u.is).on_right in
    let wv = (cross_within_weight ok n L r1 v.crossing v.is).on_left in
    below v.crossing.left u.crossing.right (omega (arith, h, ok.positive l, ok.positive r, wu, wv)) c k.result g.result wf k.left_run g.right_run
    (omega (arith, i, v.left.position, u.right.size, s2.size)) (omega (arith, j, u.right.position, v.left.size, s1.size))

-- with the first two
both_crossings : (n : ℕ) (l r : PlainComponent) (L R l1 r1 : List PlainComponent) (d1 d2 c e f : Value) → CrossingsWithin n → sum_weight component_weight (l ∷ L) + sum_weight component_weight (r ∷ R) ≤ suc n
    → transform Left l r ≡ Some l1 → transform Right r l ≡ Some r1 → IsWithin (component_position l + inserted_size r.act) (inserted_size l.act) l1 → IsWithin (component_position r + inserted_size l.act) (inserted_size r.act) r1
    → IsFormed d1 → IsFormed d2 → IsFormed c → OperationRun l1 d2 c → OperationRun r1 d1 c → OperationRun L d1 e → OperationRun R d2 f → AllStayInRange (l ∷ L) (r ∷ R) → AllStayInRange (r ∷ R) (l ∷ L)
    → CrossingWithin (suc n) (l ∷ L) (r ∷ R)
both_crossings n l r L R l1 r1 d1 d2 c e f below h e1 e2 s1 s2 w1 w2 wc run_l run_r a b i j =
    let ok = transform_is_weighted in
    let h1 = ok.on_left l r l1 e1 in
    let h2 = ok.on_right r l r1 e2 in
    let u = below l1 R (omega (arith, h, h1, ok.positive r)) d2 c f w2 run_l b (omega (arith, i, s1.position)) (omega (arith, j, s1.size)) in
    let v = below L r1 (omega (arith, h, h2, ok.positive l)) d1 e c w1 a run_r (omega (arith, i, s2.size)) (omega (arith, j, s2.position)) in
    let g = cross_runs n l1 R u.crossing u.is d2 c f w2 run_l b in
    let k = cross_runs n L r1 v.crossing v.is d1 e c w1 a run_r in
    joined_within n l r L R l1 r1 u v (last_crossing n l r L R l1 r1 u v c e f below h s1 s2 wc g k i j) e1 e2 s1 s2

crossing_in : (n : ℕ) → CrossingsWithin n
unfolding cross_in
crossing_in n [] R h d e f wf a b i j = record {
  crossing = record { left = []; right = R; pairs = 0 };
  is = refl;
  left = record { position = omega arith; size = omega arith };
  right = record { position = omega arith; size = omega arith };
}
crossing_in n (l ∷ L) [] h d e f wf a b i j = record {
  crossing = record { left = l ∷ L; right = []; pairs = 0 };
  is = refl;
  left = record { position = omega arith; size = omega arith };
  right = record { position = omega arith; size = omega arith };
}
crossing_in zero (l ∷ L) (r ∷ R) h d e f wf a b i j = absurd (omega (arith, h, transform_is_weighted.positive l))
crossing_in (suc n) (l ∷ L) (r ∷ R) h d e f wf a b i j =
    let p = pair_runs d l r a.0 b.0 wf a.1 b.1 (pair_in_range Left l r (omega (arith, i))) (pair_in_range Right r l (omega (arith, j))) in
    let after_l = component_formed l d a.0 wf a.1 in
    let after_r = component_formed r d b.0 wf b.1 in
    both_crossings n l r L R p.left p.right a.0 b.0 p.result e f (crossing_in n) h p.on_left p.on_right (transformed_within Left l r p.left p.on_left) (transformed_within Right r l p.right p.on_right)
    after_l after_r (run_formed p.left b.0 p.result after_r p.left_run) p.left_run p.right_run a.2 b.2 i j

-- of operations that are made for d apart from the range of sums
pub crossing_of_runs : (d e f : Value) (L R : List PlainComponent) → IsFormed d → OperationRun L d e → OperationRun R d f → AllStayInRange L R → AllStayInRange R L → (x : Crossing PlainComponent) × (cross_ops L R ≡ Some x)
unfolding cross
crossing_of_runs d e f L R wf a b i j = let x = crossing_in (sum_weight component_weight L + sum_weight component_weight R) L R (omega arith) d e f wf a b i j in (x.crossing, x.is)

pub crossing_of : (d : Value) (L R : List PlainComponent) → IsWellFormed d → AreMadeFor L d → AreMadeFor R d → AllStayInRange L R → AllStayInRange R L → (x : Crossing PlainComponent) × (cross_ops L R ≡ Some x)
crossing_of d L R wf a b i j =
    let l = run_of L d a in
    let r = run_of R d b in
    crossing_of_runs d l.result r.result L R (formed_of d wf) l.run r.run i j
