-- Operations that leave each other unchanged.
use Rattle.std.proofs.Common.{◌≡◌, not, ℕ, zero, suc, get_or, subst, ◌+◌, ◌<◌, ◌≤◌, length, List, [], ◌∷◌, Some, option_map, ap, ◌∙◌, arith, Option, None, Bool, true, false, sym, refl}
use Rattle.std.specs.List.{All, AllWithin}
use Rattle.std.specs.Option.{option_map_or}
use Rattle.std.specs.Prelude.{if◌then◌else◌, option_and_then}
use Rattle.sdb_value.specs.Value.{PlainStep, steps_equal}
use Rattle.sdb_value.specs.View.{plain_step, plain_path}
use Rattle.sdb_value.specs.declared.path.Step.{Step}
use Rattle.sdb_value.proofs.DisjointLemmas.{equal_steps}
use Rattle.sdb_transform.specs.ActModel.{opposite}
use Rattle.sdb_component.specs.Plain.{PlainComponent}
use Rattle.sdb_transform.specs.declared.side.Side.{Side}
use Rattle.sdb_transform.specs.declared.side.Side.TheVariants.{Left, Right}
use Rattle.sdb_transform.specs.Cross.{and_then, cross_ops, transform_op, join_crossings}
use Rattle.sdb_transform.specs.Classification.{CommuteUnchanged}
use Rattle.sdb_transform.specs.Transform.{update_removed, strip_prefix, transform_below, removed_step, transform, strip_removed_path}
use Rattle.sdb_transform.proofs.CrossLemmas.{cross_left_empty, cross_right_empty, cross_pair}
use Rattle.sdb_transform.proofs.WeightLemmas.{transform_is_weighted}

abbrev ComponentList : Type 0
ComponentList = List PlainComponent

-- the crossing leaves both unchanged
abbrev CrossUnchanged : ComponentList → ComponentList → Type 0
CrossUnchanged L R = (n : ℕ) × (cross_ops L R ≡ Some (record { left = L; right = R; pairs = n }))

after_first : (P : PlainComponent → Type 0) (c : PlainComponent) (cs : ComponentList) → All P (c ∷ cs) → All P cs
after_first P c cs h = λ k d within. h (suc k) d (omega (arith, within))

first_of : (P : PlainComponent → Type 0) (c : PlainComponent) (cs : ComponentList) → All P (c ∷ cs) → P c
first_of P c cs h = h 0 c (omega arith)

-- an unchanged pair, followed by the crossing of the rest
cross_pair_unchanged : (l r : PlainComponent) (L R : ComponentList) → CommuteUnchanged Left l r → CrossUnchanged (l ∷ []) R → CrossUnchanged L (r ∷ []) → CrossUnchanged L R → CrossUnchanged (l ∷ L) (r ∷ R)
cross_pair_unchanged l r L R s u v w = (
  suc (u.0 + v.0 + w.0),
  cross_pair transform_is_weighted l r L R
      ∙ ap (λ o. and_then o (λ ls. and_then (transform Right r l) (λ rs. and_then (cross_ops ls R) (λ u. and_then (cross_ops L rs) (λ v.
      and_then (cross_ops v.left u.right) (λ w. Some (join_crossings u v w))))))) s.0
      ∙ ap (λ o. and_then o (λ rs. and_then (cross_ops (l ∷ []) R) (λ u. and_then (cross_ops L rs) (λ v.
      and_then (cross_ops v.left u.right) (λ w. Some (join_crossings u v w)))))) s.1
      ∙ ap (λ o. and_then o (λ u. and_then (cross_ops L (r ∷ [])) (λ v. and_then (cross_ops v.left u.right) (λ w. Some (join_crossings u v w))))) u.1
      ∙ ap (λ o. and_then o (λ v. and_then (cross_ops v.left R) (λ w. Some (join_crossings (record { left = l ∷ []; right = R; pairs = u.0 }) v w)))) v.1
      ∙ ap (λ o. and_then o (λ w. Some (join_crossings (record { left = l ∷ []; right = R; pairs = u.0 }) (record { left = L; right = r ∷ []; pairs = v.0 }) w))) w.1,
)

no_left : (R : ComponentList) → CrossUnchanged [] R
no_left R = (0, cross_left_empty transform_is_weighted R)

no_right : (L : ComponentList) → CrossUnchanged L []
no_right L = (0, cross_right_empty transform_is_weighted L)

cross_row_unchanged : (l : PlainComponent) (R : ComponentList) → All (CommuteUnchanged Left l) R → CrossUnchanged (l ∷ []) R
cross_row_unchanged l [] h = no_right (l ∷ [])
cross_row_unchanged l (r ∷ R) h = cross_pair_unchanged l r [] R (first_of (CommuteUnchanged Left l) r R h) (cross_row_unchanged l R (after_first (CommuteUnchanged Left l) r R h)) (no_left (r ∷ [])) (no_left R)

cross_column_unchanged : (L : ComponentList) (r : PlainComponent) → All (λ l. CommuteUnchanged Left l r) L → CrossUnchanged L (r ∷ [])
cross_column_unchanged [] r h = no_left (r ∷ [])
cross_column_unchanged (l ∷ L) r h = cross_pair_unchanged l r L [] (first_of (λ x. CommuteUnchanged Left x r) l L h) (no_right (l ∷ [])) (cross_column_unchanged L r (after_first (λ x. CommuteUnchanged Left x r) l L h)) (no_right L)

cross_all_unchanged : (L R : ComponentList) → All (λ l. All (CommuteUnchanged Left l) R) L → CrossUnchanged L R
cross_all_unchanged [] R h = no_left R
cross_all_unchanged (l ∷ L) [] h = no_right (l ∷ L)
cross_all_unchanged (l ∷ L) (r ∷ R) h =
    let All_stay : PlainComponent → Type 0 = λ x. All (CommuteUnchanged Left x) (r ∷ R) in
    let first : All (CommuteUnchanged Left l) (r ∷ R) = first_of All_stay l L h in
    let rest : All All_stay L = after_first All_stay l L h in
    cross_pair_unchanged l r L R (first_of (CommuteUnchanged Left l) r R first) (cross_row_unchanged l R (after_first (CommuteUnchanged Left l) r R first))
    (cross_column_unchanged L r (λ k d within. first_of (CommuteUnchanged Left (get_or L k d)) r R (rest k d within)))
    (cross_all_unchanged L R (λ k d within. after_first (CommuteUnchanged Left (get_or L k d)) r R (rest k d within)))

pub stays_rebased : (side : Side) (L R : ComponentList) → All (λ c. All (CommuteUnchanged side c) R) L → transform_op side L R ≡ Some L
stays_rebased Left L R h = ap (option_map (λ x. x.left)) (cross_all_unchanged L R h).1
stays_rebased Right L R h = ap (option_map (λ x. x.right)) (cross_all_unchanged R L (λ j e m k d n. ((h k d n j e m).1, (h k d n j e m).0))).1

-- a property of the first i components extends to one more
pub one_more : (P : PlainComponent → Type 0) (cs : ComponentList) (i : ℕ) (x : PlainComponent) → i < length cs → x ≡ get_or cs i x → P x
    → AllWithin P cs 0 i → (k : ℕ) (d : PlainComponent) → 0 ≤ k → k < i + 1 → P (get_or cs k d)
one_more P [] i x within is p h k d low high = absurd (omega (arith, within))
one_more P (c ∷ cs) zero x within is p h zero d low high = subst P is p
one_more P (c ∷ cs) zero x within is p h (suc k) d low high = absurd (omega (arith, high))
one_more P (c ∷ cs) (suc i) x within is p h zero d low high = h 0 d (omega arith) (omega arith)
one_more P (c ∷ cs) (suc i) x within is p h (suc k) d low high =
    one_more P cs i x (omega (arith, within)) is p (λ j e from to. h (suc j) e (omega arith) (omega (arith, to))) k d (omega arith) (omega (arith, high))

-- ---- paths that differ

none_under : (r : Option PlainStep) → option_and_then (λ s. option_and_then (strip_prefix (s ∷ [])) None) r ≡ None
none_under None = refl
none_under (Some s) = refl

stays_above : (side : Side) (c o : PlainComponent) → strip_prefix o.path c.path ≡ None → strip_prefix c.path o.path ≡ None → transform side c o ≡ Some (c ∷ [])
stays_above side c o e f =
    ap (λ m. option_map_or (transform_below side c o) m (Some (update_removed c o (strip_removed_path c o.path)))) e
    ∙ ap (λ m. Some (update_removed c o (option_and_then (λ s. option_and_then (strip_prefix (s ∷ [])) m) (removed_step c.act)))) f
    ∙ ap (λ m. Some (update_removed c o m)) (none_under (removed_step c.act))

pub apart_stays : (side : Side) (c o : PlainComponent) → strip_prefix c.path o.path ≡ None → strip_prefix o.path c.path ≡ None → CommuteUnchanged side c o
apart_stays side c o e f = (stays_above side c o f e, stays_above (opposite side) o c e f)

not_behind : (b : Bool) (m : Option (List PlainStep)) → (b ≡ true → m ≡ None) → (if b then m else None) ≡ None
not_behind true m h = h refl
not_behind false m h = refl

-- at a step that both have
pub paths_diverge_at : (p q : List PlainStep) (k : ℕ) (s t : PlainStep) → k < length p → k < length q → s ≡ get_or p k s → t ≡ get_or q k t → (s ≡ t → ⊥) → strip_prefix p q ≡ None
paths_diverge_at [] q k s t inside within is it other = absurd (omega (arith, inside))
paths_diverge_at (a ∷ p) [] k s t inside within is it other = refl
paths_diverge_at (a ∷ p) (b ∷ q) zero s t inside within is it other =
    not_behind (steps_equal a b) (strip_prefix p q) (λ e. absurd (other (is ∙ equal_steps a b e ∙ sym it)))
paths_diverge_at (a ∷ p) (b ∷ q) (suc k) s t inside within is it other =
    not_behind (steps_equal a b) (strip_prefix p q) (λ e. paths_diverge_at p q k s t (omega (arith, inside)) (omega (arith, within)) is it other)

pub step_at : (items : List Step) (k : ℕ) (x : Step) → k < length items → x ≡ get_or items k x → plain_step x ≡ get_or (plain_path items) k (plain_step x)
step_at [] k x within is = absurd (omega (arith, within))
step_at (y ∷ items) zero x within is = ap plain_step is
step_at (y ∷ items) (suc k) x within is = step_at items k x (omega (arith, within)) is

pub false_of_not : (b : Bool) → not b ≡ true → b ≡ false
false_of_not true h = cc
false_of_not false h = refl
