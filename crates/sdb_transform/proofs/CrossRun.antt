-- One step of the loop of a crossing.
use Rattle.std.proofs.Common.{◌≡◌, ℕ, ◌+◌, ◌-◌, ◌*◌, ◌^◌, ◌<◌, ◌≤◌, arith, min, List, [], ◌∷◌, ◌++◌, Result, Ok, Err, Some, ap, ◌∙◌, append-nil}
use Rattle.std.specs.Prelude.{IfOk, OnOk, IfErr}
use Rattle.sdb_component.specs.Plain.{PlainComponent}
use Rattle.sdb_component.specs.Weight.{component_weight, weight}
use Rattle.sdb_transform.specs.declared.cross_stack.Frame.{Frame}
use Rattle.sdb_transform.specs.declared.side.Fault.{Fault}
use Rattle.sdb_transform.specs.declared.side.Fault.TheVariants.{OutOfMemory, NotTransformed}
use Rattle.sdb_transform.specs.declared.side.Side.TheVariants.{Left, Right}
use Rattle.sdb_transform.specs.ActModel.{IsTransformFault}
use Rattle.sdb_transform.specs.Cross.{CrossResult, sum_weight, cross_ops}
use Rattle.sdb_transform.specs.CrossStack.{work_item_of, IsCrossFault}
use Rattle.sdb_transform.specs.Transform.{transform}
use Rattle.sdb_transform.specs.CrossMachine.{WorkItem, LeftChanges, RightChange, right_frames, step_bound, StateInvariant}
use Rattle.sdb_transform.proofs.CrossLemmas.{view_start, view_none, view_pair, view_refused, view_end, turns_waits, turns_pair}
use Rattle.sdb_transform.proofs.WeightLemmas.{transform_is_weighted, few_pairs}

pub on_ok_then : {A E : Type 0} {P Q : Type 0} (r : Result A E) → OnOk r P → (P → Q) → OnOk r Q
on_ok_then (Ok a) h k = k h
on_ok_then (Err e) h k = h

pub if_ok_then : {A E : Type 0} {P Q : A → Type 0} (r : Result A E) → IfOk r P → ((a : A) → P a → Q a) → IfOk r Q
if_ok_then (Ok a) h k = k a h
if_ok_then (Err e) h k = h

pub if_err_then : {A E : Type 0} {P Q : E → Type 0} (r : Result A E) → IfErr r P → ((e : E) → P e → Q e) → IfErr r Q
if_err_then (Ok a) h k = h
if_err_then (Err e) h k = k e h

abbrev pub InvariantAt : CrossResult → List PlainComponent → List (WorkItem PlainComponent) → List PlainComponent → ℕ → Type 0
InvariantAt goal W S done p = StateInvariant (transform Left) (transform Right) component_weight goal W S done p

-- a right change against no left one, and against one
module _ (goal : CrossResult) (r : PlainComponent) (W W' : List PlainComponent) (S S' : List (WorkItem PlainComponent)) (done : List PlainComponent) (p : ℕ) where
  pub none_preserves : (done' : List PlainComponent) → W ≡ [] → W' ≡ [] → done' ≡ done ++ r ∷ [] → InvariantAt goal W (RightChange r ∷ S) done p → InvariantAt goal W' S done' p
  none_preserves done' e e' f h = view_none transform_is_weighted goal W W' r S done done' p e e' f h

  pub meet_preserves : (l : PlainComponent) (p' : ℕ) (ls rs : List PlainComponent) → W ≡ l ∷ W' → transform Left l r ≡ Some ls → transform Right r l ≡ Some rs → p' ≡ min (p + 1) (2 ^ 128 - 1) → S' ≡ right_frames rs ++ (LeftChanges ls ∷ S) → InvariantAt goal W (RightChange r ∷ S) done p → InvariantAt goal W' S' done p'
  meet_preserves l p' ls rs e on_left on_right f g h = view_pair transform_is_weighted goal W W' l r S S' done p p' ls rs e on_left on_right f g h

  pub meet_refused : (l : PlainComponent) → W ≡ l ∷ W' → (f : Fault) → IsCrossFault l r f → InvariantAt goal W (RightChange r ∷ S) done p → IsTransformFault f goal
  meet_refused l e OutOfMemory q h = tt
  meet_refused l e NotTransformed q h = view_refused transform_is_weighted goal W W' l r S done p e h q

pub meet_falls : (l r : PlainComponent) (W W' : List PlainComponent) (S S' : List (WorkItem PlainComponent)) (ls rs : List PlainComponent) → W ≡ l ∷ W' → transform Left l r ≡ Some ls → transform Right r l ≡ Some rs → S' ≡ right_frames rs ++ (LeftChanges ls ∷ S) → step_bound component_weight (sum_weight component_weight W') S' < step_bound component_weight (sum_weight component_weight W) (RightChange r ∷ S)
meet_falls l r W W' S S' ls rs e on_left on_right g = turns_pair transform_is_weighted W W' l r S S' ls rs e on_left on_right g

pub waits_falls : (next : Frame) (W W' ls : List PlainComponent) (S : List (WorkItem PlainComponent)) → work_item_of next ≡ LeftChanges ls → W' ≡ ls ++ W → step_bound component_weight (sum_weight component_weight W') S < step_bound component_weight (sum_weight component_weight W) (work_item_of next ∷ S)
waits_falls next W W' ls S is e = rw is (turns_waits transform_is_weighted W W' ls S e)

-- at the start all left components are pushed and all right ones are work
pub invariant_at_start : (L L' R R' W0 W : List PlainComponent) (S0 S : List (WorkItem PlainComponent)) (done : List PlainComponent) → W0 ≡ [] → W ≡ L' ++ W0 → L' ≡ L → S0 ≡ [] → S ≡ right_frames R' ++ S0 → R' ≡ R → done ≡ [] → InvariantAt (cross_ops L R) W S done 0
invariant_at_start L L' R R' W0 W S0 S done a e f b g h d =
    let e' : W ≡ L = e ∙ ap (λ w. L' ++ w) a ∙ append-nil L' ∙ f in
    let g' : S ≡ right_frames R = g ∙ ap (λ w. right_frames R' ++ w) b ∙ append-nil (right_frames R') ∙ ap right_frames h in
    rw d (view_start transform_is_weighted L W R S e' g')

-- at the end the number of pairs is in range
pub ends_few : (L R W : List PlainComponent) (S : List (WorkItem PlainComponent)) (done : List PlainComponent) (p : ℕ) → S ≡ [] → InvariantAt (cross_ops L R) W S done p → p ≤ weight L * weight R
ends_few L R W S done p e h =
    let (k, shown, n) = view_end transform_is_weighted (cross_ops L R) W S done p e h in
    let light = few_pairs L R (record { left = W; right = done; pairs = k }) shown in
    omega arith
