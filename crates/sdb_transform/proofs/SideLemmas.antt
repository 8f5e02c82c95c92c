-- One component against an operation, component by component.
use Rattle.std.proofs.Common.{◌≡◌, List, [], ◌∷◌, Option, Some, None, option_map, false, refl, ap, ◌∙◌}
use Rattle.std.proofs.lemmas.List.{append-nil}
use Rattle.std.specs.Option.{is_none}
use Rattle.sdb_component.specs.Plain.{PlainComponent}
use Rattle.sdb_transform.specs.ActModel.{IsTransformFault, opposite}
use Rattle.sdb_transform.specs.declared.side.Fault.{Fault}
use Rattle.sdb_transform.specs.declared.side.Fault.TheVariants.{OutOfMemory, NotTransformed}
use Rattle.sdb_transform.specs.declared.side.Side.{Side}
use Rattle.sdb_transform.specs.declared.side.Side.TheVariants.{Left, Right}
use Rattle.sdb_transform.specs.Cross.{CrossResult, and_then, cross_ops, transform_op, join_crossings}
use Rattle.sdb_transform.specs.Transform.{transform}
use Rattle.sdb_transform.proofs.CrossLemmas.{cross_left_empty, cross_right_empty, cross_pair, and_then_none}
use Rattle.sdb_transform.proofs.WeightLemmas.{transform_is_weighted}

abbrev ComponentList : Type 0
ComponentList = List PlainComponent

-- u crosses the transformed left components, and no left component remains
abbrev LeftRemainder : ComponentList → CrossResult → CrossResult
LeftRemainder rs o = and_then o (λ u. and_then (cross_ops [] rs) (λ v. and_then (cross_ops v.left u.right) (λ w. Some (join_crossings u v w))))

left_rest : (rs : ComponentList) (o : CrossResult) → option_map (λ x. x.left) (LeftRemainder rs o) ≡ option_map (λ x. x.left) o
left_rest rs None = refl
left_rest rs (Some u) = rw (cross_left_empty transform_is_weighted rs, cross_left_empty transform_is_weighted u.right, append-nil u.left)

-- with the sides exchanged
abbrev RightRemainder : ComponentList → CrossResult → CrossResult
RightRemainder ls o = and_then (cross_ops ls []) (λ u. and_then o (λ v. and_then (cross_ops v.left u.right) (λ w. Some (join_crossings u v w))))

right_rest : (ls : ComponentList) (o : CrossResult) → option_map (λ x. x.right) (RightRemainder ls o) ≡ option_map (λ x. x.right) o
right_rest ls None = rw (cross_right_empty transform_is_weighted ls)
right_rest ls (Some v) = rw (cross_right_empty transform_is_weighted ls, cross_right_empty transform_is_weighted v.left, append-nil v.right)

is_some : {A : Type 0} (o : Option A) → is_none o ≡ false → (a : A) × (o ≡ Some a)
is_some None h = cc
is_some (Some a) h = (a, refl)

module _ (c o : PlainComponent) (R : ComponentList) where
  left_rule : cross_ops (c ∷ []) (o ∷ R) ≡ and_then (transform Left c o) (λ ls. and_then (transform Right o c) (λ rs. LeftRemainder rs (cross_ops ls R)))
  left_rule = cross_pair transform_is_weighted c o [] R

  right_rule : cross_ops (o ∷ R) (c ∷ []) ≡ and_then (transform Left o c) (λ ls. and_then (transform Right c o) (λ rs. RightRemainder ls (cross_ops R rs)))
  right_rule = cross_pair transform_is_weighted o c R []

  left_goes : (cs rs : ComponentList) → transform Left c o ≡ Some cs → transform Right o c ≡ Some rs → cross_ops (c ∷ []) (o ∷ R) ≡ LeftRemainder rs (cross_ops cs R)
  left_goes cs rs e f = left_rule ∙ ap (λ p. and_then p (λ ls. and_then (transform Right o c) (λ rs. LeftRemainder rs (cross_ops ls R)))) e ∙ ap (λ p. and_then p (λ rs. LeftRemainder rs (cross_ops cs R))) f

  right_goes : (cs ls : ComponentList) → transform Right c o ≡ Some cs → transform Left o c ≡ Some ls → cross_ops (o ∷ R) (c ∷ []) ≡ RightRemainder ls (cross_ops R cs)
  right_goes cs ls e f = right_rule ∙ ap (λ p. and_then p (λ ls. and_then (transform Right c o) (λ rs. RightRemainder ls (cross_ops R rs)))) f ∙ ap (λ p. and_then p (λ rs. RightRemainder ls (cross_ops R rs))) e

  pub transform_refused_iff : (side : Side) (cs : ComponentList) → transform side c o ≡ Some cs → is_none (transform (opposite side) o c) ≡ false → transform_op side (c ∷ []) (o ∷ R) ≡ transform_op side cs R
  transform_refused_iff Left cs e h = let (rs, f) = is_some (transform Right o c) h in ap (option_map (λ x. x.left)) (left_goes cs rs e f) ∙ left_rest rs (cross_ops cs R)
  transform_refused_iff Right cs e h = let (ls, f) = is_some (transform Left o c) h in ap (option_map (λ x. x.right)) (right_goes cs ls e f) ∙ right_rest ls (cross_ops R cs)

  -- refused if the component's own transform is
  own_refused : (side : Side) → transform side c o ≡ None → transform_op side (c ∷ []) (o ∷ R) ≡ None
  own_refused Left e = ap (option_map (λ x. x.left)) (left_rule ∙ ap (λ p. and_then p (λ ls. and_then (transform Right o c) (λ rs. LeftRemainder rs (cross_ops ls R)))) e)
  own_refused Right e = ap (option_map (λ x. x.right)) (right_rule ∙ and_then_none (transform Left o c) _ (λ ls. ap (λ p. and_then p (λ rs. RightRemainder ls (cross_ops R rs))) e))

  pub own_fault : (side : Side) (f : Fault) → IsTransformFault f (transform side c o) → IsTransformFault f (transform_op side (c ∷ []) (o ∷ R))
  own_fault side NotTransformed h = own_refused side h
  own_fault side OutOfMemory h = tt

  -- refused if the other's is
  pub other_refused : (side : Side) → transform (opposite side) o c ≡ None → transform_op side (c ∷ []) (o ∷ R) ≡ None
  other_refused Left e = ap (option_map (λ x. x.left)) (left_rule ∙ and_then_none (transform Left c o) _ (λ ls. ap (λ p. and_then p (λ rs. LeftRemainder rs (cross_ops ls R))) e))
  other_refused Right e = ap (option_map (λ x. x.right)) (right_rule ∙ ap (λ p. and_then p (λ ls. and_then (transform Right c o) (λ rs. RightRemainder ls (cross_ops R rs)))) e)

none_rebased : (side : Side) (R : ComponentList) → transform_op side [] R ≡ Some []
none_rebased Left R = ap (option_map (λ x. x.left)) (cross_left_empty transform_is_weighted R)
none_rebased Right R = ap (option_map (λ x. x.right)) (cross_right_empty transform_is_weighted R)

pub empty_rebased : (side : Side) (cs R : ComponentList) → cs ≡ [] → transform_op side cs R ≡ Some cs
empty_rebased side cs R e = rw e (none_rebased side R)

pub past_none : (side : Side) (L : ComponentList) → transform_op side L [] ≡ Some L
past_none Left L = ap (option_map (λ x. x.left)) (cross_right_empty transform_is_weighted L)
past_none Right L = ap (option_map (λ x. x.right)) (cross_left_empty transform_is_weighted L)
