-- Operations of one component each.
use Rattle.std.proofs.Common.{◌≡◌, List, [], ◌∷◌, Option, Some, None, ap, ◌∙◌}
use Rattle.std.proofs.lemmas.List.{append-nil}
use Rattle.sdb_component.specs.Plain.{PlainComponent}
use Rattle.sdb_transform.specs.ActModel.{IsTransformFault, IsPairFault}
use Rattle.sdb_transform.specs.declared.side.Fault.{Fault}
use Rattle.sdb_transform.specs.declared.side.Fault.TheVariants.{OutOfMemory, NotTransformed}
use Rattle.sdb_transform.specs.declared.side.Side.TheVariants.{Left, Right}
use Rattle.sdb_transform.specs.Cross.{CrossResult, and_then, cross_ops, join_crossings}
use Rattle.sdb_transform.specs.Transform.{transform}
use Rattle.sdb_transform.proofs.CrossLemmas.{cross_left_empty, cross_right_empty, cross_pair, and_then_none}
use Rattle.sdb_transform.proofs.WeightLemmas.{transform_is_weighted}

pub any_fault : {A : Type 0} (f : Fault) (o : Option A) → IsPairFault f o → IsTransformFault f o
any_fault NotTransformed o h = h
any_fault OutOfMemory o h = tt

module _ (l r : PlainComponent) where
  -- the crossing of the results if nothing follows
  abbrev CrossOfRest : List PlainComponent → List PlainComponent → CrossResult
  CrossOfRest ls rs =
      and_then (cross_ops ls []) (λ u.
      and_then (cross_ops [] rs) (λ v.
      and_then (cross_ops v.left u.right) (λ w.
      Some (join_crossings u v w))))

  cross_single_rule : cross_ops (l ∷ []) (r ∷ []) ≡ and_then (transform Left l r) (λ ls. and_then (transform Right r l) (CrossOfRest ls))
  cross_single_rule = cross_pair transform_is_weighted l r [] []

  cross_rest : (ls rs : List PlainComponent) → CrossOfRest ls rs ≡ Some (record { left = ls; right = rs; pairs = 1 })
  cross_rest ls rs = rw (cross_right_empty transform_is_weighted ls, cross_left_empty transform_is_weighted rs, cross_left_empty transform_is_weighted [], append-nil ls, append-nil rs)

  pub one_pair : (ls rs : List PlainComponent) → transform Left l r ≡ Some ls → transform Right r l ≡ Some rs → cross_ops (l ∷ []) (r ∷ []) ≡ Some (record { left = ls; right = rs; pairs = 1 })
  one_pair ls rs on_left on_right = cross_single_rule ∙ ap (λ o. and_then o (λ ls. and_then (transform Right r l) (CrossOfRest ls))) on_left ∙ ap (λ o. and_then o (CrossOfRest ls)) on_right ∙ cross_rest ls rs

  left_refused : transform Left l r ≡ None → cross_ops (l ∷ []) (r ∷ []) ≡ None
  left_refused e = cross_single_rule ∙ ap (λ o. and_then o (λ ls. and_then (transform Right r l) (CrossOfRest ls))) e

  right_refused : transform Right r l ≡ None → cross_ops (l ∷ []) (r ∷ []) ≡ None
  right_refused e = cross_single_rule ∙ and_then_none (transform Left l r) (λ ls. and_then (transform Right r l) (CrossOfRest ls)) (λ ls. ap (λ o. and_then o (CrossOfRest ls)) e)

  pub left_fault : (f : Fault) → IsTransformFault f (transform Left l r) → IsTransformFault f (cross_ops (l ∷ []) (r ∷ []))
  left_fault NotTransformed h = left_refused h
  left_fault OutOfMemory h = tt

  pub right_fault : (f : Fault) → IsTransformFault f (transform Right r l) → IsTransformFault f (cross_ops (l ∷ []) (r ∷ []))
  right_fault NotTransformed h = right_refused h
  right_fault OutOfMemory h = tt
