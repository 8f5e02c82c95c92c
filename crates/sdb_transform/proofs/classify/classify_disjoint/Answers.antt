use Rattle.std.proofs.Common.{◌≡◌, true, sym, ap, refl, ◌∙◌}
use Rattle.std.specs.Option.{is_some}
use Rattle.sdb_transform.specs.Transform.{strip_removed_path}
use Rattle.sdb_transform.proofs.ClassificationLemmas.{removed_rest}
use Rattle.sdb_transform.proofs.classify.classify_disjoint.Goals as goal

pub returns-then-removes_value_at-clause-kind : goal.returns-then-removes_value_at-clause-kind
returns-then-removes_value_at-clause-kind c =
    let s = c.args.component.now in
    let removes : is_some (strip_removed_path s c.args.other.now.path) ≡ true = ap (λ p. is_some (strip_removed_path s p)) (sym c.path.ensures) ∙ sym c.removes_value_at.ensures ∙ c.if-removes_value_at.true in
    rw (removed_rest s c.args.other.now removes).0 refl

pub returns-then-removes_value_at-clause-feasible : goal.returns-then-removes_value_at-clause-feasible
returns-then-removes_value_at-clause-feasible c =
    let s = c.args.component.now in
    let removes : is_some (strip_removed_path s c.args.other.now.path) ≡ true = ap (λ p. is_some (strip_removed_path s p)) (sym c.path.ensures) ∙ sym c.removes_value_at.ensures ∙ c.if-removes_value_at.true in
    (removed_rest s c.args.other.now removes).1
