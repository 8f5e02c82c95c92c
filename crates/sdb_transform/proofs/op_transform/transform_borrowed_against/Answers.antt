use Rattle.std.proofs.Common.{◌≡◌, false, ap, ◌∙◌}
use Rattle.std.specs.Option.{is_none}
use Rattle.sdb_transform.specs.ActModel.{opposite}
use Rattle.sdb_transform.specs.Classification.{transformed_components}
use Rattle.sdb_transform.specs.Transform.{transform}
use Rattle.sdb_transform.proofs.PairLemmas.{any_fault}
use Rattle.sdb_transform.proofs.SideLemmas.{transform_refused_iff, own_fault, other_refused}
use Rattle.sdb_transform.proofs.ClassificationLemmas.{kind_exists}
use Rattle.sdb_transform.proofs.CrossRun.{if_ok_then, if_err_then}
use Rattle.sdb_transform.proofs.op_transform.transform_borrowed_against.Goals as goal

pub returns-in-Refused-clause-err : goal.returns-in-Refused-clause-err
returns-in-Refused-clause-err c = λ rest. other_refused c.args.component c.args.other.now rest c.args.side (rw c.opposite.ensures at c.in-Refused.ensures.kind)

pub returns-in_default-clause-ok : goal.returns-in_default-clause-ok
returns-in_default-clause-ok c =
    let exists : is_none (transform (opposite c.args.side) c.args.other.now c.args.component) ≡ false =
    ap is_none (rw c.opposite.ensures at c.classify.ensures.kind) ∙ kind_exists c.classify.result c.args.other.now c.args.component c.in_default.not-Refused
    in
    if_ok_then c.transform_against.result c.transform_against.ensures.ok (λ s e rest. transform_refused_iff c.args.component c.args.other.now rest c.args.side (transformed_components s) e exists)

pub returns-in_default-clause-err : goal.returns-in_default-clause-err
returns-in_default-clause-err c = if_err_then c.transform_against.result c.transform_against.ensures.err (λ f e rest. own_fault c.args.component c.args.other.now rest c.args.side f (any_fault f _ e))
