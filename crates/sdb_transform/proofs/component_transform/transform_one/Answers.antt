use Rattle.std.proofs.Common.{Some, sym, ap, ◌∙◌}
use Rattle.sdb_transform.proofs.WeightLemmas.{never_rises}
use Rattle.sdb_transform.proofs.component_transform.transform_one.Goals as goal

pub returns-clause-weight : goal.returns-clause-weight
returns-clause-weight c =
    let v = c.in_ok-into_components.field-0.items in
    never_rises c.args.side c.args.component c.args.other.now v (c.in_ok-transformed.ensures.ok ∙ ap Some (sym c.into_op.ensures ∙ sym c.in_ok-into_components.ensures))
