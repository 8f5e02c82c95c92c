use Rattle.std.proofs.Common.{set, ap, ◌∙◌}
use Rattle.std.proofs.lemmas.List.{map-set}
use Rattle.sdb_value.specs.Value.{index}
use Rattle.sdb_value.specs.View.{plain_step}
use Rattle.sdb_value.specs.declared.path.Step.TheVariants.{Index}
use Rattle.sdb_transform.proofs.CrossRun.{if_ok_then}
use Rattle.sdb_transform.proofs.rewrite.move_step.Goals as goal

pub returns : goal.returns
returns c =
    if_ok_then c.new.result c.new.ensures (λ p e. e ∙ map-set plain_step c.in_ok-steps.steps.items c.args.at (Index c.args.to) ∙ ap (λ q. set q c.args.at (index c.args.to)) c.in_ok-steps.ensures)
