use Rattle.std.proofs.Common.{map, ap, ◌∙◌}
use Rattle.std.proofs.lemmas.List.{take_all}
use Rattle.serde_json.specs.View as data-view
use Rattle.sdb_value.specs.View.{plain_step}
use Rattle.sdb_component.specs.ToJson.{step_data}
use Rattle.sdb_component.proofs.PrintLemmas.{path_items-map}
use Rattle.sdb_component.proofs.to_json.step_values.Goals as goal

pub returns : goal.returns
returns c =
    let s = c.args.path.now in
    ap data-view.items_of c.loop-step.invariant ∙ ap (λ l. data-view.items_of (map (λ x. step_data (plain_step x)) l)) (take_all c.loop-step.step-index s c.loop-step-test.false)
    ∙ path_items-map s
