use Rattle.std.proofs.Common.{map, ap, ◌∙◌}
use Rattle.std.proofs.lemmas.List.{take_all}
use Rattle.serde_json.specs.View as data-view
use Rattle.sdb_component.specs.ToJson.{component_data}
use Rattle.sdb_component.proofs.PrintLemmas.{component_items-map}
use Rattle.sdb_component.proofs.to_json.component_values.Goals as goal

pub returns : goal.returns
returns c =
    let s = c.args.components.now in
    ap data-view.items_of c.loop-component.invariant ∙ ap (λ l. data-view.items_of (map component_data l)) (take_all c.loop-component.component-index s c.loop-component-test.false)
    ∙ component_items-map s
