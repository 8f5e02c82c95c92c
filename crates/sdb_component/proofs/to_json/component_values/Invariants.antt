use Rattle.std.proofs.Common.{◌≡◌, take, map}
use Rattle.serde_json.specs.View as data-view
use Rattle.sdb_component.specs.ToJson.{component_data}
use Rattle.sdb_component.proofs.to_json.component_values.Given as goal

abbrev pub invariant-loop-component : goal.invariant-loop-component
invariant-loop-component l = map data-view.view l.items.items ≡ map component_data (take l.component-index l.components)
