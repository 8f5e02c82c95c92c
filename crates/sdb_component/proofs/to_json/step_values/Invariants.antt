use Rattle.std.proofs.Common.{◌≡◌, take, map}
use Rattle.serde_json.specs.View as data-view
use Rattle.sdb_value.specs.View.{plain_step}
use Rattle.sdb_component.specs.ToJson.{step_data}
use Rattle.sdb_component.proofs.to_json.step_values.Given as goal

abbrev pub invariant-loop-step : goal.invariant-loop-step
invariant-loop-step l = map data-view.view l.items.items ≡ map (λ s. step_data (plain_step s)) (take l.step-index l.path)
