use Rattle.std.proofs.Common.{◌≡◌, ◌++◌, drop, map}
use Rattle.std.specs.Option.{option_map}
use Rattle.serde_json.specs.View.{items_of}
use Rattle.sdb_value.specs.View.{plain_path}
use Rattle.sdb_component.specs.FromJson.{path_steps_of}
use Rattle.sdb_component.proofs.path_json.path_steps_of.Given as goal

abbrev pub invariant-loop-item : goal.invariant-loop-item
invariant-loop-item g l =
    let f = g.D.JsonData.json in
    path_steps_of (items_of (map f l.items)) ≡ option_map (λ q. plain_path l.steps.items ++ q) (path_steps_of (items_of (map f (drop l.item-index l.items))))
