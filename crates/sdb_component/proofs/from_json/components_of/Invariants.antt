use Rattle.std.proofs.Common.{◌≡◌, ◌++◌, drop, map}
use Rattle.std.specs.Option.{option_map}
use Rattle.serde_json.specs.View.{items_of}
use Rattle.sdb_component.specs.FromJson.{components_of}
use Rattle.sdb_component.proofs.from_json.components_of.Given as goal

abbrev pub invariant-loop-item : goal.invariant-loop-item
invariant-loop-item g l =
    let f = g.D.JsonData.json in
    components_of (items_of (map f l.items)) ≡ option_map (λ r. l.components.items ++ r) (components_of (items_of (map f (drop l.item-index l.items))))
