use Rattle.std.proofs.Common.{◌≡◌, option_map, Option, Some, None, refl, ap, ◌∙◌}
use Rattle.std.specs.Borrow.{Bor}
use Rattle.std.specs.declared.alloc.Global.{Global}
use Rattle.json.specs.Value.{value_view}
use Rattle.json.specs.declared.value.Value.{Value}
use Rattle.sdb_json.specs.TreeData.{data_of, tree_data}
use Rattle.sdb_json.proofs.ObjectLemmas.{found-get}
use Rattle.sdb_json.proofs.tree.ValueJsonData.get.Goals as goal

seen : (o : Option (Bor (Value Global))) → option_map (λ v. tree_data v.now) o ≡ option_map data_of (option_map (λ v. value_view v.now) o)
seen None = refl
seen (Some v) = refl

pub returns : goal.returns
returns c = seen c.get.result ∙ ap (option_map data_of) c.get.ensures ∙ found-get c.args.key.now (value_view c.args.self.now)
