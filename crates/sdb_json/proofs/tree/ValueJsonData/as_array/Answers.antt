use Rattle.std.proofs.Common.{◌≡◌, List, [], ◌∷◌, map, Option, Some, refl, sym, ap, ◌∙◌}
use Rattle.std.specs.declared.alloc.Global.{Global}
use Rattle.json.proofs.Trees.{view-Array}
use Rattle.json.specs.Value.{items_view, value_view}
use Rattle.json.specs.declared.value.Value.{Value}
use Rattle.serde_json.specs.Find.{as_array}
use Rattle.serde_json.specs.View.{items_of}
use Rattle.serde_json.specs.Data.{item}
use Rattle.sdb_json.specs.TreeData.{data_of, items_data, tree_data}
use Rattle.sdb_json.proofs.tree.ValueJsonData.as_array.Goals as goal

seen : (vs : List (Value Global)) → items_of (map tree_data vs) ≡ items_data (items_view vs)
seen [] = refl
seen (v ∷ vs) = ap (item (tree_data v)) (seen vs)

pub returns-in-Array : goal.returns-in-Array
returns-in-Array c =
    ap (λ vs. Some (items_of (map tree_data vs))) c.as_slice.ensures.value ∙ ap Some (seen c.in-Array.items.items)
    ∙ ap (λ j. as_array (data_of j)) (sym (view-Array c.in-Array.items)) ∙ ap (λ v. as_array (tree_data v)) (sym c.in-Array.is)
