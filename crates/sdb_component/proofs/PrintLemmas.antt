-- The written parts of an operation or a path.
use Rattle.std.proofs.Common.{◌≡◌, List, [], ◌∷◌, ◌++◌, map, refl, sym, ap, ◌∙◌}
use Rattle.serde_json.specs.Data as raw
use Rattle.serde_json.specs.View as data-view
use Rattle.serde_json.specs.declared.value.Value.{Value}
use Rattle.sdb_value.specs.Value.{PlainStep}
use Rattle.sdb_value.specs.View.{plain_step, plain_path}
use Rattle.sdb_value.specs.declared.path.Step.{Step}
use Rattle.sdb_component.specs.Plain.{PlainComponent}
use Rattle.sdb_component.specs.ToJson.{step_data, path_items, component_data, component_items}

pub component_items-map : (cs : List PlainComponent) → data-view.items_of (map component_data cs) ≡ component_items cs
component_items-map [] = refl
component_items-map (c ∷ cs) = ap (raw.item (component_data c)) (component_items-map cs)

pub path_items-map : (p : List Step) → data-view.items_of (map (λ s. step_data (plain_step s)) p) ≡ path_items (plain_path p)
path_items-map [] = refl
path_items-map (s ∷ p) = ap (raw.item (step_data (plain_step s))) (path_items-map p)

abbrev append_raw_items : raw.Items → raw.Items → raw.Items
append_raw_items raw.no_items es = es
append_raw_items (raw.item d ds) es = raw.item d (append_raw_items ds es)

view-append : (vs us : List Value) → data-view.items_view (vs ++ us) ≡ append_raw_items (data-view.items_view vs) (data-view.items_view us)
view-append [] us = refl
view-append (v ∷ vs) us = ap (raw.item (data-view.view v)) (view-append vs us)

path_items-append : (p q : List PlainStep) → path_items (p ++ q) ≡ append_raw_items (path_items p) (path_items q)
path_items-append [] q = refl
path_items-append (s ∷ p) q = ap (raw.item (step_data s)) (path_items-append p q)

-- a path written in two parts
pub path_joined : (vs us : List Value) (p q : List PlainStep) → data-view.items_view vs ≡ path_items p → data-view.items_view us ≡ path_items q
    → data-view.items_view (vs ++ us) ≡ path_items (p ++ q)
path_joined vs us p q e f = view-append vs us ∙ rw (e, f) (sym (path_items-append p q))
