-- Uniqueness of a `Json`: no part is shared with clones.
use Rattle.std.specs.Prelude.{List, [], ◌∷◌, map, Bool, true, false, cond, String}
use Rattle.std.specs.declared.alloc.Global.{Global}
use Rattle.sdb_chunks.specs.ChunkedVec.{vec_models, vec_items, is_unique_vec, is_shared_vec}
use Rattle.sdb_sorted_map.specs.SortedMap.{map_entry_models, is_unique_map, is_shared_map, map_chunks}
use Rattle.sdb_sorted_map.specs.declared.map_entry.MapEntry.{MapEntry}
use Rattle.sdb_sorted_map.specs.declared.sorted_map.SortedMap.{SortedMap}
use Rattle.sdb_chunks.specs.declared.chunked_vec.ChunkedVec.{ChunkedVec}
use Rattle.sdb_rope.specs.Rope.{is_unique_rope, is_shared_rope}
use Rattle.sdb_value.specs.Value.{Value}
use Rattle.sdb_value.specs.View.{value_of}
use Rattle.sdb_value.specs.declared.value.Json.{Json, fold-Json}
use Rattle.sdb_value.specs.declared.value.Json.TheOpen.{Json-F}

abbrev pub all_true : List Bool → Bool
all_true [] = true
all_true (b ∷ bs) = cond b (all_true bs) false

-- the uniqueness of members, given that of each value
abbrev pub members_unique_step : SortedMap Bool → Bool
members_unique_step m = cond (is_unique_map m) (all_true (map (λ e. e.1) (map_entry_models (λ b. b) m))) false

-- the uniqueness of one level, given that of each value inside
abbrev pub unique_step : Json-F Bool → Bool
unique_step (Json-F.Text t) = is_unique_rope t
unique_step (Json-F.List l) = cond (is_unique_vec l) (all_true (vec_models (λ b. b) l)) false
unique_step (Json-F.Object m) = members_unique_step m
unique_step _ = true

abbrev pub is_unique : Json → Bool
is_unique = fold-Json Bool unique_step

-- the uniqueness of a list and all its items, and of a map's values
abbrev pub items_unique : List Json → Bool
items_unique vs = all_true (map is_unique vs)

abbrev pub list_unique : ChunkedVec Json → Bool
list_unique l = cond (is_unique_vec l) (items_unique (vec_items l)) false

abbrev pub map_unique : List (String Global × Json) → Bool
map_unique es = all_true (map (λ e. is_unique e.1) es)

-- the uniqueness of the values of members, of a list of members with all values, and of an object's members
abbrev pub members_unique : List (MapEntry Json) → Bool
members_unique ms = all_true (map (λ m. is_unique m.value) ms)

abbrev pub entries_unique : ChunkedVec (MapEntry Json) → Bool
entries_unique l = cond (is_unique_vec l) (members_unique (vec_items l)) false

abbrev pub object_unique : SortedMap Json → Bool
object_unique m = entries_unique (map_chunks m)

-- a clone is a pointer, or as cheap
abbrev pub frozen_step : Json-F Bool → Bool
frozen_step (Json-F.Text t) = is_shared_rope t
frozen_step (Json-F.List l) = is_shared_vec l
frozen_step (Json-F.Object m) = is_shared_map m
frozen_step _ = true

abbrev pub is_frozen : Json → Bool
is_frozen = fold-Json Bool frozen_step

-- a text, list or object whose clone is a pointer
abbrev pub is_shared_json : Json → Bool
is_shared_json v = cond (is_unique v) false (is_frozen v)

-- the properties that clones of a `Json` share
abbrev pub value_model : Json → Value × Bool
value_model v = (value_of v, is_unique v)
