-- The value of a `Json`.
use Rattle.std.specs.Prelude.{ℕ, List, [], ◌∷◌, map, String, string_bytes}
use Rattle.std.specs.declared.alloc.Global.{Global}
use Rattle.std.specs.List.{flat_map}
use Rattle.sdb_chunks.specs.Chunk.{items_of}
use Rattle.sdb_chunks.specs.ChunkGroup.{group_chunks}
use Rattle.sdb_chunks.specs.ChunkedVec.{vec_models, repr_chunks, vec_items}
use Rattle.sdb_chunks.specs.declared.chunk_group.ChunkGroup.{ChunkGroup}
use Rattle.sdb_chunks.specs.declared.chunked_vec.Repr.{Repr}
use Rattle.sdb_chunks.specs.declared.chunked_vec.ChunkedVec.{ChunkedVec}
use Rattle.sdb_sorted_map.specs.MapEntry.{key_value}
use Rattle.sdb_sorted_map.specs.SortedMap.{map_entries, map_entry_models}
use Rattle.sdb_sorted_map.specs.declared.map_entry.MapEntry.{MapEntry}
use Rattle.sdb_sorted_map.specs.declared.sorted_map.SortedMap.{SortedMap}
use Rattle.sdb_rope.specs.Rope.{rope_bytes}
use Rattle.sdb_value.specs.Value.{Value, null, truth, whole, text, list, object, Items, no_items, item, Members, no_members, member, PlainStep, key, index}
use Rattle.sdb_value.specs.declared.value.Json.{Json, fold-Json}
use Rattle.sdb_value.specs.declared.value.Json.TheOpen.{Json-F}
use Rattle.sdb_value.specs.declared.path.Step.{Step}
use Rattle.sdb_value.specs.declared.path.Step.TheVariants.{Key, Index}

abbrev pub items_from_list : List Value → Items
items_from_list [] = no_items
items_from_list (d ∷ ds) = item d (items_from_list ds)

abbrev pub members_from_list : List (List ℕ × Value) → Members
members_from_list [] = no_members
members_from_list (m ∷ ms) = member m.0 m.1 (members_from_list ms)

-- one level, given each value inside
abbrev pub view_step : Json-F Value → Value
view_step Json-F.Null = null
view_step (Json-F.Bool b) = truth b
view_step (Json-F.Int n) = whole n
view_step (Json-F.Text t) = text (rope_bytes t)
view_step (Json-F.List l) = list (items_from_list (vec_models (λ d. d) l))
view_step (Json-F.Object m) = object (members_from_list (map_entry_models (λ d. d) m))

abbrev pub value_of : Json → Value
value_of = fold-Json Value view_step

abbrev pub items_value : List Json → Items
items_value vs = items_from_list (map value_of vs)

abbrev pub members_value : List (List ℕ × Json) → Members
members_value ms = members_from_list (map (λ m. (m.0, value_of m.1)) ms)

-- the members of a map's entries
abbrev pub map_value : List (String Global × Json) → Members
map_value ms = members_value (map (λ m. (string_bytes m.0, m.1)) ms)

-- the items of a chunked list, and the members of an object
abbrev pub list_value : ChunkedVec Json → Items
list_value l = items_value (vec_items l)

abbrev pub repr_value : Repr Json → Items
repr_value w = items_value (flat_map items_of (repr_chunks w))

-- the items of a group of chunks
abbrev pub items_of_group : ChunkGroup Json → List Json
items_of_group g = flat_map items_of (group_chunks g)

abbrev pub object_value : SortedMap Json → Members
object_value m = members_value (map_entries m)

-- the members of entries in order, and of a representation and a group
abbrev pub entries_value : List (MapEntry Json) → Members
entries_value ms = members_value (map key_value ms)

abbrev pub member_repr_value : Repr (MapEntry Json) → Members
member_repr_value w = entries_value (flat_map items_of (repr_chunks w))

abbrev pub members_of_group : ChunkGroup (MapEntry Json) → List (MapEntry Json)
members_of_group g = flat_map items_of (group_chunks g)

-- the values of a list of members
abbrev pub values_of_entries : ChunkedVec (MapEntry Json) → Items
values_of_entries l = items_from_list (map (λ m. value_of m.value) (vec_items l))

abbrev pub plain_step : Step → PlainStep
plain_step (Key k) = key (string_bytes k)
plain_step (Index i) = index i

abbrev pub plain_path : List Step → List PlainStep
plain_path = map plain_step
