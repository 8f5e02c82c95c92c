-- A `Json`, level by level, and its value.
use Rattle.std.proofs.Common.{◌≡◌, ℕ, zero, suc, ◌<◌, List, [], ◌∷◌, ◌++◌, length, get_or, Option, Some, option_map, String, Vec, Global, Less, string_bytes, string_cmp, cond, Bool, true, false, map, refl, ap, ◌∙◌, arith, rules}
use Rattle.std.specs.declared.sync.Arc.{Arc}
use Rattle.std.specs.Map.{keys_of}
use Rattle.std.specs.List.{AllByRecursion, flat_map}
use Rattle.sdb_chunks.specs.Chunk.{items_of}
use mathlib.Core.Former.{this}
use Rattle.sdb_chunks.specs.formers.chunk_group.ChunkGroup.{the_former}
use Rattle.sdb_chunks.specs.laws.ChunkLaws.{vec_models_of_items}
use Rattle.sdb_chunks.specs.ChunkGroup.{flatten_group_models, group_models}
use Rattle.sdb_chunks.specs.ChunkedVec.{flatten_models, repr_models, vec_models}
use Rattle.sdb_chunks.specs.declared.chunk.Chunk.{Chunk}
use Rattle.sdb_chunks.specs.declared.chunk.Chunk.TheVariants.{Unique, Shared}
use Rattle.sdb_chunks.specs.declared.chunk_group.ChunkGroup.{ChunkGroup}
use Rattle.sdb_chunks.specs.declared.chunked_vec.Repr.{Repr}
use Rattle.sdb_chunks.specs.declared.chunked_vec.Repr.TheVariants.{Flat, Chunks, Groups}
use Rattle.sdb_chunks.specs.declared.chunked_vec.ChunkedVec.{ChunkedVec}
use Rattle.sdb_sorted_map.specs.formers.sorted_map.SortedMap.{member_former, chunked_vec_former}
use Rattle.sdb_sorted_map.specs.laws.SortedMapLaws.{map_models_of_entries}
use Rattle.sdb_sorted_map.specs.MapEntry.{entry_model}
use Rattle.sdb_sorted_map.specs.SortedMap.{map_entry_models, map_chunks}
use Rattle.sdb_sorted_map.specs.declared.map_entry.MapEntry.{MapEntry}
use Rattle.sdb_sorted_map.specs.declared.sorted_map.SortedMap.{SortedMap}
use Rattle.sdb_value.specs.Value.{Value, null, list, object, member, item_at, Members}
use Rattle.sdb_value.specs.View.{value_of, items_from_list, members_from_list, items_value, map_value, list_value, object_value}
use Rattle.sdb_value.specs.declared.value.Json.{Json, the_lemmas}
use Rattle.sdb_value.specs.declared.value.Json as json

abbrev pub ViewEntry : Type 0
ViewEntry = String Global × Json

-- ---- a chunked list and an object, as the fold has them

map_once : {X Y : Type 0} (f : X → Y) (xs : List X) → map (λ d. d) (map f xs) ≡ map f xs
map_once f [] = refl
map_once f (x ∷ xs) = ap (λ l. f x ∷ l) (map_once f xs)

chunks_once : {X Y : Type 0} (f : X → Y) (g : Chunk X → Chunk Y) (bs : List (Chunk X))
    → ((v : Vec X Global) → map (λ d. d) (items_of (g (Unique v))) ≡ map f v.items)
    → ((a : Arc (Vec X Global) Global) → map (λ d. d) (items_of (g (Shared a))) ≡ map f a.value.items)
    → flatten_models (λ d. d) (map g bs) ≡ flatten_models f bs
chunks_once f g [] h k = refl
chunks_once f g (Unique v ∷ bs) h k = ap (λ l. l ++ flatten_models (λ d. d) (map g bs)) (h v) ∙ ap (λ l. map f v.items ++ l) (chunks_once f g bs h k)
chunks_once f g (Shared a ∷ bs) h k = ap (λ l. l ++ flatten_models (λ d. d) (map g bs)) (k a) ∙ ap (λ l. map f a.value.items ++ l) (chunks_once f g bs h k)

groups_once : {X Y : Type 0} (f : X → Y) (g : ChunkGroup X → ChunkGroup Y) (gs : List (ChunkGroup X))
    → ((x : ChunkGroup X) → group_models (λ d. d) (g x) ≡ group_models f x) → flatten_group_models (λ d. d) (map g gs) ≡ flatten_group_models f gs
groups_once f g [] h = refl
groups_once f g (x ∷ gs) h = ap (λ l. l ++ flatten_group_models (λ d. d) (map g gs)) (h x) ∙ ap (λ l. group_models f x ++ l) (groups_once f g gs h)

group_once : {X Y : Type 0} (f : X → Y) (n : ℕ) (bs : Chunk (Chunk X)) (e : n ≡ length (flat_map items_of (items_of bs)))
    → group_models (λ d. d) ((the_former this).map X Y f (record { count = n; chunks = bs; count_is_sum = e })) ≡ flatten_models f (items_of bs)
group_once f n (Unique v) e = chunks_once f _ v.items (λ w. map_once f w.items) (λ w. map_once f w.value.items)
group_once f n (Shared a) e = chunks_once f _ a.value.items (λ w. map_once f w.items) (λ w. map_once f w.value.items)

repr_once : {X Y : Type 0} (f : X → Y) (w : Repr X)
    → vec_models (λ d. d) ((json.TheShapes.former-Json-List-0).map X Y f (record { repr = w })) ≡ repr_models f w
repr_once f (Flat (Unique v)) = map_once f v.items
repr_once f (Flat (Shared a)) = map_once f a.value.items
repr_once f (Chunks (Unique v)) = chunks_once f _ v.items (λ w. map_once f w.items) (λ w. map_once f w.value.items)
repr_once f (Chunks (Shared a)) = chunks_once f _ a.value.items (λ w. map_once f w.items) (λ w. map_once f w.value.items)
repr_once f (Groups (Unique v)) = groups_once f _ v.items (λ g. group_once f g.count g.chunks g.count_is_sum)
repr_once f (Groups (Shared a)) = groups_once f _ a.value.items (λ g. group_once f g.count g.chunks g.count_is_sum)

pub former_seen : {X Y : Type 0} (f : X → Y) (l : ChunkedVec X) → vec_models (λ d. d) ((json.TheShapes.former-Json-List-0).map X Y f l) ≡ vec_models f l
former_seen f l = repr_once f l.repr

pub seen_null : value_of json.Null ≡ null
seen_null = search (rules, the_lemmas)

pub seen_list : (l : ChunkedVec Json) → value_of (json.List l) ≡ list (list_value l)
seen_list l = let e : value_of (json.List l) ≡ list (items_from_list (vec_models value_of l)) = search (rules, the_lemmas, former_seen) in
    e ∙ ap (λ ds. list (items_from_list ds)) (vec_models_of_items value_of l)

-- members with each value mapped
abbrev pub map_members : {X Y : Type 0} → (X → Y) → SortedMap X → SortedMap Y
map_members {X} {Y} f m = (json.TheShapes.former-Json-Object-0).map X Y f m

abbrev on_member : {X Y : Type 0} → (X → Y) → MapEntry X → MapEntry Y
on_member {X} {Y} f = (member_former this).map X Y f

abbrev on_entries : {X Y : Type 0} → (X → Y) → ChunkedVec (MapEntry X) → ChunkedVec (MapEntry Y)
on_entries {X} {Y} f = (chunked_vec_former (member_former this)).map X Y f

members_once : {X Y : Type 0} (f : X → Y) (ms : List (MapEntry X)) → map (entry_model (λ d. d)) (map (on_member f) ms) ≡ map (entry_model f) ms
members_once f [] = refl
members_once f (m ∷ ms) = ap (λ l. entry_model f m ∷ l) (members_once f ms)

parts_once : {X Y : Type 0} (f : X → Y) (g : Chunk (MapEntry X) → Chunk (MapEntry Y)) (bs : List (Chunk (MapEntry X)))
    → ((v : Vec (MapEntry X) Global) → map (entry_model (λ d. d)) (items_of (g (Unique v))) ≡ map (entry_model f) v.items)
    → ((a : Arc (Vec (MapEntry X) Global) Global) → map (entry_model (λ d. d)) (items_of (g (Shared a))) ≡ map (entry_model f) a.value.items)
    → flatten_models (entry_model (λ d. d)) (map g bs) ≡ flatten_models (entry_model f) bs
parts_once f g [] h k = refl
parts_once f g (Unique v ∷ bs) h k = ap (λ l. l ++ flatten_models (entry_model (λ d. d)) (map g bs)) (h v) ∙ ap (λ l. map (entry_model f) v.items ++ l) (parts_once f g bs h k)
parts_once f g (Shared a ∷ bs) h k =
    ap (λ l. l ++ flatten_models (entry_model (λ d. d)) (map g bs)) (k a) ∙ ap (λ l. map (entry_model f) a.value.items ++ l) (parts_once f g bs h k)

grouped_once : {X Y : Type 0} (f : X → Y) (g : ChunkGroup (MapEntry X) → ChunkGroup (MapEntry Y)) (gs : List (ChunkGroup (MapEntry X)))
    → ((x : ChunkGroup (MapEntry X)) → group_models (entry_model (λ d. d)) (g x) ≡ group_models (entry_model f) x)
    → flatten_group_models (entry_model (λ d. d)) (map g gs) ≡ flatten_group_models (entry_model f) gs
grouped_once f g [] h = refl
grouped_once f g (x ∷ gs) h = ap (λ l. l ++ flatten_group_models (entry_model (λ d. d)) (map g gs)) (h x) ∙ ap (λ l. group_models (entry_model f) x ++ l) (grouped_once f g gs h)

member_group : {X Y : Type 0} (f : X → Y) (n : ℕ) (bs : Chunk (Chunk (MapEntry X))) (e : n ≡ length (flat_map items_of (items_of bs)))
    → group_models (entry_model (λ d. d)) ((the_former (member_former this)).map X Y f (record { count = n; chunks = bs; count_is_sum = e })) ≡ flatten_models (entry_model f) (items_of bs)
member_group f n (Unique v) e = parts_once f _ v.items (λ w. members_once f w.items) (λ w. members_once f w.value.items)
member_group f n (Shared a) e = parts_once f _ a.value.items (λ w. members_once f w.items) (λ w. members_once f w.value.items)

entries_once : {X Y : Type 0} (f : X → Y) (w : Repr (MapEntry X)) → vec_models (entry_model (λ d. d)) (on_entries f (record { repr = w })) ≡ repr_models (entry_model f) w
entries_once f (Flat (Unique v)) = members_once f v.items
entries_once f (Flat (Shared a)) = members_once f a.value.items
entries_once f (Chunks (Unique v)) = parts_once f _ v.items (λ w. members_once f w.items) (λ w. members_once f w.value.items)
entries_once f (Chunks (Shared a)) = parts_once f _ a.value.items (λ w. members_once f w.items) (λ w. members_once f w.value.items)
entries_once f (Groups (Unique v)) = grouped_once f _ v.items (λ g. member_group f g.count g.chunks g.count_is_sum)
entries_once f (Groups (Shared a)) = grouped_once f _ a.value.items (λ g. member_group f g.count g.chunks g.count_is_sum)

pub former_entries : {X Y : Type 0} (f : X → Y) (m : SortedMap X) → map_entry_models (λ d. d) (map_members f m) ≡ map_entry_models f m
former_entries f m = entries_once f (map_chunks m).repr

pub seen_object : (m : SortedMap Json) → value_of (json.Object m) ≡ object (object_value m)
seen_object m = let e : value_of (json.Object m) ≡ object (members_from_list (map_entry_models value_of m)) = search (rules, the_lemmas, former_entries) in
    e ∙ ap (λ es. object (members_from_list es)) (map_models_of_entries value_of m)

-- for a value that is a list, or an object
pub is_list : (v : Json) (l : ChunkedVec Json) → v ≡ json.List l → value_of v ≡ list (list_value l)
is_list v l e = ap value_of e ∙ seen_list l

pub is_object : (v : Json) (m : SortedMap Json) → v ≡ json.Object m → value_of v ≡ object (object_value m)
is_object v m e = ap value_of e ∙ seen_object m

found_or : (b : Bool) (v : Json) (rest : Option Json) (d : Option Value) → option_map value_of rest ≡ d → option_map value_of (cond b (Some v) rest) ≡ cond b (Some (value_of v)) d
found_or true v rest d e = refl
found_or false v rest d e = e

pub item_within : (vs : List Json) (i : ℕ) (d : Json) → i < length vs → Some (value_of (get_or vs i d)) ≡ item_at i (items_value vs)
item_within [] i d h = absurd (omega arith)
item_within (v ∷ vs) zero d h = refl
item_within (v ∷ vs) (suc i) d h = item_within vs i d (omega arith)

below_middle : (first : ViewEntry) (es : List ViewEntry) (e : ViewEntry) (more : List ViewEntry) → AllByRecursion (λ y. string_cmp first.0 y ≡ Less) (keys_of (es ++ e ∷ more)) → string_cmp first.0 e.0 ≡ Less
below_middle first [] e more h = h.0
below_middle first (x ∷ es) e more h = below_middle first es e more h.1

without_or : (b : Bool) (l : String Global) (d : Json) (es rest : List ViewEntry) (ms : Members) → map_value rest ≡ ms
    → map_value (cond b es ((l, d) ∷ rest)) ≡ cond b (map_value es) (member (string_bytes l) (value_of d) ms)
without_or true l d es rest ms e = refl
without_or false l d es rest ms e = ap (λ r. member (string_bytes l) (value_of d) r) e
