-- Uniqueness and freezing, level by level.
use Rattle.std.proofs.Common.{◌≡◌, List, [], ◌∷◌, ◌++◌, map, Bool, true, false, cond, Vec, Global, refl, ap, ◌∙◌, rules}
use Rattle.std.specs.declared.sync.Arc.{Arc}
use Rattle.std.specs.List.{flat_map}
use Rattle.sdb_chunks.specs.Chunk.{items_of, is_chunk_unique}
use Rattle.sdb_chunks.specs.laws.ChunkLaws.{vec_models_of_items}
use Rattle.sdb_chunks.specs.ChunkedVec.{vec_models, all_unique, is_unique_repr, is_unique_vec, is_shared_vec, is_shared_repr, vec_chunks, vec_items, vec_chunk_items}
use Rattle.sdb_chunks.specs.declared.chunk.Chunk.{Chunk}
use Rattle.sdb_chunks.specs.declared.chunk.Chunk.TheVariants.{Unique, Shared}
use Rattle.sdb_chunks.specs.declared.chunked_vec.Repr.{Repr}
use Rattle.sdb_chunks.specs.declared.chunked_vec.Repr.TheVariants.{Flat, Chunks, Groups}
use Rattle.sdb_chunks.specs.declared.chunked_vec.ChunkedVec.{ChunkedVec}
use mathlib.Core.Former.{this}
use Rattle.sdb_sorted_map.specs.formers.sorted_map.SortedMap.{member_former, chunked_vec_former}
use Rattle.sdb_sorted_map.specs.MapEntry.{entry_model}
use Rattle.sdb_sorted_map.specs.SortedMap.{map_entry_models, is_unique_map, is_shared_map, map_chunks}
use Rattle.sdb_sorted_map.specs.declared.map_entry.MapEntry.{MapEntry}
use Rattle.sdb_sorted_map.specs.declared.sorted_map.SortedMap.{SortedMap}
use Rattle.sdb_rope.specs.Rope.{is_unique_rope}
use Rattle.sdb_rope.specs.declared.rope.Rope.{Rope}
use Rattle.sdb_value.specs.Uniqueness.{all_true, is_unique, is_frozen, list_unique, object_unique}
use Rattle.sdb_value.specs.declared.value.Json.{Json, the_lemmas}
use Rattle.sdb_value.specs.declared.value.Json as json
use Rattle.sdb_value.proofs.ViewLemmas.{former_seen, former_entries, map_members, seen_list, seen_object}

-- ---- by the fold

all_unique_once : {X Y : Type 0} (g : Chunk X → Chunk Y) (bs : List (Chunk X)) → ((v : Vec X Global) → is_chunk_unique (g (Unique v)) ≡ true)
    → ((a : Arc (Vec X Global) Global) → is_chunk_unique (g (Shared a)) ≡ false) → all_unique (map g bs) ≡ all_unique bs
all_unique_once g [] h k = refl
all_unique_once g (Unique v ∷ bs) h k = ap (λ x. cond x (all_unique (map g bs)) false) (h v) ∙ all_unique_once g bs h k
all_unique_once g (Shared a ∷ bs) h k = ap (λ x. cond x (all_unique (map g bs)) false) (k a)

unique_once : {X Y : Type 0} (f : X → Y) (w : Repr X)
    → is_unique_vec ((json.TheShapes.former-Json-List-0).map X Y f (record { repr = w })) ≡ is_unique_repr w
unique_once f (Flat (Unique v)) = refl
unique_once f (Flat (Shared a)) = refl
unique_once f (Chunks (Unique v)) = all_unique_once _ v.items (λ w. refl) (λ w. refl)
unique_once f (Chunks (Shared a)) = refl
unique_once f (Groups gs) = refl

pub former_unique : {X Y : Type 0} (f : X → Y) (l : ChunkedVec X) → is_unique_vec ((json.TheShapes.former-Json-List-0).map X Y f l) ≡ is_unique_vec l
former_unique f l = unique_once f l.repr

shared_once : {X Y : Type 0} (f : X → Y) (w : Repr X)
    → is_shared_vec ((json.TheShapes.former-Json-List-0).map X Y f (record { repr = w })) ≡ is_shared_repr w
shared_once f (Flat (Unique v)) = refl
shared_once f (Flat (Shared a)) = refl
shared_once f (Chunks (Unique v)) = refl
shared_once f (Chunks (Shared a)) = refl
shared_once f (Groups (Unique v)) = refl
shared_once f (Groups (Shared a)) = refl

pub former_shared : {X Y : Type 0} (f : X → Y) (l : ChunkedVec X) → is_shared_vec ((json.TheShapes.former-Json-List-0).map X Y f l) ≡ is_shared_vec l
former_shared f l = shared_once f l.repr

abbrev inner_unique : ChunkedVec Json → ChunkedVec Bool
inner_unique l = (json.TheShapes.former-Json-List-0).map Json Bool is_unique l

pub unique_list : (l : ChunkedVec Json) → is_unique (json.List l) ≡ list_unique l
unique_list l =
    let e : is_unique (json.List l) ≡ cond (is_unique_vec (inner_unique l)) (all_true (vec_models (λ b. b) (inner_unique l))) false = search (rules, the_lemmas) in
    e ∙ ap (λ b. cond b (all_true (vec_models (λ b. b) (inner_unique l))) false) (former_unique is_unique l)
    ∙ ap (λ bs. cond (is_unique_vec l) (all_true bs) false) (former_seen is_unique l ∙ vec_models_of_items is_unique l)

pub pointer_list : (l : ChunkedVec Json) → is_frozen (json.List l) ≡ is_shared_vec l
pointer_list l = search (rules, the_lemmas, former_shared)

pub unique_null : is_unique json.Null ≡ true
unique_null = search (rules, the_lemmas)

pub unique_text : (t : Rope) → is_unique (json.Text t) ≡ is_unique_rope t
unique_text t = search (rules, the_lemmas)

unique_entries : {X Y : Type 0} (f : X → Y) (w : Repr (MapEntry X)) → is_unique_vec ((chunked_vec_former (member_former this)).map X Y f (record { repr = w })) ≡ is_unique_repr w
unique_entries f (Flat (Unique v)) = refl
unique_entries f (Flat (Shared a)) = refl
unique_entries f (Chunks (Unique v)) = all_unique_once _ v.items (λ w. refl) (λ w. refl)
unique_entries f (Chunks (Shared a)) = refl
unique_entries f (Groups gs) = refl

shared_entries : {X Y : Type 0} (f : X → Y) (w : Repr (MapEntry X)) → is_shared_vec ((chunked_vec_former (member_former this)).map X Y f (record { repr = w })) ≡ is_shared_repr w
shared_entries f (Flat (Unique v)) = refl
shared_entries f (Flat (Shared a)) = refl
shared_entries f (Chunks (Unique v)) = refl
shared_entries f (Chunks (Shared a)) = refl
shared_entries f (Groups (Unique v)) = refl
shared_entries f (Groups (Shared a)) = refl

mapped_unique : {X Y : Type 0} (f : X → Y) (m : SortedMap X) → is_unique_map (map_members f m) ≡ is_unique_map m
mapped_unique f m = unique_entries f (map_chunks m).repr

mapped_shared : {X Y : Type 0} (f : X → Y) (m : SortedMap X) → is_shared_map (map_members f m) ≡ is_shared_map m
mapped_shared f m = shared_entries f (map_chunks m).repr

unique_each : (ms : List (MapEntry Json)) → map (λ e. e.1) (map (entry_model is_unique) ms) ≡ map (λ m. is_unique m.value) ms
unique_each [] = refl
unique_each (m ∷ ms) = ap (λ l. is_unique m.value ∷ l) (unique_each ms)

pub unique_object : (m : SortedMap Json) → is_unique (json.Object m) ≡ object_unique m
unique_object m =
    let n = map_members is_unique m in
    let e : is_unique (json.Object m) ≡ cond (is_unique_map n) (all_true (map (λ e. e.1) (map_entry_models (λ b. b) n))) false = search (rules, the_lemmas) in
    e ∙ ap (λ b. cond b (all_true (map (λ e. e.1) (map_entry_models (λ b. b) n))) false) (mapped_unique is_unique m)
    ∙ ap (λ es. cond (is_unique_map m) (all_true (map (λ e. e.1) es)) false) (former_entries is_unique m ∙ vec_models_of_items (entry_model is_unique) (map_chunks m))
    ∙ ap (λ bs. cond (is_unique_map m) (all_true bs) false) (unique_each (vec_items (map_chunks m)))

pub pointer_object : (m : SortedMap Json) → is_frozen (json.Object m) ≡ is_shared_map m
pointer_object m = search (rules, the_lemmas, mapped_shared)

-- ---- chunks

flat_chunks : {X : Type 0} (bs : List (Chunk X)) → flat_map items_of bs ≡ flat_map (λ xs. xs) (map items_of bs)
flat_chunks [] = refl
flat_chunks (b ∷ bs) = ap (λ l. items_of b ++ l) (flat_chunks bs)

pub items_parts : {X : Type 0} (l : ChunkedVec X) → vec_items l ≡ flat_map (λ xs. xs) (vec_chunk_items l)
items_parts l = flat_chunks (vec_chunks l)

append_none : {X : Type 0} (xs : List X) → xs ++ [] ≡ xs
append_none [] = refl
append_none (x ∷ xs) = ap (λ l. x ∷ l) (append_none xs)

-- a list of one chunk
pub of_one : {X : Type 0} (l : ChunkedVec X) (xs : List X) → vec_chunk_items l ≡ xs ∷ [] → vec_items l ≡ xs
of_one l xs e = items_parts l ∙ ap (flat_map (λ xs. xs)) e ∙ append_none xs

-- one level of a list and of an object, with its uniqueness
pub ruleset levels = (seen_list, seen_object, unique_list, unique_object)
