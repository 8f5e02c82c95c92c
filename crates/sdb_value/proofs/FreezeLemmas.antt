-- What freezing leaves unchanged, and the measure of its recursion.
use Rattle.std.proofs.Common.{◌≡◌, ℕ, zero, suc, ◌+◌, ◌≤◌, ◌<◌, List, [], ◌∷◌, ◌++◌, length, map, get_or, set, refl, sym, ap, ◌∙◌, append_assoc, arith}
use Rattle.std.proofs.lemmas.List.{get_or-map, map-set, set-get_or}
use Rattle.std.specs.List.{flat_map}
use Rattle.sdb_chunks.specs.Chunk.{items_of}
use Rattle.sdb_chunks.specs.ChunkGroup.{group_chunks}
use Rattle.sdb_chunks.specs.laws.ChunkLaws.{vec_models_of_items}
use Rattle.sdb_chunks.specs.ChunkedVec.{vec_items, repr_models}
use Rattle.sdb_chunks.specs.declared.chunk.Chunk.{Chunk}
use Rattle.sdb_chunks.specs.declared.chunk_group.ChunkGroup.{ChunkGroup}
use Rattle.sdb_chunks.specs.declared.chunked_vec.Repr.{Repr}
use Rattle.sdb_chunks.specs.declared.chunked_vec.ChunkedVec.{ChunkedVec}
use Rattle.sdb_value.specs.Size.{size, items_size, members_size}
use Rattle.sdb_sorted_map.specs.MapEntry.{entry_key, entry_model}
use Rattle.sdb_sorted_map.specs.declared.map_entry.MapEntry.{MapEntry}
use Rattle.sdb_value.specs.Value.{null, Items, no_items, item, append_items, Members, no_members, member}
use Rattle.sdb_value.specs.Uniqueness.{value_model}
use Rattle.sdb_value.specs.View.{value_of, entries_value, repr_value, items_from_list, items_value, member_repr_value, members_from_list}
use Rattle.sdb_value.specs.declared.value.Json.{Json}
use Rattle.sdb_value.proofs.CloneLemmas.{join_entries, join_members, join_view}
use Rattle.sdb_value.proofs.ViewLemmas.{seen_list, seen_object}

-- ---- an item, chunk or group replaced by one with an equal view

pub same_item : (vs : List Json) (k : ℕ) (v w : Json) → k < length vs → v ≡ get_or vs k v → value_of w ≡ value_of v → items_value (set vs k w) ≡ items_value vs
same_item vs k v w h is e =
    let here : value_of w ≡ get_or (map value_of vs) k null = e ∙ ap value_of is ∙ sym (get_or-map value_of vs k v null h) in
    ap items_from_list (map-set value_of vs k w ∙ ap (set (map value_of vs) k) here ∙ set-get_or (map value_of vs) k null)

pub same_part : {X : Type 0} (f : X → List Json) (xs : List X) (k : ℕ) (x y : X) → k < length xs → x ≡ get_or xs k x → items_value (f y) ≡ items_value (f x)
    → items_value (flat_map f (set xs k y)) ≡ items_value (flat_map f xs)
same_part f [] k x y h is e = absurd (omega (arith, h))
same_part f (z ∷ xs) zero x y h is e =
    join_view (f y) (flat_map f xs) ∙ ap (λ d. append_items d (items_value (flat_map f xs))) (e ∙ ap (λ w. items_value (f w)) is) ∙ sym (join_view (f z) (flat_map f xs))
same_part f (z ∷ xs) (suc k) x y h is e =
    join_view (f z) (flat_map f (set xs k y)) ∙ ap (append_items (items_value (f z))) (same_part f xs k x y (omega (arith, h)) is e) ∙ sym (join_view (f z) (flat_map f xs))

-- ---- the items of groups are those of their chunks

flat_append : {X : Type 0} (bs cs : List (Chunk X)) → flat_map items_of (bs ++ cs) ≡ flat_map items_of bs ++ flat_map items_of cs
flat_append [] cs = refl
flat_append (b ∷ bs) cs = ap (λ l. items_of b ++ l) (flat_append bs cs) ∙ sym (append_assoc (items_of b) (flat_map items_of bs) (flat_map items_of cs))

pub group_parts : {X : Type 0} (gs : List (ChunkGroup X)) → flat_map items_of (flat_map group_chunks gs) ≡ flat_map (λ g. flat_map items_of (group_chunks g)) gs
group_parts [] = refl
group_parts (g ∷ gs) = flat_append (group_chunks g) (flat_map group_chunks gs) ∙ ap (λ l. flat_map items_of (group_chunks g) ++ l) (group_parts gs)

-- ---- a list with equal views of its items

views_seen : (vs : List Json) → map value_of vs ≡ map (λ s. s.0) (map value_model vs)
views_seen [] = refl
views_seen (v ∷ vs) = ap (λ l. value_of v ∷ l) (views_seen vs)

repr_views : (w : Repr Json) → repr_value w ≡ items_from_list (map (λ s. s.0) (repr_models value_model w))
repr_views w =
    let l : ChunkedVec Json = record { repr = w } in
    ap items_from_list (views_seen (vec_items l)) ∙ ap (λ ss. items_from_list (map (λ s. s.0) ss)) (sym (vec_models_of_items value_model l))

pub same_repr : (w x : Repr Json) → repr_models value_model x ≡ repr_models value_model w → repr_value x ≡ repr_value w
same_repr w x e = repr_views x ∙ ap (λ ss. items_from_list (map (λ s. s.0) ss)) e ∙ sym (repr_views w)

-- ---- one of several isn't larger than all

pub item_within : (vs : List Json) (k : ℕ) (v : Json) → k < length vs → v ≡ get_or vs k v → size (value_of v) ≤ items_size (items_value vs)
item_within [] k v h is = absurd (omega (arith, h))
item_within (x ∷ vs) zero v h is = let same : size (value_of v) ≡ size (value_of x) = ap (λ y. size (value_of y)) is in omega (arith, same)
item_within (x ∷ vs) (suc k) v h is = let rest = item_within vs k v (omega (arith, h)) is in omega (arith, rest)

join_size : (ds es : Items) → items_size (append_items ds es) ≡ items_size ds + items_size es
join_size no_items es = omega arith
join_size (item d ds) es = let rest = join_size ds es in omega (arith, rest)

first_size : (vs ws : List Json) → items_size (items_value (vs ++ ws)) ≡ items_size (items_value vs) + items_size (items_value ws)
first_size vs ws = ap items_size (join_view vs ws) ∙ join_size (items_value vs) (items_value ws)

pub part_within : {X : Type 0} (f : X → List Json) (xs : List X) (k : ℕ) (x : X) → k < length xs → x ≡ get_or xs k x
    → items_size (items_value (f x)) ≤ items_size (items_value (flat_map f xs))
part_within f [] k x h is = absurd (omega (arith, h))
part_within f (z ∷ xs) zero x h is =
    let same : items_size (items_value (f x)) ≡ items_size (items_value (f z)) = ap (λ y. items_size (items_value (f y))) is in
    let all = first_size (f z) (flat_map f xs) in
    omega (arith, same, all)
part_within f (z ∷ xs) (suc k) x h is =
    let rest = part_within f xs k x (omega (arith, h)) is in
    let all = first_size (f z) (flat_map f xs) in
    omega (arith, rest, all)

-- ---- for members

pub same_value : (ms : List (MapEntry Json)) (k : ℕ) (m n : MapEntry Json) → k < length ms → m ≡ get_or ms k m → entry_key n ≡ entry_key m → value_of n.value ≡ value_of m.value
    → entries_value (set ms k n) ≡ entries_value ms
same_value [] k m n h is e f = absurd (omega (arith, h))
same_value (x ∷ ms) zero m n h is e f =
    let same : m ≡ x = is in
    ap (λ t. member t (value_of n.value) (entries_value ms)) (e ∙ ap entry_key same) ∙ ap (λ d. member (entry_key x) d (entries_value ms)) (f ∙ ap (λ y. value_of y.value) same)
same_value (x ∷ ms) (suc k) m n h is e f = ap (member (entry_key x) (value_of x.value)) (same_value ms k m n (omega (arith, h)) is e f)

pub same_member_part : {X : Type 0} (f : X → List (MapEntry Json)) (xs : List X) (k : ℕ) (x y : X) → k < length xs → x ≡ get_or xs k x → entries_value (f y) ≡ entries_value (f x)
    → entries_value (flat_map f (set xs k y)) ≡ entries_value (flat_map f xs)
same_member_part f [] k x y h is e = absurd (omega (arith, h))
same_member_part f (z ∷ xs) zero x y h is e =
    join_entries (f y) (flat_map f xs) ∙ ap (λ d. join_members d (entries_value (flat_map f xs))) (e ∙ ap (λ w. entries_value (f w)) is) ∙ sym (join_entries (f z) (flat_map f xs))
same_member_part f (z ∷ xs) (suc k) x y h is e =
    join_entries (f z) (flat_map f (set xs k y)) ∙ ap (join_members (entries_value (f z))) (same_member_part f xs k x y (omega (arith, h)) is e) ∙ sym (join_entries (f z) (flat_map f xs))

members_seen : (ms : List (MapEntry Json)) → entries_value ms ≡ members_from_list (map (λ s. (s.0, s.1.0)) (map (entry_model value_model) ms))
members_seen [] = refl
members_seen (m ∷ ms) = ap (member (entry_key m) (value_of m.value)) (members_seen ms)

member_repr_views : (w : Repr (MapEntry Json)) → member_repr_value w ≡ members_from_list (map (λ s. (s.0, s.1.0)) (repr_models (entry_model value_model) w))
member_repr_views w =
    let l : ChunkedVec (MapEntry Json) = record { repr = w } in
    members_seen (vec_items l) ∙ ap (λ ss. members_from_list (map (λ s. (s.0, s.1.0)) ss)) (sym (vec_models_of_items (entry_model value_model) l))

pub same_member_repr : (w x : Repr (MapEntry Json)) → repr_models (entry_model value_model) x ≡ repr_models (entry_model value_model) w → member_repr_value x ≡ member_repr_value w
same_member_repr w x e = member_repr_views x ∙ ap (λ ss. members_from_list (map (λ s. (s.0, s.1.0)) ss)) e ∙ sym (member_repr_views w)

pub member_within : (ms : List (MapEntry Json)) (k : ℕ) (m : MapEntry Json) → k < length ms → m ≡ get_or ms k m → size (value_of m.value) ≤ members_size (entries_value ms)
member_within [] k m h is = absurd (omega (arith, h))
member_within (x ∷ ms) zero m h is = let same : size (value_of m.value) ≡ size (value_of x.value) = ap (λ y. size (value_of y.value)) is in omega (arith, same)
member_within (x ∷ ms) (suc k) m h is = let rest = member_within ms k m (omega (arith, h)) is in omega (arith, rest)

members_join_size : (ms ns : Members) → members_size (join_members ms ns) ≡ members_size ms + members_size ns
members_join_size no_members ns = omega arith
members_join_size (member k d ms) ns = let rest = members_join_size ms ns in omega (arith, rest)

first_members_size : (ms ns : List (MapEntry Json)) → members_size (entries_value (ms ++ ns)) ≡ members_size (entries_value ms) + members_size (entries_value ns)
first_members_size ms ns = ap members_size (join_entries ms ns) ∙ members_join_size (entries_value ms) (entries_value ns)

pub member_part_within : {X : Type 0} (f : X → List (MapEntry Json)) (xs : List X) (k : ℕ) (x : X) → k < length xs → x ≡ get_or xs k x
    → members_size (entries_value (f x)) ≤ members_size (entries_value (flat_map f xs))
member_part_within f [] k x h is = absurd (omega (arith, h))
member_part_within f (z ∷ xs) zero x h is =
    let same : members_size (entries_value (f x)) ≡ members_size (entries_value (f z)) = ap (λ y. members_size (entries_value (f y))) is in
    let all = first_members_size (f z) (flat_map f xs) in
    omega (arith, same, all)
member_part_within f (z ∷ xs) (suc k) x h is =
    let rest = member_part_within f xs k x (omega (arith, h)) is in
    let all = first_members_size (f z) (flat_map f xs) in
    omega (arith, rest, all)

-- one level of a list and of an object
pub ruleset levels = (seen_list, seen_object)
