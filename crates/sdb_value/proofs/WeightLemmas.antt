-- The measure of a recursion over a value.
use Rattle.std.proofs.Common.{◌≡◌, ℕ, zero, suc, ◌+◌, ◌≤◌, ◌<◌, List, [], ◌∷◌, ◌++◌, length, get_or, map, refl, ap, ◌∙◌, arith, rules}
use Rattle.std.specs.List.{flat_map}
use Rattle.sdb_chunks.specs.Chunk.{items_of}
use Rattle.sdb_chunks.specs.declared.chunk.Chunk.{Chunk}
use Rattle.sdb_chunks.specs.laws.ChunkLaws.{vec_models_of_items}
use Rattle.sdb_chunks.specs.ChunkedVec.{vec_models, vec_items}
use Rattle.sdb_sorted_map.specs.MapEntry.{key_value, entry_model}
use Rattle.sdb_sorted_map.specs.SortedMap.{map_entries, map_entry_models, map_chunks}
use Rattle.sdb_sorted_map.specs.declared.map_entry.MapEntry.{MapEntry}
use Rattle.sdb_chunks.specs.declared.chunked_vec.ChunkedVec.{ChunkedVec}
use Rattle.sdb_sorted_map.specs.declared.sorted_map.SortedMap.{SortedMap}
use Rattle.sdb_value.specs.declared.value.Json.{Json, fold-Json, the_lemmas}
use Rattle.sdb_value.specs.declared.value.Json as json
use Rattle.sdb_value.specs.declared.value.Json.TheOpen.{Json-F}
use Rattle.sdb_value.proofs.ViewLemmas.{former_seen, former_entries, map_members, seen_list, seen_object}

abbrev sum_of_list : List ℕ → ℕ
sum_of_list [] = 0
sum_of_list (n ∷ ns) = n + sum_of_list ns

abbrev weight_step : Json-F ℕ → ℕ
weight_step (Json-F.List l) = suc (suc (sum_of_list (vec_models (λ n. n) l)))
weight_step (Json-F.Object m) = suc (suc (sum_of_list (map (λ e. e.1) (map_entry_models (λ n. n) m))))
weight_step _ = 1

abbrev pub term_weight : Json → ℕ
term_weight = fold-Json ℕ weight_step

abbrev pub term_weights : List Json → ℕ
term_weights [] = 0
term_weights (v ∷ vs) = term_weight v + term_weights vs

abbrev pub members_weight : List (List ℕ × Json) → ℕ
members_weight [] = 0
members_weight (e ∷ es) = term_weight e.1 + members_weight es

weights_are : (vs : List Json) → sum_of_list (map term_weight vs) ≡ term_weights vs
weights_are [] = refl
weights_are (v ∷ vs) = ap (λ n. term_weight v + n) (weights_are vs)

abbrev inner_list : ChunkedVec Json → ChunkedVec ℕ
inner_list l = (json.TheShapes.former-Json-List-0).map Json ℕ term_weight l

pub weigh_list : (l : ChunkedVec Json) → term_weight (json.List l) ≡ suc (suc (term_weights (vec_items l)))
weigh_list l =
    let e : term_weight (json.List l) ≡ suc (suc (sum_of_list (vec_models (λ n. n) (inner_list l)))) = search (rules, the_lemmas) in
    e ∙ ap (λ ns. suc (suc (sum_of_list ns))) (former_seen term_weight l ∙ vec_models_of_items term_weight l) ∙ ap (λ n. suc (suc n)) (weights_are (vec_items l))

weights_each : (ms : List (MapEntry Json)) → sum_of_list (map (λ e. e.1) (map (entry_model term_weight) ms)) ≡ members_weight (map key_value ms)
weights_each [] = refl
weights_each (m ∷ ms) = ap (λ n. term_weight m.value + n) (weights_each ms)

pub weigh_object : (m : SortedMap Json) → term_weight (json.Object m) ≡ suc (suc (members_weight (map_entries m)))
weigh_object m =
    let e : term_weight (json.Object m) ≡ suc (suc (sum_of_list (map (λ e. e.1) (map_entry_models (λ n. n) (map_members term_weight m))))) = search (rules, the_lemmas) in
    e ∙ ap (λ es. suc (suc (sum_of_list (map (λ e. e.1) es)))) (former_entries term_weight m ∙ vec_models_of_items (entry_model term_weight) (map_chunks m))
    ∙ ap (λ n. suc (suc n)) (weights_each (vec_items (map_chunks m)))

pub rest_below : (vs ws : List Json) (v : Json) (n : ℕ) → vs ≡ v ∷ ws → term_weights vs ≤ n → term_weights ws ≤ n
rest_below vs ws v n e h = let s : term_weights vs ≡ term_weight v + term_weights ws = ap term_weights e in omega (arith, s, h)

pub members_rest_below : (es fs : List (List ℕ × Json)) (e : List ℕ × Json) (n : ℕ) → es ≡ e ∷ fs → members_weight es ≤ n → members_weight fs ≤ n
members_rest_below es fs e n h k = let s : members_weight es ≡ term_weight e.1 + members_weight fs = ap members_weight h in omega (arith, s, k)

-- an item of a list, and the first chunk, isn't larger than all; nor is the rest
pub item_fits : (vs : List Json) (k : ℕ) (v : Json) → k < length vs → v ≡ get_or vs k v → term_weight v ≤ term_weights vs
item_fits [] k v h is = absurd (omega (arith, h))
item_fits (x ∷ vs) zero v h is = let same : term_weight v ≡ term_weight x = ap term_weight is in omega (arith, same)
item_fits (x ∷ vs) (suc k) v h is = let rest = item_fits vs k v (omega (arith, h)) is in omega (arith, rest)

weights_join : (vs ws : List Json) → term_weights (vs ++ ws) ≡ term_weights vs + term_weights ws
weights_join [] ws = omega arith
weights_join (v ∷ vs) ws = let rest = weights_join vs ws in omega (arith, rest)

pub first_fits : (bs cs : List (Chunk Json)) (b : Chunk Json) → bs ≡ b ∷ cs → term_weights (items_of b) ≤ term_weights (flat_map items_of bs)
first_fits bs cs b e =
    let s : term_weights (flat_map items_of bs) ≡ term_weights (items_of b ++ flat_map items_of cs) = ap (λ l. term_weights (flat_map items_of l)) e in
    let all = weights_join (items_of b) (flat_map items_of cs) in
    omega (arith, s, all)

pub chunks_below : (bs cs : List (Chunk Json)) (b : Chunk Json) (n : ℕ) → bs ≡ b ∷ cs → term_weights (flat_map items_of bs) ≤ n → term_weights (flat_map items_of cs) ≤ n
chunks_below bs cs b n e h =
    let s : term_weights (flat_map items_of bs) ≡ term_weights (items_of b ++ flat_map items_of cs) = ap (λ l. term_weights (flat_map items_of l)) e in
    let all = weights_join (items_of b) (flat_map items_of cs) in
    omega (arith, s, all, h)

-- ---- for members

abbrev pub entries_weight : List (MapEntry Json) → ℕ
entries_weight ms = members_weight (map key_value ms)

pub member_fits : (ms : List (MapEntry Json)) (k : ℕ) (m : MapEntry Json) → k < length ms → m ≡ get_or ms k m → term_weight m.value ≤ entries_weight ms
member_fits [] k m h is = absurd (omega (arith, h))
member_fits (x ∷ ms) zero m h is = let same : term_weight m.value ≡ term_weight x.value = ap (λ y. term_weight y.value) is in omega (arith, same)
member_fits (x ∷ ms) (suc k) m h is = let rest = member_fits ms k m (omega (arith, h)) is in omega (arith, rest)

entries_join : (ms ns : List (MapEntry Json)) → entries_weight (ms ++ ns) ≡ entries_weight ms + entries_weight ns
entries_join [] ns = omega arith
entries_join (m ∷ ms) ns = let rest = entries_join ms ns in omega (arith, rest)

pub first_part_fits : (bs cs : List (Chunk (MapEntry Json))) (b : Chunk (MapEntry Json)) → bs ≡ b ∷ cs → entries_weight (items_of b) ≤ entries_weight (flat_map items_of bs)
first_part_fits bs cs b e =
    let s : entries_weight (flat_map items_of bs) ≡ entries_weight (items_of b ++ flat_map items_of cs) = ap (λ l. entries_weight (flat_map items_of l)) e in
    let all = entries_join (items_of b) (flat_map items_of cs) in
    omega (arith, s, all)

pub parts_below : (bs cs : List (Chunk (MapEntry Json))) (b : Chunk (MapEntry Json)) (n : ℕ) → bs ≡ b ∷ cs → entries_weight (flat_map items_of bs) ≤ n
    → entries_weight (flat_map items_of cs) ≤ n
parts_below bs cs b n e h =
    let s : entries_weight (flat_map items_of bs) ≡ entries_weight (items_of b ++ flat_map items_of cs) = ap (λ l. entries_weight (flat_map items_of l)) e in
    let all = entries_join (items_of b) (flat_map items_of cs) in
    omega (arith, s, all, h)

-- one level of a list and of an object, with its measure
pub ruleset levels = (seen_list, seen_object, weigh_list, weigh_object)
