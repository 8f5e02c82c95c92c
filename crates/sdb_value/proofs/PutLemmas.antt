-- Members that are inserted and removed, and the object that they make.
use Rattle.std.proofs.Common.{◌≡◌, ℕ, List, [], ◌∷◌, map, Option, Some, None, option_map, Result, Ok, Err, OnOk, OnErr, Bool, true, false, cond, Ordering, Less, Equal, Greater, is_eq, refl, sym, ap, ◌∙◌}
use Rattle.std.specs.Option.{IfSome}
use Rattle.std.specs.Map.{lookup, remove_entry}
use Rattle.std.specs.BTreeMap.{insert_entry, is_at}
use Rattle.std.specs.Ordering.{match_ordering}
use Rattle.sdb_chunks.specs.laws.ChunkLaws.{vec_models_of_items}
use Rattle.sdb_chunks.specs.ChunkedVec.{vec_models, is_unique_vec, vec_items}
use Rattle.sdb_chunks.specs.declared.chunked_vec.ChunkedVec.{ChunkedVec}
use Rattle.sdb_sorted_map.specs.laws.SortedMapLaws.{map_models_of_entries}
use Rattle.sdb_sorted_map.specs.MapEntry.{entry_model}
use Rattle.sdb_sorted_map.specs.SortedMap.{map_entries, map_entry_models, is_unique_map, map_chunks}
use Rattle.sdb_sorted_map.specs.declared.map_entry.MapEntry.{MapEntry}
use Rattle.sdb_sorted_map.specs.KeyOrder.{compare_bytes}
use Rattle.sdb_sorted_map.specs.declared.sorted_map.SortedMap.{SortedMap}
use Rattle.sdb_value.specs.Uniqueness.{all_true, entries_unique, is_unique, object_unique, value_model, members_unique}
use Rattle.sdb_value.specs.Value.{Value, Members, member, member_at, put_member, without_member}
use Rattle.sdb_value.specs.View.{value_of, members_from_list, members_value, object_value}
use Rattle.sdb_value.specs.declared.value.Json.{Json}

abbrev pub EntryModels : Type 0
EntryModels = List ℕ × (Value × Bool)

-- the object of the views of entries
abbrev pub values_of : List EntryModels → Members
values_of es = members_from_list (map (λ (e : EntryModels). (e.0, e.1.0)) es)

models_view : (es : List (List ℕ × Json)) → values_of (map (λ (e : List ℕ × Json). (e.0, value_model e.1)) es) ≡ members_value es
models_view [] = refl
models_view (e ∷ es) = ap (member e.0 (value_of e.1)) (models_view es)

pub object_seen : (m : SortedMap Json) → object_value m ≡ values_of (map_entry_models value_model m)
object_seen m = sym (ap values_of (map_models_of_entries value_model m) ∙ models_view (map_entries m))

match_values : (o : Ordering) (a b c : List EntryModels) → values_of (match_ordering o a b c) ≡ match_ordering o (values_of a) (values_of b) (values_of c)
match_values Less a b c = refl
match_values Equal a b c = refl
match_values Greater a b c = refl

put_values : (es : List EntryModels) (k : List ℕ) (s : Value × Bool) → values_of (insert_entry compare_bytes es k s) ≡ put_member k s.0 (values_of es)
put_values [] k s = refl
put_values (e ∷ es) k s =
    match_values (compare_bytes k e.0) ((k, s) ∷ e ∷ es) ((e.0, s) ∷ es) (e ∷ insert_entry compare_bytes es k s)
    ∙ ap (λ r. match_ordering (compare_bytes k e.0) (values_of ((k, s) ∷ e ∷ es)) (values_of ((e.0, s) ∷ es)) (member e.0 e.1.0 r)) (put_values es k s)

without_or : (b : Bool) (e : EntryModels) (es rest : List EntryModels) (ms : Members) → values_of rest ≡ ms → values_of (cond b es (e ∷ rest)) ≡ cond b (values_of es) (member e.0 e.1.0 ms)
without_or true e es rest ms h = refl
without_or false e es rest ms h = ap (member e.0 e.1.0) h

without_values : (k : List ℕ) (es : List EntryModels) → values_of (remove_entry (is_at (compare_bytes k)) es) ≡ without_member k (values_of es)
without_values k [] = refl
without_values k (e ∷ es) = without_or (is_eq (compare_bytes k e.0)) e es _ _ (without_values k es)

found_or : (b : Bool) (s : Value × Bool) (o : Option (Value × Bool)) (d : Option Value) → option_map (λ t. t.0) o ≡ d
    → option_map (λ t. t.0) (cond b (Some s) o) ≡ cond b (Some s.0) d
found_or true s o d h = refl
found_or false s o d h = h

lookup_values : (k : List ℕ) (es : List EntryModels) → option_map (λ t. t.0) (lookup (is_at (compare_bytes k)) es) ≡ member_at k (values_of es)
lookup_values k [] = refl
lookup_values k (e ∷ es) = found_or (is_eq (compare_bytes k e.0)) e.1 _ _ (lookup_values k es)

pub object_put : (m n : SortedMap Json) (k : List ℕ) (v : Json) → map_entry_models value_model n ≡ insert_entry compare_bytes (map_entry_models value_model m) k (value_model v)
    → object_value n ≡ put_member k (value_of v) (object_value m)
object_put m n k v e = object_seen n ∙ ap values_of e ∙ put_values (map_entry_models value_model m) k (value_model v) ∙ ap (put_member k (value_of v)) (sym (object_seen m))

pub object_without : (m n : SortedMap Json) (k : List ℕ) → map_entry_models value_model n ≡ remove_entry (is_at (compare_bytes k)) (map_entry_models value_model m)
    → object_value n ≡ without_member k (object_value m)
object_without m n k e = object_seen n ∙ ap values_of e ∙ without_values k (map_entry_models value_model m) ∙ ap (without_member k) (sym (object_seen m))

pub object_unchanged : (m n : SortedMap Json) → map_entry_models value_model n ≡ map_entry_models value_model m → object_value n ≡ object_value m
object_unchanged m n e = object_seen n ∙ ap values_of e ∙ sym (object_seen m)

pub object_absent : (m : SortedMap Json) (k : List ℕ) → lookup (is_at (compare_bytes k)) (map_entry_models value_model m) ≡ None → member_at k (object_value m) ≡ None
object_absent m k e = ap (member_at k) (object_seen m) ∙ sym (lookup_values k (map_entry_models value_model m)) ∙ ap (option_map (λ t. t.0)) e

pub object_found : {B : Type 0} (r : Option B) (n : B → Json) (m : SortedMap Json) (k : List ℕ) → option_map (λ x. value_model (n x)) r ≡ lookup (is_at (compare_bytes k)) (map_entry_models value_model m)
    → option_map (λ x. value_of (n x)) r ≡ member_at k (object_value m)
object_found r n m k e =
    lookup_twice r n ∙ ap (option_map (λ t. t.0)) e ∙ lookup_values k (map_entry_models value_model m) ∙ ap (member_at k) (sym (object_seen m))
  where
    lookup_twice : {B : Type 0} (r : Option B) (n : B → Json) → option_map (λ x. value_of (n x)) r ≡ option_map (λ t. t.0) (option_map (λ x. value_model (n x)) r)
    lookup_twice None n = refl
    lookup_twice (Some x) n = refl

-- ---- uniqueness of the values

abbrev model_unique : List EntryModels → List Bool
model_unique es = map (λ (e : EntryModels). e.1.1) es

owns_each : (ms : List (MapEntry Json)) → model_unique (map (entry_model value_model) ms) ≡ map (λ m. is_unique m.value) ms
owns_each [] = refl
owns_each (m ∷ ms) = ap (λ l. is_unique m.value ∷ l) (owns_each ms)

pub entries_owns : (l : ChunkedVec (MapEntry Json)) → entries_unique l ≡ cond (is_unique_vec l) (all_true (model_unique (vec_models (entry_model value_model) l))) false
entries_owns l = ap (λ bs. cond (is_unique_vec l) (all_true bs) false) (sym (ap model_unique (vec_models_of_items (entry_model value_model) l) ∙ owns_each (vec_items l)))

pub both_first : (a b : Bool) → cond a b false ≡ true → a ≡ true
both_first true b e = refl
both_first false b e = e

pub both_second : (a b : Bool) → cond a b false ≡ true → b ≡ true
both_second true b e = e
both_second false b e = cc

and_intro : (a b : Bool) → a ≡ true → b ≡ true → cond a b false ≡ true
and_intro true b p q = q
and_intro false b p q = p

-- a list of members whose values stay unique
pub unique_unchanged : (l m : ChunkedVec (MapEntry Json)) → (is_unique_vec l ≡ true → is_unique_vec m ≡ true)
    → (all_true (model_unique (vec_models (entry_model value_model) l)) ≡ true → all_true (model_unique (vec_models (entry_model value_model) m)) ≡ true) → entries_unique l ≡ true → entries_unique m ≡ true
unique_unchanged l m keeps all own =
    let o = sym (entries_owns l) ∙ own in
    entries_owns m
    ∙ and_intro (is_unique_vec m) (all_true (model_unique (vec_models (entry_model value_model) m)))
    (keeps (both_first (is_unique_vec l) (all_true (model_unique (vec_models (entry_model value_model) l))) o))
    (all (both_second (is_unique_vec l) (all_true (model_unique (vec_models (entry_model value_model) l))) o))

unique_match : (o : Ordering) (a b c : List EntryModels) → all_true (model_unique a) ≡ true → all_true (model_unique b) ≡ true → all_true (model_unique c) ≡ true → all_true (model_unique (match_ordering o a b c)) ≡ true
unique_match Less a b c p q r = p
unique_match Equal a b c p q r = q
unique_match Greater a b c p q r = r

unique_put : (es : List EntryModels) (k : List ℕ) (s : Value × Bool) → all_true (model_unique es) ≡ true → s.1 ≡ true → all_true (model_unique (insert_entry compare_bytes es k s)) ≡ true
unique_put [] k s h e = and_intro s.1 true e refl
unique_put (d ∷ es) k s h e =
    let rest = both_second d.1.1 (all_true (model_unique es)) h in
    unique_match (compare_bytes k d.0) ((k, s) ∷ d ∷ es) ((d.0, s) ∷ es) (d ∷ insert_entry compare_bytes es k s) (and_intro s.1 (all_true (model_unique (d ∷ es))) e h) (and_intro s.1 (all_true (model_unique es)) e rest)
    (and_intro d.1.1 (all_true (model_unique (insert_entry compare_bytes es k s))) (both_first d.1.1 (all_true (model_unique es)) h) (unique_put es k s rest e))

own_or : (b : Bool) (d : EntryModels) (es rest : List EntryModels) → all_true (model_unique (d ∷ es)) ≡ true → all_true (model_unique rest) ≡ true → all_true (model_unique (cond b es (d ∷ rest))) ≡ true
own_or true d es rest h e = both_second d.1.1 (all_true (model_unique es)) h
own_or false d es rest h e = and_intro d.1.1 (all_true (model_unique rest)) (both_first d.1.1 (all_true (model_unique es)) h) e

unique_taken : (es : List EntryModels) (k : List ℕ) → all_true (model_unique es) ≡ true → all_true (model_unique (remove_entry (is_at (compare_bytes k)) es)) ≡ true
unique_taken [] k h = refl
unique_taken (d ∷ es) k h =
    own_or (is_eq (compare_bytes k d.0)) d es (remove_entry (is_at (compare_bytes k)) es) h (unique_taken es k (both_second d.1.1 (all_true (model_unique es)) h))

-- an insert or removal, or no change if an allocation fails
pub unique_inserted : {O E : Type 0} (r : Result O E) (m n : SortedMap Json) (k : List ℕ) (v : Json) → OnOk r (map_entry_models value_model n ≡ insert_entry compare_bytes (map_entry_models value_model m) k (value_model v))
    → OnErr r (map_entry_models value_model n ≡ map_entry_models value_model m) → (is_unique_map m ≡ true → is_unique_map n ≡ true) → object_unique m ≡ true → is_unique v ≡ true → object_unique n ≡ true
unique_inserted (Ok x) m n k v p e keeps own new =
    unique_unchanged (map_chunks m) (map_chunks n) keeps (λ all. ap (λ es. all_true (model_unique es)) p ∙ unique_put (map_entry_models value_model m) k (value_model v) all new) own
unique_inserted (Err x) m n k v p e keeps own new = unique_unchanged (map_chunks m) (map_chunks n) keeps (λ all. ap (λ es. all_true (model_unique es)) e ∙ all) own

pub unique_removed : {O E : Type 0} (r : Result O E) (m n : SortedMap Json) (k : List ℕ) → OnOk r (map_entry_models value_model n ≡ remove_entry (is_at (compare_bytes k)) (map_entry_models value_model m))
    → OnErr r (map_entry_models value_model n ≡ map_entry_models value_model m) → (is_unique_map m ≡ true → is_unique_map n ≡ true) → object_unique m ≡ true → object_unique n ≡ true
unique_removed (Ok x) m n k p e keeps own =
    unique_unchanged (map_chunks m) (map_chunks n) keeps (λ all. ap (λ es. all_true (model_unique es)) p ∙ unique_taken (map_entry_models value_model m) k all) own
unique_removed (Err x) m n k p e keeps own = unique_unchanged (map_chunks m) (map_chunks n) keeps (λ all. ap (λ es. all_true (model_unique es)) e ∙ all) own

contrapositive : (a b : Bool) → (a ≡ true → b ≡ true) → b ≡ false → a ≡ false
contrapositive true b h e = let t : b ≡ true = h refl in cc
contrapositive false b h e = refl

-- an object with a shared part of its members isn't unique
pub not_held : (m : SortedMap Json) → is_unique_map m ≡ false → object_unique m ≡ false
not_held m h = contrapositive (object_unique m) (is_unique_map m) (both_first (is_unique_map m) (members_unique (vec_items (map_chunks m)))) h

-- the value of a key of a unique object
unique_either : (b : Bool) (d s : Value × Bool) (o : Option (Value × Bool)) → d.1 ≡ true → (o ≡ Some s → s.1 ≡ true) → cond b (Some d) o ≡ Some s → s.1 ≡ true
unique_either true d s o own rest e = let is : d ≡ s = cc in ap (λ t. t.1) (sym is) ∙ own
unique_either false d s o own rest e = rest e

unique_looked : (k : List ℕ) (es : List EntryModels) (s : Value × Bool) → all_true (model_unique es) ≡ true → lookup (is_at (compare_bytes k)) es ≡ Some s → s.1 ≡ true
unique_looked k [] s h e = cc
unique_looked k (d ∷ es) s h e =
    unique_either (is_eq (compare_bytes k d.0)) d.1 s (lookup (is_at (compare_bytes k)) es) (both_first d.1.1 (all_true (model_unique es)) h)
    (unique_looked k es s (both_second d.1.1 (all_true (model_unique es)) h)) e

-- a borrow of a value of a shared object has the value of the key
pub object_shared : {B : Type 0} (r : Option B) (n : B → Json) (m : SortedMap Json) (k : List ℕ)
    → IfSome r (λ x. lookup (is_at (compare_bytes k)) (map_entry_models value_model m) ≡ Some (value_model (n x)))
    → IfSome r (λ x. member_at k (object_value m) ≡ Some (value_of (n x)))
object_shared None n m k h = tt
object_shared (Some x) n m k h = sym (object_found (Some x) n m k (sym h))

pub unique_found : {B : Type 0} (r : Option B) (n : B → Json) (m : SortedMap Json) (k : List ℕ) → option_map (λ x. value_model (n x)) r ≡ lookup (is_at (compare_bytes k)) (map_entry_models value_model m)
    → object_unique m ≡ true → IfSome r (λ x. is_unique (n x) ≡ true)
unique_found None n m k e own = tt
unique_found (Some x) n m k e own =
    unique_looked k (map_entry_models value_model m) (value_model (n x))
    (both_second (is_unique_map m) (all_true (model_unique (map_entry_models value_model m))) (sym (entries_owns (map_chunks m)) ∙ own)) (sym e)
