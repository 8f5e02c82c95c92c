-- Edits of a list and of the values of its items.
use Rattle.std.proofs.Common.{◌≡◌, ℕ, zero, suc, ◌<◌, List, [], ◌∷◌, ◌++◌, length, take, drop, map, set, Option, Some, None, option_map, Bool, true, false, cond, ltb, leb, slice_get, if◌then◌else◌, nat_le, Result, Ok, Err, IfOk, OnOk, OnErr, true≢false, refl, sym, ap, ◌∙◌, arith}
use Rattle.std.specs.List.{insert, remove}
use Rattle.std.specs.Option.{is_some, IfSome, IfNone}
use Rattle.std.proofs.lemmas.Bool.Decides.{nat_tests}
use Rattle.sdb_chunks.specs.laws.ChunkLaws.{vec_models_of_items, unique_vec_at_of_all}
use Rattle.sdb_chunks.specs.ChunkedVec.{vec_models, vec_items, is_grouped, is_unique_vec_at, is_unique_repr, is_unique_vec}
use Rattle.sdb_chunks.specs.declared.chunked_vec.Repr.{Repr}
use Rattle.sdb_chunks.specs.declared.chunked_vec.Repr.TheVariants.{Flat, Chunks, Groups}
use Rattle.sdb_chunks.specs.declared.chunked_vec.ChunkedVec.{ChunkedVec}
use Rattle.sdb_rope.specs.EditOutcome.{EditOutcome}
use Rattle.sdb_value.specs.Uniqueness.{all_true, is_unique, items_unique, list_unique, value_model}
use Rattle.sdb_value.specs.Value.{Value, null, Items, item, item_count, append_items, take_items, drop_items, insert_item, remove_item, replace_item, item_at, set_item}
use Rattle.sdb_value.specs.View.{value_of, items_from_list, list_value}
use Rattle.sdb_value.specs.declared.value.Json.{Json}
use Rattle.sdb_value.specs.declared.value.Json as json
use Rattle.sdb_value.proofs.ViewLemmas.{seen_null}

-- ---- edits of the items of values

count_of : (ds : List Value) → item_count (items_from_list ds) ≡ length ds
count_of [] = refl
count_of (d ∷ ds) = ap suc (count_of ds)

append_of : (ds es : List Value) → items_from_list (ds ++ es) ≡ append_items (items_from_list ds) (items_from_list es)
append_of [] es = refl
append_of (d ∷ ds) es = ap (item d) (append_of ds es)

take_of : (i : ℕ) (ds : List Value) → items_from_list (take i ds) ≡ take_items i (items_from_list ds)
take_of zero ds = refl
take_of (suc i) [] = refl
take_of (suc i) (d ∷ ds) = ap (item d) (take_of i ds)

drop_of : (i : ℕ) (ds : List Value) → items_from_list (drop i ds) ≡ drop_items i (items_from_list ds)
drop_of zero ds = refl
drop_of (suc i) [] = refl
drop_of (suc i) (d ∷ ds) = drop_of i ds

insert_item_some : (ds : List Value) (i : ℕ) (d : Value) → leb i (length ds) ≡ true → insert_item i d (items_from_list ds) ≡ Some (items_from_list (insert ds i d))
insert_item_some ds i d h = rw (count_of ds, h) (ap Some (sym (append_of (take i ds) (d ∷ drop i ds) ∙ rw (take_of i ds, drop_of i ds))))

not_inserted : (ds : List Value) (i : ℕ) (d : Value) → leb i (length ds) ≡ false → insert_item i d (items_from_list ds) ≡ None
not_inserted ds i d h = rw (count_of ds, h) refl

remove_item_some : (ds : List Value) (i : ℕ) → ltb i (length ds) ≡ true → remove_item i (items_from_list ds) ≡ Some (items_from_list (remove ds i))
remove_item_some ds i h = rw (count_of ds, h) (ap Some (sym (append_of (take i ds) (drop (suc i) ds) ∙ rw (take_of i ds, drop_of (suc i) ds))))

not_removed : (ds : List Value) (i : ℕ) → ltb i (length ds) ≡ false → remove_item i (items_from_list ds) ≡ None
not_removed ds i h = rw (count_of ds, h) refl

set_chunks : (i : ℕ) (ds : List Value) (d : Value) → i < length ds → items_from_list (set ds i d) ≡ append_items (take_items i (items_from_list ds)) (item d (drop_items (suc i) (items_from_list ds)))
set_chunks i [] d h = absurd (omega arith)
set_chunks zero (u ∷ ds) d h = refl
set_chunks (suc i) (u ∷ ds) d h = ap (item u) (set_chunks i ds d (omega arith))

below_of : (i n : ℕ) → ltb i n ≡ true → i < n
below_of i n e = grind (arith, nat_tests)

replace_item_some : (ds : List Value) (i : ℕ) (d : Value) → ltb i (length ds) ≡ true → replace_item i d (items_from_list ds) ≡ Some (items_from_list (set ds i d))
replace_item_some ds i d h = rw (count_of ds, h) (ap Some (sym (set_chunks i ds d (below_of i (length ds) h))))

not_replaced : (ds : List Value) (i : ℕ) (d : Value) → ltb i (length ds) ≡ false → replace_item i d (items_from_list ds) ≡ None
not_replaced ds i d h = rw (count_of ds, h) refl

at_of : (ds : List Value) (i : ℕ) → item_at i (items_from_list ds) ≡ slice_get ds i
at_of [] i = refl
at_of (d ∷ ds) zero = refl
at_of (d ∷ ds) (suc i) = at_of ds i

set_of : (ds : List Value) (i : ℕ) (u : Value) → set_item i (items_from_list ds) u ≡ items_from_list (set ds i u)
set_of [] i u = refl
set_of (d ∷ ds) zero u = refl
set_of (d ∷ ds) (suc i) u = ap (item d) (set_of ds i u)

-- ---- no effect after the end

not_past : (n : ℕ) → ltb 0 (suc n) ≡ false → ⊥
not_past n h = grind (arith, nat_tests)

after_too : (i n : ℕ) → ltb (suc i) (suc n) ≡ false → ltb i n ≡ false
after_too i n h = grind (arith, nat_tests)

first_there : (n : ℕ) → true ≡ ltb 0 (suc n)
first_there n = grind (arith, nat_tests)

none_there : (i : ℕ) → false ≡ ltb i 0
none_there i = grind (arith, nat_tests)

there_too : (i n : ℕ) → ltb i n ≡ ltb (suc i) (suc n)
there_too i n = grind (arith, nat_tests)

set_past : {A : Type 0} (xs : List A) (i : ℕ) (x : A) → ltb i (length xs) ≡ false → set xs i x ≡ xs
set_past [] i x h = refl
set_past (y ∷ xs) zero x h = absurd (not_past (length xs) h)
set_past (y ∷ xs) (suc i) x h = ap (λ l. y ∷ l) (set_past xs i x (after_too i (length xs) h))

remove_past : {A : Type 0} (xs : List A) (i : ℕ) → ltb i (length xs) ≡ false → remove xs i ≡ xs
remove_past [] zero h = refl
remove_past [] (suc i) h = refl
remove_past (y ∷ xs) zero h = absurd (not_past (length xs) h)
remove_past (y ∷ xs) (suc i) h = ap (λ l. y ∷ l) (remove_past xs i (after_too i (length xs) h))

-- ---- the views of the items

abbrev ItemModels : Type 0
ItemModels = Value × Bool

abbrev model_values : List ItemModels → List Value
model_values = map (λ p. p.0)

abbrev model_unique : List ItemModels → List Bool
model_unique = map (λ p. p.1)

values_of : (vs : List Json) → model_values (map value_model vs) ≡ map value_of vs
values_of [] = refl
values_of (v ∷ vs) = ap (λ l. value_of v ∷ l) (values_of vs)

owns_of : (vs : List Json) → model_unique (map value_model vs) ≡ map is_unique vs
owns_of [] = refl
owns_of (v ∷ vs) = ap (λ l. is_unique v ∷ l) (owns_of vs)

pub list_values : (l : ChunkedVec Json) → list_value l ≡ items_from_list (model_values (vec_models value_model l))
list_values l = sym (ap items_from_list (ap model_values (vec_models_of_items value_model l) ∙ values_of (vec_items l)))

pub list_owns : (l : ChunkedVec Json) → list_unique l ≡ cond (is_unique_vec l) (all_true (model_unique (vec_models value_model l))) false
list_owns l = sym (ap (λ bs. cond (is_unique_vec l) (all_true bs) false) (ap model_unique (vec_models_of_items value_model l) ∙ owns_of (vec_items l)))

pub list_same : (old new : ChunkedVec Json) → vec_models value_model new ≡ vec_models value_model old → list_value new ≡ list_value old
list_same old new e = list_values new ∙ ap (λ l. items_from_list (model_values l)) e ∙ sym (list_values old)

map_append : {A B : Type 0} (f : A → B) (xs ys : List A) → map f (xs ++ ys) ≡ map f xs ++ map f ys
map_append f [] ys = refl
map_append f (x ∷ xs) ys = ap (λ l. f x ∷ l) (map_append f xs ys)

map_take : {A B : Type 0} (f : A → B) (i : ℕ) (xs : List A) → map f (take i xs) ≡ take i (map f xs)
map_take f zero xs = refl
map_take f (suc i) [] = refl
map_take f (suc i) (x ∷ xs) = ap (λ l. f x ∷ l) (map_take f i xs)

map_drop : {A B : Type 0} (f : A → B) (i : ℕ) (xs : List A) → map f (drop i xs) ≡ drop i (map f xs)
map_drop f zero xs = refl
map_drop f (suc i) [] = refl
map_drop f (suc i) (x ∷ xs) = map_drop f i xs

map_insert : {A B : Type 0} (f : A → B) (xs : List A) (i : ℕ) (x : A) → map f (insert xs i x) ≡ insert (map f xs) i (f x)
map_insert f xs i x = map_append f (take i xs) (x ∷ drop i xs) ∙ rw (map_take f i xs, map_drop f i xs) refl

map_remove : {A B : Type 0} (f : A → B) (xs : List A) (i : ℕ) → map f (remove xs i) ≡ remove (map f xs) i
map_remove f xs i = map_append f (take i xs) (drop (suc i) xs) ∙ rw (map_take f i xs, map_drop f (suc i) xs) refl

map_set : {A B : Type 0} (f : A → B) (xs : List A) (i : ℕ) (x : A) → map f (set xs i x) ≡ set (map f xs) i (f x)
map_set f [] i x = refl
map_set f (y ∷ xs) zero x = refl
map_set f (y ∷ xs) (suc i) x = ap (λ l. f y ∷ l) (map_set f xs i x)

map_length : {A B : Type 0} (f : A → B) (xs : List A) → length (map f xs) ≡ length xs
map_length f [] = refl
map_length f (x ∷ xs) = ap suc (map_length f xs)

map_get : {A B : Type 0} (f : A → B) (xs : List A) (i : ℕ) → option_map f (slice_get xs i) ≡ slice_get (map f xs) i
map_get f [] i = refl
map_get f (x ∷ xs) zero = refl
map_get f (x ∷ xs) (suc i) = map_get f xs i

-- ---- an insert

insert_at : (b : Bool) (ps qs : List ItemModels) (i : ℕ) (p : ItemModels) → leb i (length ps) ≡ b → qs ≡ (if b then insert ps i p else ps)
    → EditOutcome b (insert_item i p.0 (items_from_list (model_values ps))) (items_from_list (model_values ps)) (items_from_list (model_values qs))
insert_at true ps qs i p h e =
    insert_item_some (model_values ps) i p.0 (ap (leb i) (map_length (λ p. p.0) ps) ∙ h)
    ∙ ap (λ l. Some (items_from_list l)) (sym (map_insert (λ p. p.0) ps i p) ∙ ap model_values (sym e))
insert_at false ps qs i p h e = (not_inserted (model_values ps) i p.0 (ap (leb i) (map_length (λ p. p.0) ps) ∙ h), ap (λ l. items_from_list (model_values l)) e)

abbrev ListEditOutcome : Bool → (Items → Option Items) → ChunkedVec Json → ChunkedVec Json → Type 0
ListEditOutcome done f old new = EditOutcome done (f (list_value old)) (list_value old) (list_value new)

edits_seen : (done : Bool) (f : Items → Option Items) (old new : ChunkedVec Json)
    → EditOutcome done (f (items_from_list (model_values (vec_models value_model old)))) (items_from_list (model_values (vec_models value_model old))) (items_from_list (model_values (vec_models value_model new)))
    → ListEditOutcome done f old new
edits_seen done f old new h = rw (list_values old, list_values new) h

pub list_inserted : {E : Type 0} (r : Result Bool E) (old new : ChunkedVec Json) (i : ℕ) (x : Json)
    → IfOk r (λ done. vec_models value_model new ≡ (if done then insert (vec_models value_model old) i (value_model x) else vec_models value_model old))
    → IfOk r (λ done. done ≡ nat_le i (length (vec_models value_model old)))
    → IfOk r (λ done. ListEditOutcome done (insert_item i (value_of x)) old new)
list_inserted (Err e) old new i x h w = tt
list_inserted (Ok done) old new i x h w =
    edits_seen done (insert_item i (value_of x)) old new (insert_at done (vec_models value_model old) (vec_models value_model new) i (value_model x) (sym w) h)

pub list_unchanged : {E : Type 0} (r : Result Bool E) (old new : ChunkedVec Json) → OnErr r (vec_models value_model new ≡ vec_models value_model old) → OnErr r (list_value new ≡ list_value old)
list_unchanged (Ok x) old new h = tt
list_unchanged (Err e) old new h = list_same old new h

-- ---- uniqueness

both_first : (a b : Bool) → cond a b false ≡ true → a ≡ true
both_first true b e = refl
both_first false b e = e

both_second : (a b : Bool) → cond a b false ≡ true → b ≡ true
both_second true b e = e
both_second false b e = cc

pub and_intro : (a b : Bool) → a ≡ true → b ≡ true → cond a b false ≡ true
and_intro true b h e = e
and_intro false b h e = h

unique_append : (bs cs : List Bool) → all_true bs ≡ true → all_true cs ≡ true → all_true (bs ++ cs) ≡ true
unique_append [] cs h k = k
unique_append (b ∷ bs) cs h k = and_intro b (all_true (bs ++ cs)) (both_first b (all_true bs) h) (unique_append bs cs (both_second b (all_true bs) h) k)

unique_take : (i : ℕ) (bs : List Bool) → all_true bs ≡ true → all_true (take i bs) ≡ true
unique_take zero bs h = refl
unique_take (suc i) [] h = refl
unique_take (suc i) (b ∷ bs) h = and_intro b (all_true (take i bs)) (both_first b (all_true bs) h) (unique_take i bs (both_second b (all_true bs) h))

unique_drop : (i : ℕ) (bs : List Bool) → all_true bs ≡ true → all_true (drop i bs) ≡ true
unique_drop zero bs h = h
unique_drop (suc i) [] h = refl
unique_drop (suc i) (b ∷ bs) h = unique_drop i bs (both_second b (all_true bs) h)

unique_insert : (bs : List Bool) (i : ℕ) (b : Bool) → all_true bs ≡ true → b ≡ true → all_true (insert bs i b) ≡ true
unique_insert bs i b h k = unique_append (take i bs) (b ∷ drop i bs) (unique_take i bs h) (and_intro b (all_true (drop i bs)) k (unique_drop i bs h))

unique_remove : (bs : List Bool) (i : ℕ) → all_true bs ≡ true → all_true (remove bs i) ≡ true
unique_remove bs i h = unique_append (take i bs) (drop (suc i) bs) (unique_take i bs h) (unique_drop (suc i) bs h)

unique_set : (bs : List Bool) (i : ℕ) (b : Bool) → all_true bs ≡ true → b ≡ true → all_true (set bs i b) ≡ true
unique_set [] i b h k = refl
unique_set (c ∷ bs) zero b h k = and_intro b (all_true bs) k (both_second c (all_true bs) h)
unique_set (c ∷ bs) (suc i) b h k = and_intro c (all_true (set bs i b)) (both_first c (all_true bs) h) (unique_set bs i b (both_second c (all_true bs) h) k)

either_unique : (b : Bool) (bs cs : List Bool) → all_true bs ≡ true → all_true cs ≡ true → all_true (if b then bs else cs) ≡ true
either_unique true bs cs h k = h
either_unique false bs cs h k = k

if_owns : (b : Bool) (ps qs : List ItemModels) → model_unique (if b then ps else qs) ≡ (if b then model_unique ps else model_unique qs)
if_owns true ps qs = refl
if_owns false ps qs = refl

-- a list with unique items in unique chunks
unique_made : (old new : ChunkedVec Json) → (is_unique_vec old ≡ true → is_unique_vec new ≡ true) → (all_true (model_unique (vec_models value_model old)) ≡ true → all_true (model_unique (vec_models value_model new)) ≡ true)
    → list_unique old ≡ true → list_unique new ≡ true
unique_made old new h k own =
    let o = sym (list_owns old) ∙ own in
    list_owns new ∙ and_intro (is_unique_vec new) (all_true (model_unique (vec_models value_model new))) (h (both_first (is_unique_vec old) (all_true (model_unique (vec_models value_model old))) o))
    (k (both_second (is_unique_vec old) (all_true (model_unique (vec_models value_model old))) o))

pub unique_inserted : {E : Type 0} (r : Result Bool E) (old new : ChunkedVec Json) (i : ℕ) (x : Json)
    → IfOk r (λ done. vec_models value_model new ≡ (if done then insert (vec_models value_model old) i (value_model x) else vec_models value_model old))
    → OnErr r (vec_models value_model new ≡ vec_models value_model old) → (is_unique_vec old ≡ true → is_unique_vec new ≡ true)
    → list_unique old ≡ true → is_unique x ≡ true → list_unique new ≡ true
unique_inserted (Ok done) old new i x h k o own fresh =
    unique_made old new o (λ before. ap (λ l. all_true (model_unique l)) h ∙ ap all_true (if_owns done (insert (vec_models value_model old) i (value_model x)) (vec_models value_model old))
    ∙ either_unique done (model_unique (insert (vec_models value_model old) i (value_model x))) (model_unique (vec_models value_model old))
    (ap all_true (map_insert (λ p. p.1) (vec_models value_model old) i (value_model x)) ∙ unique_insert (model_unique (vec_models value_model old)) i (is_unique x) before fresh) before) own
unique_inserted (Err e) old new i x h k o own fresh = unique_made old new o (λ before. ap (λ l. all_true (model_unique l)) k ∙ before) own

-- ---- a removal, and a replacement

item_there : (x : Option Json) (ps : List ItemModels) (i : ℕ) → option_map value_model x ≡ slice_get ps i → is_some x ≡ ltb i (length ps)
item_there None [] i h = none_there i
item_there (Some v) [] i h = cc
item_there None (p ∷ ps) zero h = cc
item_there (Some v) (p ∷ ps) zero h = first_there (length ps)
item_there x (p ∷ ps) (suc i) h = item_there x ps i h ∙ there_too i (length ps)

remove_at : (b : Bool) (ps qs : List ItemModels) (i : ℕ) → ltb i (length ps) ≡ b → qs ≡ remove ps i
    → EditOutcome b (remove_item i (items_from_list (model_values ps))) (items_from_list (model_values ps)) (items_from_list (model_values qs))
remove_at true ps qs i h e =
    remove_item_some (model_values ps) i (ap (ltb i) (map_length (λ p. p.0) ps) ∙ h) ∙ ap (λ l. Some (items_from_list l)) (sym (map_remove (λ p. p.0) ps i) ∙ ap model_values (sym e))
remove_at false ps qs i h e =
    (not_removed (model_values ps) i (ap (ltb i) (map_length (λ p. p.0) ps) ∙ h), ap (λ l. items_from_list (model_values l)) (e ∙ remove_past ps i h))

pub list_removed : (x : Option Json) (done : Bool) (old new : ChunkedVec Json) (i : ℕ) → option_map value_model x ≡ slice_get (vec_models value_model old) i
    → vec_models value_model new ≡ remove (vec_models value_model old) i → done ≡ is_some x → ListEditOutcome done (remove_item i) old new
list_removed x done old new i h e d =
    edits_seen done (remove_item i) old new (remove_at done (vec_models value_model old) (vec_models value_model new) i (sym (item_there x (vec_models value_model old) i h) ∙ sym d) e)

pub unique_removed : (old new : ChunkedVec Json) (i : ℕ) → vec_models value_model new ≡ remove (vec_models value_model old) i → (is_unique_vec old ≡ true → is_unique_vec new ≡ true)
    → list_unique old ≡ true → list_unique new ≡ true
unique_removed old new i e o = unique_made old new o (λ before. ap (λ l. all_true (model_unique l)) e ∙ ap all_true (map_remove (λ p. p.1) (vec_models value_model old) i) ∙ unique_remove (model_unique (vec_models value_model old)) i before)

pub unique_same : (old new : ChunkedVec Json) → vec_models value_model new ≡ vec_models value_model old → (is_unique_vec old ≡ true → is_unique_vec new ≡ true)
    → list_unique old ≡ true → list_unique new ≡ true
unique_same old new e o = unique_made old new o (λ before. ap (λ l. all_true (model_unique l)) e ∙ before)

replace_at : (b : Bool) (ps qs : List ItemModels) (i : ℕ) (p : ItemModels) → ltb i (length ps) ≡ b → qs ≡ set ps i p
    → EditOutcome b (replace_item i p.0 (items_from_list (model_values ps))) (items_from_list (model_values ps)) (items_from_list (model_values qs))
replace_at true ps qs i p h e =
    replace_item_some (model_values ps) i p.0 (ap (ltb i) (map_length (λ p. p.0) ps) ∙ h) ∙ ap (λ l. Some (items_from_list l)) (sym (map_set (λ p. p.0) ps i p) ∙ ap model_values (sym e))
replace_at false ps qs i p h e =
    (not_replaced (model_values ps) i p.0 (ap (ltb i) (map_length (λ p. p.0) ps) ∙ h), ap (λ l. items_from_list (model_values l)) (e ∙ set_past ps i p h))

pub list_replaced : (x : Option Json) (done : Bool) (old new : ChunkedVec Json) (i : ℕ) (y : Json) → option_map value_model x ≡ slice_get (vec_models value_model old) i
    → vec_models value_model new ≡ set (vec_models value_model old) i (value_model y) → done ≡ is_some x → ListEditOutcome done (replace_item i (value_of y)) old new
list_replaced x done old new i y h e d =
    edits_seen done (replace_item i (value_of y)) old new
    (replace_at done (vec_models value_model old) (vec_models value_model new) i (value_model y) (sym (item_there x (vec_models value_model old) i h) ∙ sym d) e)

pub unique_replaced : (old new : ChunkedVec Json) (i : ℕ) (y : Json) → vec_models value_model new ≡ set (vec_models value_model old) i (value_model y) → (is_unique_vec old ≡ true → is_unique_vec new ≡ true)
    → list_unique old ≡ true → is_unique y ≡ true → list_unique new ≡ true
unique_replaced old new i y e o own fresh =
    unique_made old new o (λ before. ap (λ l. all_true (model_unique l)) e ∙ ap all_true (map_set (λ p. p.1) (vec_models value_model old) i (value_model y)) ∙ unique_set (model_unique (vec_models value_model old)) i (is_unique y) before fresh) own

-- ---- an item that is taken out for a change and put back

option_map_twice : {A B C : Type 0} (f : B → C) (g : A → B) (o : Option A) → option_map f (option_map g o) ≡ option_map (λ x. f (g x)) o
option_map_twice f g None = refl
option_map_twice f g (Some x) = refl

pub item_taken : (x : Option Json) (old : ChunkedVec Json) (i : ℕ) → option_map value_model x ≡ slice_get (vec_models value_model old) i → option_map value_of x ≡ item_at i (list_value old)
item_taken x old i h =
    sym (option_map_twice (λ (p : ItemModels). p.0) value_model x) ∙ ap (option_map (λ (p : ItemModels). p.0)) h ∙ map_get (λ (p : ItemModels). p.0) (vec_models value_model old) i
    ∙ sym (ap (item_at i) (list_values old) ∙ at_of (model_values (vec_models value_model old)) i)

pub list_set : (old new : ChunkedVec Json) (i : ℕ) (y : Json) → vec_models value_model new ≡ set (vec_models value_model old) i (value_model y) → list_value new ≡ set_item i (list_value old) (value_of y)
list_set old new i y e =
    list_values new ∙ ap (λ l. items_from_list (model_values l)) e ∙ ap items_from_list (map_set (λ (p : ItemModels). p.0) (vec_models value_model old) i (value_model y))
    ∙ sym (ap (λ ds. set_item i ds (value_of y)) (list_values old) ∙ set_of (model_values (vec_models value_model old)) i (value_of y))

pub none_taken : (x : Option Json) (old new : ChunkedVec Json) (i : ℕ) (y : Json) → option_map value_model x ≡ slice_get (vec_models value_model old) i
    → vec_models value_model new ≡ set (vec_models value_model old) i (value_model y) → IfNone x (list_value new ≡ list_value old)
none_taken None old new i y h e = list_same old new (e ∙ set_past (vec_models value_model old) i (value_model y) (sym (item_there None (vec_models value_model old) i h)))
none_taken (Some v) old new i y h e = tt

unique_one : (x : Option Json) (ps : List ItemModels) (i : ℕ) → option_map value_model x ≡ slice_get ps i → all_true (model_unique ps) ≡ true → IfSome x (λ v. is_unique v ≡ true)
unique_one None ps i h own = tt
unique_one (Some v) [] i h own = absurd cc
unique_one (Some v) (p ∷ ps) zero h own = let e : value_model v ≡ p = cc in ap (λ (q : ItemModels). q.1) e ∙ both_first p.1 (all_true (model_unique ps)) own
unique_one (Some v) (p ∷ ps) (suc i) h own = unique_one (Some v) ps i h (both_second p.1 (all_true (model_unique ps)) own)

pub unique_taken : (x : Option Json) (old : ChunkedVec Json) (i : ℕ) → option_map value_model x ≡ slice_get (vec_models value_model old) i → list_unique old ≡ true → IfSome x (λ v. is_unique v ≡ true)
unique_taken x old i h own =
    unique_one x (vec_models value_model old) i h (both_second (is_unique_vec old) (all_true (model_unique (vec_models value_model old))) (sym (list_owns old) ∙ own))

-- by the results of the calls
pub taken_result : {E : Type 0} (r : Result (Option Json) E) (old : ChunkedVec Json) (i : ℕ) → IfOk r (λ x. option_map value_model x ≡ slice_get (vec_models value_model old) i)
    → IfOk r (λ o. option_map value_of o ≡ item_at i (list_value old))
taken_result (Ok x) old i h = item_taken x old i h
taken_result (Err e) old i h = tt

pub none_result : {E : Type 0} (r : Result (Option Json) E) (old new : ChunkedVec Json) (i : ℕ) (y : Json) → IfOk r (λ x. option_map value_model x ≡ slice_get (vec_models value_model old) i)
    → OnOk r (vec_models value_model new ≡ set (vec_models value_model old) i (value_model y)) → IfOk r (λ o. IfNone o (list_value new ≡ list_value old))
none_result (Ok x) old new i y h e = none_taken x old new i y h e
none_result (Err e) old new i y h k = tt

pub unchanged_result : {E : Type 0} (r : Result (Option Json) E) (old new : ChunkedVec Json) → OnErr r (vec_models value_model new ≡ vec_models value_model old) → OnErr r (list_value new ≡ list_value old)
unchanged_result (Ok x) old new h = tt
unchanged_result (Err e) old new h = list_same old new h

pub own_result : {E : Type 0} (r : Result (Option Json) E) (old new : ChunkedVec Json) (i : ℕ) (y : Json)
    → OnOk r (vec_models value_model new ≡ set (vec_models value_model old) i (value_model y)) → OnErr r (vec_models value_model new ≡ vec_models value_model old)
    → (is_unique_vec old ≡ true → is_unique_vec new ≡ true) → list_unique old ≡ true → is_unique y ≡ true → list_unique new ≡ true
own_result (Ok x) old new i y e k o own fresh = unique_replaced old new i y e o own fresh
own_result (Err e) old new i y k h o own fresh = unique_same old new h o own

pub taken_unique : {E : Type 0} (r : Result (Option Json) E) (old : ChunkedVec Json) (i : ℕ) → IfOk r (λ x. option_map value_model x ≡ slice_get (vec_models value_model old) i)
    → list_unique old ≡ true → IfOk r (λ o. IfSome o (λ v. is_unique v ≡ true))
taken_unique (Ok x) old i h own = unique_taken x old i h own
taken_unique (Err e) old i h own = tt

-- a replacement succeeds if the item's part is unique
pub surely_set : {E : Type 0} (r : Result (Option Json) E) (old new : ChunkedVec Json) (i : ℕ) (y : Json)
    → OnOk r (vec_models value_model new ≡ set (vec_models value_model old) i (value_model y)) → OnErr r (is_unique_vec_at old i ≡ false) → is_unique_vec_at old i ≡ true
    → list_value new ≡ set_item i (list_value old) (value_of y)
surely_set (Ok x) old new i y e k own = list_set old new i y e
surely_set (Err e) old new i y h k own = absurd (true≢false (sym own ∙ k))

pub null_left : {E : Type 0} (r : Result (Option Json) E) (old new : ChunkedVec Json) (i : ℕ)
    → OnOk r (vec_models value_model new ≡ set (vec_models value_model old) i (value_model json.Null)) → OnOk r (list_value new ≡ set_item i (list_value old) null)
null_left (Ok x) old new i e = list_set old new i json.Null e ∙ ap (set_item i (list_value old)) seen_null
null_left (Err e) old new i k = tt

-- ---- a borrowed item

pub found_view : {B : Type 0} (r : Option B) (n : B → Json) (l : ChunkedVec Json) (i : ℕ) → option_map (λ x. value_model (n x)) r ≡ slice_get (vec_models value_model l) i
    → option_map (λ x. value_of (n x)) r ≡ item_at i (list_value l)
found_view r n l i h =
    sym (option_map_twice value_of n r) ∙ item_taken (option_map n r) l i (option_map_twice value_model n r ∙ h)

-- a borrow of an item of a shared list has the value of the item
pub shared_view : {B : Type 0} (r : Option B) (n : B → Json) (l : ChunkedVec Json) (i : ℕ) → IfSome r (λ x. slice_get (vec_models value_model l) i ≡ Some (value_model (n x)))
    → IfSome r (λ x. item_at i (list_value l) ≡ Some (value_of (n x)))
shared_view None n l i h = tt
shared_view (Some x) n l i h = sym (found_view (Some x) n l i (sym h))

some_mapped : {B : Type 0} (r : Option B) (n : B → Json) → IfSome (option_map n r) (λ v. is_unique v ≡ true) → IfSome r (λ x. is_unique (n x) ≡ true)
some_mapped None n h = tt
some_mapped (Some x) n h = h

pub found_unique : {B : Type 0} (r : Option B) (n : B → Json) (l : ChunkedVec Json) (i : ℕ) → option_map (λ x. value_model (n x)) r ≡ slice_get (vec_models value_model l) i
    → list_unique l ≡ true → IfSome r (λ x. is_unique (n x) ≡ true)
found_unique r n l i h own = some_mapped r n (unique_taken (option_map n r) l i (option_map_twice value_model n r ∙ h) own)

pub unique_place : (l : ChunkedVec Json) (i : ℕ) → list_unique l ≡ true → is_unique_vec_at l i ≡ true
unique_place l i own = unique_vec_at_of_all l i (both_first (is_unique_vec l) (items_unique (vec_items l)) own)

unique_repr : {X : Type 0} (w : Repr X) → is_unique_repr w ≡ true → is_grouped w ≡ false
unique_repr (Flat b) own = refl
unique_repr (Chunks bs) own = refl
unique_repr (Groups gs) own = absurd (true≢false (sym own))

pub unique_in_chunks : (l : ChunkedVec Json) → list_unique l ≡ true → is_grouped l.repr ≡ false
unique_in_chunks l own = unique_repr l.repr (both_first (is_unique_vec l) (items_unique (vec_items l)) own)

vec_shared_or : (b : Bool) (l : ChunkedVec Json) (i : ℕ) → is_unique_vec l ≡ b → is_unique_vec_at l i ≡ false → b ≡ false
vec_shared_or true l i own h = absurd (true≢false (sym (unique_vec_at_of_all l i own) ∙ h))
vec_shared_or false l i own h = refl

-- a list with a shared part on the path to an item isn't unique
pub shared_at : (l : ChunkedVec Json) (i : ℕ) → is_unique_vec_at l i ≡ false → is_unique_vec l ≡ false
shared_at l i h = vec_shared_or (is_unique_vec l) l i refl h

shared_or : (b : Bool) (l : ChunkedVec Json) (i : ℕ) → list_unique l ≡ b → is_unique_vec_at l i ≡ false → b ≡ false
shared_or true l i own h = absurd (true≢false (sym (unique_place l i own) ∙ h))
shared_or false l i own h = refl

pub shared_place : (l : ChunkedVec Json) (i : ℕ) → is_unique_vec_at l i ≡ false → list_unique l ≡ false
shared_place l i h = shared_or (list_unique l) l i refl h
