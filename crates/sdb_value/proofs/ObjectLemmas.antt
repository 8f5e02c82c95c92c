-- A member that is taken out of a list and put back.
use Rattle.std.proofs.Common.{◌≡◌, ℕ, zero, suc, List, [], ◌∷◌, map, Option, Some, None, option_map, Bool, true, false, cond, slice_get, slice_set, Result, Ok, Err, IfOk, OnOk, OnErr, refl, sym, ap, ◌∙◌}
use Rattle.std.specs.Option.{IfSome, IfNone}
use Rattle.sdb_sorted_map.specs.laws.SortedMapLaws.{keys_of_vec_models}
use Rattle.sdb_sorted_map.specs.MapEntry.{entry_key, entry_model}
use Rattle.sdb_sorted_map.specs.SortedMap.{entry_keys}
use Rattle.sdb_sorted_map.specs.SearchModel.{vec_keys}
use Rattle.sdb_sorted_map.specs.declared.map_entry.MapEntry.{MapEntry}
use Rattle.sdb_chunks.specs.laws.ChunkLaws.{unique_vec_at_of_all, vec_models_of_items}
use Rattle.sdb_chunks.specs.ChunkedVec.{vec_items, is_unique_vec_at, is_unique_vec, vec_models}
use Rattle.sdb_chunks.specs.declared.chunked_vec.ChunkedVec.{ChunkedVec}
use Rattle.sdb_value.specs.Uniqueness.{all_true, entries_unique, is_unique, value_model}
use Rattle.sdb_value.specs.Value.{Value, null, item, item_at, set_item, Items}
use Rattle.sdb_value.specs.View.{value_of, items_from_list, values_of_entries}
use Rattle.sdb_value.specs.declared.value.Json.{Json}
use Rattle.sdb_value.proofs.PutLemmas.{EntryModels, both_first, both_second, entries_owns, unique_unchanged}
use Rattle.sdb_value.proofs.ViewLemmas.{seen_null}
use Rattle.sdb_value.specs.declared.value.Json as json

abbrev MemberEntries : Type 0
MemberEntries = ChunkedVec (MapEntry Json)

abbrev seen_of : MemberEntries → List EntryModels
seen_of l = vec_models (entry_model value_model) l

abbrev model_values : List EntryModels → Items
model_values es = items_from_list (map (λ (e : EntryModels). e.1.0) es)

-- ---- values and keys of the views

values_each : (ms : List (MapEntry Json)) → model_values (map (entry_model value_model) ms) ≡ items_from_list (map (λ m. value_of m.value) ms)
values_each [] = refl
values_each (m ∷ ms) = ap (item (value_of m.value)) (values_each ms)

values_seen : (l : MemberEntries) → values_of_entries l ≡ model_values (seen_of l)
values_seen l = sym (ap model_values (vec_models_of_items (entry_model value_model) l) ∙ values_each (vec_items l))

at_values : (es : List EntryModels) (i : ℕ) → item_at i (model_values es) ≡ option_map (λ e. e.1.0) (slice_get es i)
at_values [] i = refl
at_values (e ∷ es) zero = refl
at_values (e ∷ es) (suc i) = at_values es i

set_values : (es : List EntryModels) (i : ℕ) (e : EntryModels) → model_values (slice_set es i e) ≡ set_item i (model_values es) e.1.0
set_values [] i e = refl
set_values (d ∷ es) zero e = refl
set_values (d ∷ es) (suc i) e = ap (item d.1.0) (set_values es i e)

at_names : (es : List EntryModels) (i : ℕ) → slice_get (entry_keys es) i ≡ option_map (λ e. e.0) (slice_get es i)
at_names [] i = refl
at_names (e ∷ es) zero = refl
at_names (e ∷ es) (suc i) = at_names es i

set_names : (es : List EntryModels) (i : ℕ) (e : EntryModels) → entry_keys (slice_set es i e) ≡ slice_set (entry_keys es) i e.0
set_names [] i e = refl
set_names (d ∷ es) zero e = refl
set_names (d ∷ es) (suc i) e = ap (λ l. d.0 ∷ l) (set_names es i e)

map_map_option : {A B C : Type 0} (f : B → C) (g : A → B) (o : Option A) → option_map f (option_map g o) ≡ option_map (λ x. f (g x)) o
map_map_option f g None = refl
map_map_option f g (Some x) = refl

set_past : {A : Type 0} (xs : List A) (i : ℕ) (x : A) → slice_get xs i ≡ None → slice_set xs i x ≡ xs
set_past [] i x e = refl
set_past (y ∷ xs) zero x e = cc
set_past (y ∷ xs) (suc i) x e = ap (λ l. y ∷ l) (set_past xs i x e)

-- ---- the member that was there

value_there : (o : Option (MapEntry Json)) (l : MemberEntries) (i : ℕ) → option_map (entry_model value_model) o ≡ slice_get (seen_of l) i
    → option_map (λ m. value_of m.value) o ≡ item_at i (values_of_entries l)
value_there o l i e =
    sym (map_map_option (λ (s : EntryModels). s.1.0) (entry_model value_model) o) ∙ ap (option_map (λ (s : EntryModels). s.1.0)) e ∙ sym (at_values (seen_of l) i) ∙ ap (item_at i) (sym (values_seen l))

name_there : (o : Option (MapEntry Json)) (l : MemberEntries) (i : ℕ) → option_map (entry_model value_model) o ≡ slice_get (seen_of l) i
    → option_map entry_key o ≡ slice_get (vec_keys l) i
name_there o l i e =
    sym (map_map_option (λ (s : EntryModels). s.0) (entry_model value_model) o) ∙ ap (option_map (λ (s : EntryModels). s.0)) e ∙ sym (at_names (seen_of l) i) ∙ ap (λ ts. slice_get ts i) (keys_of_vec_models value_model l)

none_there : (o : Option (MapEntry Json)) (l m : MemberEntries) (i : ℕ) (n : MapEntry Json) → option_map (entry_model value_model) o ≡ slice_get (seen_of l) i
    → seen_of m ≡ slice_set (seen_of l) i (entry_model value_model n) → IfNone o (seen_of m ≡ seen_of l)
none_there None l m i n e h = h ∙ set_past (seen_of l) i (entry_model value_model n) (sym e)
none_there (Some x) l m i n e h = tt

-- ---- a list with one member replaced

values_set : (l m : MemberEntries) (i : ℕ) (n : MapEntry Json) → seen_of m ≡ slice_set (seen_of l) i (entry_model value_model n) → values_of_entries m ≡ set_item i (values_of_entries l) (value_of n.value)
values_set l m i n e =
    values_seen m ∙ ap model_values e ∙ set_values (seen_of l) i (entry_model value_model n) ∙ ap (λ ds. set_item i ds (value_of n.value)) (sym (values_seen l))

names_set : (l m : MemberEntries) (i : ℕ) (n : MapEntry Json) → seen_of m ≡ slice_set (seen_of l) i (entry_model value_model n) → vec_keys m ≡ slice_set (vec_keys l) i (entry_key n)
names_set l m i n e =
    sym (keys_of_vec_models value_model m) ∙ ap entry_keys e ∙ set_names (seen_of l) i (entry_model value_model n) ∙ ap (λ ts. slice_set ts i (entry_key n)) (keys_of_vec_models value_model l)

values_same : (l m : MemberEntries) → seen_of m ≡ seen_of l → values_of_entries m ≡ values_of_entries l
values_same l m e = values_seen m ∙ ap model_values e ∙ sym (values_seen l)

names_same : (l m : MemberEntries) → seen_of m ≡ seen_of l → vec_keys m ≡ vec_keys l
names_same l m e = sym (keys_of_vec_models value_model m) ∙ ap entry_keys e ∙ keys_of_vec_models value_model l

-- ---- by the result of a call

pub value_taken : {E : Type 0} (r : Result (Option (MapEntry Json)) E) (l : MemberEntries) (i : ℕ) → IfOk r (λ x. option_map (entry_model value_model) x ≡ slice_get (seen_of l) i)
    → IfOk r (λ o. option_map (λ m. value_of m.value) o ≡ item_at i (values_of_entries l))
value_taken (Ok o) l i e = value_there o l i e
value_taken (Err x) l i e = tt

pub name_taken : {E : Type 0} (r : Result (Option (MapEntry Json)) E) (l : MemberEntries) (i : ℕ) → IfOk r (λ x. option_map (entry_model value_model) x ≡ slice_get (seen_of l) i)
    → IfOk r (λ o. option_map entry_key o ≡ slice_get (vec_keys l) i)
name_taken (Ok o) l i e = name_there o l i e
name_taken (Err x) l i e = tt

if_none : {A P Q : Type 0} (o : Option A) → (P → Q) → IfNone o P → IfNone o Q
if_none None h p = h p
if_none (Some x) h p = tt

pub none_taken : {E : Type 0} (r : Result (Option (MapEntry Json)) E) (l m : MemberEntries) (i : ℕ) (n : MapEntry Json) → IfOk r (λ x. option_map (entry_model value_model) x ≡ slice_get (seen_of l) i)
    → OnOk r (seen_of m ≡ slice_set (seen_of l) i (entry_model value_model n)) → IfOk r (λ o. IfNone o (values_of_entries m ≡ values_of_entries l))
none_taken (Ok o) l m i n e h = if_none o (values_same l m) (none_there o l m i n e h)
none_taken (Err x) l m i n e h = tt

pub none_names : {E : Type 0} (r : Result (Option (MapEntry Json)) E) (l m : MemberEntries) (i : ℕ) (n : MapEntry Json) → IfOk r (λ x. option_map (entry_model value_model) x ≡ slice_get (seen_of l) i)
    → OnOk r (seen_of m ≡ slice_set (seen_of l) i (entry_model value_model n)) → IfOk r (λ o. IfNone o (vec_keys m ≡ vec_keys l))
none_names (Ok o) l m i n e h = if_none o (names_same l m) (none_there o l m i n e h)
none_names (Err x) l m i n e h = tt

pub null_left : {E : Type 0} (r : Result (Option (MapEntry Json)) E) (l m : MemberEntries) (i : ℕ) (n : MapEntry Json) → n.value ≡ json.Null
    → OnOk r (seen_of m ≡ slice_set (seen_of l) i (entry_model value_model n)) → OnOk r (values_of_entries m ≡ set_item i (values_of_entries l) null)
null_left (Ok o) l m i n is h = values_set l m i n h ∙ ap (set_item i (values_of_entries l)) (ap value_of is ∙ seen_null)
null_left (Err x) l m i n is h = tt

pub name_left : {E : Type 0} (r : Result (Option (MapEntry Json)) E) (l m : MemberEntries) (i : ℕ) (k : List ℕ) (n : MapEntry Json) → entry_key n ≡ k
    → OnOk r (seen_of m ≡ slice_set (seen_of l) i (entry_model value_model n)) → OnOk r (vec_keys m ≡ slice_set (vec_keys l) i k)
name_left (Ok o) l m i k n is h = names_set l m i n h ∙ ap (slice_set (vec_keys l) i) is
name_left (Err x) l m i k n is h = tt

pub unchanged_values : {O E : Type 0} (r : Result O E) (l m : MemberEntries) → OnErr r (seen_of m ≡ seen_of l) → OnErr r (values_of_entries m ≡ values_of_entries l)
unchanged_values (Ok o) l m h = tt
unchanged_values (Err x) l m h = values_same l m h

pub unchanged_names : {O E : Type 0} (r : Result O E) (l m : MemberEntries) → OnErr r (seen_of m ≡ seen_of l) → OnErr r (vec_keys m ≡ vec_keys l)
unchanged_names (Ok o) l m h = tt
unchanged_names (Err x) l m h = names_same l m h

not_both : (b : Bool) → b ≡ true → b ≡ false → ⊥
not_both true p q = cc
not_both false p q = cc

pub surely_set : {O E : Type 0} (r : Result O E) (l m : MemberEntries) (i : ℕ) (n : MapEntry Json) → OnOk r (seen_of m ≡ slice_set (seen_of l) i (entry_model value_model n))
    → OnErr r (is_unique_vec_at l i ≡ false) → is_unique_vec_at l i ≡ true → values_of_entries m ≡ set_item i (values_of_entries l) (value_of n.value)
surely_set (Ok o) l m i n h e own = values_set l m i n h
surely_set (Err x) l m i n h e own = absurd (not_both (is_unique_vec_at l i) own e)

pub surely_named : {O E : Type 0} (r : Result O E) (l m : MemberEntries) (i : ℕ) (n : MapEntry Json) → OnOk r (seen_of m ≡ slice_set (seen_of l) i (entry_model value_model n))
    → OnErr r (is_unique_vec_at l i ≡ false) → is_unique_vec_at l i ≡ true → vec_keys m ≡ slice_set (vec_keys l) i (entry_key n)
surely_named (Ok o) l m i n h e own = names_set l m i n h
surely_named (Err x) l m i n h e own = absurd (not_both (is_unique_vec_at l i) own e)

-- ---- uniqueness of the values

abbrev model_unique : List EntryModels → List Bool
model_unique es = map (λ (e : EntryModels). e.1.1) es

and_intro : (a b : Bool) → a ≡ true → b ≡ true → cond a b false ≡ true
and_intro true b p q = q
and_intro false b p q = p

unique_set : (es : List EntryModels) (i : ℕ) (e : EntryModels) → all_true (model_unique es) ≡ true → e.1.1 ≡ true → all_true (model_unique (slice_set es i e)) ≡ true
unique_set [] i e h p = h
unique_set (d ∷ es) zero e h p = and_intro e.1.1 (all_true (model_unique es)) p (both_second d.1.1 (all_true (model_unique es)) h)
unique_set (d ∷ es) (suc i) e h p =
    and_intro d.1.1 (all_true (model_unique (slice_set es i e))) (both_first d.1.1 (all_true (model_unique es)) h) (unique_set es i e (both_second d.1.1 (all_true (model_unique es)) h) p)

pub unique_replaced : {O E : Type 0} (r : Result O E) (l m : MemberEntries) (i : ℕ) (n : MapEntry Json) → OnOk r (seen_of m ≡ slice_set (seen_of l) i (entry_model value_model n))
    → OnErr r (seen_of m ≡ seen_of l) → (is_unique_vec l ≡ true → is_unique_vec m ≡ true) → entries_unique l ≡ true → is_unique n.value ≡ true → entries_unique m ≡ true
unique_replaced (Ok o) l m i n h e keeps own new = unique_unchanged l m keeps (λ all. ap (λ es. all_true (model_unique es)) h ∙ unique_set (seen_of l) i (entry_model value_model n) all new) own
unique_replaced (Err x) l m i n h e keeps own new = unique_unchanged l m keeps (λ all. ap (λ es. all_true (model_unique es)) e ∙ all) own

unique_at : (es : List EntryModels) (i : ℕ) (e : EntryModels) → slice_get es i ≡ Some e → all_true (model_unique es) ≡ true → e.1.1 ≡ true
unique_at [] i e h p = cc
unique_at (d ∷ es) zero e h p = let is : d ≡ e = cc in ap (λ s. s.1.1) (sym is) ∙ both_first d.1.1 (all_true (model_unique es)) p
unique_at (d ∷ es) (suc i) e h p = unique_at es i e h (both_second d.1.1 (all_true (model_unique es)) p)

unique_there : (o : Option (MapEntry Json)) (l : MemberEntries) (i : ℕ) → option_map (entry_model value_model) o ≡ slice_get (seen_of l) i → entries_unique l ≡ true → IfSome o (λ m. is_unique m.value ≡ true)
unique_there None l i e own = tt
unique_there (Some m) l i e own =
    unique_at (seen_of l) i (entry_model value_model m) (sym e) (both_second (is_unique_vec l) (all_true (model_unique (seen_of l))) (sym (entries_owns l) ∙ own))

pub unique_taken : {E : Type 0} (r : Result (Option (MapEntry Json)) E) (l : MemberEntries) (i : ℕ) → IfOk r (λ x. option_map (entry_model value_model) x ≡ slice_get (seen_of l) i)
    → entries_unique l ≡ true → IfOk r (λ o. IfSome o (λ m. is_unique m.value ≡ true))
unique_taken (Ok o) l i e own = unique_there o l i e own
unique_taken (Err x) l i e own = tt

-- a shared part of the list on the path to a member
shared_or : (b : Bool) (l : MemberEntries) (i : ℕ) → entries_unique l ≡ b → is_unique_vec_at l i ≡ false → b ≡ false
shared_or true l i own e =
    absurd (not_both (is_unique_vec_at l i) (unique_vec_at_of_all l i (both_first (is_unique_vec l) (all_true (model_unique (seen_of l))) (sym (entries_owns l) ∙ own))) e)
shared_or false l i own e = refl

pub shared_member : (l : MemberEntries) (i : ℕ) → is_unique_vec_at l i ≡ false → entries_unique l ≡ false
shared_member l i e = shared_or (entries_unique l) l i refl e

-- a key that is put back
pub named_again : (ts : List (List ℕ)) (i : ℕ) (k t : List ℕ) → slice_get ts i ≡ Some t → slice_set (slice_set ts i k) i t ≡ ts
named_again [] i k t e = refl
named_again (x ∷ ts) zero k t e = let is : x ≡ t = cc in ap (λ y. y ∷ ts) (sym is)
named_again (x ∷ ts) (suc i) k t e = ap (λ l. x ∷ l) (named_again ts i k t e)
