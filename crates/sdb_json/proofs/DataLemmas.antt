-- The data of a tree: by the kind of value, and where `serde_json` reads it.
use Rattle.std.proofs.Common.{◌≡◌, ℕ, List, Option, Some, None, option_map, option_and_then, is_some, unwrap_or, true, false, refl, ap, sym, ◌∙◌}
use Rattle.json.specs.Json as json
use Rattle.json.specs.Find as tree
use Rattle.serde_json.specs.Data.{Data, null, boolean, number, string, array, object, Items, no_items, item, Members, no_members, member, put}
use Rattle.serde_json.specs.Find.{as_null, as_bool, as_number, as_str, as_array, as_object}
use Rattle.serde_json.specs.Read.{number_of, of_json, of_items, of_members}
use Rattle.sdb_json.specs.TreeData.{zero_float, token_number, data_of, items_data, members_data}

pub data-is_null : (j : json.Json) → tree.is_null j ≡ is_some (as_null (data_of j))
data-is_null json.null = refl
data-is_null (json.boolean b) = refl
data-is_null (json.number s) = refl
data-is_null (json.string s) = refl
data-is_null (json.array js) = refl
data-is_null (json.object ms) = refl

pub data-as_bool : (j : json.Json) → tree.as_bool j ≡ as_bool (data_of j)
data-as_bool json.null = refl
data-as_bool (json.boolean b) = refl
data-as_bool (json.number s) = refl
data-as_bool (json.string s) = refl
data-as_bool (json.array js) = refl
data-as_bool (json.object ms) = refl

pub data-as_str : (j : json.Json) → tree.as_str j ≡ as_str (data_of j)
data-as_str json.null = refl
data-as_str (json.boolean b) = refl
data-as_str (json.number s) = refl
data-as_str (json.string s) = refl
data-as_str (json.array js) = refl
data-as_str (json.object ms) = refl

pub data-as_number : (j : json.Json) → option_map token_number (tree.as_number j) ≡ as_number (data_of j)
data-as_number json.null = refl
data-as_number (json.boolean b) = refl
data-as_number (json.number s) = refl
data-as_number (json.string s) = refl
data-as_number (json.array js) = refl
data-as_number (json.object ms) = refl

-- ---- what `serde_json` reads is the data

abbrev or_else : {A : Type 0} → A → Option A → A
or_else z None = z
or_else z (Some a) = a

mapped : {A B : Type 0} (f : A → B) (o : Option A) (b : B) → option_map f o ≡ Some b → (a : A) × (o ≡ Some a) × (f a ≡ b)
mapped f None b e = absurd (cc)
mapped f (Some a) b e = (a, refl, ap (or_else b) e)

bound : {A B : Type 0} (f : A → Option B) (o : Option A) (b : B) → option_and_then f o ≡ Some b → (a : A) × (o ≡ Some a) × (f a ≡ Some b)
bound f None b e = absurd (cc)
bound f (Some a) b e = (a, refl, e)

mutual
  pub read-data : (j : json.Json) (d : Data) → of_json j ≡ Some d → data_of j ≡ d
  read-data json.null d e = ap (or_else d) e
  read-data (json.boolean b) d e = ap (or_else d) e
  read-data (json.number s) d e = let m = mapped number (number_of s) d e in ap (λ o. number (unwrap_or o zero_float)) m.1 ∙ m.2
  read-data (json.string s) d e = ap (or_else d) e
  read-data (json.array js) d e = let m = mapped array (of_items js) d e in ap array (read-items js m.0 m.1) ∙ m.2
  read-data (json.object ms) d e = let m = mapped object (of_members ms no_members) d e in ap object (read-members ms no_members m.0 m.1) ∙ m.2

  read-items : (js : json.Items) (ds : Items) → of_items js ≡ Some ds → items_data js ≡ ds
  read-items json.no_items ds e = ap (or_else ds) e
  read-items (json.item j js) ds e =
      let first = bound (λ d. option_map (item d) (of_items js)) (of_json j) ds e in
      let rest = mapped (item first.0) (of_items js) ds first.2 in
      ap (λ d. item d (items_data js)) (read-data j first.0 first.1) ∙ ap (item first.0) (read-items js rest.0 rest.1) ∙ rest.2

  read-members : (ms : json.Members) (found ds : Members) → of_members ms found ≡ Some ds → members_data ms found ≡ ds
  read-members json.no_members found ds e = ap (or_else ds) e
  read-members (json.member k j ms) found ds e =
      let first = bound (λ d. of_members ms (put k d found)) (of_json j) ds e in
      ap (λ d. members_data ms (put k d found)) (read-data j first.0 first.1) ∙ read-members ms (put k first.0 found) ds first.2

-- a value that is read is read as its data
pub reads-data : (j : json.Json) → is_some (of_json j) ≡ true → of_json j ≡ Some (data_of j)
reads-data j e = of (of_json j) refl e
  where
    of : (o : Option Data) → of_json j ≡ o → is_some o ≡ true → o ≡ Some (data_of j)
    of None is e = absurd (cc)
    of (Some d) is e = ap Some (sym (read-data j d is))

-- ---- where each number is in range

mapped_some : {A B : Type 0} (f : A → B) (o : Option A) → is_some (option_map f o) ≡ is_some o
mapped_some f None = refl
mapped_some f (Some a) = refl

none_first : {A B : Type 0} (f : A → Option B) (o : Option A) → is_some o ≡ false → is_some (option_and_then f o) ≡ false
none_first f None e = refl
none_first f (Some a) e = absurd (cc)

pub number_in_range : (s : List ℕ) → is_some (of_json (json.number s)) ≡ is_some (number_of s)
number_in_range s = mapped_some number (number_of s)

pub array_in_range : (js : json.Items) → is_some (of_json (json.array js)) ≡ is_some (of_items js)
array_in_range js = mapped_some array (of_items js)

pub object_in_range : (ms : json.Members) → is_some (of_json (json.object ms)) ≡ is_some (of_members ms no_members)
object_in_range ms = mapped_some object (of_members ms no_members)

pub item_in_range : (j : json.Json) (js : json.Items) → is_some (of_json j) ≡ true → is_some (of_items (json.item j js)) ≡ is_some (of_items js)
item_in_range j js e = rw (reads-data j e) (mapped_some (item (data_of j)) (of_items js))

pub item_beyond : (j : json.Json) (js : json.Items) → is_some (of_json j) ≡ false → is_some (of_items (json.item j js)) ≡ false
item_beyond j js e = none_first (λ d. option_map (item d) (of_items js)) (of_json j) e

either_some : {A B C : Type 0} (f : A → Option B) (g : A → Option C) → ((a : A) → is_some (f a) ≡ is_some (g a)) → (o : Option A)
    → is_some (option_and_then f o) ≡ is_some (option_and_then g o)
either_some f g same None = refl
either_some f g same (Some a) = same a

pub any_members : (ms : json.Members) (a b : Members) → is_some (of_members ms a) ≡ is_some (of_members ms b)
any_members json.no_members a b = refl
any_members (json.member k j ms) a b = either_some (λ d. of_members ms (put k d a)) (λ d. of_members ms (put k d b)) (λ d. any_members ms (put k d a) (put k d b)) (of_json j)

pub member_in_range : (k : List ℕ) (j : json.Json) (ms : json.Members) → is_some (of_json j) ≡ true
    → is_some (of_members (json.member k j ms) no_members) ≡ is_some (of_members ms no_members)
member_in_range k j ms e = rw (reads-data j e) (any_members ms (put k (data_of j) no_members) no_members)

pub member_beyond : (k : List ℕ) (j : json.Json) (ms : json.Members) → is_some (of_json j) ≡ false → is_some (of_members (json.member k j ms) no_members) ≡ false
member_beyond k j ms e = none_first (λ d. of_members ms (put k d no_members)) (of_json j) e
