-- A list or an object, parsed part by part.
use Rattle.std.proofs.Common.{◌≡◌, ℕ, ◌<◌, ◌≤◌, List, [], ◌∷◌, ◌++◌, map, Option, Some, None, option_map, Bool, true, false, cond, nat_cmp, Ordering, Less, refl, sym, ap, ◌∙◌, subst, arith}
use Rattle.std.specs.Bool.{⊤}
use Rattle.std.specs.Borrow.{Bor}
use Rattle.std.specs.Cmp.Lexicographic.{slice_cmp}
use Rattle.std.specs.List.{AllByRecursion}
use Rattle.std.specs.List.Sorted.{IsStrictlySortedBy}
use Rattle.std.specs.Map.{keys_of}
use Rattle.std.specs.Option.{option_and_then}
use Rattle.serde_json.specs.Data as raw
use Rattle.serde_json.specs.Find.{as_array, as_bool, as_number, as_object, as_str}
use Rattle.sdb_json.specs.TreeData.{sorted_members}
use Rattle.sdb_sorted_map.specs.MapEntry.{key_value}
use Rattle.sdb_sorted_map.specs.KeyOrder.{compare_bytes, IsAscending}
use Rattle.sdb_sorted_map.specs.SearchModel.{entry_key_bytes}
use Rattle.sdb_sorted_map.specs.declared.map_entry.MapEntry.{MapEntry}
use Rattle.sdb_value.specs.Uniqueness.{all_true, is_unique, members_unique}
use Rattle.sdb_value.specs.Value.{Value, Items, no_items, item, append_items, Members, member, depth, items_depth, members_depth}
use Rattle.sdb_value.specs.FromJson.{value_of_data, items_of_data, members_of_data}
use Rattle.sdb_value.specs.View.{value_of, items_value, members_value}
use Rattle.sdb_value.specs.declared.value.Json.{Json}

pub join_none : (ds : Items) → append_items ds no_items ≡ ds
join_none no_items = refl
join_none (item d ds) = ap (item d) (join_none ds)

pub join_push : (vs : List Json) (j : Json) (es : Items) → append_items (items_value (vs ++ j ∷ [])) es ≡ append_items (items_value vs) (item (value_of j) es)
join_push [] j es = refl
join_push (v ∷ vs) j es = ap (item (value_of v)) (join_push vs j es)

join_all : (vs : List Json) (j : Json) (o : Option Items) → option_map (append_items (items_value vs)) (option_map (item (value_of j)) o) ≡ option_map (append_items (items_value (vs ++ j ∷ []))) o
join_all vs j None = refl
join_all vs j (Some es) = ap Some (sym (join_push vs j es))

-- one more item is converted
pub read_more : (vs : List Json) (j : Json) (all rest : raw.Items) (d : raw.Data) → value_of_data d ≡ Some (value_of j)
    → items_of_data all ≡ option_map (append_items (items_value vs)) (items_of_data (raw.item d rest)) → items_of_data all ≡ option_map (append_items (items_value (vs ++ j ∷ []))) (items_of_data rest)
read_more vs j all rest d e h = h ∙ rw e (join_all vs j (items_of_data rest))

pub read_all : (vs : List Json) (all : raw.Items) → items_of_data all ≡ option_map (append_items (items_value vs)) (items_of_data raw.no_items) → items_of_data all ≡ Some (items_value vs)
read_all vs all h = h ∙ ap Some (join_none (items_value vs))

pub low_push : (vs : List Json) (j : Json) (n : ℕ) → items_depth (items_value vs) ≤ n → depth (value_of j) ≤ n → items_depth (items_value (vs ++ j ∷ [])) ≤ n
low_push [] j n h k = omega arith
low_push (v ∷ vs) j n h k = let r : items_depth (items_value (vs ++ j ∷ [])) ≤ n = low_push vs j n (omega arith) k in omega arith

-- ---- members

abbrev pub ReadEntry : Type 0 → Type 0
ReadEntry D = Bor (List ℕ) × Bor D

abbrev pub text_cmp : Bor (List ℕ) → Bor (List ℕ) → Ordering
text_cmp k l = slice_cmp nat_cmp k.now l.now

-- the keys of entries
abbrev pub read_names : {D : Type 0} → List (ReadEntry D) → List (List ℕ)
read_names es = map (λ e. e.0.now) es

-- each entry is converted, with its key and its value
abbrev pub AreReadMembers : {D : Type 0} → (D → raw.Data) → List (ReadEntry D) → List (List ℕ × Json) → Type 0
AreReadMembers f [] [] = ⊤
AreReadMembers f [] (m ∷ ms) = ⊥
AreReadMembers f (e ∷ es) [] = ⊥
AreReadMembers f (e ∷ es) (m ∷ ms) = (m.0 ≡ e.0.now) × (value_of_data (f e.1.now) ≡ Some (value_of m.1)) × AreReadMembers f es ms

-- all values are unique
abbrev pub entries_own : List (List ℕ × Json) → Bool
entries_own es = all_true (map (λ e. is_unique e.1) es)

pub owns_of : (ms : List (MapEntry Json)) → members_unique ms ≡ entries_own (map key_value ms)
owns_of [] = refl
owns_of (m ∷ ms) = ap (λ b. cond (is_unique m.value) b false) (owns_of ms)

unique_end : (a b : Bool) → a ≡ true → b ≡ true → cond a b false ≡ true
unique_end true b p q = q
unique_end false b p q = p

unique_first : (a b : Bool) → cond a b false ≡ true → a ≡ true
unique_first true b e = refl
unique_first false b e = e

unique_rest : (a b : Bool) → cond a b false ≡ true → b ≡ true
unique_rest true b e = e
unique_rest false b e = cc

pub member_unique : (es : List (List ℕ × Json)) (e : List ℕ × Json) → entries_own es ≡ true → is_unique e.1 ≡ true → entries_own (es ++ e ∷ []) ≡ true
member_unique [] e h k = unique_end (is_unique e.1) true k refl
member_unique (d ∷ es) e h k =
    unique_end (is_unique d.1) (entries_own (es ++ e ∷ [])) (unique_first (is_unique d.1) (entries_own es) h) (member_unique es e (unique_rest (is_unique d.1) (entries_own es) h) k)

pub member_low : (es : List (List ℕ × Json)) (e : List ℕ × Json) (n : ℕ) → members_depth (members_value es) ≤ n → depth (value_of e.1) ≤ n
    → members_depth (members_value (es ++ e ∷ [])) ≤ n
member_low [] e n h k = omega arith
member_low (d ∷ es) e n h k = let r : members_depth (members_value (es ++ e ∷ [])) ≤ n = member_low es e n (omega arith) k in omega arith

members_of_read : (o : Option Value) (p : Option Members) (k : List ℕ) (v : Value) (ns : Members) → o ≡ Some v → p ≡ Some ns
    → option_and_then (λ v. option_map (member k v) p) o ≡ Some (member k v ns)
members_of_read o p k v ns e f = rw (e, f) refl

none_after : (o : Option Value) (k : List ℕ) (p : Option Members) → p ≡ None → option_and_then (λ v. option_map (member k v) p) o ≡ None
none_after None k p e = refl
none_after (Some v) k p e = rw e refl

below_names : {D : Type 0} (k : Bor (List ℕ)) (es : List (ReadEntry D)) → AllByRecursion (λ y. text_cmp k y ≡ Less) (keys_of es)
    → AllByRecursion (λ t. compare_bytes k.now t ≡ Less) (read_names es)
below_names k [] a = tt
below_names k (e ∷ es) a = (a.0, below_names k es a.1)

ascending_names : {D : Type 0} (es : List (ReadEntry D)) → IsStrictlySortedBy text_cmp (keys_of es) → IsAscending (read_names es)
unfolding IsStrictlySortedBy
ascending_names [] s = tt
ascending_names (e ∷ es) s = (below_names e.0 es s.0, ascending_names es s.1)

append_none : {E : Type 0} (es : List E) → es ++ [] ≡ es
append_none [] = refl
append_none (e ∷ es) = ap (λ l. e ∷ l) (append_none es)

-- nothing is left
all_done : {E : Type 0} (es done left : List E) → es ≡ done ++ left → left ≡ [] → done ≡ es
all_done es done left e n = sym (e ∙ ap (λ l. done ++ l) n ∙ append_none done)

-- the keys of all entries of a map are sorted
pub all_ascend : {D : Type 0} (es done left : List (ReadEntry D)) (ts : List (List ℕ)) → es ≡ done ++ left → left ≡ [] → ts ≡ read_names done
    → IsStrictlySortedBy text_cmp (keys_of es) → IsAscending ts
all_ascend es done left ts split none keys sorted =
    subst IsAscending (sym (keys ∙ ap read_names (all_done es done left split none))) (ascending_names es sorted)

module _ {D : Type 0} (f : D → raw.Data) where
  -- one more member is converted
  pub member_more : (es : List (ReadEntry D)) (ms : List (List ℕ × Json)) (e : ReadEntry D) (v : Json) → AreReadMembers f es ms → value_of_data (f e.1.now) ≡ Some (value_of v)
      → AreReadMembers f (es ++ e ∷ []) (ms ++ (e.0.now, v) ∷ [])
  member_more [] [] e v r h = (refl, h, tt)
  member_more [] (m ∷ ms) e v r h = absurd r
  member_more (d ∷ es) [] e v r h = absurd r
  member_more (d ∷ es) (m ∷ ms) e v r h = (r.0, r.1, member_more es ms e v r.2 h)

  object_read : (es : List (ReadEntry D)) (ms : List (List ℕ × Json)) → AreReadMembers f es ms → members_of_data (sorted_members f es) ≡ Some (members_value ms)
  object_read [] [] r = refl
  object_read [] (m ∷ ms) r = absurd r
  object_read (e ∷ es) [] r = absurd r
  object_read (e ∷ es) (m ∷ ms) r =
      members_of_read (value_of_data (f e.1.now)) (members_of_data (sorted_members f es)) e.0.now (value_of m.1) (members_value ms) r.1 (object_read es ms r.2)
      ∙ ap (λ k. Some (member k (value_of m.1) (members_value ms))) (sym r.0)

  -- the object of all members
  pub object_made : (es done left : List (ReadEntry D)) (ms ns : List (List ℕ × Json)) → es ≡ done ++ left → left ≡ [] → AreReadMembers f done ms → ns ≡ ms
      → members_of_data (sorted_members f es) ≡ Some (members_value ns)
  object_made es done left ms ns split none reads made =
      ap (λ ds. members_of_data (sorted_members f ds)) (sym (all_done es done left split none)) ∙ object_read done ms reads ∙ ap (λ l. Some (members_value l)) (sym made)

  -- the keys of the members
  pub members_names : (es : List (ReadEntry D)) (ms : List (MapEntry Json)) → AreReadMembers f es (map key_value ms) → entry_key_bytes ms ≡ read_names es
  members_names [] [] r = refl
  members_names [] (m ∷ ms) r = absurd r
  members_names (e ∷ es) [] r = absurd r
  members_names (e ∷ es) (m ∷ ms) r = ap (λ k. k ∷ entry_key_bytes ms) r.0 ∙ ap (λ l. e.0.now ∷ l) (members_names es ms r.2)

  pub member_none : (done : List (ReadEntry D)) (e : ReadEntry D) (more : List (ReadEntry D)) → value_of_data (f e.1.now) ≡ None → members_of_data (sorted_members f (done ++ e ∷ more)) ≡ None
  member_none [] e more k = rw k refl
  member_none (first ∷ done) e more k = none_after (value_of_data (f first.1.now)) (first.0.now) _ (member_none done e more k)

  pub member_deep : (done : List (ReadEntry D)) (e : ReadEntry D) (more : List (ReadEntry D)) (n : ℕ) → n < raw.depth (f e.1.now) → n < raw.members_depth (sorted_members f (done ++ e ∷ more))
  member_deep [] e more n k = omega arith
  member_deep (first ∷ done) e more n k = let r : n < raw.members_depth (sorted_members f (done ++ e ∷ more)) = member_deep done e more n k in omega arith

-- ---- the data of each kind of JSON

pub is_list : (d : raw.Data) (ds : raw.Items) → Some ds ≡ as_array d → d ≡ raw.array ds
is_list raw.null ds e = absurd (cc)
is_list (raw.boolean b) ds e = absurd (cc)
is_list (raw.number n) ds e = absurd (cc)
is_list (raw.string s) ds e = absurd (cc)
is_list (raw.array es) ds e = cc
is_list (raw.object ms) ds e = absurd (cc)

pub is_object : (d : raw.Data) (ms : raw.Members) → Some ms ≡ as_object d → d ≡ raw.object ms
is_object raw.null ms e = absurd (cc)
is_object (raw.boolean b) ms e = absurd (cc)
is_object (raw.number n) ms e = absurd (cc)
is_object (raw.string s) ms e = absurd (cc)
is_object (raw.array es) ms e = absurd (cc)
is_object (raw.object ns) ms e = cc

pub is_null : (d : raw.Data) → None ≡ as_bool d → None ≡ as_number d → None ≡ as_str d → as_array d ≡ None → as_object d ≡ None → d ≡ raw.null
is_null raw.null a b c e f = refl
is_null (raw.boolean x) a b c e f = absurd (cc)
is_null (raw.number n) a b c e f = absurd (cc)
is_null (raw.string s) a b c e f = absurd (cc)
is_null (raw.array es) a b c e f = absurd (cc)
is_null (raw.object ms) a b c e f = absurd (cc)
