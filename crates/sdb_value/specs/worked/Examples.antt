-- Examples: the definitions on small values.
use Rattle.std.specs.Prelude.{◌≡◌, ℕ, pos, true, List, [], ◌∷◌, Some, None, codes, refl}
use Rattle.serde_json.specs.Data as raw
use Rattle.serde_json.specs.Find.{of_integer}
use Rattle.sdb_value.specs.Value.{Value, null, truth, whole, text, list, object, Items, no_items, item, Members, no_members, member, PlainStep, key, index, value_at, with_value_at, put_member, without_member, insert_item, remove_item, replace_item, depth}
use Rattle.sdb_rope.specs.Utf16.{units, cut_at, insert_text, remove_text}
use Rattle.sdb_value.specs.FromJson.{bounded_value_of_data}

abbrev int : ℕ → Value
int n = whole (pos n)

-- [1, u]
abbrev pair_with : Value → Value
pair_with u = list (item (int 1) (item u no_items))

-- {"a": [1, {"b": u}], "c": null}
abbrev nested : Value → Value
nested u =
    object (member (codes "a") (pair_with (object (member (codes "b") u no_members)))
    (member (codes "c") null no_members))

-- a.1.b
abbrev target : List PlainStep
target = key (codes "a") ∷ index 1 ∷ key (codes "b") ∷ []

pub row_at : value_at (nested (truth true)) target ≡ Some (truth true)
row_at = refl

pub row_with : with_value_at (nested (truth true)) target (int 5) ≡ nested (int 5)
row_with = refl

pub row_after_list : value_at (nested null) (key (codes "a") ∷ index 2 ∷ []) ≡ None
row_after_list = refl

pub row_no_member : value_at (nested null) (key (codes "b") ∷ []) ≡ None
row_no_member = refl

pub row_index_of_object : value_at (nested null) (index 0 ∷ []) ≡ None
row_index_of_object = refl

-- ---- lists

abbrev two : Items
two = item (int 1) (item (int 2) no_items)

pub row_insert_first : insert_item 0 null two ≡ Some (item null two)
row_insert_first = refl

pub row_insert_between : insert_item 1 null two ≡ Some (item (int 1) (item null (item (int 2) no_items)))
row_insert_between = refl

pub row_insert_last : insert_item 2 null two ≡ Some (item (int 1) (item (int 2) (item null no_items)))
row_insert_last = refl

pub row_insert_after : insert_item 3 null two ≡ None
row_insert_after = refl

pub row_remove_first : remove_item 0 two ≡ Some (item (int 2) no_items)
row_remove_first = refl

pub row_remove_last : remove_item 1 two ≡ Some (item (int 1) no_items)
row_remove_last = refl

pub row_remove_after : remove_item 2 two ≡ None
row_remove_after = refl

pub row_replace_first : replace_item 0 null two ≡ Some (item null (item (int 2) no_items))
row_replace_first = refl

pub row_replace_after : replace_item 2 null two ≡ None
row_replace_after = refl

-- ---- objects

abbrev ac : Members
ac = member (codes "a") (int 1) (member (codes "c") (int 3) no_members)

pub row_put_between : put_member (codes "b") (int 2) ac
    ≡ member (codes "a") (int 1) (member (codes "b") (int 2) (member (codes "c") (int 3) no_members))
row_put_between = refl

pub row_put_again : put_member (codes "a") null ac ≡ member (codes "a") null (member (codes "c") (int 3) no_members)
row_put_again = refl

pub row_without : without_member (codes "a") ac ≡ member (codes "c") (int 3) no_members
row_without = refl

pub row_without_other : without_member (codes "b") ac ≡ ac
row_without_other = refl

-- ---- texts

-- a😀b
abbrev smile : List ℕ
smile = 97 ∷ 240 ∷ 159 ∷ 152 ∷ 128 ∷ 98 ∷ []

pub row_units : units smile ≡ 4
row_units = refl

pub row_cut_first : cut_at smile 0 ≡ Some 0
row_cut_first = refl

pub row_cut_before_pair : cut_at smile 1 ≡ Some 1
row_cut_before_pair = refl

pub row_cut_inside_pair : cut_at smile 2 ≡ None
row_cut_inside_pair = refl

pub row_cut_after_pair : cut_at smile 3 ≡ Some 5
row_cut_after_pair = refl

pub row_cut_last : cut_at smile 4 ≡ Some 6
row_cut_last = refl

pub row_cut_after : cut_at smile 5 ≡ None
row_cut_after = refl

pub row_insert_text : insert_text 3 (codes "xy") smile ≡ Some (97 ∷ 240 ∷ 159 ∷ 152 ∷ 128 ∷ 120 ∷ 121 ∷ 98 ∷ [])
row_insert_text = refl

pub row_remove_text : remove_text 1 (240 ∷ 159 ∷ 152 ∷ 128 ∷ []) smile ≡ Some (codes "ab")
row_remove_text = refl

pub row_other_text : remove_text 1 (codes "x") smile ≡ None
row_other_text = refl

-- ---- the profile

pub row_depth : depth (nested null) ≡ 3
row_depth = refl

pub row_flat : depth (text smile) ≡ 0
row_flat = refl

pub row_greatest : bounded_value_of_data (raw.number (of_integer (pos 9007199254740991))) ≡ Some (int 9007199254740991)
row_greatest = refl

pub row_too_large : bounded_value_of_data (raw.number (of_integer (pos 9007199254740992))) ≡ None
row_too_large = refl
