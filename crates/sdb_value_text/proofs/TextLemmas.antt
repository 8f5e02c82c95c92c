-- The text of lists, objects and texts from an index on.
use Rattle.std.proofs.Common.{◌≡◌, ℕ, zero, suc, List, [], ◌∷◌, ◌++◌, map, drop, Some, None, slice_get, Bool, true, nat_lt, refl, sym, ap, ◌∙◌, append_assoc, append-nil, arith}
use Rattle.std.proofs.lemmas.Bool.Decides.{nat_tests}
use Rattle.std.specs.List.{concat}
use Rattle.json.specs.Token.{key, string}
use Rattle.json.specs.Print.{escape_byte, escape, print, print_from, quoted}
use Rattle.serde_json.specs.Written.{comma_if, items_text, members_text}
use Rattle.sdb_sorted_map.specs.MapEntry.{entry_model, key_value}
use Rattle.sdb_sorted_map.specs.declared.map_entry.MapEntry.{MapEntry}
use Rattle.sdb_value.specs.FromJson.{data_of_items, data_of_members}
use Rattle.sdb_value.specs.Uniqueness.{value_model}
use Rattle.sdb_value.specs.Value.{Value, no_items, item, drop_items, no_members, member}
use Rattle.sdb_value.specs.View.{items_value, members_value}
use Rattle.sdb_value.specs.declared.value.Json.{Json}
use Rattle.sdb_value_text.specs.Level.{drop_members, list_text, object_text, string_text, level_text, levels_text}
use Rattle.sdb_value_text.specs.ValueText.{key_text, value_text}
use Rattle.sdb_value_text.specs.declared.level.Level.{Level}

-- ---- single tokens

pub print_key : (k : List ℕ) → print (key k ∷ []) ≡ key_text k
unfolding print_from
print_key k = append-nil (key_text k)

pub print_string : (s : List ℕ) → print (string s ∷ []) ≡ quoted s
unfolding print_from
print_string s = append-nil (quoted s)

-- ---- the item, member or chunk at an index, or none

from_item : (vs : List Json) (i : ℕ) (v : Value) (b : Bool) → slice_get (map value_model vs) i ≡ Some (v, b) → drop_items i (items_value vs) ≡ item v (drop_items (suc i) (items_value vs))
from_item [] i v b e = cc
from_item (x ∷ vs) zero v b e =
    let h : value_model x ≡ (v, b) = cc in
    ap (λ m. item m.0 (items_value vs)) h
from_item (x ∷ vs) (suc i) v b e = from_item vs i v b e

after_items : (vs : List Json) (i : ℕ) → slice_get (map value_model vs) i ≡ None → drop_items i (items_value vs) ≡ no_items
after_items [] zero e = refl
after_items [] (suc i) e = refl
after_items (x ∷ vs) zero e = cc
after_items (x ∷ vs) (suc i) e = after_items vs i e

abbrev pub model_of_entry : MapEntry Json → List ℕ × (Value × Bool)
model_of_entry = entry_model value_model

from_member : (es : List (MapEntry Json)) (i : ℕ) (k : List ℕ) (v : Value) (b : Bool) → slice_get (map model_of_entry es) i ≡ Some (k, (v, b))
    → drop_members i (members_value (map key_value es)) ≡ member k v (drop_members (suc i) (members_value (map key_value es)))
from_member [] i k v b e = cc
from_member (x ∷ es) zero k v b e =
    let h : model_of_entry x ≡ (k, (v, b)) = cc in
    ap (λ m. member m.0 m.1.0 (members_value (map key_value es))) h
from_member (x ∷ es) (suc i) k v b e = from_member es i k v b e

after_members : (es : List (MapEntry Json)) (i : ℕ) → slice_get (map model_of_entry es) i ≡ None → drop_members i (members_value (map key_value es)) ≡ no_members
after_members [] zero e = refl
after_members [] (suc i) e = refl
after_members (x ∷ es) zero e = cc
after_members (x ∷ es) (suc i) e = after_members es i e

from_chunk : (ts : List (List ℕ)) (i : ℕ) (s : List ℕ) → slice_get ts i ≡ Some s → drop i ts ≡ s ∷ drop (suc i) ts
from_chunk [] i s e = cc
from_chunk (t ∷ ts) zero s e = let h : t ≡ s = cc in ap (λ u. u ∷ ts) h
from_chunk (t ∷ ts) (suc i) s e = from_chunk ts i s e

after_chunks : (ts : List (List ℕ)) (i : ℕ) → slice_get ts i ≡ None → drop i ts ≡ []
after_chunks [] zero e = refl
after_chunks [] (suc i) e = refl
after_chunks (t ∷ ts) zero e = cc
after_chunks (t ∷ ts) (suc i) e = after_chunks ts i e

-- ---- the text from an index on

is_later : (i : ℕ) → nat_lt 0 (suc i) ≡ true
is_later i = grind (arith, nat_tests)

pub item_text : (vs : List Json) (i : ℕ) (v : Value) (b : Bool) → slice_get (map value_model vs) i ≡ Some (v, b)
    → list_text (items_value vs) i ≡ comma_if (nat_lt 0 i) ++ (value_text v ++ list_text (items_value vs) (suc i))
item_text vs i v b e =
    let ds = data_of_items (drop_items (suc i) (items_value vs)) in
    ap (λ ds. items_text (nat_lt 0 i) (data_of_items ds)) (from_item vs i v b e) ∙ ap (λ later. comma_if (nat_lt 0 i) ++ (value_text v ++ items_text later ds)) (sym (is_later i))

pub list_end_text : (vs : List Json) (i : ℕ) → slice_get (map value_model vs) i ≡ None → list_text (items_value vs) i ≡ 93 ∷ []
list_end_text vs i e = ap (λ ds. items_text (nat_lt 0 i) (data_of_items ds)) (after_items vs i e)

pub member_text : (es : List (MapEntry Json)) (i : ℕ) (k : List ℕ) (v : Value) (b : Bool) → slice_get (map model_of_entry es) i ≡ Some (k, (v, b))
    → object_text (members_value (map key_value es)) i ≡ comma_if (nat_lt 0 i) ++ (key_text k ++ (value_text v ++ object_text (members_value (map key_value es)) (suc i)))
member_text es i k v b e =
    let ms = data_of_members (drop_members (suc i) (members_value (map key_value es))) in
    let rest = value_text v ++ object_text (members_value (map key_value es)) (suc i) in
    ap (λ ms. members_text (nat_lt 0 i) (data_of_members ms)) (from_member es i k v b e)
    ∙ ap (λ later. comma_if (nat_lt 0 i) ++ (quoted k ++ 58 ∷ (value_text v ++ members_text later ms))) (sym (is_later i))
    ∙ ap (λ l. comma_if (nat_lt 0 i) ++ l) (sym (append_assoc (quoted k) (58 ∷ []) rest))

pub object_end_text : (es : List (MapEntry Json)) (i : ℕ) → slice_get (map model_of_entry es) i ≡ None → object_text (members_value (map key_value es)) i ≡ 125 ∷ []
object_end_text es i e = ap (λ ms. members_text (nat_lt 0 i) (data_of_members ms)) (after_members es i e)

escape_append : (xs ys : List ℕ) → escape (xs ++ ys) ≡ escape xs ++ escape ys
escape_append [] ys = refl
escape_append (x ∷ xs) ys = ap (λ l. escape_byte x ++ l) (escape_append xs ys) ∙ sym (append_assoc (escape_byte x) (escape xs) (escape ys))

pub chunk_text : (ts : List (List ℕ)) (i : ℕ) (s : List ℕ) → slice_get ts i ≡ Some s → string_text ts i ≡ escape s ++ string_text ts (suc i)
chunk_text ts i s e =
    let rest = concat (drop (suc i) ts) in
    ap (λ us. escape (concat us) ++ 34 ∷ []) (from_chunk ts i s e) ∙ ap (λ l. l ++ 34 ∷ []) (escape_append s rest) ∙ append_assoc (escape s) (escape rest) (34 ∷ [])

pub string_end_text : (ts : List (List ℕ)) (i : ℕ) → slice_get ts i ≡ None → string_text ts i ≡ 34 ∷ []
string_end_text ts i e = ap (λ us. escape (concat us) ++ 34 ∷ []) (after_chunks ts i e)

-- ---- levels

pub levels_push : (ls : List Level) (l : Level) → levels_text (ls ++ l ∷ []) ≡ level_text l ++ levels_text ls
levels_push [] l = sym (append-nil (level_text l))
levels_push (k ∷ ls) l = ap (λ s. s ++ level_text k) (levels_push ls l) ∙ append_assoc (level_text l) (levels_text ls) (level_text k)

-- a piece and what follows it
pub appended : (new old piece rest whole : List ℕ) → new ≡ old ++ piece → whole ≡ piece ++ rest → new ++ rest ≡ old ++ whole
appended new old piece rest whole e w = ap (λ l. l ++ rest) e ∙ append_assoc old piece rest ∙ ap (λ l. old ++ l) (sym w)

-- a comma, a value that was begun, and what follows them
pub item_appended : (new mid old comma v inner rest whole : List ℕ) → mid ≡ old ++ comma → new ++ inner ≡ mid ++ v → whole ≡ comma ++ (v ++ rest) → new ++ (inner ++ rest) ≡ old ++ whole
item_appended new mid old comma v inner rest whole e h w =
    sym (append_assoc new inner rest) ∙ ap (λ l. l ++ rest) h ∙ append_assoc mid v rest ∙ ap (λ l. l ++ (v ++ rest)) e ∙ append_assoc old comma (v ++ rest) ∙ ap (λ l. old ++ l) (sym w)

-- the innermost level replaced by what is left of it
pub levels_replaced : (new mid inner own outer taken own_pushed all whole : List ℕ) → own_pushed ≡ own ++ outer → all ≡ inner ++ own_pushed
    → new ++ (inner ++ own) ≡ mid ++ taken → whole ≡ taken ++ outer → new ++ all ≡ mid ++ whole
levels_replaced new mid inner own outer taken own_pushed all whole e f h w =
    ap (λ l. new ++ l) (f ∙ ap (λ l. inner ++ l) e ∙ sym (append_assoc inner own outer)) ∙ sym (append_assoc new (inner ++ own) outer)
    ∙ ap (λ l. l ++ outer) h ∙ append_assoc mid taken outer ∙ ap (λ l. mid ++ l) (sym w)
