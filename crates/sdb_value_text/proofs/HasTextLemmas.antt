-- Each value and each level has text.
use Rattle.std.proofs.Common.{◌≡◌, ◌≢◌, ℕ, zero, suc, ◌<◌, ◌≤◌, ◌+◌, ◌/◌, ◌%◌, List, [], ◌∷◌, ◌++◌, ◌∙◌, length, Bool, true, false, if◌then◌else◌, ◌==◌, nat_lt, cond, All, Some, slice_get, pos, negsuc, refl, sym, ap, subst, rules, arith, length-append}
use Rattle.std.proofs.lemmas.Bool.Decides.{nat_tests}
use Rattle.std.proofs.lemmas.List.Elements.{All-nil, All-cons, All-append}
use Rattle.json.specs.Print.{escape, escape_byte, escape_letter}
use Rattle.std.specs.Fmt.{decimal, digits, digits_onto, digit_glyph}
use Rattle.serde_json.specs.Data as raw
use Rattle.serde_json.specs.Written.{comma_if, compact_text, items_text, members_text}
use Rattle.sdb_value.specs.FromJson.{data_of_items, data_of_members}
use Rattle.sdb_value.specs.Value.{Value, null, truth, whole, text, list, object, Items, drop_items, Members}
use Rattle.sdb_value.specs.View.{value_of}
use Rattle.sdb_value.specs.declared.value.Json.{Json, the_lemmas}
use Rattle.sdb_value.specs.declared.value.Json as json
use Rattle.sdb_rope.specs.Rope.{rope_bytes}
use Rattle.sdb_rope.specs.declared.rope.Rope.{Rope}
use Rattle.sdb_value_text.specs.Level.{HasText, drop_members, inside_text, level_text, levels_text}
use Rattle.sdb_value_text.specs.declared.level.Level.{Level}
use Rattle.sdb_value_text.specs.ValueText.{value_text}

chosen : (b : Bool) (x y : List ℕ) → 0 < length x → 0 < length y → 0 < length (if b then x else y)
chosen true x y h g = h
chosen false x y h g = g

digits_onto_text : (k n : ℕ) (acc : List ℕ) → 0 < length acc → 0 < length (digits_onto k 10 false n acc)
digits_onto_text zero n acc h = h
digits_onto_text (suc k) n acc h =
    let more = digit_glyph false (n % 10) ∷ acc in
    chosen (n / 10 == 0) more (digits_onto k 10 false (n / 10) more) (omega arith) (digits_onto_text k (n / 10) more (omega arith))

digits_text : (k n : ℕ) → 0 < length (digits_onto (suc k) 10 false n [])
digits_text k n =
    let more = digit_glyph false (n % 10) ∷ [] in
    chosen (n / 10 == 0) more (digits_onto k 10 false (n / 10) more) (omega arith) (digits_onto_text k (n / 10) more (omega arith))

decimal_has_text : (n : ℕ) → 0 < length (decimal n)
unfolding digits
decimal_has_text n = digits_text 63 n

pub value_has_text : (v : Value) → 0 < length (value_text v)
value_has_text null = omega arith
value_has_text (truth true) = omega arith
value_has_text (truth false) = omega arith
value_has_text (whole (pos n)) = decimal_has_text n
value_has_text (whole (negsuc n)) = omega arith
value_has_text (text s) = omega arith
value_has_text (list ds) = omega arith
value_has_text (object ms) = omega arith

pub appended_longer : (new old piece : List ℕ) → new ≡ old ++ piece → 0 < length piece → length old < length new
appended_longer new old piece e h = omega (arith, ap length e, length-append old piece, h)

pub ended_longer : (xs : List ℕ) (x : ℕ) → 0 < length (xs ++ x ∷ [])
ended_longer xs x = omega (arith, length-append xs (x ∷ []))

after_longer : (xs ys : List ℕ) → 0 < length ys → 0 < length (xs ++ ys)
after_longer xs ys h = omega (arith, length-append xs ys, h)

pub items_have_text : (later : Bool) (ds : raw.Items) → 0 < length (items_text later ds)
items_have_text later raw.no_items = omega arith
items_have_text later (raw.item d ds) = after_longer (comma_if later) _ (after_longer (compact_text d) _ (items_have_text true ds))

pub members_have_text : (later : Bool) (ms : raw.Members) → 0 < length (members_text later ms)
members_have_text later raw.no_members = omega arith
members_have_text later (raw.member k d ms) = after_longer (comma_if later) _ (omega arith)

pub list_has_text : (v : Value) (ds : Items) (i : ℕ) → v ≡ list ds → 0 < length (inside_text v i)
list_has_text v ds i e = subst (λ w. 0 < length (inside_text w i)) (sym e) (items_have_text (nat_lt 0 i) (data_of_items (drop_items i ds)))

pub object_has_text : (v : Value) (ms : Members) (i : ℕ) → v ≡ object ms → 0 < length (inside_text v i)
object_has_text v ms i e = subst (λ w. 0 < length (inside_text w i)) (sym e) (members_have_text (nat_lt 0 i) (data_of_members (drop_members i ms)))

pub list_begins : (v : Value) (ds : Items) → v ≡ list ds → value_text v ≡ 91 ∷ inside_text v 0
list_begins v ds e = subst (λ w. value_text w ≡ 91 ∷ inside_text w 0) (sym e) refl

pub object_begins : (v : Value) (ms : Members) → v ≡ object ms → value_text v ≡ 123 ∷ inside_text v 0
object_begins v ms e = subst (λ w. value_text w ≡ 123 ∷ inside_text w 0) (sym e) refl

-- a list or an object has text from each index on
pub inside_has_text : (v : Value) (i j : ℕ) → 0 < length (inside_text v i) → 0 < length (inside_text v j)
inside_has_text null i j h = absurd (omega (arith, h))
inside_has_text (truth b) i j h = absurd (omega (arith, h))
inside_has_text (whole z) i j h = absurd (omega (arith, h))
inside_has_text (text s) i j h = absurd (omega (arith, h))
inside_has_text (list ds) i j h = list_has_text (list ds) ds j refl
inside_has_text (object ms) i j h = object_has_text (object ms) ms j refl

pub seen_text : (t : Rope) → value_of (json.Text t) ≡ text (rope_bytes t)
seen_text t = search (rules, the_lemmas)

cond_text : (b : Bool) (x y : List ℕ) → 0 < length x → 0 < length y → 0 < length (cond b x y)
cond_text true x y h g = h
cond_text false x y h g = g

byte_has_text : (x : ℕ) → 0 < length (escape_byte x)
unfolding escape_byte
byte_has_text x = cond_text (nat_lt 0 (escape_letter x)) _ _ (omega arith) (cond_text (nat_lt x 32) _ _ (omega arith) (omega arith))

pub escape_has_text : (s : List ℕ) → s ≢ [] → 0 < length (escape s)
escape_has_text [] h = absurd (h refl)
escape_has_text (x ∷ s) h = omega (arith, length-append (escape_byte x) (escape s), byte_has_text x)

pub chunk_nonempty : (ts : List (List ℕ)) (i : ℕ) (s : List ℕ) → slice_get ts i ≢ Some [] → slice_get ts i ≡ Some s → s ≢ []
chunk_nonempty ts i s h is none = h (is ∙ ap Some none)

empty_of_length : {A : Type 0} (s : List A) → length s ≡ 0 → s ≡ []
empty_of_length [] h = refl
empty_of_length (x ∷ s) h = absurd (omega (arith, h))

pub empty_of_test : {A : Type 0} (s : List A) → (length s == 0) ≡ true → s ≡ []
empty_of_test s h = empty_of_length s (grind (arith, nat_tests, h))

pub left_of_part : (out old rest all : List ℕ) (limit : ℕ) → out ++ rest ≡ old ++ all → length old + limit ≤ length out → length rest + limit ≤ length all
left_of_part out old rest all limit e h = omega (arith, ap length e, length-append out rest, length-append old all, h)

pub none_have_text : All HasText []
none_have_text = All-nil HasText

pub pushed_have_text : (ls : List Level) (l : Level) → All HasText ls → HasText l → All HasText (ls ++ l ∷ [])
pushed_have_text ls l all h = All-append HasText ls (l ∷ []) all (All-cons HasText l [] h (All-nil HasText))

after_first : (l : Level) (ls : List Level) → All HasText (l ∷ ls) → All HasText ls
after_first l ls all k d h = all (suc k) d (omega (arith, h))

pub last_has_text : (ls : List Level) (l : Level) → All HasText (ls ++ l ∷ []) → HasText l
last_has_text [] l all = all 0 l (omega arith)
last_has_text (x ∷ ls) l all = last_has_text ls l (after_first x (ls ++ l ∷ []) all)

pub others_have_text : (ls : List Level) (l : Level) → All HasText (ls ++ l ∷ []) → All HasText ls
others_have_text [] l all = All-nil HasText
others_have_text (x ∷ ls) l all = All-cons HasText x ls (all 0 x (omega (arith, length-append ls (l ∷ [])))) (others_have_text ls l (after_first x (ls ++ l ∷ []) all))

-- levels without text are none
pub none_of_no_text : (ls : List Level) → All HasText ls → levels_text ls ≡ [] → ls ≡ []
none_of_no_text [] all e = refl
none_of_no_text (l ∷ ls) all e = let h = all 0 l (omega arith) in absurd (omega (arith, h, ap length e, length-append (levels_text ls) (level_text l)))
