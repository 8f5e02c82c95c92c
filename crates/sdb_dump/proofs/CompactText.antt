-- The compact text of sound data, as a list of parts: it is UTF-8.
use Rattle.std.proofs.Common.{◌≡◌, ℕ, pos, negsuc, List, [], ◌∷◌, ◌++◌, Bool, true, false, not, ◌&&◌, ◌==◌, IsUtf8, refl, arith}
use Rattle.std.proofs.lemmas.Bool.{and_parts}
use Rattle.std.proofs.lemmas.Str.{IsUtf8-append, IsUtf8-from_ascii}
use Rattle.std.proofs.lemmas.Fmt.{IsAscii-decimal, IsAscii-signed}
use Rattle.json.specs.Print.{quoted}
use Rattle.json.proofs.Printed.Utf8.{are_ascii, IsUtf8-are_ascii, IsUtf8-quoted}
use Rattle.serde_json.specs.Data.{Num, unsigned, negative, float, Data, null, boolean, number, string, array, object, Items, no_items, item, Members, no_members, member}
use Rattle.serde_json.specs.Written.{number_text, comma_if, compact_text, items_text, members_text}
use Rattle.sdb_dump.specs.laws.SoundData.{IsSafeNumber, IsSoundData, AreSound, MembersSound}

-- no byte is a line feed
abbrev pub has_none : List ℕ → Bool
has_none [] = true
has_none (x ∷ xs) = not (x == 10) && has_none xs

-- a property of each part of a compact text, and of texts that have it together; the plain parts are ASCII without a
-- line feed
pub record TextProperty (P : List ℕ → Type 0) : Type 0 where
  pub join : (xs ys : List ℕ) → P xs → P ys → P (xs ++ ys)
  pub plain : (xs : List ℕ) → (are_ascii xs && has_none xs) ≡ true → P xs
  pub number : (n : Num) → IsSafeNumber n → P (number_text n)
  pub quote : (s : List ℕ) → IsUtf8 s → P (quoted s)

comma_has : (P : List ℕ → Type 0) → TextProperty P → (b : Bool) → P (comma_if b)
comma_has P t true = t.plain (44 ∷ []) refl
comma_has P t false = t.plain [] refl

mutual
  pub compact_has : (P : List ℕ → Type 0) → TextProperty P → (d : Data) → IsSoundData d → P (compact_text d)
  compact_has P t null h = t.plain (compact_text null) refl
  compact_has P t (boolean true) h = t.plain (compact_text (boolean true)) refl
  compact_has P t (boolean false) h = t.plain (compact_text (boolean false)) refl
  compact_has P t (number n) h = t.number n h
  compact_has P t (string s) h = t.quote s h
  compact_has P t (array ds) h = t.join (91 ∷ []) (items_text false ds) (t.plain (91 ∷ []) refl) (items_have P t false ds h)
  compact_has P t (object ms) h = t.join (123 ∷ []) (members_text false ms) (t.plain (123 ∷ []) refl) (members_have P t false ms h)

  items_have : (P : List ℕ → Type 0) → TextProperty P → (later : Bool) (ds : Items) → AreSound ds → P (items_text later ds)
  items_have P t later no_items h = t.plain (93 ∷ []) refl
  items_have P t later (item d ds) h = t.join (comma_if later) _ (comma_has P t later) (t.join (compact_text d) _ (compact_has P t d h.0) (items_have P t true ds h.1))

  members_have : (P : List ℕ → Type 0) → TextProperty P → (later : Bool) (ms : Members) → MembersSound ms → P (members_text later ms)
  members_have P t later no_members h = t.plain (125 ∷ []) refl
  members_have P t later (member k d ms) h =
      t.join (comma_if later) _ (comma_has P t later)
      (t.join (quoted k) _ (t.quote k h.0)
      (t.join (58 ∷ []) _ (t.plain (58 ∷ []) refl) (t.join (compact_text d) _ (compact_has P t d h.1) (members_have P t true ms h.3))))

number_utf8 : (n : Num) → IsSafeNumber n → IsUtf8 (number_text n)
number_utf8 (unsigned n) h = IsUtf8-from_ascii _ (IsAscii-decimal n h)
number_utf8 (negative (pos n)) h = absurd h
number_utf8 (negative (negsuc n)) h = IsUtf8-from_ascii _ (IsAscii-signed (negsuc n) (omega arith))
number_utf8 (float x) h = absurd h

utf8_text : TextProperty IsUtf8
utf8_text = record { join = IsUtf8-append; plain = λ xs e. IsUtf8-are_ascii xs (and_parts (are_ascii xs) (has_none xs) e).0; number = number_utf8; quote = IsUtf8-quoted }

pub utf8_compact : (d : Data) → IsSoundData d → IsUtf8 (compact_text d)
utf8_compact d h = compact_has IsUtf8 utf8_text d h
