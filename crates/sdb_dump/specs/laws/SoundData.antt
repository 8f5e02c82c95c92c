-- Data whose text parses back: integers of 64 bits, texts in UTF-8, and objects with keys sorted by bytes.
use Rattle.std.specs.Prelude.{◌≡◌, ℕ, pos, negsuc, ◌^◌, ◌<◌, List, ⊤}
use Rattle.std.specs.Cmp.Lexicographic.{slice_cmp}
use Rattle.std.specs.Ordering.{nat_cmp}
use Rattle.std.specs.declared.cmp.Ordering.TheVariants.{Less}
use Rattle.std.specs.Str.{IsUtf8}
use Rattle.serde_json.specs.Data.{Num, unsigned, negative, float, Data, null, boolean, number, string, array, object, Items, no_items, item, Members, no_members, member}

abbrev pub IsSafeNumber : Num → Type 0
IsSafeNumber (unsigned n) = n < 2 ^ 64
IsSafeNumber (negative (pos n)) = ⊥
IsSafeNumber (negative (negsuc n)) = n < 2 ^ 63
IsSafeNumber (float x) = ⊥

-- the key is less than each key of the members
abbrev pub IsKeyBelowAll : List ℕ → Members → Type 0
IsKeyBelowAll k no_members = ⊤
IsKeyBelowAll k (member l d ms) = (slice_cmp nat_cmp k l ≡ Less) × IsKeyBelowAll k ms

abbrev mutual
  pub IsSoundData : Data → Type 0
  IsSoundData null = ⊤
  IsSoundData (boolean b) = ⊤
  IsSoundData (number n) = IsSafeNumber n
  IsSoundData (string s) = IsUtf8 s
  IsSoundData (array ds) = AreSound ds
  IsSoundData (object ms) = MembersSound ms

  pub AreSound : Items → Type 0
  AreSound no_items = ⊤
  AreSound (item d ds) = IsSoundData d × AreSound ds

  pub MembersSound : Members → Type 0
  MembersSound no_members = ⊤
  MembersSound (member k d ms) = IsUtf8 k × IsSoundData d × IsKeyBelowAll k ms × MembersSound ms
