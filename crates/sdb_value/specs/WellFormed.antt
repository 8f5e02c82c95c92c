-- Well-formed values: numbers are in range, texts and keys are UTF-8 (RFC 3629), and the keys of an object are sorted
-- by bytes and unique.
use Rattle.std.specs.Prelude.{◌≡◌, List, ℕ, ℤ, ◌≤ℤ◌, pos, negsuc, ⊤}
use Rattle.std.specs.Cmp.Lexicographic.{slice_cmp}
use Rattle.std.specs.Ordering.{nat_cmp}
use Rattle.std.specs.declared.cmp.Ordering.TheVariants.{Less}
use Rattle.std.specs.Str.{IsUtf8}
use Rattle.sdb_value.specs.Value.{Value, null, truth, whole, text, list, object, Items, no_items, item, Members, no_members, member}

-- from -9007199254740991 to 9007199254740991
abbrev pub IsInRange : ℤ → Type 0
IsInRange z = (negsuc 9007199254740990 ≤ℤ z) × (z ≤ℤ pos 9007199254740991)

-- the key is less than each of the members' keys
abbrev pub IsKeyBelowAll : List ℕ → Members → Type 0
IsKeyBelowAll k no_members = ⊤
IsKeyBelowAll k (member l d ms) = (slice_cmp nat_cmp k l ≡ Less) × IsKeyBelowAll k ms

abbrev mutual
  pub IsWellFormed : Value → Type 0
  IsWellFormed null = ⊤
  IsWellFormed (truth b) = ⊤
  IsWellFormed (whole z) = IsInRange z
  IsWellFormed (text s) = IsUtf8 s
  IsWellFormed (list ds) = AreWellFormed ds
  IsWellFormed (object ms) = MembersWellFormed ms

  pub AreWellFormed : Items → Type 0
  AreWellFormed no_items = ⊤
  AreWellFormed (item d ds) = IsWellFormed d × AreWellFormed ds

  pub MembersWellFormed : Members → Type 0
  MembersWellFormed no_members = ⊤
  MembersWellFormed (member k d ms) = IsUtf8 k × IsWellFormed d × IsKeyBelowAll k ms × MembersWellFormed ms
