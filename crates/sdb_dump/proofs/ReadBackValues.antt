-- The data of a value are sound, have its depth, and parse to it.
use Rattle.std.proofs.Common.{◌≡◌, ℕ, suc, ℤ, pos, negsuc, ◌≤◌, List, Some, None, false, refl, ap, ◌∙◌, arith}
use Rattle.std.specs.Prelude.{◌≤ℤ◌, if◌then◌else◌, nat_lt}
use Rattle.std.specs.Option.{option_map, option_and_then}
use Rattle.std.proofs.lemmas.Bool.Decides.{nat_tests}
use Rattle.serde_json.specs.Data as raw
use Rattle.serde_json.specs.Find.{of_integer}
use Rattle.sdb_value.specs.Value.{Value, null, truth, whole, text, list, object, Items, no_items, item, Members, no_members, member, depth, items_depth, members_depth}
use Rattle.sdb_value.specs.FromJson.{checked_whole, whole_of, value_of_data, items_of_data, members_of_data, bounded_value_of_data, data_of_value, data_of_items, data_of_members}
use Rattle.sdb_value.specs.WellFormed.{IsInRange, IsKeyBelowAll, IsWellFormed, AreWellFormed, MembersWellFormed}
use Rattle.sdb_dump.specs.laws.SoundData as sound
use Rattle.sdb_dump.specs.laws.SoundData.{IsSafeNumber, IsSoundData, AreSound, MembersSound}
use Rattle.sdb_dump.specs.ValueLimits.{ValueInLimits}

le_of_pos_le : (n m : ℕ) → pos n ≤ℤ pos m → n ≤ m
le_of_pos_le n m h = grind (arith, nat_tests, h)

le_of_negsuc_le : (m n : ℕ) → negsuc m ≤ℤ negsuc n → n ≤ m
le_of_negsuc_le m n h = search (arith, h)

pub integer_sound : (z : ℤ) → IsInRange z → IsSafeNumber (of_integer z)
integer_sound (pos n) h = omega (arith, le_of_pos_le n 9007199254740991 h.1)
integer_sound (negsuc n) h = omega (arith, le_of_negsuc_le 9007199254740990 n h.0)

in_range_of : (z : ℤ) → IsInRange z → checked_whole z ≡ Some z
in_range_of (pos n) h =
    let le = le_of_pos_le n 9007199254740991 h.1 in
    let e : nat_lt 9007199254740991 n ≡ false = grind (arith, nat_tests, le) in
    ap (λ b. if b then None else Some (pos n)) e
in_range_of (negsuc n) h =
    let le = le_of_negsuc_le 9007199254740990 n h.0 in
    let e : nat_lt 9007199254740990 n ≡ false = grind (arith, nat_tests, le) in
    ap (λ b. if b then None else Some (negsuc n)) e

pub integer_back : (z : ℤ) → IsInRange z → whole_of (of_integer z) ≡ Some z
integer_back (pos n) h = in_range_of (pos n) h
integer_back (negsuc n) h = in_range_of (negsuc n) h

below_data : (k : List ℕ) (ms : Members) → IsKeyBelowAll k ms → sound.IsKeyBelowAll k (data_of_members ms)
below_data k no_members h = tt
below_data k (member l d ms) h = (h.0, below_data k ms h.1)

mutual
  pub value_sound : (v : Value) → IsWellFormed v → IsSoundData (data_of_value v)
  value_sound null h = tt
  value_sound (truth b) h = tt
  value_sound (whole z) h = integer_sound z h
  value_sound (text s) h = h
  value_sound (list ds) h = items_sound ds h
  value_sound (object ms) h = members_sound ms h

  items_sound : (ds : Items) → AreWellFormed ds → AreSound (data_of_items ds)
  items_sound no_items h = tt
  items_sound (item d ds) h = (value_sound d h.0, items_sound ds h.1)

  members_sound : (ms : Members) → MembersWellFormed ms → MembersSound (data_of_members ms)
  members_sound no_members h = tt
  members_sound (member k d ms) h = (h.0, value_sound d h.1, below_data k ms h.2, members_sound ms h.3)

mutual
  pub value_back : (v : Value) → IsWellFormed v → value_of_data (data_of_value v) ≡ Some v
  value_back null h = refl
  value_back (truth b) h = refl
  value_back (whole z) h = ap (option_map whole) (integer_back z h)
  value_back (text s) h = refl
  value_back (list ds) h = ap (option_map list) (items_back ds h)
  value_back (object ms) h = ap (option_map object) (members_back ms h)

  items_back : (ds : Items) → AreWellFormed ds → items_of_data (data_of_items ds) ≡ Some ds
  items_back no_items h = refl
  items_back (item d ds) h = rw (value_back d h.0, items_back ds h.1) refl

  members_back : (ms : Members) → MembersWellFormed ms → members_of_data (data_of_members ms) ≡ Some ms
  members_back no_members h = refl
  members_back (member k d ms) h = rw (value_back d h.1, members_back ms h.3) refl

mutual
  pub value_deep : (v : Value) → raw.depth (data_of_value v) ≡ depth v
  value_deep null = refl
  value_deep (truth b) = refl
  value_deep (whole z) = refl
  value_deep (text s) = refl
  value_deep (list ds) = ap suc (items_deep ds)
  value_deep (object ms) = ap suc (members_deep ms)

  items_deep : (ds : Items) → raw.items_depth (data_of_items ds) ≡ items_depth ds
  items_deep no_items = refl
  items_deep (item d ds) = rw (value_deep d, items_deep ds) refl

  members_deep : (ms : Members) → raw.members_depth (data_of_members ms) ≡ members_depth ms
  members_deep no_members = refl
  members_deep (member k d ms) = rw (value_deep d, members_deep ms) refl

pub profile_back : (v : Value) → ValueInLimits 50 v → bounded_value_of_data (data_of_value v) ≡ Some v
profile_back v h =
    let shallow : nat_lt 50 (depth v) ≡ false = grind (arith, nat_tests, h.1) in
    ap (option_and_then (λ w. if nat_lt 50 (depth w) then None else Some w)) (value_back v h.0)
    ∙ ap (λ b. if b then None else Some v) shallow
