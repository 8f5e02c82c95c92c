-- The values of the profile among the data that `serde_json` parses (RFC 8259): all numbers are integers from
-- -9007199254740991 to 9007199254740991.
use Rattle.std.specs.Prelude.{◌≡◌, ℕ, ◌<◌, nat_lt, Bool, true, false, ℤ, pos, negsuc, int_lt, if◌then◌else◌, Option, Some, None, option_map, option_and_then, ⊤}
use Rattle.serde_json.specs.Data as raw
use Rattle.serde_json.specs.Find.{as_integer, as_number, as_u64, of_integer}
use Rattle.sdb_value.specs.Value.{Value, depth, null, truth, whole, text, list, object, Items, no_items, item, Members, no_members, member}
use Rattle.sdb_value.specs.declared.from_json.ValueFault.{ValueFault}
use Rattle.sdb_value.specs.declared.from_json.ValueFault.TheVariants.{NumberOutOfRange, TooDeep, OutOfMemory}

abbrev pub checked_whole : ℤ → Option ℤ
checked_whole z =
    if int_lt z (negsuc 9007199254740990) then None else (if int_lt (pos 9007199254740991) z then None else Some z)

abbrev pub whole_of : raw.Num → Option ℤ
whole_of n = option_and_then checked_whole (as_integer n)

-- an integer from 0 to 9007199254740991
abbrev pub count_of : raw.Data → Option ℕ
count_of d =
    option_and_then (λ n. if nat_lt 9007199254740991 n then None else Some n) (option_and_then as_u64 (as_number d))

abbrev mutual
  pub value_of_data : raw.Data → Option Value
  value_of_data raw.null = Some null
  value_of_data (raw.boolean b) = Some (truth b)
  value_of_data (raw.number n) = option_map whole (whole_of n)
  value_of_data (raw.string s) = Some (text s)
  value_of_data (raw.array ds) = option_map list (items_of_data ds)
  value_of_data (raw.object ms) = option_map object (members_of_data ms)

  pub items_of_data : raw.Items → Option Items
  items_of_data raw.no_items = Some no_items
  items_of_data (raw.item d ds) = option_and_then (λ v. option_map (item v) (items_of_data ds)) (value_of_data d)

  pub members_of_data : raw.Members → Option Members
  members_of_data raw.no_members = Some no_members
  members_of_data (raw.member k d ms) = option_and_then (λ v. option_map (member k v) (members_of_data ms)) (value_of_data d)

-- a value of the profile that an operation may contain, of depth 50 at most
abbrev pub bounded_value_of_data : raw.Data → Option Value
bounded_value_of_data d = option_and_then (λ v. if nat_lt 50 (depth v) then None else Some v) (value_of_data d)

-- there is no value, or an allocation failed
abbrev pub FaultMeansNone : {A : Type 0} → Option A → ValueFault → Type 0
FaultMeansNone o OutOfMemory = ⊤
FaultMeansNone o _ = o ≡ None

-- Reading a text, a list or an object allocates; a value that is refused at sight does not.
abbrev pub reading_allocates : ℕ → raw.Data → Bool
reading_allocates n raw.null = false
reading_allocates n (raw.boolean b) = false
reading_allocates n (raw.number m) = false
reading_allocates n (raw.string s) = true
reading_allocates n (raw.array ds) = nat_lt 0 n
reading_allocates n (raw.object ms) = nat_lt 0 n

-- the reason why d, of allowed depth n, is refused
abbrev pub IsReadFault : ℕ → raw.Data → ValueFault → Type 0
IsReadFault n d NumberOutOfRange = value_of_data d ≡ None
IsReadFault n d TooDeep = n < raw.depth d
IsReadFault n d OutOfMemory = reading_allocates n d ≡ true

abbrev pub IsItemsReadFault : ℕ → raw.Items → ValueFault → Type 0
IsItemsReadFault n ds NumberOutOfRange = items_of_data ds ≡ None
IsItemsReadFault n ds TooDeep = n < raw.items_depth ds
IsItemsReadFault n ds OutOfMemory = ⊤

abbrev pub IsMembersReadFault : ℕ → raw.Members → ValueFault → Type 0
IsMembersReadFault n ms NumberOutOfRange = members_of_data ms ≡ None
IsMembersReadFault n ms TooDeep = n < raw.members_depth ms
IsMembersReadFault n ms OutOfMemory = ⊤

-- the data of a value
abbrev mutual
  pub data_of_value : Value → raw.Data
  data_of_value null = raw.null
  data_of_value (truth b) = raw.boolean b
  data_of_value (whole z) = raw.number (of_integer z)
  data_of_value (text s) = raw.string s
  data_of_value (list ds) = raw.array (data_of_items ds)
  data_of_value (object ms) = raw.object (data_of_members ms)

  pub data_of_items : Items → raw.Items
  data_of_items no_items = raw.no_items
  data_of_items (item d ds) = raw.item (data_of_value d) (data_of_items ds)

  pub data_of_members : Members → raw.Members
  data_of_members no_members = raw.no_members
  data_of_members (member k d ms) = raw.member k (data_of_value d) (data_of_members ms)
