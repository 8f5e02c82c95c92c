-- The data that a tree of `json` denotes: each number has its value, and of members with equal keys the last one counts, as in
-- `serde_json`'s definition of reading.
use Rattle.std.specs.Prelude.{ℕ, pos, List, [], ◌∷◌, map, unwrap_or}
use Rattle.std.specs.Borrow.{Bor}
use Rattle.std.specs.Float.{binary64}
use Rattle.std.specs.Float.Ieee.{of_int}
use Rattle.std.specs.declared.alloc.Global.{Global}
use Rattle.json.specs.Json as json
use Rattle.json.specs.Value.{value_view}
use Rattle.json.specs.declared.value.Value.{Value}
use Rattle.serde_json.specs.Data.{Num, float, Data, null, boolean, number, string, array, object, Items, no_items, item, Members, no_members, member, put}
use Rattle.serde_json.specs.Read.{number_of}

-- A number beyond the range of floats, which no text may have, counts as the float 0.
abbrev pub zero_float : Num
zero_float = float (of_int binary64 (pos 0))

abbrev pub token_number : List ℕ → Num
token_number s = unwrap_or (number_of s) zero_float

abbrev mutual
  pub data_of : json.Json → Data
  data_of json.null = null
  data_of (json.boolean b) = boolean b
  data_of (json.number s) = number (token_number s)
  data_of (json.string s) = string s
  data_of (json.array js) = array (items_data js)
  data_of (json.object ms) = object (members_data ms no_members)

  pub items_data : json.Items → Items
  items_data json.no_items = no_items
  items_data (json.item j js) = item (data_of j) (items_data js)

  -- the members put over those found so far, one after another
  pub members_data : json.Members → Members → Members
  members_data json.no_members found = found
  members_data (json.member k j ms) found = members_data ms (put k (data_of j) found)

abbrev pub tree_data : Value Global → Data
tree_data v = data_of (value_view v)

abbrev pub members_of : List (List ℕ × Data) → Members
members_of [] = no_members
members_of (m ∷ ms) = member m.0 m.1 (members_of ms)

-- the members that a sorted map of borrowed keys and values denotes
abbrev pub sorted_members : {T : Type 0} → (T → Data) → List (Bor (List ℕ) × Bor T) → Members
sorted_members f es = members_of (map (λ e. (e.0.now, f e.1.now)) es)
