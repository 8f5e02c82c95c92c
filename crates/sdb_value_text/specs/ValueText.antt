-- The text of a value.
use Rattle.std.specs.Prelude.{ℕ, List, [], ◌∷◌, ◌++◌}
use Rattle.json.specs.Print.{quoted}
use Rattle.serde_json.specs.Written.{compact_text}
use Rattle.sdb_value.specs.FromJson.{data_of_value}
use Rattle.sdb_value.specs.Value.{Value}

-- the compact text (RFC 8259), with members in the order of the value
abbrev pub value_text : Value → List ℕ
value_text v = compact_text (data_of_value v)

-- a key with its colon
abbrev pub key_text : List ℕ → List ℕ
key_text k = quoted k ++ 58 ∷ []
