-- A key and its value.
use Rattle.std.specs.Prelude.{ℕ, List}
use Rattle.sdb_sorted_map.specs.MapKey.{key_bytes}
use Rattle.sdb_sorted_map.specs.declared.map_entry.MapEntry.{MapEntry}

-- the bytes of an entry's key
abbrev pub entry_key : {X : Type 0} → MapEntry X → List ℕ
entry_key m = key_bytes m.key

-- the bytes of an entry's key, with its value
abbrev pub key_value : {X : Type 0} → MapEntry X → List ℕ × X
key_value m = (key_bytes m.key, m.value)

-- the bytes of an entry's key, with the view f of its value
abbrev pub entry_model : {X S : Type 0} → (X → S) → MapEntry X → List ℕ × S
entry_model f m = (key_bytes m.key, f m.value)
