-- The bytes of a key.
use Rattle.std.specs.Prelude.{ℕ, List, take, string_bytes}
use Rattle.sdb_sorted_map.specs.declared.map_key.KeyRepr.{KeyRepr}
use Rattle.sdb_sorted_map.specs.declared.map_key.KeyRepr.TheVariants.{Heap, Inline}
use Rattle.sdb_sorted_map.specs.declared.map_key.MapKey.{MapKey}
use Rattle.sdb_sorted_map.specs.declared.map_key.InlineText.{InlineText}

-- the bytes of an inline text, a prefix of its array
abbrev pub inline_bytes : InlineText → List ℕ
inline_bytes s = take s.count s.bytes

-- the bytes of a text in either representation
abbrev pub repr_bytes : KeyRepr → List ℕ
repr_bytes (Inline s) = inline_bytes s
repr_bytes (Heap t) = string_bytes t

-- the bytes of a key
abbrev pub key_bytes : MapKey → List ℕ
key_bytes k = repr_bytes k.repr
