-- The bytes of a chunk, and their uniqueness.
use Rattle.std.specs.Prelude.{ℕ, List, Bool, true, false, string_bytes}
use Rattle.sdb_rope.specs.declared.shared_str.SharedStr.{SharedStr}
use Rattle.sdb_rope.specs.declared.shared_str.SharedStr.TheVariants.{Unique, Shared}

abbrev pub str_bytes : SharedStr → List ℕ
str_bytes (Unique s) = string_bytes s
str_bytes (Shared a) = string_bytes a.value

abbrev pub is_unique_str : SharedStr → Bool
is_unique_str (Unique s) = true
is_unique_str (Shared a) = false

abbrev pub is_shared_str : SharedStr → Bool
is_shared_str (Unique t) = false
is_shared_str (Shared a) = true
