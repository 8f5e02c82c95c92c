-- The text that a `ValueText` hasn't written.
use Rattle.std.specs.Prelude.{ℕ, List}
use Rattle.sdb_value_text.specs.Level.{levels_text}
use Rattle.sdb_value_text.specs.declared.levels.ValueText.{ValueText}

abbrev pub remaining_text : ValueText → List ℕ
remaining_text t = levels_text t.levels.items
