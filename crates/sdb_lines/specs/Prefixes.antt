-- Prefixes of the output.
use Rattle.std.specs.Prelude.{◌≡◌, ℕ, List, ◌++◌}
use Rattle.std.specs.declared.option.Option.{Option}
use Rattle.std.specs.Io.KnownBytes.{Appends}

-- the list is a prefix of the other
abbrev pub IsPrefix : {A : Type 0} → List A → List A → Type 0
IsPrefix {A} front all = (after : List A) × (all ≡ front ++ after)

-- the known bytes are extended by a prefix of the list
abbrev pub AppendsPrefix : Option (List ℕ) → Option (List ℕ) → List ℕ → Type 0
AppendsPrefix old new all = (bytes : List ℕ) × Appends old new bytes × IsPrefix bytes all

-- the known bytes are extended by the list, except its suffix that is left
abbrev pub WroteUpTo : List ℕ → Option (List ℕ) → Option (List ℕ) → List ℕ → Type 0
WroteUpTo left old new all = (written : List ℕ) × (all ≡ written ++ left) × Appends old new written
