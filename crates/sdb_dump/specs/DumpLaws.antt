-- Stored contents stay within limits that the parser accepts, so each dump of made logs is accepted.
use Rattle.std.specs.Prelude.{◌≡◌, ℕ, List, [], ◌∷◌, ◌++◌, true, Some, Ok, ⊤}
use Rattle.sdb_component.specs.Plain.{PlainComponent}
use Rattle.sdb_transform.specs.declared.side.Side.{Side}
use Rattle.sdb_transform.specs.Transform.{transform}
use Rattle.sdb_oplog.specs.Keys.{PlainKey}
use Rattle.sdb_oplog.specs.Decide.{IsMade}
use Rattle.sdb_dump.specs.ValueLimits.{IsSafeInteger, ComponentInLimits, ComponentsInLimits}
use Rattle.sdb_dump.specs.EntryLimits.{KeyInLimits, SubmissionInLimits}
use Rattle.sdb_dump.specs.DumpText.{PlainLine, log_of_lines, key_not_below, dump_lines, check}

abbrev pub TransformKeepsLimits : Type 0
TransformKeepsLimits =
    (side : Side) (c o : PlainComponent) (cs : List PlainComponent) → ComponentInLimits 100 c → ComponentInLimits 100 o
    → transform side c o ≡ Some cs → ComponentsInLimits 100 cs

-- no key is less than that of the line before
abbrev pub KeysAscendFrom : List PlainLine → List PlainLine → Type 0
KeysAscendFrom before [] = ⊤
KeysAscendFrom before (x ∷ xs) = (key_not_below before x.key ≡ true) × KeysAscendFrom (before ++ x ∷ []) xs

-- keys, moments and submissions are within the limits
abbrev pub AllInLimits : List PlainLine → Type 0
AllInLimits [] = ⊤
AllInLimits (x ∷ xs) =
    KeyInLimits x.key × IsSafeInteger x.entry.moment × SubmissionInLimits x.entry.arrived × AllInLimits xs

-- the entries of made logs, key by key
pub record IsDumpOfLogs (xs : List PlainLine) : Type 0 where
  pub ascends : KeysAscendFrom [] xs
  pub made : (k : PlainKey) → IsMade (log_of_lines xs k)

-- the lines of made logs within the limits are accepted and give those logs
abbrev pub DumpsOfLogsAccepted : Type 0
DumpsOfLogsAccepted = (xs : List PlainLine) → IsDumpOfLogs xs → AllInLimits xs → check (dump_lines xs) [] ≡ Ok xs

-- accepted lines are those of made logs
abbrev pub AcceptedAreDumpsOfLogs : Type 0
AcceptedAreDumpsOfLogs =
    (ls : List (List ℕ)) (rest : List ℕ) (xs : List PlainLine) → check ls rest ≡ Ok xs
    → (ls ≡ dump_lines xs) × (rest ≡ []) × IsDumpOfLogs xs
