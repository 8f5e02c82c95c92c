-- The state and the progress of a checker of lines.
use Rattle.std.specs.Prelude.{◌≡◌, ◌≢◌, ℕ, List, [], ◌∷◌, ◌++◌, length, Bool, true, false, Option, Some, None, option_map, IfSome, ⊤}
use Rattle.std.specs.declared.cmp.Ordering.TheVariants.{Greater}
use Rattle.sdb_desk.specs.MapModel.{value_at_key}
use Rattle.sdb_desk.specs.StoredKeys.{IsKeyList}
use Rattle.sdb_oplog.specs.Keys.{PlainKey, Logs, compare_keys, keys_equal, plain_key, with_log}
use Rattle.sdb_oplog.specs.Plain.{PlainEntry}
use Rattle.sdb_oplog.specs.declared.keys.Key.{Key}
use Rattle.sdb_dump.specs.DumpText.{PlainLine, key_not_below, log_of_lines}
use Rattle.sdb_dump.specs.CheckStages.{PlainStage, head, body, done}
use Rattle.sdb_dump.specs.EntryLimits.{AllKeysInLimits}
use Rattle.sdb_dump.specs.declared.checker.CheckedDump.{CheckedDump}
use Rattle.sdb_dump.specs.declared.checker.Checker.{Checker}
use Rattle.sdb_dump.specs.declared.checker.LastDocument.{LastDocument}
use Rattle.sdb_dump.specs.declared.checker.Stage.{Stage}
use Rattle.sdb_dump.specs.declared.checker.Stage.TheVariants.{Header, Body, End}

-- the key of the last line
abbrev pub last_key : List PlainLine → Option PlainKey
last_key [] = None
last_key (x ∷ []) = Some x.key
last_key (x ∷ y ∷ xs) = last_key (y ∷ xs)

-- the logs of a map
abbrev pub logs_of_map : List (Key × List PlainEntry) → Logs
logs_of_map = value_at_key []

-- the logs of a map, and the log of the last document
abbrev pub logs_with_last : Option LastDocument → Logs → Logs
logs_with_last None f = f
logs_with_last (Some l) f = with_log f (plain_key l.key) l.document

abbrev pub AreNotEmpty : List (Key × List PlainEntry) → Type 0
AreNotEmpty [] = ⊤
AreNotEmpty (e ∷ es) = (e.1 ≢ []) × AreNotEmpty es

-- the second key is greater than the first, if there is a first
abbrev pub IsKeyAbove : Option PlainKey → PlainKey → Type 0
IsKeyAbove None k = ⊤
IsKeyAbove (Some l) k = compare_keys k l ≡ Greater

-- the checker has accepted these lines
pub record CheckerHolds (c : Checker) (xs : List PlainLine) : Type 0 where
  pub logs : (k : PlainKey) → logs_with_last c.last (logs_of_map c.logs.entries) k ≡ log_of_lines xs k
  pub last : option_map (λ l. plain_key l.key) c.last ≡ last_key xs
  pub filled : AreNotEmpty c.logs.entries × IfSome c.last (λ l. l.document ≢ [])
  -- a key greater than the last one has no entries
  pub rest : (k : PlainKey) → IsKeyAbove (last_key xs) k → log_of_lines xs k ≡ []
  pub fits : AllKeysInLimits xs
  pub counted : c.entries ≡ length xs

-- a line of this key may follow, and its document was taken out of the checker
pub record CheckerContinues (xs : List PlainLine) (k : PlainKey) (log : List PlainEntry) (c : Checker) : Type 0 where
  pub follows : key_not_below xs k ≡ true
  pub begins : log ≡ log_of_lines xs k
  pub others : (q : PlainKey) → keys_equal k q ≡ false → logs_of_map c.logs.entries q ≡ log_of_lines xs q
  pub filled : AreNotEmpty c.logs.entries
  pub rest : (q : PlainKey) → compare_keys q k ≡ Greater → log_of_lines xs q ≡ []

abbrev pub TakesDocument : List PlainLine → PlainKey → Checker → Option (List PlainEntry) → Type 0
TakesDocument xs k c None = key_not_below xs k ≡ false
TakesDocument xs k c (Some log) = CheckerContinues xs k log c

abbrev pub IsAtStage : Stage → PlainStage → Checker → Type 0
IsAtStage Header head c = CheckerHolds c []
IsAtStage Body (body xs) c = CheckerHolds c xs
IsAtStage End (done xs) c = CheckerHolds c xs
IsAtStage _ _ c = ⊥

-- the checker is at this stage
abbrev pub CheckerAtStage : Checker → PlainStage → Type 0
CheckerAtStage c s = IsAtStage c.stage s c

-- the line was accepted, or it is wrong
abbrev pub AcceptsOrRejects : Bool → Option PlainLine → Checker → List PlainLine → Type 0
AcceptsOrRejects true o c xs = (x : PlainLine) × (o ≡ Some x) × CheckerHolds c (xs ++ x ∷ [])
AcceptsOrRejects false o c xs = o ≡ None

-- the accepted logs
abbrev pub accepted_logs : CheckedDump → Logs
accepted_logs c = logs_of_map c.logs.entries

-- the number of documents with entries
abbrev pub HasDocumentCount : Logs → ℕ → Type 0
HasDocumentCount f n = (ks : List PlainKey) × IsKeyList f ks × (n ≡ length ks)

-- the accepted dump has these entries
pub record AcceptedHasAll (c : CheckedDump) (xs : List PlainLine) : Type 0 where
  pub logs : (k : PlainKey) → accepted_logs c k ≡ log_of_lines xs k
  pub documents : HasDocumentCount (accepted_logs c) c.documents
  pub fits : AllKeysInLimits xs
  pub counted : c.entries ≡ length xs
