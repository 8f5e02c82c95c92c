-- The check of a text, continued with a part of it.
use Rattle.std.specs.Prelude.{◌≡◌, ℕ, List, ◌++◌, Result}
use Rattle.sdb_dump.specs.CheckerModel.{CheckerAtStage, HasDocumentCount, accepted_logs}
use Rattle.sdb_dump.specs.LineSplit.{split_lines}
use Rattle.sdb_dump.specs.DumpText.{PlainLine}
use Rattle.sdb_dump.specs.LogListing.{DumpText}
use Rattle.sdb_dump.specs.LogDumps.{AreDumpable}
use Rattle.sdb_dump.specs.CheckStages.{PlainStage, stages_result}
use Rattle.sdb_dump.specs.WriteModel.{HasEntryCount}
use Rattle.sdb_dump.specs.declared.checker.CheckedDump.{CheckedDump}
use Rattle.sdb_dump.specs.declared.checker.Checker.{Checker}

-- the result for a text, from a stage and the bytes of a pending line
abbrev pub check_result_from : PlainStage → List ℕ → List ℕ → Result (List PlainLine) ℕ
check_result_from s line_buffer text = stages_result s (split_lines line_buffer text).ended (split_lines line_buffer text).rest

-- after a part of the text, the rest has the result that the whole text has
abbrev pub CheckContinues : PlainStage → List ℕ → List ℕ → Checker → List ℕ → Type 0
CheckContinues s line_buffer input c partial =
    (t : PlainStage) × CheckerAtStage c t × ((rest : List ℕ) → check_result_from s line_buffer (input ++ rest) ≡ check_result_from t partial rest)

-- the text is the dump of the accepted logs
pub record AcceptsText (c : CheckedDump) (t : List ℕ) : Type 0 where
  pub text : DumpText (accepted_logs c) t
  -- the logs are made and within the limits
  pub dumped : AreDumpable (accepted_logs c)
  pub documents : HasDocumentCount (accepted_logs c) c.documents
  pub entries : HasEntryCount (accepted_logs c) c.entries
