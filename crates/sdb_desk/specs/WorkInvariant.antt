-- The invariant of a work.
use Rattle.std.specs.Prelude.{◌≡◌, Option, Result}
use Rattle.sdb_value.specs.Value.{Value}
use Rattle.sdb_oplog.specs.Rebase.{rebase}
use Rattle.sdb_oplog.specs.Plain.{PlainContent}
use Rattle.sdb_oplog.specs.declared.codes.Code.{Code}
use Rattle.sdb_desk.specs.Machine.{PlainAttempt, work_result}

-- the content is transformed against the look's missed entries and applied to its document
pub record WorkInvariant (a : PlainAttempt) (content : Result PlainContent Code) (made : Result (Option Value) Code)
    : Type 0 where
  pub carries : content ≡ rebase a.submission.content a.look.missed
  pub makes : made ≡ work_result a
