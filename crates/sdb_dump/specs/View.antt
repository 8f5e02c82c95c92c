-- The views of the types.
use Rattle.std.specs.Prelude.{◌≡◌, Option, Some, None, Result, Ok, Err}
use Rattle.std.specs.declared.alloc.AllocError.{AllocError}
use Rattle.sdb_oplog.specs.Keys.{plain_key}
use Rattle.sdb_oplog.specs.declared.codes.Code.{Code}
use Rattle.sdb_oplog.specs.declared.codes.Code.TheVariants.{E10}
use Rattle.sdb_dump.specs.DumpLine.{PlainLineContent}
use Rattle.sdb_dump.specs.declared.dump_line.LineContent.{LineContent}

abbrev pub plain_line_content : LineContent → PlainLineContent
plain_line_content l = record { key = plain_key l.key; submission = l.submission; moment = l.moment }

-- a refusal becomes `None`, and an allocation failure stays an error
abbrev pub IsNoneIfRefused : {A : Type 0} → Result A Code → Result (Option A) AllocError → Type 0
IsNoneIfRefused (Ok x) (Ok o) = o ≡ Some x
IsNoneIfRefused (Ok x) (Err e) = ⊥
IsNoneIfRefused (Err c) (Ok o) = (o ≡ None) × (c ≡ E10 → ⊥)
IsNoneIfRefused (Err c) (Err e) = c ≡ E10
