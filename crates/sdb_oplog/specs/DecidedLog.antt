-- A log that decides submissions, and a submission that it stores.
use Rattle.std.specs.Prelude.{◌≡◌, ℕ, ◌<◌, ◌≤◌, ◌⊎◌, List, length, Option, Some, None, option_map, unwrap_or, Ok}
use Rattle.sdb_value.specs.Value.{Value}
use Rattle.sdb_value.specs.View.{value_of}
use Rattle.sdb_value.specs.declared.value.Json.{Json}
use Rattle.sdb_oplog.specs.Plain.{PlainContent, PlainEntry, PlainSubmission}
use Rattle.sdb_oplog.specs.Rebase.{rebase}
use Rattle.sdb_oplog.specs.Snap.{apply_content, document_of, snap, stored_at}
use Rattle.sdb_oplog.specs.Decide.{PlainReply, repeated, refused, decide, base_version, missed_entries, IsMade}
use Rattle.sdb_oplog.specs.declared.codes.Code.TheVariants.{E10}
use Rattle.sdb_oplog.specs.declared.decided_log.Rejection.{Rejection}
use Rattle.sdb_oplog.specs.declared.decided_log.Rejection.TheVariants.{Repeat, Refused}

-- the log is made, and its replay is this document
pub record IsDecidedLog (log : List PlainEntry) (document : Option Json) : Type 0 where
  pub replay : snap log ≡ Some (option_map value_of document)
  pub made : IsMade log

-- the submission is no duplicate, the log isn't full, and its base version exists
pub record CanStore (log : List PlainEntry) (s : PlainSubmission) : Type 0 where
  pub is_new : stored_at s.src s.seq log ≡ None
  pub has_room : length log < 9007199254740991
  pub version_reached : base_version log s ≤ length log

-- its rebased content is this one, or unchanged if absent, and it applies to the document with this result
pub record WillStore (log : List PlainEntry) (s : PlainSubmission) (content : Option PlainContent) (made : Option Value)
    : Type 0 where
  pub new : CanStore log s
  pub rebased_is : rebase s.content (missed_entries log s) ≡ Ok (unwrap_or content s.content)
  pub makes : apply_content (unwrap_or content s.content) (document_of log) ≡ Ok made

-- the reply to a submission that isn't stored
abbrev pub plain_rejection : Rejection → PlainReply
plain_rejection (Repeat v) = repeated v
plain_rejection (Refused code) = refused code

-- the decision has this reply and leaves the log unchanged
abbrev pub IsRejectedAs : List PlainEntry → PlainSubmission → ℕ → Rejection → Type 0
IsRejectedAs log s now r = decide log s now ≡ record { reply = plain_rejection r; log = log }

-- the decision is this rejection, or an allocation failed
abbrev pub IsRejectionOrOutOfMemory : List PlainEntry → PlainSubmission → ℕ → Rejection → Type 0
IsRejectionOrOutOfMemory log s now r = (r ≡ Refused E10) ⊎ IsRejectedAs log s now r
