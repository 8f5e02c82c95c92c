-- The decision of one submission on a log, `decide`: the first case that applies.
use Rattle.std.specs.Prelude.{◌≡◌, ℕ, List, [], ◌∷◌, ◌++◌, length, drop, max, Bool, true, false, ◌||◌, if◌then◌else◌, nat_eq, nat_lt, Option, Some, None, Result, Ok, Err, unwrap_or}
use Rattle.std.specs.Option.{is_some, option_map_or}
use Rattle.sdb_value.specs.Value.{Value}
use Rattle.sdb_oplog.specs.Plain.{PlainContent, create, delete, edit, PlainSubmission, PlainEntry}
use Rattle.sdb_oplog.specs.Refusal.{result_and_then}
use Rattle.sdb_oplog.specs.Moments.{last_moment}
use Rattle.sdb_oplog.specs.Rebase.{rebase, rebase_allocates}
use Rattle.sdb_oplog.specs.Snap.{apply_content, document_of, stored_at}
use Rattle.sdb_oplog.specs.declared.codes.Code.{Code}
use Rattle.sdb_oplog.specs.declared.codes.Code.TheVariants.{E4, E11}

pub data PlainReply : Type 0 where
  -- stored at this version, with the submission's missed entries
  stored : ℕ → List PlainEntry → PlainReply
  -- a duplicate of the submission stored at this version
  repeated : ℕ → PlainReply
  refused : Code → PlainReply

pub record Decision : Type 0 where
  pub reply : PlainReply
  pub log : List PlainEntry

-- the version at which the submission was made; the current one by default
abbrev pub base_version : List PlainEntry → PlainSubmission → ℕ
base_version log s = unwrap_or s.version (length log)

-- the entries stored since the submission's base version
abbrev pub missed_entries : List PlainEntry → PlainSubmission → List PlainEntry
missed_entries log s = drop (base_version log s) log

-- no version number is left
abbrev pub is_log_full : List PlainEntry → Bool
is_log_full log = nat_eq (length log) 9007199254740991

-- the base version is above the log's length
abbrev pub is_version_too_new : List PlainEntry → PlainSubmission → Bool
is_version_too_new log s = nat_lt (length log) (base_version log s)

-- the content, if it applies to the document
abbrev pub applicable_content : PlainContent → Option Value → Result PlainContent Code
applicable_content m d = result_and_then (λ n. Ok m) (apply_content m d)

-- the content to be stored: transformed against the missed entries, and applicable
abbrev pub rebased_content : List PlainEntry → PlainSubmission → Result PlainContent Code
rebased_content log s =
    if is_log_full log then Err E11
    else (if is_version_too_new log s then Err E4
    else (result_and_then (λ m. applicable_content m (document_of log)) (rebase s.content (missed_entries log s))))

-- the new entry, stored now or at the moment of the entry before it, if that is later
abbrev pub new_entry : List PlainEntry → PlainSubmission → ℕ → PlainContent → PlainEntry
new_entry log s now m = record { version = length log; moment = max now (last_moment log); content = m; arrived = s }

-- the log with the new entry, unless it is refused
abbrev pub append_decided : List PlainEntry → PlainSubmission → ℕ → Result PlainContent Code → Decision
append_decided log s now (Err code) = record { reply = refused code; log = log }
append_decided log s now (Ok m) = record { reply = stored (length log) (missed_entries log s); log = log ++ new_entry log s now m ∷ [] }

-- the decision: a duplicate, or a submission that is rebased and appended at this moment
abbrev pub decide : List PlainEntry → PlainSubmission → ℕ → Decision
decide log s now =
    option_map_or (λ i. record { reply = repeated i; log = log }) (stored_at s.src s.seq log)
    (append_decided log s now (rebased_content log s))

-- a log is made if each entry is what `decide` stores for its submission, at its moment, on the entries before it
abbrev pub IsMadeFrom : List PlainEntry → List PlainEntry → Type 0
IsMadeFrom before [] = Unit {0}
IsMadeFrom before (e ∷ es) = ((decide before e.arrived e.moment).log ≡ before ++ e ∷ []) × IsMadeFrom (before ++ e ∷ []) es

abbrev pub IsMade : List PlainEntry → Type 0
IsMade = IsMadeFrom []

-- ---- allocations

-- whether applying allocates; a create on a present document and an edit of an absent one are refused before
abbrev pub apply_to_copy_allocates : PlainContent → Option Value → Bool
apply_to_copy_allocates (create v) None = true
apply_to_copy_allocates (create v) (Some d) = false
apply_to_copy_allocates delete d = true
apply_to_copy_allocates (edit op) None = false
apply_to_copy_allocates (edit op) (Some d) = true

-- whether applying a rebased content allocates; a refused one doesn't
abbrev pub apply_rebased_allocates : Result PlainContent Code → Option Value → Bool
apply_rebased_allocates (Ok m) d = apply_to_copy_allocates m d
apply_rebased_allocates (Err code) d = false

-- whether a decision allocates; a duplicate, a full log and a version that is too new don't
abbrev pub decide_allocates : List PlainEntry → PlainSubmission → Bool
decide_allocates log s =
    if is_some (stored_at s.src s.seq log) || (is_log_full log || is_version_too_new log s) then false
    else (rebase_allocates s.content (missed_entries log s)
    || apply_rebased_allocates (rebase s.content (missed_entries log s)) (document_of log))
