-- The views of looks, attempts and outcomes.
use Rattle.std.specs.Prelude.{List, Option, Some, None, option_map, Result, Ok, Err, Vec}
use Rattle.std.specs.declared.alloc.AllocError.{AllocError}
use Rattle.std.specs.declared.alloc.Global.{Global}
use Rattle.sdb_value.specs.Value.{Value}
use Rattle.sdb_value.specs.View.{value_of}
use Rattle.sdb_value.specs.declared.value.Json.{Json}
use Rattle.sdb_oplog.specs.Decide.{stored}
use Rattle.sdb_oplog.specs.Plain.{PlainContent, PlainEntry}
use Rattle.sdb_oplog.specs.declared.codes.Code.{Code}
use Rattle.sdb_desk.specs.Machine.{PlainLook, PlainAttempt, PlainOutcome, decided, moved, PlainFetchResult, PlainSubscribeResult}
use Rattle.sdb_desk.specs.Reads.{PlainReplayBase}
use Rattle.sdb_desk.specs.ReplyView.{plain_reply}
use Rattle.sdb_desk.specs.declared.work.Look.{Look}
use Rattle.sdb_desk.specs.declared.work.Attempt.{Attempt}
use Rattle.sdb_desk.specs.declared.work.RebasedContent.{RebasedContent}
use Rattle.sdb_desk.specs.declared.work.RebasedContent.TheVariants.{Unchanged, Changed, Refused}
use Rattle.sdb_desk.specs.declared.replay_base.ReplayBase.{ReplayBase}
use Rattle.sdb_desk.specs.declared.shard.Outcome.{Outcome}
use Rattle.sdb_desk.specs.declared.shard.Outcome.TheVariants.{Decided, Moved}
use Rattle.sdb_desk.specs.declared.shard.CommitDecision.{CommitDecision}
use Rattle.sdb_desk.specs.declared.shard.CommitDecision.TheVariants.{Store, Reply}
use Rattle.sdb_desk.specs.declared.shard.FetchResult.{FetchResult}
use Rattle.sdb_desk.specs.declared.shard.SubscribeResult.{SubscribeResult}

abbrev pub plain_look : Look → PlainLook
plain_look l =
    record {
      version = l.version;
      repeat = l.repeat;
      missed = l.missed.items;
      snapshot = option_map value_of l.snapshot;
    }

abbrev pub plain_attempt : Attempt → PlainAttempt
plain_attempt a = record { submission = a.submission; look = plain_look a.look }

-- the new document, or the code that refuses it
abbrev pub plain_document_result : Result (Option Json) Code → Result (Option Value) Code
plain_document_result (Ok d) = Ok (option_map value_of d)
plain_document_result (Err code) = Err code

-- the rebased content, or the code that refuses it
abbrev pub rebased_content_of : PlainContent → RebasedContent → Result PlainContent Code
rebased_content_of arrived Unchanged = Ok arrived
rebased_content_of arrived (Changed content) = Ok content
rebased_content_of arrived (Refused code) = Err code

abbrev pub plain_outcome : Outcome → PlainOutcome
plain_outcome (Decided r) = decided (plain_reply r)
plain_outcome (Moved l) = moved (plain_look l)

-- the outcome of a decision; a stored submission has the missed entries of its attempt
abbrev pub outcome_of_decision : PlainAttempt → CommitDecision → PlainOutcome
outcome_of_decision a (Store v) = decided (stored v a.look.missed)
outcome_of_decision a (Reply o) = plain_outcome o

abbrev pub fetch_result_view : Result FetchResult Code → Result PlainFetchResult Code
fetch_result_view (Ok f) = Ok (record { version = f.version; snapshot = option_map value_of f.snapshot })
fetch_result_view (Err code) = Err code

abbrev pub plain_replay_base : ReplayBase → PlainReplayBase
plain_replay_base l = record { version = l.version; snapshot = option_map value_of l.snapshot; entries = l.entries.items }

abbrev pub subscribe_result_view : Result SubscribeResult Code → Result PlainSubscribeResult Code
subscribe_result_view (Ok s) =
    Ok (record { id = s.id; start = s.start; version = s.version; snapshot = option_map value_of s.snapshot })
subscribe_result_view (Err code) = Err code

abbrev pub taken_view : Result (Option (Vec PlainEntry Global)) AllocError → Option (Option (List PlainEntry))
taken_view (Ok r) = Some (option_map (λ v. v.items) r)
taken_view (Err e) = None

abbrev pub entries_view : Result (Vec PlainEntry Global) Code → Result (List PlainEntry) Code
entries_view (Ok v) = Ok v.items
entries_view (Err code) = Err code
