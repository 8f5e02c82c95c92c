-- Several calls of one pass: the entries that they stored, and the entries that their takes returned.
use Rattle.std.specs.Prelude.{◌≡◌, ℕ, List, [], ◌∷◌, ◌++◌, cond, map, nat_eq, Option, Some, None, IfSome}
use Rattle.sdb_oplog.specs.Decide.{PlainReply, stored, repeated, refused}
use Rattle.sdb_oplog.specs.Keys.{PlainKey, keys_equal}
use Rattle.sdb_oplog.specs.Plain.{PlainEntry, PlainSubmission}
use Rattle.sdb_subscribe.specs.Queue.{queue}
use Rattle.sdb_desk.specs.Machine.{PlainOutcome, decided, moved}
use Rattle.sdb_desk.specs.ShardView.{machine_of, logs_of}
use Rattle.sdb_submit.specs.Calls.{PlainCall, look, commit, commit_now, current_version, fetch, ops_from, ops_between, snapshot, snapshot_at_time, forget, subscribe, take_next, unsubscribe, CallAnswer}
use Rattle.sdb_backend.specs.CallAnswers.{AnsweredAtExtension}
use Rattle.sdb_backend.specs.HistoryOrder.{share_of}
use Rattle.sdb_backend.specs.PassModel.{pass_number, PassHasSeen}
use Rattle.sdb_backend.specs.declared.shard_value.Held.{Held}
use Rattle.sdb_backend.specs.declared.pass.Pass.{Pass}

-- the submission of a look or a commit is under this number
abbrev pub IsCallUnder : ℕ → PlainCall → Type 0
IsCallUnder n (look s) = s.by ≡ n
IsCallUnder n (commit a now) = a.submission.by ≡ n
IsCallUnder n (commit_now s now) = s.by ≡ n
IsCallUnder n current_version = Unit {0}
IsCallUnder n fetch = Unit {0}
IsCallUnder n (ops_from v) = Unit {0}
IsCallUnder n (ops_between v w) = Unit {0}
IsCallUnder n (snapshot v) = Unit {0}
IsCallUnder n (snapshot_at_time t) = Unit {0}
IsCallUnder n forget = Unit {0}
IsCallUnder n (subscribe v) = Unit {0}
IsCallUnder n (take_next i max) = Unit {0}
IsCallUnder n (unsubscribe i) = Unit {0}

-- a call of a pass at a key, and its answer
pub record AnsweredCall : Type 0 where
  pub key : PlainKey
  pub call : PlainCall
  pub answer : CallAnswer call

-- calls of a pass in order, each under its number and answered at an extension of what it had observed
abbrev pub AreAnswered : List AnsweredCall → Pass → Pass → Type 0
AreAnswered [] p q = q ≡ p
AreAnswered (c ∷ calls) p q =
    (o : Pass) × IsCallUnder (pass_number p) c.call × AnsweredAtExtension c.key c.call p c.answer o × AreAnswered calls o q

-- ---- stored entries

-- an entry's version and submission
abbrev pub entry_identity : PlainEntry → ℕ × PlainSubmission
entry_identity e = (e.version, e.arrived)

-- the version and the submission of the entry that a reply stored
abbrev pub stored_by_reply : PlainSubmission → PlainReply → List (ℕ × PlainSubmission)
stored_by_reply s (stored v missed) = (v, s) ∷ []
stored_by_reply s (repeated v) = []
stored_by_reply s (refused code) = []

abbrev pub stored_by_outcome : PlainSubmission → PlainOutcome → List (ℕ × PlainSubmission)
stored_by_outcome s (decided r) = stored_by_reply s r
stored_by_outcome s (moved l) = []

abbrev pub stored_by_call : (c : PlainCall) → CallAnswer c → List (ℕ × PlainSubmission)
stored_by_call (look s) a = []
stored_by_call (commit w now) a = stored_by_outcome w.submission a
stored_by_call (commit_now s now) a = stored_by_reply s a
stored_by_call current_version a = []
stored_by_call fetch a = []
stored_by_call (ops_from v) a = []
stored_by_call (ops_between v w) a = []
stored_by_call (snapshot v) a = []
stored_by_call (snapshot_at_time t) a = []
stored_by_call forget a = []
stored_by_call (subscribe v) a = []
stored_by_call (take_next i max) a = []
stored_by_call (unsubscribe i) a = []

-- the versions and submissions of the entries that the calls stored at a key, in order
abbrev pub stored_by_calls : PlainKey → List AnsweredCall → List (ℕ × PlainSubmission)
stored_by_calls k [] = []
stored_by_calls k (c ∷ calls) = cond (keys_equal c.key k) (stored_by_call c.call c.answer) [] ++ stored_by_calls k calls

-- the pass's share has at this key the entries that its calls stored, each once and in order
abbrev pub HasStoredCalls : PlainKey → List AnsweredCall → Pass → Type 0
HasStoredCalls k calls q =
    (x : Held) × PassHasSeen q k x
    × (map entry_identity ((share_of (pass_number q) (machine_of x.shard)).entries k) ≡ stored_by_calls k calls)

-- ---- taken entries

abbrev pub taken_entries_or_none : Option (Option (List PlainEntry)) → List PlainEntry
taken_entries_or_none None = []
taken_entries_or_none (Some None) = []
taken_entries_or_none (Some (Some es)) = es

-- the entries that a call returned from the queue of this number
abbrev pub taken_by_call : ℕ → (c : PlainCall) → CallAnswer c → List PlainEntry
taken_by_call id (look s) a = []
taken_by_call id (commit w now) a = []
taken_by_call id (commit_now s now) a = []
taken_by_call id current_version a = []
taken_by_call id fetch a = []
taken_by_call id (ops_from v) a = []
taken_by_call id (ops_between v w) a = []
taken_by_call id (snapshot v) a = []
taken_by_call id (snapshot_at_time t) a = []
taken_by_call id forget a = []
taken_by_call id (subscribe v) a = []
taken_by_call id (take_next i max) a = cond (nat_eq i id) (taken_entries_or_none a) []
taken_by_call id (unsubscribe i) a = []

-- the entries that the calls returned from a queue of a key, in order
abbrev pub taken_by_calls : PlainKey → ℕ → List AnsweredCall → List PlainEntry
taken_by_calls k id [] = []
taken_by_calls k id (c ∷ calls) = cond (keys_equal c.key k) (taken_by_call id c.call c.answer) [] ++ taken_by_calls k id calls

-- if the pass has this queue, its calls returned the queue's entries from its start on, without gaps
abbrev pub HasTakenQueue : PlainKey → ℕ → List AnsweredCall → Pass → Type 0
HasTakenQueue k id calls q =
    (x : Held) × PassHasSeen q k x
    × IfSome ((share_of (pass_number q) (machine_of x.shard)).queues k id)
    (λ w. taken_by_calls k id calls ≡ queue (logs_of x.shard k) w.start w.taken)
