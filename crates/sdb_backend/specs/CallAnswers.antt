-- Answers to the calls of a pass.
use Rattle.std.specs.Prelude.{◌≡◌, ℕ, List, [], Option, option_map, Result, ⊤}
use Rattle.sdb_oplog.specs.Plain.{PlainEntry, PlainSubmission}
use Rattle.sdb_oplog.specs.Keys.{PlainKey, shard_of}
use Rattle.sdb_oplog.specs.Decide.{PlainReply}
use Rattle.sdb_oplog.specs.declared.codes.Code.{Code}
use Rattle.sdb_subscribe.specs.Queue.{pending_entries}
use Rattle.sdb_desk.specs.Looks.{IsLook}
use Rattle.sdb_desk.specs.Machine.{PlainAttempt, ReadOrOutOfMemory, is_nonempty, operations_from}
use Rattle.sdb_desk.specs.ShardView.{machine_of, logs_of, caches_of}
use Rattle.sdb_submit.specs.Calls.{PlainCall, forget, CallAnswer, MachineStep}
use Rattle.sdb_submit.specs.SubmitLoop.{CallRelation}
use Rattle.sdb_backend.specs.HistoryOrder.{Extends, share_of, AddsToShare}
use Rattle.sdb_backend.specs.PassModel.{pass_number, PassHasSeen, ChangesPassOnlyAt}
use Rattle.sdb_backend.specs.declared.shard_value.Held.{Held}
use Rattle.sdb_backend.specs.declared.pass.Pass.{Pass}

-- a run at a history of the key's shard that extends the observed one and has the same share of the pass; the pass then
-- observes the result, and nothing new of other shards
pub record RunsAtExtension (k : PlainKey) (runs : Held → Held → Type 0) (p q : Pass) : Type 0 where
  pub observed : Held
  pub history : Held
  pub next : Held
  pub seen_before : PassHasSeen p k observed
  pub extends : Extends (machine_of history.shard) (machine_of observed.shard)
  pub share_unchanged : share_of (pass_number p) (machine_of observed.shard) ≡ share_of (pass_number p) (machine_of history.shard)
  pub ran : runs history next
  pub seen_after : PassHasSeen q k next
  pub number_unchanged : pass_number q ≡ pass_number p
  pub others_unchanged : ChangesPassOnlyAt (shard_of k) p q

-- the machine answers at such a history
abbrev pub AnsweredAtExtension : PlainKey → (c : PlainCall) → Pass → CallAnswer c → Pass → Type 0
AnsweredAtExtension k c p a q =
    RunsAtExtension k (λ h new. MachineStep (pass_number p) (machine_of h.shard) k c a (machine_of new.shard)) p q

-- the calls of a pass at a key
abbrev pub PassCalls : PlainKey → CallRelation Pass
PassCalls k c p a q = AnsweredAtExtension k c p a q

-- the attempt's look is at the log that the pass has observed
abbrev pub IsLookSeenBy : Pass → PlainKey → PlainAttempt → Type 0
IsLookSeenBy p k a = (x : Held) × PassHasSeen p k x × IsLook (logs_of x.shard k) a

-- the pass has observed an empty cache of the key after `forget`; other passes may change a cache before any other call
abbrev pub ForgetsCache : PlainKey → PlainCall → Pass → Type 0
ForgetsCache k forget q = (new : Held) × PassHasSeen q k new × (caches_of new.shard k ≡ [])
ForgetsCache k c q = ⊤

-- a reply `stored` adds one entry to the pass's share, and any other adds none
pub record AddsEntry (k : PlainKey) (s : PlainSubmission) (now : ℕ) (p : Pass) (r : PlainReply) (q : Pass) : Type 0 where
  pub observed : Held
  pub next : Held
  pub seen_before : PassHasSeen p k observed
  pub seen_after : PassHasSeen q k next
  pub adds : AddsToShare k s now r (share_of (pass_number p) (machine_of observed.shard)) (share_of (pass_number p) (machine_of next.shard))

-- a take returns the next entries of the queue, from its observed position, at an extension of the observed history;
-- none if the pass has no such queue
pub record TakeContinues (k : PlainKey) (id max : ℕ) (p : Pass) (r : Option (List PlainEntry)) (q : Pass) : Type 0 where
  pub observed : Held
  pub history : Held
  pub next : Held
  pub seen_before : PassHasSeen p k observed
  pub seen_after : PassHasSeen q k next
  pub extends : Extends (machine_of history.shard) (machine_of observed.shard)
  pub entries_are :
      r ≡ option_map (pending_entries (logs_of history.shard k) max) ((share_of (pass_number p) (machine_of observed.shard)).queues k id)

-- one history extends what both passes have observed of the key's shard; neither observes anything new
pub record ComparedAtKey (k : PlainKey) (first first_after second second_after : Pass) : Type 0 where
  pub first_observed : Held
  pub second_observed : Held
  pub history : Held
  pub first_seen : PassHasSeen first k first_observed
  pub first_seen_after : PassHasSeen first_after k first_observed
  pub second_seen : PassHasSeen second k second_observed
  pub second_seen_after : PassHasSeen second_after k second_observed
  pub extends_first : Extends (machine_of history.shard) (machine_of first_observed.shard)
  pub extends_second : Extends (machine_of history.shard) (machine_of second_observed.shard)

-- a listing is the machine's at one history that extends the observed one; the pass then observes an extension of it
-- with the same share
pub record ListedAtExtension (k : PlainKey) (v : ℕ) (p : Pass) (r : Result (List PlainEntry) Code) (q : Pass) : Type 0 where
  pub observed : Held
  pub history : Held
  pub next : Held
  pub seen_before : PassHasSeen p k observed
  pub extends : Extends (machine_of history.shard) (machine_of observed.shard)
  pub share_unchanged : share_of (pass_number p) (machine_of observed.shard) ≡ share_of (pass_number p) (machine_of history.shard)
  pub listed : ReadOrOutOfMemory is_nonempty r (operations_from (logs_of history.shard k) v)
  pub seen_after : PassHasSeen q k next
  pub extends_after : Extends (machine_of next.shard) (machine_of history.shard)
  pub share_unchanged_after : share_of (pass_number p) (machine_of history.shard) ≡ share_of (pass_number p) (machine_of next.shard)
