-- Replays whose entries are copied in parts, each at a history of its own.
use Rattle.std.specs.Prelude.{◌≡◌, ◌⊎◌, ℕ, List, Option}
use Rattle.sdb_value.specs.Value.{Value}
use Rattle.sdb_oplog.specs.Decide.{IsMade}
use Rattle.sdb_oplog.specs.Keys.{PlainKey}
use Rattle.sdb_oplog.specs.Plain.{PlainEntry}
use Rattle.sdb_desk.specs.Machine.{IsUnchanged}
use Rattle.sdb_desk.specs.Reads.{PlainReplayBase, IsReplayBaseUpTo}
use Rattle.sdb_desk.specs.ShardView.{machine_of, logs_of}
use Rattle.sdb_submit.specs.Calls.{ops_between, MachineStep}
use Rattle.sdb_backend.specs.CallAnswers.{RunsAtExtension}
use Rattle.sdb_backend.specs.HistoryOrder.{IsExtension}
use Rattle.sdb_backend.specs.PassModel.{pass_number, PassHasSeen}
use Rattle.sdb_backend.specs.ReplayBases.{IsDocumentAt}
use Rattle.sdb_backend.specs.declared.shard_value.Held.{Held}
use Rattle.sdb_backend.specs.declared.pass.Pass.{Pass}

-- a run that changes nothing
abbrev pub RunsUnchanged : PlainKey → Pass → Pass → Type 0
RunsUnchanged k p q = RunsAtExtension k (λ h new. IsUnchanged (machine_of h.shard) (machine_of new.shard)) p q

-- the pass has observed a made log
abbrev pub IsMadeLogSeenBy : Pass → PlainKey → Type 0
IsMadeLogSeenBy p k = (x : Held) → PassHasSeen p k x → IsMade (logs_of x.shard k)

-- between the two states the pass has only read: a run that changes nothing reaches the new state if one reaches the old
-- state; the observed log of the key is extended; and if there was a run, that log is made
pub record HasOnlyRead (k : PlainKey) (old new : Pass) : Type 0 where
  pub unchanged : (p : Pass) → RunsUnchanged k p old → RunsUnchanged k p new
  pub extends : (x y : Held) → PassHasSeen old k x → PassHasSeen new k y → IsExtension (logs_of y.shard k) (logs_of x.shard k)
  pub made : (new ≡ old) ⊎ IsMadeLogSeenBy new k

-- entries between two versions are copied from a made log; `None` means that an allocation failed
abbrev pub CopiedAtExtension : PlainKey → ℕ → ℕ → Pass → Option (List PlainEntry) → Pass → Type 0
CopiedAtExtension k from to p r q =
    RunsAtExtension k (λ h new. MachineStep (pass_number p) (machine_of h.shard) k (ops_between from to) r (machine_of new.shard)
    × IsMade (logs_of h.shard k)) p q

-- the pass has observed a log that has this replay base
abbrev pub IsReplayBaseSeenBy : Pass → PlainKey → ℕ → ℕ → PlainReplayBase → Type 0
IsReplayBaseSeenBy p k v max l = (x : Held) × PassHasSeen p k x × IsReplayBaseUpTo (logs_of x.shard k) v max l

-- the pass has observed a log with this document at a version
abbrev pub IsDocumentSeenBy : Pass → PlainKey → ℕ → Option Value → Type 0
IsDocumentSeenBy p k v d = (x : Held) × PassHasSeen p k x × IsDocumentAt (logs_of x.shard k) v d

-- the same, and the log is made
abbrev pub IsSnapshotSeenBy : Pass → PlainKey → ℕ → Option Value → Type 0
IsSnapshotSeenBy p k v d = IsDocumentSeenBy p k v d × IsMadeLogSeenBy p k
