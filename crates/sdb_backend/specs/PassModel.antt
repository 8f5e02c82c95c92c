-- The passes of a backend's callers, and their host.
use Rattle.std.specs.Prelude.{◌≡◌, ◌≢◌, ℕ, ◌+◌, ◌<◌, List, map, Contains}
use Rattle.sdb_oplog.specs.Keys.{PlainKey, Logs, shard_of}
use Rattle.sdb_oplog.specs.declared.codes.Code.{Code}
use Rattle.sdb_oplog.specs.declared.codes.Code.TheVariants.{E10, E11}
use Rattle.sdb_desk.specs.ShardView.{machine_of, logs_of}
use Rattle.sdb_striped_lock.specs.SeatSetModel.{SeatSetBelongsTo, AreRootSeatsOf, SeatSetHasSeen, RootSeatsHaveSeen, ChangedOnlyAt, IsSameSeatSet}
use Rattle.sdb_striped_lock.specs.SeatSetModel as locks
use Rattle.sdb_striped_lock.specs.declared.striped_lock.StripedLock.{StripedLock}
use Rattle.sdb_backend.specs.HistoryOrder.{share_of, empty_share}
use Rattle.sdb_backend.specs.declared.backend.Backend.{Backend}
use Rattle.sdb_backend.specs.declared.shard_value.Held.{Held}
use Rattle.sdb_backend.specs.declared.pass.Pass.{Pass}
use Rattle.sdb_backend.specs.declared.pass.Host.{Host}

-- the number of a pass, and the number of the host's next pass
abbrev pub pass_number : Pass → ℕ
pass_number p = locks.seat_set_number p.seats

abbrev pub next_pass_number : Host → ℕ
next_pass_number h = locks.next_seat_set_number h.seats

-- the pass has its seats at these locks
abbrev pub HasSeatsOf : Pass → StripedLock Held → Type 0
HasSeatsOf p l = SeatSetBelongsTo p.seats l

-- the host has its seats at these locks, and nothing is stored under number 0
abbrev pub HasRootSeatsOf : Host → StripedLock Held → Type 0
HasRootSeatsOf h l =
    AreRootSeatsOf h.seats l
    × ((i : ℕ) → i < 8 → (x : Held) × RootSeatsHaveSeen h.seats i x × (share_of 0 (machine_of x.shard) ≡ empty_share))

-- the pass, or the host, belongs to this backend
module _ {R : Type 0} where
  abbrev pub IsPassOfBackend : Pass → Backend R → Type 0
  IsPassOfBackend p b = HasSeatsOf p b.locks

  abbrev pub IsHostOfBackend : Host → Backend R → Type 0
  IsHostOfBackend h b = HasRootSeatsOf h b.locks

-- the state that the pass has observed of a shard, by number or by key
abbrev pub PassHasSeenShard : Pass → ℕ → Held → Type 0
PassHasSeenShard p i x = SeatSetHasSeen p.seats i x

abbrev pub PassHasSeen : Pass → PlainKey → Held → Type 0
PassHasSeen p k x = PassHasSeenShard p (shard_of k) x

-- the state that the host has observed of a shard
abbrev pub HostHasSeenShard : Host → ℕ → Held → Type 0
HostHasSeenShard h i x = RootSeatsHaveSeen h.seats i x

-- the host has observed this log of each key
abbrev pub HostHasSeenLogs : Host → Logs → Type 0
HostHasSeenLogs h logs = (k : PlainKey) → (x : Held) × HostHasSeenShard h (shard_of k) x × (logs_of x.shard k ≡ logs k)

-- the pass has observed nothing new of the other shards
abbrev pub ChangesPassOnlyAt : ℕ → Pass → Pass → Type 0
ChangesPassOnlyAt i before after = ChangedOnlyAt i before.seats after.seats

-- in the observed history of each shard the pass's share is empty
abbrev pub HasEmptyShare : Pass → Type 0
HasEmptyShare p = (i : ℕ) → i < 8 → (x : Held) × PassHasSeenShard p i x × (share_of (pass_number p) (machine_of x.shard) ≡ empty_share)

-- in the host's observed history of each shard every number's share is empty
abbrev pub HasEmptyShares : Host → Type 0
HasEmptyShares h =
    (i : ℕ) → i < 8 → (x : Held) × RootSeatsHaveSeen h.seats i x × ((n : ℕ) → share_of n (machine_of x.shard) ≡ empty_share)

-- the pass has observed the host's history of each shard
abbrev pub HasSeenHostHistories : Pass → Host → Type 0
HasSeenHostHistories p h = (i : ℕ) → i < 8 → (x : Held) × RootSeatsHaveSeen h.seats i x × PassHasSeenShard p i x

-- each number that was issued is the number of one of the passes
abbrev pub HasEveryPass : ℕ → List Pass → Type 0
HasEveryPass next passes = (k : ℕ) → 0 < k → k < next → Contains (map pass_number passes) k

module _ {R : Type 0} where
  -- the pass still belongs to the backend, with the same number, and has observed nothing new of the other shards
  abbrev pub IsSamePass : Backend R → ℕ → Pass → Pass → Type 0
  IsSamePass b i old new = IsSameSeatSet b.locks i old.seats new.seats

  -- the new pass has the host's next number, which then grows by one, and an empty share; it has observed what its
  -- host has
  pub record IsNewPass (b : Backend R) (old new : Host) (p : Pass) : Type 0 where
    pub belongs : IsPassOfBackend p b
    pub has_number : pass_number p ≡ next_pass_number old
    pub below_max : next_pass_number old < 18446744073709551615
    pub next_grows : next_pass_number new ≡ next_pass_number old + 1
    pub has_empty_share : HasEmptyShare p
    pub seen_before : HasSeenHostHistories p old
    pub seen_after : HasSeenHostHistories p new

-- a refused pass leaves the host unchanged; its reason is that the numbers are used up, or else the memory
pub record IsEnterRefusal (old new : Host) (code : Code) : Type 0 where
  pub host_unchanged : new ≡ old
  pub full : code ≡ E11 → next_pass_number old ≡ 18446744073709551615
  pub memory : code ≢ E11 → (code ≡ E10) × (next_pass_number old ≢ 18446744073709551615)
