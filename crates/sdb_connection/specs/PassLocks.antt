-- The locks of a backend, which name it.
use Rattle.std.specs.Prelude.{List, []}
use Rattle.sdb_growlock.specs.declared.grow_lock.GrowLock.{GrowLock}
use Rattle.sdb_striped_lock.specs.AtIndex.{AtEachIndex}
use Rattle.sdb_striped_lock.specs.SeatSetModel.{IsSeatNumbered}
use Rattle.sdb_backend.specs.PassModel.{IsPassOfBackend}
use Rattle.sdb_backend.specs.declared.backend.Backend.{Backend}
use Rattle.sdb_backend.specs.declared.pass.Pass.{Pass}
use Rattle.sdb_backend.specs.declared.shard_value.Held.{Held}

abbrev pub Locks : Type 0
Locks = List (GrowLock Held)

-- the locks of no backend
abbrev pub no_locks : Locks
no_locks = []

-- the pass belongs to the backend with these locks
abbrev pub IsPassOfLocks : Pass → Locks → Type 0
IsPassOfLocks p locks = AtEachIndex (IsSeatNumbered p.seats.number) p.seats.seats.items locks 0 8

module _ {R : Type 0} where
  -- the passes of the backend are exactly those that belong to the locks
  abbrev pub NamesBackend : Locks → Backend R → Type 0
  NamesBackend locks b =
      ((p : Pass) → IsPassOfLocks p locks → IsPassOfBackend p b) × ((p : Pass) → IsPassOfBackend p b → IsPassOfLocks p locks)
