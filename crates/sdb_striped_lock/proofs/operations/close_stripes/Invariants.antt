use Rattle.std.proofs.Common.{◌≡◌, ℕ, ◌+◌, ◌-◌, ◌<◌, ◌≤◌, length, slice_index_or, Vec, Global, vec_capacity}
use Rattle.sdb_growlock.specs.declared.grow_lock.Seat.{Seat}
use Rattle.sdb_growlock.specs.declared.grow_lock.GrowLock.{GrowLock}
use Rattle.sdb_striped_lock.specs.CloseModel.{IsValueAfterClose}
use Rattle.sdb_striped_lock.proofs.operations.close_stripes.Given as goal

abbrev pub invariant-loop-lock : goal.invariant-loop-lock
invariant-loop-lock g l =
    record {
      same : length l.columns.items ≡ length l.locks.items;
      all : length l.values.items + length l.locks.items ≡ 8;
      room : 8 ≤ vec_capacity l.values;
      locks : (i : ℕ) (d : GrowLock g.row.T.Denot) → i < length l.locks.items → slice_index_or l.locks.items i d ≡ slice_index_or l.initial.locks.items i d;
      columns : (i : ℕ) (d : Vec (Seat g.row.T.Denot) Global) → i < length l.columns.items → slice_index_or l.columns.items i d ≡ slice_index_or l.initial.columns.items i d;
      gives : (i : ℕ) (c : Vec (Seat g.row.T.Denot) Global) (v : g.row.T.Denot) → i < length l.values.items
          → IsValueAfterClose g.T.Grows.extends g.T.Grows.same g.T.Grows.blank (slice_index_or l.initial.columns.items (7 - i) c).items (slice_index_or l.values.items i v);
    }

abbrev pub decreases-loop-lock : goal.decreases-loop-lock
decreases-loop-lock g l = length l.locks.items
