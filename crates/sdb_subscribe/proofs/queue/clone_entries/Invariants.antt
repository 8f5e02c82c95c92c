use Rattle.std.proofs.Common.{◌≡◌, ◌≤◌, take, vec_capacity}
use Rattle.sdb_subscribe.proofs.queue.clone_entries.Given as goal

abbrev pub invariant-loop-entry : goal.invariant-loop-entry
invariant-loop-entry l = (l.copies.items ≡ take l.entry-index l.entries) × (l.room ≤ vec_capacity l.copies)
