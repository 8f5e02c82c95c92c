use Rattle.std.proofs.Common.{◌≡◌, ◌+◌, ◌≤◌, ◌++◌, take, drop, vec_len, vec_capacity}
use Rattle.circular_buffer.specs.Buffer.{buffer}
use Rattle.sdb_subscribe.proofs.queue.drain_ring.Given as goal

abbrev pub invariant-loop-moved : goal.invariant-loop-moved
invariant-loop-moved l =
    (l.entries.items ≡ l.initial.entries.items ++ take l._moved l.initial.ring.items)
    × (l.ring ≡ buffer (drop l._moved l.initial.ring.items) l.initial.ring.capacity)
    × (vec_len l.initial.entries + l.count ≤ vec_capacity l.entries)
    × (vec_len l.entries ≡ vec_len l.initial.entries + l._moved)
