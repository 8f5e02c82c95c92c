use Rattle.std.proofs.Common.{◌≡◌, ◌-◌, ◌<◌, ◌++◌, length, take, min, sym, ap, ◌∙◌, subst, arith}
use Rattle.sdb_subscribe.specs.Queue.{pending_entries}
use Rattle.sdb_subscribe.specs.Ring.{RingedQueue, IsRingOfLog, next_version}
use Rattle.sdb_subscribe.proofs.RingLemmas.{taken_out}
use Rattle.sdb_subscribe.proofs.queue.Queue.take.Goals as goal

pub returns-clause-entries : goal.returns-clause-entries
returns-clause-entries c =
    let log = c.args.log.now in
    let max = c.args.max in
    let q : RingedQueue = record { queue = record { start = c.self.inside.start; taken = c.self.inside.taken; by = c.self.inside.by }; ring = c.self.inside.ring.items } in
    let fits : IsRingOfLog log q = subst (IsRingOfLog log) (sym c.self.view_is) c.requires in
    let b = c.min-before.result in
    let w : c.entries_from_log-waiting.result.now ≡ pending_entries log max q.queue = c.entries_from_log-waiting.ensures.entries in
    let count : length c.entries_from_log-waiting.result.now ≡ length (pending_entries log max q.queue) = ap length w in
    let some : 0 < length (pending_entries log max q.queue) = omega (arith, count, c.if-count-eq0.false) in
    let is : b ≡ min (length log - length q.ring - next_version q.queue) (length (pending_entries log max q.queue)) = omega (arith, count, c.min-before.ensures, c.len.ensures.len, c.len-2.ensures.len) in
    c.drain_ring.ensures.entries
    ∙ ap (λ l. l ++ take (length c.entries_from_log-waiting.result.now - b) q.ring) (c.in_ok-entries.ensures.copies ∙ ap (take b) w)
    ∙ ap (λ n. take b (pending_entries log max q.queue) ++ take (n - b) q.ring) count
    ∙ taken_out log max b q fits some is
    ∙ ap (λ x. pending_entries log max x.queue) c.self.view_is
