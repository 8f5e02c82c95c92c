use Rattle.std.proofs.Common.{◌≡◌, ◌++◌, ◌∷◌, [], drop, take, slice_get, Some, sym, ap, ◌∙◌, arith, append_assoc, drop-drop}
use Rattle.circular_buffer.specs.Buffer.{buffer}
use Rattle.sdb_subscribe.proofs.RingLemmas.{moved_more}
use Rattle.sdb_subscribe.proofs.queue.drain_ring.Goals as goal

pub loop-moved-preserved : goal.loop-moved-preserved
loop-moved-preserved c =
    let m = c.loop-moved._moved in
    let ring = c.args.ring.now.items in
    let old = c.args.entries.now.items in
    let capacity = c.args.ring.now.capacity in
    let entry = c.in-Some.entry in
    let there = c.loop-moved.invariant in
    let first : Some entry ≡ slice_get (drop m ring) 0 = c.in-Some.ensures.value ∙ ap (λ b. slice_get b.items 0) there.1 in (
      c.in-Ok.ensures.items ∙ ap (λ l. l ++ entry ∷ []) there.0 ∙ append_assoc old (take m ring) (entry ∷ []) ∙ ap (λ l. old ++ l) (sym (moved_more ring m entry first)),
      c.in-Some.ensures.items ∙ ap (λ b. buffer (drop 1 b.items) b.capacity) there.1 ∙ ap (λ l. buffer l capacity) (drop-drop 1 m ring),
      omega (arith, there.2, c.in-Ok.ensures.capacity),
      omega (arith, there.3, c.in-Ok.ensures.len),
    )
