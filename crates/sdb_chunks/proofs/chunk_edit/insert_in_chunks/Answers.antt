use Rattle.std.proofs.Common.{◌≡◌, ◌<◌, ◌≤◌, ◌+◌, max, [], length, ap, subst, arith}
use Rattle.sdb_chunks.specs.Chunks.{flatten_models, max_chunk_length, insert_chunk_index, chunk_length_at}
use Rattle.sdb_chunks.proofs.ChunkBounds.{room_half, room_here, items_none}
use Rattle.sdb_chunks.proofs.chunk_edit.insert_in_chunks.Goals.{in-Some+then-len-most+in_ok-split_chunk, in-Some+else-len-most, in_default}
use Rattle.sdb_chunks.proofs.chunk_edit.insert_in_chunks.Goals as goal

pub returns-in_err-done-clause-bound : goal.returns-in_err-done-clause-bound
returns-in_err-done-clause-bound g c =
    let f = g.T.TryClone.model in
    let bs = c.args.chunks.now.items in
    let i = c.args.index in
    elim c.match-insert_position.branch [
      | in-Some+then-len-most+in_ok-split_chunk w ↦
          let k = w.in-Some.at in
          let d = w.index.result.now in
          let inside = subst (λ l. k < length l) c.deref.ensures.value w.in-Some.ensures.position.index_in_range in
          let first = subst (λ l. k ≡ insert_chunk_index l i) c.deref.ensures.value w.in-Some.ensures.first in
          let now = ap (λ x. max (chunk_length_at x.items i + 1) (max_chunk_length x.items)) w.chunks-is in
          let room = room_half bs _ i k c.args.most d inside first w.index.ensures (omega (arith, w.len.ensures, w.if-len-most.true)) c.requires
          w.in_ok-split_chunk.ensures.bound w.in_ok-split_chunk.ensures.half in
          omega (arith, now, room, c.insert_in_chunk.ensures.bound)
      | in-Some+else-len-most w ↦
          let k = w.in-Some.at in
          let d = w.index.result.now in
          let inside = subst (λ l. k < length l) c.deref.ensures.value w.in-Some.ensures.position.index_in_range in
          let first = subst (λ l. k ≡ insert_chunk_index l i) c.deref.ensures.value w.in-Some.ensures.first in
          let now = ap (λ x. max (chunk_length_at x.items i + 1) (max_chunk_length x.items)) w.chunks-is in
          let room = room_here bs i k c.args.most d inside first w.index.ensures (omega (arith, w.len.ensures, w.if-len-most.false)) in
          omega (arith, now, room, c.insert_in_chunk.ensures.bound)
      | in_default w ↦
          let past = subst (λ l. i ≤ length (flatten_models f l) → l ≡ []) c.deref.ensures.value w.in_default.ensures.none in
          let none = items_none f bs i past in
          let now = ap (λ x. max (chunk_length_at x.items i + 1) (max_chunk_length x.items)) w.chunks-is in
          omega (arith, now, none, c.requires, c.insert_in_chunk.ensures.bound)
    ]

pub returns-clause-bound : goal.returns-clause-bound
returns-clause-bound g c =
    let f = g.T.TryClone.model in
    let bs = c.args.chunks.now.items in
    let i = c.args.index in
    elim c.match-insert_position.branch [
      | in-Some+then-len-most+in_ok-split_chunk w ↦
          let k = w.in-Some.at in
          let d = w.index.result.now in
          let inside = subst (λ l. k < length l) c.deref.ensures.value w.in-Some.ensures.position.index_in_range in
          let first = subst (λ l. k ≡ insert_chunk_index l i) c.deref.ensures.value w.in-Some.ensures.first in
          let now = ap (λ x. max (chunk_length_at x.items i + 1) (max_chunk_length x.items)) w.chunks-is in
          let room = room_half bs _ i k c.args.most d inside first w.index.ensures (omega (arith, w.len.ensures, w.if-len-most.true)) c.requires
          w.in_ok-split_chunk.ensures.bound w.in_ok-split_chunk.ensures.half in
          omega (arith, now, room, c.insert_in_chunk.ensures.bound)
      | in-Some+else-len-most w ↦
          let k = w.in-Some.at in
          let d = w.index.result.now in
          let inside = subst (λ l. k < length l) c.deref.ensures.value w.in-Some.ensures.position.index_in_range in
          let first = subst (λ l. k ≡ insert_chunk_index l i) c.deref.ensures.value w.in-Some.ensures.first in
          let now = ap (λ x. max (chunk_length_at x.items i + 1) (max_chunk_length x.items)) w.chunks-is in
          let room = room_here bs i k c.args.most d inside first w.index.ensures (omega (arith, w.len.ensures, w.if-len-most.false)) in
          omega (arith, now, room, c.insert_in_chunk.ensures.bound)
      | in_default w ↦
          let past = subst (λ l. i ≤ length (flatten_models f l) → l ≡ []) c.deref.ensures.value w.in_default.ensures.none in
          let none = items_none f bs i past in
          let now = ap (λ x. max (chunk_length_at x.items i + 1) (max_chunk_length x.items)) w.chunks-is in
          omega (arith, now, none, c.requires, c.insert_in_chunk.ensures.bound)
    ]
