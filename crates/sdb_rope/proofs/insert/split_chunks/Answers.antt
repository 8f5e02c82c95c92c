use Rattle.std.proofs.Common.{length-take, length-drop, ◌≡◌, ◌<◌, ◌≤◌, ◌+◌, ◌-◌, ◌++◌, ℕ, List, length, take, drop, ap, sym, ◌∙◌, arith}
use Rattle.std.specs.List.{concat}
use Rattle.std.specs.Str.{IsCharBoundary}
use Rattle.std.proofs.lemmas.Str.{IsCharBoundary-start}
use Rattle.std.proofs.lemmas.List.{take-append-drop}
use Rattle.std.proofs.lemmas.List.Elements.{All-nil, All-push}
use Rattle.sdb_rope.specs.RopeChunk.{chunk_list_texts, chunk_bytes, IsUniqueChunk}
use Rattle.sdb_rope.proofs.ChunkEdits.{take_part}
use Rattle.sdb_rope.specs.Position.{IsBounded}
use Rattle.sdb_rope.proofs.ChunkListLemmas.{push_chunk, short_push}
use Rattle.sdb_rope.proofs.BoundaryLemmas.{next_char}
use Rattle.sdb_rope.proofs.insert.split_chunks.Goals as goal

further : (bs : List ℕ) (start end : ℕ) → ((k : ℕ) × ((start < k) × (k ≤ start + 4) × IsCharBoundary bs k)) → ((i : ℕ) → end < i → i ≤ start + 3072 → IsCharBoundary bs i → ⊥) → end ≤ start → ⊥
further bs start end next none back = none next.0 (omega (arith, next.1.0, back)) (omega (arith, next.1.1)) next.1.2

pub loop-start-init : goal.loop-start-init
loop-start-init c = record {
  boundary = IsCharBoundary-start c.args.text.now c.utf8.text;
  same = ap (λ l. concat (chunk_list_texts l)) c.new-chunks.ensures.items;
  own = rw c.new-chunks.ensures.items (All-nil IsUniqueChunk);
  short = rw c.new-chunks.ensures.items (All-nil IsBounded);
}

pub loop-start-smaller : goal.loop-start-smaller
loop-start-smaller c =
    let start = c.loop-start.start in
    let end = c.floor_char_boundary-end.result in
    let more : start < length c.args.text.now = omega (arith, c.loop-start-test.true) in
    let ahead = further c.args.text.now start end (next_char c.args.text.now start c.utf8.text c.loop-start.invariant.boundary more) c.floor_char_boundary-end.ensures.nearest in
    let less : start < end = omega (arith, ahead) in
    omega (arith, less, more)

pub loop-start-preserved : goal.loop-start-preserved
loop-start-preserved c =
    let text = c.args.text.now in
    let start = c.loop-start.start in
    let end = c.floor_char_boundary-end.result in
    let more : start < length text = omega (arith, c.loop-start-test.true) in
    let ahead = further text start end (next_char text start c.utf8.text c.loop-start.invariant.boundary more) c.floor_char_boundary-end.ensures.nearest in
    let less : start ≤ end = omega (arith, ahead) in
    let chunk : chunk_bytes c.new.result ≡ take (end - start) (drop start text) = c.new.ensures.bytes ∙ c.in_ok-from_str.ensures.ok ∙ c.range.ensures.value in
    let size : length (chunk_bytes c.new.result) ≤ 4096 = omega (arith, ap length chunk, length-take (end - start) (drop start text), c.floor_char_boundary-end.ensures.bound) in
    record {
      boundary = c.floor_char_boundary-end.ensures.boundary;
      same = ap (λ l. concat (chunk_list_texts l)) c.in_ok-push.ensures.items ∙ push_chunk c.loop-start.chunks.items c.new.result ∙ ap (λ l. l ++ chunk_bytes c.new.result) c.loop-start.invariant.same ∙ ap (λ l. take start text ++ l) chunk ∙ sym (take_part text start end less);
      own = rw c.in_ok-push.ensures.items (All-push IsUniqueChunk c.loop-start.chunks.items c.new.result c.loop-start.invariant.own c.new.ensures.unique);
      short = rw c.in_ok-push.ensures.items (short_push c.loop-start.chunks.items c.new.result size c.loop-start.invariant.short);
    }

pub returns-clause-ok : goal.returns-clause-ok
returns-clause-ok c =
    let text = c.args.text.now in
    let start = c.loop-start.start in
    let chunk : chunk_bytes c.new-2.result ≡ drop start text = c.new-2.ensures.bytes ∙ c.in_ok-from_str-2.ensures.ok ∙ c.range_from.ensures.value in
    ap (λ l. concat (chunk_list_texts l)) c.in_ok-push-2.ensures.items ∙ push_chunk c.loop-start.chunks.items c.new-2.result ∙ ap (λ l. l ++ chunk_bytes c.new-2.result) c.loop-start.invariant.same ∙ ap (λ l. take start text ++ l) chunk ∙ take-append-drop start text

pub returns-clause-chunks_bounded : goal.returns-clause-chunks_bounded
returns-clause-chunks_bounded c =
    let text = c.args.text.now in
    let start = c.loop-start.start in
    let chunk : chunk_bytes c.new-2.result ≡ drop start text = c.new-2.ensures.bytes ∙ c.in_ok-from_str-2.ensures.ok ∙ c.range_from.ensures.value in
    let size : length (chunk_bytes c.new-2.result) ≤ 4096 = omega (arith, ap length chunk, length-drop start text, c.loop-start-test.false) in
    rw c.in_ok-push-2.ensures.items (short_push c.loop-start.chunks.items c.new-2.result size c.loop-start.invariant.short)
