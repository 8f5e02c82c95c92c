use Rattle.std.proofs.Common.{◌≡◌, ◌<◌, length, sym, ap, ◌∙◌, arith}
use Rattle.sdb_rope.specs.RopeChunk.{chunk_list_texts}
use Rattle.sdb_rope.proofs.ChunkListLemmas.{length_of_texts, text_at, same_set}
use Rattle.sdb_rope.proofs.chunk_list.freeze_chunk_list.Goals as goal

pub returns-in_err-freeze : goal.returns-in_err-freeze
returns-in_err-freeze c =
    let ps = c.loop-at.chunks.items in
    let lengths : length (chunk_list_texts ps) ≡ length (chunk_list_texts c.args.chunks.now.items) = ap length c.loop-at.invariant in
    let inside : c.loop-at.at < length ps = omega (arith, c.loop-at-test.true, c.len-at-end.ensures, lengths, length_of_texts ps, length_of_texts c.args.chunks.now.items) in
    same_set ps c.loop-at.at c.freeze.new.self (c.freeze.ensures ∙ sym (text_at ps c.loop-at.at c.index_mut.result.now inside c.index_mut.ensures.value)) ∙ c.loop-at.invariant

pub loop-at-preserved : goal.loop-at-preserved
loop-at-preserved c =
    let ps = c.loop-at.chunks.items in
    let lengths : length (chunk_list_texts ps) ≡ length (chunk_list_texts c.args.chunks.now.items) = ap length c.loop-at.invariant in
    let inside : c.loop-at.at < length ps = omega (arith, c.loop-at-test.true, c.len-at-end.ensures, lengths, length_of_texts ps, length_of_texts c.args.chunks.now.items) in
    same_set ps c.loop-at.at c.freeze.new.self (c.freeze.ensures ∙ sym (text_at ps c.loop-at.at c.index_mut.result.now inside c.index_mut.ensures.value)) ∙ c.loop-at.invariant
