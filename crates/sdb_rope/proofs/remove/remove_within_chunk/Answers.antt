use Rattle.std.proofs.Common.{◌<◌, length, ap, sym, ◌∙◌, arith, refl}
use Rattle.std.specs.List.{remove_range}
use Rattle.sdb_rope.proofs.ChunkListLemmas.{length_of_texts, text_at, cut_chunk_out, short_left}
use Rattle.sdb_rope.proofs.remove.remove_within_chunk.Goals as goal

pub returns-clause-bytes : goal.returns-clause-bytes
returns-clause-bytes c =
    let ps = c.args.chunks.now.items in
    let at : c.args.at < length ps = omega (arith, c.requires.range.index_in_range, length_of_texts ps) in
    c.remove_empty_chunk.ensures.unchanged ∙ cut_chunk_out ps c.remove.new.self c.args.at c.args.from c.args.to at
    (c.remove.ensures.bytes ∙ ap (λ l. remove_range l c.args.from c.args.to) (sym (text_at ps c.args.at c.index_mut.result.now at c.index_mut.ensures.value)))

pub returns-clause-chunks_bounded : goal.returns-clause-chunks_bounded
returns-clause-chunks_bounded c =
    let ps = c.args.chunks.now.items in
    let at : c.args.at < length ps = omega (arith, c.requires.range.index_in_range, length_of_texts ps) in
    λ a. c.remove_empty_chunk.ensures.chunks_bounded (short_left ps c.remove.new.self c.args.at c.args.from c.args.to at (c.requires.range.bytes_ordered refl)
    (c.remove.ensures.bytes ∙ ap (λ l. remove_range l c.args.from c.args.to) (sym (text_at ps c.args.at c.index_mut.result.now at c.index_mut.ensures.value))) a)
