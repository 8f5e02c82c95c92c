use Rattle.std.proofs.Common.{ap, sym, ◌∙◌}
use Rattle.sdb_chunks.specs.Chunk.{items_of, is_chunk_unique}
use Rattle.sdb_chunks.specs.ChunkedVec.{is_unique_at}
use Rattle.sdb_chunks.proofs.FlattenLemmas.{false_cond, on_err}
use Rattle.sdb_chunks.proofs.chunk_list.replace_in_chunk_list.Goals as goal

pub returns-in_err-old-in-Unique-clause-shared_on_err : goal.returns-in_err-old-in-Unique-clause-shared_on_err
returns-in_err-old-in-Unique-clause-shared_on_err g c =
    let i = c.args.index in
    on_err c.from_residual-in_err-old-in-Unique.result (false_cond (is_chunk_unique c.args.chunks.now) (is_unique_at (items_of c.args.chunks.now) i)
    (sym (c.in_ok-make_chunks_unique.ensures.uniqueness_unchanged i) ∙ ap (λ b. is_unique_at (items_of b) i) c.in-Unique.is ∙ c.in_err-old-in-Unique.ensures.shared_on_err))
