use Rattle.std.proofs.Common.{◌≡◌, length, ap, sym, ◌∙◌, arith}
use Rattle.sdb_chunks.specs.Chunk.{items_of}
use Rattle.sdb_chunks.specs.ChunkedVec.{flatten_models, all_unique, chunk_models}
use Rattle.sdb_chunks.proofs.FlattenLemmas.{joined_without, unique_remove, map_none}
use Rattle.sdb_chunks.specs.Chunks.{max_chunk_length}
use Rattle.sdb_chunks.proofs.ChunkBounds.{longest_remove}
use Rattle.sdb_chunks.proofs.chunk_edit.remove_empty_chunk.Goals as goal

pub returns-then-len-eq0-clause-unchanged : goal.returns-then-len-eq0-clause-unchanged
returns-then-len-eq0-clause-unchanged g c =
    let f = g.T.TryClone.model in
    let d = c.index.result.now in
    let none : length (items_of d) ≡ 0 = sym c.len.ensures ∙ c.if-len-eq0.true in
    ap (flatten_models f) c.remove.ensures.items
    ∙ joined_without (chunk_models f) c.args.chunks.now.items c.args.at d c.requires (ap (chunk_models f) (sym c.index.ensures) ∙ map_none f (items_of d) none)

pub returns-then-len-eq0-clause-unique : goal.returns-then-len-eq0-clause-unique
returns-then-len-eq0-clause-unique g c = λ all. ap all_unique c.remove.ensures.items ∙ unique_remove c.args.chunks.now.items c.args.at all

pub returns-then-len-eq0-clause-bound : goal.returns-then-len-eq0-clause-bound
returns-then-len-eq0-clause-bound g c =
    let e = ap max_chunk_length c.remove.ensures.items in
    let l = longest_remove c.args.chunks.now.items c.args.at in
    omega (arith, e, l)
