use Rattle.std.proofs.Common.{ap, max, arith}
use Rattle.sdb_chunks.specs.Chunk.{items_of}
use Rattle.sdb_chunks.specs.Chunks.{max_chunk_length}
use Rattle.sdb_chunks.proofs.ChunkBounds.{same_count, longest_push}
use Rattle.sdb_chunks.proofs.regroup.push_merged.Goals as goal

pub returns-then-len-le-MIN_CHUNK_LEN-clause-bound : goal.returns-then-len-le-MIN_CHUNK_LEN-clause-bound
returns-then-len-le-MIN_CHUNK_LEN-clause-bound g c =
    let b = c.in_ok-try_clone.field-0 in
    let same = same_count g.T.TryClone.model (items_of b) (items_of c.args.chunk.now) (ap (λ p. p.0) c.in_ok-try_clone.ensures) in
    longest_push c.args.chunks.now.items c.push.new.self.items b (max 20 (max_chunk_length c.args.chunks.now.items)) c.in_ok-push.ensures.items (omega arith)
    (omega (arith, same, c.len.ensures, c.if-len-le-MIN_CHUNK_LEN.true))
