use Rattle.std.proofs.Common.{ap, sym, ◌∙◌}
use Rattle.sdb_chunks.specs.Chunk.{items_of}
use Rattle.sdb_chunks.specs.ChunkGroup.{group_chunks}
use Rattle.sdb_chunks.proofs.FlattenLemmas.{joined_alike}
use Rattle.sdb_chunks.proofs.GroupLemmas.{same_number}
use Rattle.sdb_chunks.proofs.chunk_group.ChunkGroupTryClone.try_clone.Goals as goal

pub invariant_of-result : goal.invariant_of-result
invariant_of-result g c =
    let f = g.T.TryClone.model in
    let old = group_chunks c.args.self.now in
    let new = items_of c.in_ok-try_clone.field-0 in
    record {
      count_is_sum = c.args.self.now.count_is_sum ∙ same_number f old new (sym (joined_alike f new old (ap (λ p. p.0) c.in_ok-try_clone.ensures)));
    }
