use Rattle.std.proofs.Common.{◌≡◌, length, length-set, ap, sym, ◌∙◌}
use Rattle.std.specs.List.{flat_map}
use Rattle.sdb_chunks.specs.Chunk.{items_of}
use Rattle.sdb_chunks.specs.ChunkGroup.{group_chunks}
use Rattle.sdb_chunks.specs.ChunkedVec.{flatten_models}
use Rattle.sdb_chunks.proofs.GroupLemmas.{same_number, same_length, both_ways}
use Rattle.sdb_chunks.proofs.chunk_group.ChunkGroup.replace.Goals as goal

pub invariant_of-self : goal.invariant_of-self
invariant_of-self g c =
    let f = g.T.TryClone.model in
    let old = group_chunks c.args.self.now in
    let new = items_of c.replace_in_chunk_list.new.chunks in
    let e = c.replace_in_chunk_list.ensures in
    let n : length (flat_map items_of new) ≡ length (flat_map items_of old) =
    both_ways c.replace_in_chunk_list.result e.ok e.err (λ p. same_length f new old (ap length p ∙ length-set (flatten_models f old) c.args.index (f c.args.item))) (λ p. same_number f new old p) in
    record { count_is_sum = c.args.self.now.count_is_sum ∙ sym n }
