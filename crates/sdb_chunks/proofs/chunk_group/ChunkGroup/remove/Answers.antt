use Rattle.std.proofs.Common.{sym, ◌∙◌, arith}
use Rattle.sdb_chunks.specs.Chunk.{items_of}
use Rattle.sdb_chunks.specs.ChunkGroup.{group_chunks}
use Rattle.sdb_chunks.proofs.GroupLemmas.{same_number, one_less_number, seen_count}
use Rattle.sdb_chunks.proofs.chunk_group.ChunkGroup.remove.Goals as goal

pub invariant_of-self : goal.invariant_of-self
invariant_of-self g c =
    let f = g.T.TryClone.model in
    let old = group_chunks c.args.self.now in
    let new = items_of c.remove_from_chunk_list.new.chunks in
    record { count_is_sum = c.args.self.now.count_is_sum ∙ same_number f old new (sym c.in_err-item.ensures.err) }

pub overflow_sub-self : goal.overflow_sub-self
overflow_sub-self g c = omega (arith, c.requires, seen_count g.T.TryClone.model c.args.self.now)

pub invariant_of-self-2 : goal.invariant_of-self-2
invariant_of-self-2 g c =
    let f = g.T.TryClone.model in
    let old = group_chunks c.args.self.now in
    let new = items_of c.remove_from_chunk_list.new.chunks in
    let n = one_less_number f new old c.args.index c.requires c.in_ok-item.ensures.ok in
    record { count_is_sum = omega (arith, c.args.self.now.count_is_sum, n) }
