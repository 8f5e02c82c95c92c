use Rattle.std.proofs.Common.{◌≡◌, true, length, sym, ◌∙◌, arith}
use Rattle.std.specs.List.{insert}
use Rattle.std.proofs.lemmas.Bool.{le-leb}
use Rattle.sdb_chunks.specs.Chunk.{items_of}
use Rattle.sdb_chunks.specs.ChunkGroup.{group_chunks}
use Rattle.sdb_chunks.specs.ChunkedVec.{flatten_models}
use Rattle.sdb_chunks.proofs.FlattenLemmas.{if_same}
use Rattle.sdb_chunks.proofs.GroupLemmas.{same_number, one_more_number, few_in_chunks}
use Rattle.sdb_chunks.proofs.chunk_group.ChunkGroup.insert.Goals as goal

pub invariant_of-self : goal.invariant_of-self
invariant_of-self g c =
    let f = g.T.TryClone.model in
    let old = group_chunks c.args.self.now in
    let new = items_of c.insert_in_chunk_list.new.chunks in
    record { count_is_sum = c.args.self.now.count_is_sum ∙ same_number f old new (sym c.in_err-insert_in_chunk_list.ensures.err) }

pub overflow_add-self : goal.overflow_add-self
overflow_add-self g c = omega (arith, c.args.self.now.count_is_sum, few_in_chunks c.args.self.now.chunks)

pub invariant_of-self-2 : goal.invariant_of-self-2
invariant_of-self-2 g c =
    let f = g.T.TryClone.model in
    let old = group_chunks c.args.self.now in
    let new = items_of c.insert_in_chunk_list.new.chunks in
    let done : c.in_ok-insert_in_chunk_list.field-0 ≡ true = c.in_ok-insert_in_chunk_list.ensures.in_range ∙ le-leb c.args.index (length (flatten_models f old)) c.requires in
    let put : flatten_models f new ≡ insert (flatten_models f old) c.args.index (f c.args.item) =
    c.in_ok-insert_in_chunk_list.ensures.ok ∙ if_same c.in_ok-insert_in_chunk_list.field-0 (insert (flatten_models f old) c.args.index (f c.args.item)) (flatten_models f old) done in
    let n = one_more_number f new old c.args.index (f c.args.item) c.requires put in
    record { count_is_sum = omega (arith, c.args.self.now.count_is_sum, n) }
