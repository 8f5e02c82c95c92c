use Rattle.std.proofs.Common.{◌<◌, List, Some, length, ap, sym, ◌∙◌, subst, arith}
use Rattle.std.specs.List.{concat}
use Rattle.sdb_chunks.specs.declared.chunk.Chunk.{Chunk}
use Rattle.sdb_rope.specs.ChunkModel.{chunk_texts}
use Rattle.sdb_rope.specs.GroupModel.{group_texts, IsGroupAtOffset}
use Rattle.sdb_rope.specs.Position.{AreBounded}
use Rattle.sdb_rope.specs.Utf16.{remove_text}
use Rattle.sdb_rope.specs.declared.rope_chunk.RopeChunk.{RopeChunk}
use Rattle.sdb_rope.proofs.ChunkLemmas.{on_err}
use Rattle.sdb_rope.proofs.GroupLemmas.{count_groups, done_true, done_false, keep_group, short_changed, take_group}
use Rattle.sdb_rope.proofs.group_list.remove_in_group_list.Goals as goal

pub returns-in_err-done-clause-err : goal.returns-in_err-done-clause-err
returns-in_err-done-clause-err c =
    let gs = c.args.groups.now.items in
    let at = c.in-Some.at in
    let p = subst (λ (l : List (Chunk RopeChunk)). IsGroupAtOffset (group_texts l) c.args.offset at c.in-Some.left) c.deref.ensures.value c.in-Some.ensures.some in
    let inside : at < length gs = omega (arith, p.index_in_range, count_groups gs) in
    on_err c.from_residual.result (keep_group gs at c.remove_from_chunks.new.chunk_list c.index_mut.result.now inside c.index_mut.ensures.value c.in_err-done.ensures.err)

pub returns-in_err-done-clause-chunks_bounded : goal.returns-in_err-done-clause-chunks_bounded
returns-in_err-done-clause-chunks_bounded c =
    let gs = c.args.groups.now.items in
    let at = c.in-Some.at in
    let p = subst (λ (l : List (Chunk RopeChunk)). IsGroupAtOffset (group_texts l) c.args.offset at c.in-Some.left) c.deref.ensures.value c.in-Some.ensures.some in
    let inside : at < length gs = omega (arith, p.index_in_range, count_groups gs) in
    λ a. short_changed gs at c.remove_from_chunks.new.chunk_list c.index_mut.result.now inside c.index_mut.ensures.value c.remove_from_chunks.ensures.chunks_bounded a

pub returns-clause-removed : goal.returns-clause-removed
returns-clause-removed c =
    let gs = c.args.groups.now.items in
    let at = c.in-Some.at in
    let g = c.remove_from_chunks.new.chunk_list in
    let h = c.index_mut.result.now in
    let p = subst (λ (l : List (Chunk RopeChunk)). IsGroupAtOffset (group_texts l) c.args.offset at c.in-Some.left) c.deref.ensures.value c.in-Some.ensures.some in
    let inside : at < length gs = omega (arith, p.index_in_range, count_groups gs) in
    λ e.
    take_group gs at g h inside c.index_mut.ensures.value c.args.offset c.in-Some.left c.args.old.now p
    (done_true c.in_ok-done.done (remove_text c.in-Some.left c.args.old.now (concat (chunk_texts h))) (concat (chunk_texts h)) (concat (chunk_texts g)) e c.in_ok-done.ensures.ok)
    ∙ ap (λ l. Some (concat l)) (sym c.remove_empty_group.ensures)

pub returns-clause-equal : goal.returns-clause-equal
returns-clause-equal c =
    let gs = c.args.groups.now.items in
    let at = c.in-Some.at in
    let g = c.remove_from_chunks.new.chunk_list in
    let h = c.index_mut.result.now in
    let p = subst (λ (l : List (Chunk RopeChunk)). IsGroupAtOffset (group_texts l) c.args.offset at c.in-Some.left) c.deref.ensures.value c.in-Some.ensures.some in
    let inside : at < length gs = omega (arith, p.index_in_range, count_groups gs) in
    λ e.
    ap concat c.remove_empty_group.ensures ∙ keep_group gs at g h inside c.index_mut.ensures.value
    (done_false c.in_ok-done.done (remove_text c.in-Some.left c.args.old.now (concat (chunk_texts h))) (concat (chunk_texts h)) (concat (chunk_texts g)) e c.in_ok-done.ensures.ok)

pub returns-clause-chunks_bounded : goal.returns-clause-chunks_bounded
returns-clause-chunks_bounded c =
    let gs = c.args.groups.now.items in
    let at = c.in-Some.at in
    let p = subst (λ (l : List (Chunk RopeChunk)). IsGroupAtOffset (group_texts l) c.args.offset at c.in-Some.left) c.deref.ensures.value c.in-Some.ensures.some in
    let inside : at < length gs = omega (arith, p.index_in_range, count_groups gs) in
    λ a. subst AreBounded (sym c.remove_empty_group.ensures) (short_changed gs at c.remove_from_chunks.new.chunk_list c.index_mut.result.now inside c.index_mut.ensures.value c.remove_from_chunks.ensures.chunks_bounded a)
