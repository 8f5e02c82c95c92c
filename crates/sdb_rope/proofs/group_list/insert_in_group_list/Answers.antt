use Rattle.std.proofs.Common.{◌≡◌, ◌<◌, List, ℕ, length, set, ap, ◌∙◌, subst, arith}
use Rattle.std.specs.List.{concat}
use Rattle.sdb_chunks.specs.declared.chunk.Chunk.{Chunk}
use Rattle.sdb_rope.specs.EditOutcome.{EditOutcome}
use Rattle.sdb_rope.specs.GroupModel.{texts_of_groups, group_texts, IsGroupAtOffset}
use Rattle.sdb_rope.specs.Utf16.{insert_text}
use Rattle.sdb_rope.specs.declared.rope_chunk.RopeChunk.{RopeChunk}
use Rattle.sdb_rope.proofs.ChunkLemmas.{on_err}
use Rattle.sdb_rope.proofs.GroupLemmas.{count_groups, keep_group, short_changed, put_group}
use Rattle.sdb_rope.proofs.group_list.insert_in_group_list.Goals as goal

pub returns-in_err-done-in-Some-clause-err : goal.returns-in_err-done-in-Some-clause-err
returns-in_err-done-in-Some-clause-err c =
    let gs = c.ensure_group.new.groups.items in
    let at = c.in-Some.at in
    let p = subst (λ (l : List (Chunk RopeChunk)). IsGroupAtOffset (group_texts l) c.args.offset at c.in-Some.left) c.deref.ensures.value c.in-Some.ensures.some in
    let inside : at < length gs = omega (arith, p.index_in_range, count_groups gs) in
    let same = c.ensure_group.ensures.unchanged ∙ c.split_long_chunk.ensures in
    on_err c.from_residual-in_err-done-in-Some.result (keep_group gs at c.insert_into_chunks.new.chunk_list c.index_mut.result.now inside c.index_mut.ensures.value c.in_err-done-in-Some.ensures.err ∙ ap concat same)

pub returns-in_err-done-in-Some-clause-chunks_bounded : goal.returns-in_err-done-in-Some-clause-chunks_bounded
returns-in_err-done-in-Some-clause-chunks_bounded c =
    let gs = c.ensure_group.new.groups.items in
    let at = c.in-Some.at in
    let p = subst (λ (l : List (Chunk RopeChunk)). IsGroupAtOffset (group_texts l) c.args.offset at c.in-Some.left) c.deref.ensures.value c.in-Some.ensures.some in
    let inside : at < length gs = omega (arith, p.index_in_range, count_groups gs) in
    let same : texts_of_groups gs ≡ texts_of_groups c.args.groups.now.items = c.ensure_group.ensures.unchanged ∙ c.split_long_chunk.ensures in
    λ a. short_changed gs at c.insert_into_chunks.new.chunk_list c.index_mut.result.now inside c.index_mut.ensures.value c.insert_into_chunks.ensures.chunks_bounded (rw same a)

pub returns-clause-ok : goal.returns-clause-ok
returns-clause-ok c =
    let gs = c.ensure_group.new.groups.items in
    let at = c.in-Some.at in
    let g = c.insert_into_chunks.new.chunk_list in
    let p = subst (λ (l : List (Chunk RopeChunk)). IsGroupAtOffset (group_texts l) c.args.offset at c.in-Some.left) c.deref.ensures.value c.in-Some.ensures.some in
    let inside : at < length gs = omega (arith, p.index_in_range, count_groups gs) in
    let same = c.ensure_group.ensures.unchanged ∙ c.split_long_chunk.ensures in
    subst (λ (x : List (List ℕ)). EditOutcome c.in_ok-done-in-Some.done (insert_text c.args.offset c.args.new.now (concat x)) (concat x) (concat (texts_of_groups (set gs at g)))) same
    (put_group gs at g c.index_mut.result.now inside c.index_mut.ensures.value c.args.offset c.in-Some.left c.args.new.now c.in_ok-done-in-Some.done p c.in_ok-done-in-Some.ensures.ok)

pub returns-clause-chunks_bounded : goal.returns-clause-chunks_bounded
returns-clause-chunks_bounded c =
    let gs = c.ensure_group.new.groups.items in
    let at = c.in-Some.at in
    let p = subst (λ (l : List (Chunk RopeChunk)). IsGroupAtOffset (group_texts l) c.args.offset at c.in-Some.left) c.deref.ensures.value c.in-Some.ensures.some in
    let inside : at < length gs = omega (arith, p.index_in_range, count_groups gs) in
    let same : texts_of_groups gs ≡ texts_of_groups c.args.groups.now.items = c.ensure_group.ensures.unchanged ∙ c.split_long_chunk.ensures in
    λ a. short_changed gs at c.insert_into_chunks.new.chunk_list c.index_mut.result.now inside c.index_mut.ensures.value c.insert_into_chunks.ensures.chunks_bounded (rw same a)
