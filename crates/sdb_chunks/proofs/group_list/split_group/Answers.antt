use Rattle.std.proofs.Common.{◌≡◌, ◌+◌, [], set, get_or, ap, ◌∙◌, arith}
use Rattle.std.specs.List.{insert}
use Rattle.sdb_chunks.specs.Chunk.{items_of}
use Rattle.sdb_chunks.specs.ChunkGroup.{group_models, flatten_group_models, group_chunks, max_grouped_length}
use Rattle.sdb_chunks.specs.ChunkedVec.{flatten_models}
use Rattle.sdb_chunks.proofs.FlattenLemmas.{joined_halves, joined_spare, get_before}
use Rattle.sdb_chunks.specs.Chunks.{max_chunk_length}
use Rattle.sdb_chunks.proofs.ChunkBounds.{grouped_at, grouped_set, grouped_insert, grouped_halves}
use Rattle.sdb_chunks.proofs.group_list.split_group.Goals as goal

pub returns-in_err-high-clause-unchanged : goal.returns-in_err-high-clause-unchanged
returns-in_err-high-clause-unchanged g c =
    let f = g.T.TryClone.model in
    let s = group_models f in
    let gs = c.args.groups.now.items in
    let k = c.args.at in
    let e = c.new-2.result in
    let d = c.index_mut.result.now in
    let put : c.insert.new.self.items ≡ insert gs (k + 1) e = c.in_ok-insert.ensures.items in
    let is : d ≡ get_or gs k d = c.index_mut.ensures.value ∙ ap (λ l. get_or l k d) put ∙ get_before gs k e d c.requires in
    let a = c.split_off_half.new.self in
    let none : s e ≡ [] = ap (λ b. flatten_models f (items_of b)) c.new-2.ensures ∙ ap (flatten_models f) c.new.ensures.items in
    ap (λ l. flatten_group_models f (set l k a)) put ∙ joined_spare s gs k a d e c.requires none (c.in_err-high.ensures.err ∙ ap s is)

pub returns-clause-unchanged : goal.returns-clause-unchanged
returns-clause-unchanged g c =
    let f = g.T.TryClone.model in
    let s = group_models f in
    let gs = c.args.groups.now.items in
    let k = c.args.at in
    let e = c.new-2.result in
    let d = c.index_mut.result.now in
    let put : c.insert.new.self.items ≡ insert gs (k + 1) e = c.in_ok-insert.ensures.items in
    let is : d ≡ get_or gs k d = c.index_mut.ensures.value ∙ ap (λ l. get_or l k d) put ∙ get_before gs k e d c.requires in
    let a = c.split_off_half.new.self in
    let b = c.in_ok-high.high in
    ap (λ l. flatten_group_models f (set (set l k a) (k + 1) b)) put ∙ joined_halves s gs k a b d e c.requires (c.in_ok-high.ensures.ok ∙ ap s is)

pub returns-in_err-high-clause-bound : goal.returns-in_err-high-clause-bound
returns-in_err-high-clause-bound g c =
    let gs = c.args.groups.now.items in
    let k = c.args.at in
    let e = c.new-2.result in
    let d = c.index_mut.result.now in
    let put : c.insert.new.self.items ≡ insert gs (k + 1) e = c.in_ok-insert.ensures.items in
    let is : d ≡ get_or gs k d = c.index_mut.ensures.value ∙ ap (λ l. get_or l k d) put ∙ get_before gs k e d c.requires in
    let a = c.split_off_half.new.self in
    let n = max_grouped_length gs in
    let m = ap (λ l. max_grouped_length (set l k a)) put in
    let none = ap (λ b. max_chunk_length (items_of b)) c.new-2.ensures ∙ ap max_chunk_length c.new.ensures.items in
    let was = ap (λ x. max_chunk_length (group_chunks x)) is in
    let w = grouped_at gs k d c.requires in
    let l = grouped_set (insert gs (k + 1) e) k a n (grouped_insert gs (k + 1) e n (omega arith) (omega (arith, none))) (omega (arith, c.in_err-high.ensures.bound, was, w)) in
    omega (arith, m, l)

pub returns-clause-bound : goal.returns-clause-bound
returns-clause-bound g c =
    let gs = c.args.groups.now.items in
    let k = c.args.at in
    let e = c.new-2.result in
    let d = c.index_mut.result.now in
    let put : c.insert.new.self.items ≡ insert gs (k + 1) e = c.in_ok-insert.ensures.items in
    let is : d ≡ get_or gs k d = c.index_mut.ensures.value ∙ ap (λ l. get_or l k d) put ∙ get_before gs k e d c.requires in
    let a = c.split_off_half.new.self in
    let b = c.in_ok-high.high in
    let n = max_grouped_length gs in
    let m = ap (λ l. max_grouped_length (set (set l k a) (k + 1) b)) put in
    let none = ap (λ b. max_chunk_length (items_of b)) c.new-2.ensures ∙ ap max_chunk_length c.new.ensures.items in
    let was = ap (λ x. max_chunk_length (group_chunks x)) is in
    let w = grouped_at gs k d c.requires in
    let l = grouped_halves gs k a b e n (omega arith) (omega (arith, c.in_ok-high.ensures.bound, was, w)) (omega (arith, c.in_ok-high.ensures.upper_bound, was, w)) (omega (arith, none)) in
    omega (arith, m, l)
