use Rattle.std.proofs.Common.{◌<◌, slice_get, get_or, length, ap, sym, ◌∙◌, subst, arith}
use Rattle.std.proofs.Math.ListN.{length-map}
use Rattle.std.specs.List.{remove}
use Rattle.sdb_chunks.specs.Chunk.{items_of, is_chunk_unique}
use Rattle.sdb_chunks.specs.ChunkedVec.{chunk_models}
use Rattle.sdb_chunks.specs.Position.{IsItemPosition}
use Rattle.sdb_chunks.proofs.FlattenLemmas.{joined_remove, joined_same, joined_get, unique_changed, shared_at, among_here, on_err}
use Rattle.sdb_chunks.proofs.ChunkBounds.{longest_unchanged}
use Rattle.sdb_chunks.proofs.chunk_edit.remove_from_chunks.Goals as goal

pub returns-in_err-item-clause-err : goal.returns-in_err-item-clause-err
returns-in_err-item-clause-err g c =
    let f = g.T.TryClone.model in
    let bs = c.args.chunks.now.items in
    let k = c.in-Some.at in
    let d = c.index_mut.result.now in
    let at = subst (λ l. IsItemPosition (chunk_models f) l c.args.index k c.in-Some.inside) c.deref.ensures.value c.in-Some.ensures.item in
    on_err c.from_residual.result (joined_same (chunk_models f) bs k c.chunk_remove.new.chunk d at.index_in_range (c.in_err-item.ensures.err ∙ ap (chunk_models f) c.index_mut.ensures.value))

pub returns-in_err-item-clause-unique : goal.returns-in_err-item-clause-unique
returns-in_err-item-clause-unique g c =
    let f = g.T.TryClone.model in
    let bs = c.args.chunks.now.items in
    let k = c.in-Some.at in
    let d = c.index_mut.result.now in
    let at = subst (λ l. IsItemPosition (chunk_models f) l c.args.index k c.in-Some.inside) c.deref.ensures.value c.in-Some.ensures.item in
    unique_changed bs k c.chunk_remove.new.chunk d at.index_in_range c.index_mut.ensures.value c.in_err-item.ensures.unique

pub returns-in_err-item-clause-shared_on_err : goal.returns-in_err-item-clause-shared_on_err
returns-in_err-item-clause-shared_on_err g c =
    let f = g.T.TryClone.model in
    let bs = c.args.chunks.now.items in
    let k = c.in-Some.at in
    let d = c.index_mut.result.now in
    let at = subst (λ l. IsItemPosition (chunk_models f) l c.args.index k c.in-Some.inside) c.deref.ensures.value c.in-Some.ensures.item in
    on_err c.from_residual.result (shared_at bs k d at.index_in_range (sym (ap is_chunk_unique c.index_mut.ensures.value) ∙ c.in_err-item.ensures.shared_on_err))

pub returns-clause-item : goal.returns-clause-item
returns-clause-item g c =
    let f = g.T.TryClone.model in
    let bs = c.args.chunks.now.items in
    let k = c.in-Some.at in
    let d = c.index_mut.result.now in
    let at = subst (λ l. IsItemPosition (chunk_models f) l c.args.index k c.in-Some.inside) c.deref.ensures.value c.in-Some.ensures.item in
    c.in_ok-item.ensures.item ∙ ap (λ b. slice_get (chunk_models f b) c.in-Some.inside) c.index_mut.ensures.value ∙ joined_get (chunk_models f) bs c.args.index k c.in-Some.inside d at

pub returns-clause-ok : goal.returns-clause-ok
returns-clause-ok g c =
    let f = g.T.TryClone.model in
    let bs = c.args.chunks.now.items in
    let k = c.in-Some.at in
    let d = c.index_mut.result.now in
    let at = subst (λ l. IsItemPosition (chunk_models f) l c.args.index k c.in-Some.inside) c.deref.ensures.value c.in-Some.ensures.item in
    c.remove_empty_chunk.ensures.unchanged ∙ joined_remove (chunk_models f) bs c.args.index k c.in-Some.inside c.chunk_remove.new.chunk d at
    (c.in_ok-item.ensures.ok ∙ ap (λ b. remove (chunk_models f b) c.in-Some.inside) c.index_mut.ensures.value)

pub returns-clause-unique : goal.returns-clause-unique
returns-clause-unique g c =
    let f = g.T.TryClone.model in
    let bs = c.args.chunks.now.items in
    let k = c.in-Some.at in
    let d = c.index_mut.result.now in
    let at = subst (λ l. IsItemPosition (chunk_models f) l c.args.index k c.in-Some.inside) c.deref.ensures.value c.in-Some.ensures.item in
    λ all. c.remove_empty_chunk.ensures.unique (unique_changed bs k c.chunk_remove.new.chunk d at.index_in_range c.index_mut.ensures.value c.in_ok-item.ensures.unique all)

pub returns-in_err-item-clause-item_shared_on_err : goal.returns-in_err-item-clause-item_shared_on_err
returns-in_err-item-clause-item_shared_on_err g c =
    let f = g.T.TryClone.model in
    let bs = c.args.chunks.now.items in
    let k = c.in-Some.at in
    let d = c.index_mut.result.now in
    let at = subst (λ l. IsItemPosition (chunk_models f) l c.args.index k c.in-Some.inside) c.deref.ensures.value c.in-Some.ensures.item in
    let within : c.in-Some.inside < length (items_of (get_or bs k d)) = omega (arith, at.within d, length-map (items_of (get_or bs k d)) f) in
    on_err c.from_residual.result (among_here f bs c.args.index k c.in-Some.inside d at.index_in_range at.offset_is_sum within ∙ sym (ap is_chunk_unique c.index_mut.ensures.value) ∙ c.in_err-item.ensures.shared_on_err)

pub returns-in_err-item-clause-bound : goal.returns-in_err-item-clause-bound
returns-in_err-item-clause-bound g c =
    let f = g.T.TryClone.model in
    let bs = c.args.chunks.now.items in
    let k = c.in-Some.at in
    let d = c.index_mut.result.now in
    let at = subst (λ l. IsItemPosition (chunk_models f) l c.args.index k c.in-Some.inside) c.deref.ensures.value c.in-Some.ensures.item in
    longest_unchanged bs k c.chunk_remove.new.chunk d at.index_in_range c.index_mut.ensures.value c.in_err-item.ensures.bound

pub returns-clause-bound : goal.returns-clause-bound
returns-clause-bound g c =
    let f = g.T.TryClone.model in
    let bs = c.args.chunks.now.items in
    let k = c.in-Some.at in
    let d = c.index_mut.result.now in
    let at = subst (λ l. IsItemPosition (chunk_models f) l c.args.index k c.in-Some.inside) c.deref.ensures.value c.in-Some.ensures.item in
    let l = longest_unchanged bs k c.chunk_remove.new.chunk d at.index_in_range c.index_mut.ensures.value c.in_ok-item.ensures.bound in
    omega (arith, l, c.remove_empty_chunk.ensures.bound)
