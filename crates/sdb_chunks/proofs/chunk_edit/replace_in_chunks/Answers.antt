use Rattle.std.proofs.Common.{◌≡◌, ◌<◌, set, get_or, slice_get, map, length, length-set, ap, sym, ◌∙◌, subst, arith}
use Rattle.std.proofs.Math.ListN.{length-map}
use Rattle.sdb_chunks.specs.Chunk.{items_of, is_chunk_unique}
use Rattle.sdb_chunks.specs.ChunkedVec.{chunk_models}
use Rattle.sdb_chunks.specs.Position.{IsItemPosition}
use Rattle.sdb_chunks.proofs.FlattenLemmas.{joined_replace, joined_same, joined_get, unique_changed, among_here, among_set, on_err, if_some}
use Rattle.sdb_chunks.proofs.ChunkBounds.{longest_unchanged}
use Rattle.sdb_chunks.proofs.chunk_edit.replace_in_chunks.Goals as goal

pub returns-in_err-old-clause-err : goal.returns-in_err-old-clause-err
returns-in_err-old-clause-err g c =
    let f = g.T.TryClone.model in
    let bs = c.args.chunks.now.items in
    let k = c.in-Some.at in
    let d = c.index_mut.result.now in
    let at = subst (λ l. IsItemPosition (chunk_models f) l c.args.index k c.in-Some.inside) c.deref.ensures.value c.in-Some.ensures.item in
    on_err c.from_residual.result (joined_same (chunk_models f) bs k c.chunk_replace.new.chunk d at.index_in_range (c.in_err-old.ensures.err ∙ ap (chunk_models f) c.index_mut.ensures.value))

pub returns-in_err-old-clause-unique : goal.returns-in_err-old-clause-unique
returns-in_err-old-clause-unique g c =
    let f = g.T.TryClone.model in
    let bs = c.args.chunks.now.items in
    let k = c.in-Some.at in
    let d = c.index_mut.result.now in
    let at = subst (λ l. IsItemPosition (chunk_models f) l c.args.index k c.in-Some.inside) c.deref.ensures.value c.in-Some.ensures.item in
    unique_changed bs k c.chunk_replace.new.chunk d at.index_in_range c.index_mut.ensures.value c.in_err-old.ensures.unique

pub returns-in_err-old-clause-shared_on_err : goal.returns-in_err-old-clause-shared_on_err
returns-in_err-old-clause-shared_on_err g c =
    let f = g.T.TryClone.model in
    let bs = c.args.chunks.now.items in
    let k = c.in-Some.at in
    let d = c.index_mut.result.now in
    let at = subst (λ l. IsItemPosition (chunk_models f) l c.args.index k c.in-Some.inside) c.deref.ensures.value c.in-Some.ensures.item in
    let within : c.in-Some.inside < length (items_of (get_or bs k d)) = omega (arith, at.within d, length-map (items_of (get_or bs k d)) f) in
    on_err c.from_residual.result (among_here f bs c.args.index k c.in-Some.inside d at.index_in_range at.offset_is_sum within ∙ sym (ap is_chunk_unique c.index_mut.ensures.value) ∙ c.in_err-old.ensures.shared_on_err)

pub returns-clause-item : goal.returns-clause-item
returns-clause-item g c =
    let f = g.T.TryClone.model in
    let bs = c.args.chunks.now.items in
    let k = c.in-Some.at in
    let d = c.index_mut.result.now in
    let at = subst (λ l. IsItemPosition (chunk_models f) l c.args.index k c.in-Some.inside) c.deref.ensures.value c.in-Some.ensures.item in
    c.in_ok-old.ensures.item ∙ ap (λ b. slice_get (chunk_models f b) c.in-Some.inside) c.index_mut.ensures.value ∙ joined_get (chunk_models f) bs c.args.index k c.in-Some.inside d at

pub returns-clause-ok : goal.returns-clause-ok
returns-clause-ok g c =
    let f = g.T.TryClone.model in
    let bs = c.args.chunks.now.items in
    let k = c.in-Some.at in
    let d = c.index_mut.result.now in
    let at = subst (λ l. IsItemPosition (chunk_models f) l c.args.index k c.in-Some.inside) c.deref.ensures.value c.in-Some.ensures.item in
    joined_replace (chunk_models f) bs c.args.index k c.in-Some.inside (f c.args.item) c.chunk_replace.new.chunk d at
    (c.in_ok-old.ensures.ok ∙ ap (λ b. set (chunk_models f b) c.in-Some.inside (f c.args.item)) c.index_mut.ensures.value)

pub returns-clause-unique : goal.returns-clause-unique
returns-clause-unique g c =
    let f = g.T.TryClone.model in
    let bs = c.args.chunks.now.items in
    let k = c.in-Some.at in
    let d = c.index_mut.result.now in
    let at = subst (λ l. IsItemPosition (chunk_models f) l c.args.index k c.in-Some.inside) c.deref.ensures.value c.in-Some.ensures.item in
    unique_changed bs k c.chunk_replace.new.chunk d at.index_in_range c.index_mut.ensures.value c.in_ok-old.ensures.unique

pub returns-clause-unique_after : goal.returns-clause-unique_after
returns-clause-unique_after g c =
    let f = g.T.TryClone.model in
    let bs = c.args.chunks.now.items in
    let k = c.in-Some.at in
    let d = c.index_mut.result.now in
    let a = c.chunk_replace.new.chunk in
    let at = subst (λ l. IsItemPosition (chunk_models f) l c.args.index k c.in-Some.inside) c.deref.ensures.value c.in-Some.ensures.item in
    let was : d ≡ get_or bs k d = c.index_mut.ensures.value in
    let m = ap length c.in_ok-old.ensures.ok ∙ length-set (map f (items_of d)) c.in-Some.inside (f c.args.item) ∙ ap (λ b. length (map f (items_of b))) was in
    let within : c.in-Some.inside < length (items_of a) = omega (arith, at.within d, m, length-map (items_of a) f) in
    if_some c.in_ok-old.old (among_set f bs c.args.index k c.in-Some.inside a at.index_in_range at.offset_is_sum within ∙ c.in_ok-old.ensures.unique_after)

pub returns-in_err-old-clause-bound : goal.returns-in_err-old-clause-bound
returns-in_err-old-clause-bound g c =
    let f = g.T.TryClone.model in
    let bs = c.args.chunks.now.items in
    let k = c.in-Some.at in
    let d = c.index_mut.result.now in
    let at = subst (λ l. IsItemPosition (chunk_models f) l c.args.index k c.in-Some.inside) c.deref.ensures.value c.in-Some.ensures.item in
    longest_unchanged bs k c.chunk_replace.new.chunk d at.index_in_range c.index_mut.ensures.value c.in_err-old.ensures.bound

pub returns-clause-bound : goal.returns-clause-bound
returns-clause-bound g c =
    let f = g.T.TryClone.model in
    let bs = c.args.chunks.now.items in
    let k = c.in-Some.at in
    let d = c.index_mut.result.now in
    let at = subst (λ l. IsItemPosition (chunk_models f) l c.args.index k c.in-Some.inside) c.deref.ensures.value c.in-Some.ensures.item in
    longest_unchanged bs k c.chunk_replace.new.chunk d at.index_in_range c.index_mut.ensures.value c.in_ok-old.ensures.bound
