use Rattle.std.proofs.Common.{◌≡◌, ◌<◌, map, get_or, ap, sym, ◌∙◌, subst, length, arith, ◌+◌, max}
use Rattle.std.proofs.Math.ListN.{length-map}
use Rattle.std.specs.List.{insert}
use Rattle.std.proofs.lemmas.Bool.{le-leb}
use Rattle.sdb_chunks.specs.Chunk.{items_of}
use Rattle.sdb_chunks.specs.ChunkedVec.{chunk_models, flatten_models}
use Rattle.sdb_chunks.specs.Position.{IsInsertPosition}
use Rattle.sdb_chunks.proofs.FlattenLemmas.{joined_insert, joined_same, place_within, unique_changed, among_set, put_inside, on_err}
use Rattle.sdb_chunks.specs.Chunks.{max_chunk_length, insert_chunk_index, chunk_length_at}
use Rattle.sdb_chunks.proofs.ChunkBounds.{items_here, longest_set}
use Rattle.sdb_chunks.proofs.chunk_edit.insert_in_chunk.Goals as goal

pub returns-in_err-chunk_insert-in-Some-clause-err : goal.returns-in_err-chunk_insert-in-Some-clause-err
returns-in_err-chunk_insert-in-Some-clause-err g c =
    let f = g.T.TryClone.model in
    let bs = c.args.chunks.now.items in
    let k = c.in-Some.at in
    let d = c.index_mut.result.now in
    let at = subst (λ l. IsInsertPosition (chunk_models f) l c.args.index k c.in-Some.inside) c.deref.ensures.value c.in-Some.ensures.position in
    on_err c.from_residual.result (joined_same (chunk_models f) bs k c.chunk_insert.new.chunk d at.index_in_range (c.in_err-chunk_insert-in-Some.ensures.err ∙ ap (chunk_models f) c.index_mut.ensures.value))

pub returns-in_err-chunk_insert-in-Some-clause-unique : goal.returns-in_err-chunk_insert-in-Some-clause-unique
returns-in_err-chunk_insert-in-Some-clause-unique g c =
    let f = g.T.TryClone.model in
    let bs = c.args.chunks.now.items in
    let k = c.in-Some.at in
    let d = c.index_mut.result.now in
    let at = subst (λ l. IsInsertPosition (chunk_models f) l c.args.index k c.in-Some.inside) c.deref.ensures.value c.in-Some.ensures.position in
    unique_changed bs k c.chunk_insert.new.chunk d at.index_in_range c.index_mut.ensures.value c.in_err-chunk_insert-in-Some.ensures.unique

pub returns-in_ok-chunk_insert-in-Some-clause-ok : goal.returns-in_ok-chunk_insert-in-Some-clause-ok
returns-in_ok-chunk_insert-in-Some-clause-ok g c =
    let f = g.T.TryClone.model in
    let bs = c.args.chunks.now.items in
    let k = c.in-Some.at in
    let d = c.index_mut.result.now in
    let at = subst (λ l. IsInsertPosition (chunk_models f) l c.args.index k c.in-Some.inside) c.deref.ensures.value c.in-Some.ensures.position in
    joined_insert (chunk_models f) bs c.args.index k c.in-Some.inside (f c.args.item) c.chunk_insert.new.chunk d at
    (c.in_ok-chunk_insert-in-Some.ensures.ok ∙ ap (λ b. insert (chunk_models f b) c.in-Some.inside (f c.args.item)) c.index_mut.ensures.value)

pub returns-in_ok-chunk_insert-in-Some-clause-in_range : goal.returns-in_ok-chunk_insert-in-Some-clause-in_range
returns-in_ok-chunk_insert-in-Some-clause-in_range g c =
    let f = g.T.TryClone.model in
    let bs = c.args.chunks.now.items in
    let k = c.in-Some.at in
    let d = c.index_mut.result.now in
    let at = subst (λ l. IsInsertPosition (chunk_models f) l c.args.index k c.in-Some.inside) c.deref.ensures.value c.in-Some.ensures.position in
    sym (le-leb c.args.index (length (flatten_models f bs)) (place_within (chunk_models f) bs c.args.index k c.in-Some.inside d at))

pub returns-in_ok-chunk_insert-in-Some-clause-unique : goal.returns-in_ok-chunk_insert-in-Some-clause-unique
returns-in_ok-chunk_insert-in-Some-clause-unique g c =
    let f = g.T.TryClone.model in
    let bs = c.args.chunks.now.items in
    let k = c.in-Some.at in
    let d = c.index_mut.result.now in
    let at = subst (λ l. IsInsertPosition (chunk_models f) l c.args.index k c.in-Some.inside) c.deref.ensures.value c.in-Some.ensures.position in
    unique_changed bs k c.chunk_insert.new.chunk d at.index_in_range c.index_mut.ensures.value c.in_ok-chunk_insert-in-Some.ensures.unique

pub returns-in_ok-chunk_insert-in-Some-clause-unique_after : goal.returns-in_ok-chunk_insert-in-Some-clause-unique_after
returns-in_ok-chunk_insert-in-Some-clause-unique_after g c =
    let f = g.T.TryClone.model in
    let bs = c.args.chunks.now.items in
    let k = c.in-Some.at in
    let i = c.in-Some.inside in
    let d = c.index_mut.result.now in
    let a = c.chunk_insert.new.chunk in
    let at = subst (λ l. IsInsertPosition (chunk_models f) l c.args.index k i) c.deref.ensures.value c.in-Some.ensures.position in
    let was : d ≡ get_or bs k d = c.index_mut.ensures.value in
    let put : map f (items_of a) ≡ insert (map f (items_of (get_or bs k d))) i (f c.args.item) =
    c.in_ok-chunk_insert-in-Some.ensures.ok ∙ ap (λ b. insert (map f (items_of b)) i (f c.args.item)) was in
    let more = put_inside (map f (items_of (get_or bs k d))) i (f c.args.item) (at.within d) in
    let within : i < length (items_of a) = omega (arith, more, ap length put, length-map (items_of a) f) in
    λ _. among_set f bs c.args.index k i a at.index_in_range at.offset_is_sum within ∙ c.in_ok-chunk_insert-in-Some.ensures.unique_after

pub returns-in_err-chunk_insert-in-Some-clause-bound : goal.returns-in_err-chunk_insert-in-Some-clause-bound
returns-in_err-chunk_insert-in-Some-clause-bound g c =
    let f = g.T.TryClone.model in
    let bs = c.args.chunks.now.items in
    let k = c.in-Some.at in
    let d = c.index_mut.result.now in
    let at = subst (λ l. IsInsertPosition (chunk_models f) l c.args.index k c.in-Some.inside) c.deref.ensures.value c.in-Some.ensures.position in
    let first = subst (λ l. k ≡ insert_chunk_index l c.args.index) c.deref.ensures.value c.in-Some.ensures.first in
    let here = items_here bs c.args.index k d at.index_in_range first in
    let was = ap (λ b. length (items_of b)) c.index_mut.ensures.value in
    longest_set bs k c.chunk_insert.new.chunk (max (chunk_length_at bs c.args.index + 1) (max_chunk_length bs)) (omega arith) (omega (arith, here, was, c.in_err-chunk_insert-in-Some.ensures.bound))

pub returns-in_ok-chunk_insert-in-Some-clause-bound : goal.returns-in_ok-chunk_insert-in-Some-clause-bound
returns-in_ok-chunk_insert-in-Some-clause-bound g c =
    let f = g.T.TryClone.model in
    let bs = c.args.chunks.now.items in
    let k = c.in-Some.at in
    let d = c.index_mut.result.now in
    let at = subst (λ l. IsInsertPosition (chunk_models f) l c.args.index k c.in-Some.inside) c.deref.ensures.value c.in-Some.ensures.position in
    let first = subst (λ l. k ≡ insert_chunk_index l c.args.index) c.deref.ensures.value c.in-Some.ensures.first in
    let here = items_here bs c.args.index k d at.index_in_range first in
    let was = ap (λ b. length (items_of b)) c.index_mut.ensures.value in
    longest_set bs k c.chunk_insert.new.chunk (max (chunk_length_at bs c.args.index + 1) (max_chunk_length bs)) (omega arith) (omega (arith, here, was, c.in_ok-chunk_insert-in-Some.ensures.bound))
