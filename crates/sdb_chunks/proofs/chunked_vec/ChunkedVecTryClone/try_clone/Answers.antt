use Rattle.std.proofs.Common.{◌≡◌, false, ap, sym, ◌∙◌}
use Rattle.sdb_chunks.specs.Chunk.{items_of}
use Rattle.sdb_chunks.specs.ChunkGroup.{flatten_group_models}
use Rattle.sdb_chunks.specs.ChunkedVec.{repr_models, is_unique_repr}
use Rattle.sdb_chunks.proofs.FlattenLemmas.{many_alike}
use Rattle.sdb_chunks.proofs.GroupLemmas.{groups_alike}
use Rattle.sdb_chunks.proofs.chunked_vec.ChunkedVecTryClone.try_clone.Goals as goal

pub returns-in_ok-try_clone-in-Chunks : goal.returns-in_ok-try_clone-in-Chunks
returns-in_ok-try_clone-in-Chunks g c =
    let f = g.T.TryClone.model in
    many_alike f _ _ c.in_ok-try_clone-in-Chunks.ensures ∙ sym (ap (λ w. (repr_models f w, is_unique_repr w)) c.in-Chunks.is)

pub returns-in_ok-try_clone-in-Groups : goal.returns-in_ok-try_clone-in-Groups
returns-in_ok-try_clone-in-Groups g c =
    let f = g.T.TryClone.model in
    let same : flatten_group_models f (items_of c.in_ok-try_clone-in-Groups.field-0) ≡ flatten_group_models f (items_of c.in-Groups.groups) =
    groups_alike f _ _ (ap (λ p. p.0) c.in_ok-try_clone-in-Groups.ensures) in
    ap (λ l. (l, false)) same ∙ sym (ap (λ w. (repr_models f w, is_unique_repr w)) c.in-Groups.is)
