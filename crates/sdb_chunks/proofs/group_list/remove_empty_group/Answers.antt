use Rattle.std.proofs.Common.{◌≡◌, [], ap, sym, ◌∙◌, arith}
use Rattle.sdb_chunks.specs.ChunkGroup.{group_chunks, group_models, flatten_group_models, max_grouped_length}
use Rattle.sdb_chunks.specs.ChunkedVec.{flatten_models}
use Rattle.sdb_chunks.proofs.FlattenLemmas.{joined_without}
use Rattle.sdb_chunks.proofs.GroupLemmas.{no_items}
use Rattle.sdb_chunks.proofs.ChunkBounds.{grouped_remove}
use Rattle.sdb_chunks.proofs.group_list.remove_empty_group.Goals as goal

pub returns-then-chunks-eq0-clause-unchanged : goal.returns-then-chunks-eq0-clause-unchanged
returns-then-chunks-eq0-clause-unchanged g c =
    let f = g.T.TryClone.model in
    let d = c.index.result.now in
    let none : group_chunks d ≡ [] = sym c.chunks.ensures ∙ no_items c.chunks.result.now (c.if-chunks-eq0.true) in
    ap (flatten_group_models f) c.remove.ensures.items
    ∙ joined_without (group_models f) c.args.groups.now.items c.args.at d c.requires (ap (group_models f) (sym c.index.ensures) ∙ ap (flatten_models f) none)

pub returns-then-chunks-eq0-clause-bound : goal.returns-then-chunks-eq0-clause-bound
returns-then-chunks-eq0-clause-bound g c =
    let e = ap max_grouped_length c.remove.ensures.items in
    let l = grouped_remove c.args.groups.now.items c.args.at in
    omega (arith, e, l)
