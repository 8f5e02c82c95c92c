use Rattle.std.proofs.Common.{◌++◌, map, ap, sym, ◌∙◌}
use Rattle.sdb_chunks.specs.laws.ChunkLaws.{vec_models_of_items}
use Rattle.sdb_chunks.proofs.FlattenLemmas.{append_none}
use Rattle.sdb_chunks.proofs.chunked_vec.clone_flat.Goals as goal

pub returns : goal.returns
returns g c =
    let f = g.T.TryClone.model in
    let xs = map f c.loop-item.items.items in
    sym (append_none xs) ∙ ap (λ l. xs ++ map f l) (sym c.in-None.ensures.steps.0) ∙ c.loop-item.invariant ∙ sym (vec_models_of_items f c.args.list.now)
