use Rattle.std.proofs.Common.{◌≡◌, map, ap, sym, ◌∙◌}
use Rattle.std.specs.List.{remove}
use Rattle.sdb_chunks.specs.Chunk.{items_of}
use Rattle.sdb_chunks.proofs.FlattenLemmas.{map_remove}
use Rattle.sdb_chunks.proofs.chunk_edit.chunk_remove.Goals as goal

pub returns-in-Unique-clause-ok : goal.returns-in-Unique-clause-ok
returns-in-Unique-clause-ok g c =
    let f = g.T.TryClone.model in
    let new = c.in-Unique.items.items in
    let e : map f new ≡ map f (items_of c.args.chunk.now) = ap (λ b. map f (items_of b)) (sym c.in-Unique.is) ∙ c.in_ok-make_unique.ensures.unchanged in
    ap (map f) c.remove.ensures.items ∙ map_remove f new c.args.index ∙ ap (λ l. remove l c.args.index) e
