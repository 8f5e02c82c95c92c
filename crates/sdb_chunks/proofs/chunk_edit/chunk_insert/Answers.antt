use Rattle.std.proofs.Common.{◌≡◌, map, ap, sym, ◌∙◌}
use Rattle.std.specs.List.{insert}
use Rattle.sdb_chunks.specs.Chunk.{items_of}
use Rattle.sdb_chunks.proofs.FlattenLemmas.{map_insert}
use Rattle.sdb_chunks.proofs.chunk_edit.chunk_insert.Goals as goal

pub returns-in_ok-insert-clause-ok : goal.returns-in_ok-insert-clause-ok
returns-in_ok-insert-clause-ok g c =
    let f = g.T.TryClone.model in
    let new = c.in-Unique.items.items in
    let e : map f new ≡ map f (items_of c.args.chunk.now) = ap (λ b. map f (items_of b)) (sym c.in-Unique.is) ∙ c.in_ok-make_unique_with_capacity.ensures.unchanged in
    ap (map f) c.in_ok-insert.ensures.items ∙ map_insert f new c.args.index c.args.item ∙ ap (λ l. insert l c.args.index (f c.args.item)) e
