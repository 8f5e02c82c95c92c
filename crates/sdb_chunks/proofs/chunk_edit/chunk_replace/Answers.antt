use Rattle.std.proofs.Common.{◌≡◌, map, set, ap, sym, ◌∙◌}
use Rattle.sdb_chunks.specs.Chunk.{items_of}
use Rattle.sdb_chunks.proofs.FlattenLemmas.{map_set}
use Rattle.sdb_chunks.proofs.chunk_edit.chunk_replace.Goals as goal

pub returns-in-Unique-clause-ok : goal.returns-in-Unique-clause-ok
returns-in-Unique-clause-ok g c =
    let f = g.T.TryClone.model in
    let new = c.in-Unique.items.items in
    let e : map f new ≡ map f (items_of c.args.chunk.now) = ap (λ b. map f (items_of b)) (sym c.in-Unique.is) ∙ c.in_ok-make_unique.ensures.unchanged in
    ap (λ x. map f (set new c.args.index x)) c.replace.ensures.after ∙ map_set f new c.args.index c.args.item ∙ ap (λ l. set l c.args.index (f c.args.item)) e
