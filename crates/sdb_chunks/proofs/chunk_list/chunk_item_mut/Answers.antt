use Rattle.std.proofs.Common.{refl, ◌≡◌, map, slice_get, ap, sym, ◌∙◌}
use Rattle.std.proofs.lemmas.List.{map-set}
use Rattle.sdb_chunks.specs.Chunk.{items_of}
use Rattle.sdb_chunks.proofs.FlattenLemmas.{seen_of_mut, if_some, borrowed_item}
use Rattle.sdb_chunks.proofs.chunk_list.chunk_item_mut.Goals as goal

pub returns-in-Unique : goal.returns-in-Unique
returns-in-Unique g c =
    let f = g.T.TryClone.model in
    let i = c.args.index in
    let xs = c.in-Unique.items.items in
    let here : map f xs ≡ map f (items_of c.args.chunk.now) = ap (λ b. map f (items_of b)) (sym c.in-Unique.is) in
    let e = c.get_mut.ensures.item in (
      (refl, λ w. rw c.in-Unique.is (if_some c.get_mut.result (map-set f xs i w)), rw c.in-Unique.is refl),
      let same = seen_of_mut f c.get_mut.result _ i e.0 e.1 ∙ rw c.in-Unique.is refl ∙ ap (λ l. slice_get l i) here in
          record { writes_back = tt; item = borrowed_item f c.get_mut.result _ same; value = λ _. same },
    )
