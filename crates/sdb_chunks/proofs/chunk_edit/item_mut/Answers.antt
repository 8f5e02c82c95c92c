use Rattle.std.proofs.Common.{refl, ◌≡◌, ◌<◌, map, set, slice_get, get_or, length, ap, sym, ◌∙◌, subst, arith}
use Rattle.std.proofs.Math.ListN.{length-map}
use Rattle.std.proofs.lemmas.List.{map-set}
use Rattle.sdb_chunks.specs.Chunk.{items_of, is_chunk_unique}
use Rattle.sdb_chunks.specs.ChunkedVec.{chunk_models, is_unique_at}
use Rattle.sdb_chunks.specs.Position.{IsItemPosition}
use Rattle.sdb_chunks.proofs.FlattenLemmas.{joined_get, joined_replace, joined_same, among_here, seen_of_mut, cc_false, if_some, borrowed_item}
use Rattle.sdb_chunks.proofs.chunk_edit.item_mut.Goals as goal

pub returns-in-Unique : goal.returns-in-Unique
returns-in-Unique g c =
    let f = g.T.TryClone.model in
    let bs = c.args.chunks.now.items in
    let k = c.in_ok-at.at in
    let i = c.in_ok-at.inside in
    let d = c.in_ok-items.field-0.now in
    let xs = c.in-Unique.items.items in
    let at = subst (λ l. IsItemPosition (chunk_models f) l c.args.index k i) c.deref.ensures.value c.in_ok-at.ensures.item in
    let is : d ≡ get_or bs k d = c.in_ok-items.ensures.value in
    let here : map f xs ≡ chunk_models f (get_or bs k d) = ap (chunk_models f) (sym c.in-Unique.is ∙ is) in
    let e = c.get_mut-in-Unique.ensures.item in (
      (
        refl,
        λ w. rw c.in-Unique.is (if_some c.get_mut-in-Unique.result (joined_replace (chunk_models f) bs c.args.index k i (f w) _ d at (map-set f xs i w ∙ ap (λ l. set l i (f w)) here))),
        rw c.in-Unique.is (joined_same (chunk_models f) bs k _ d at.index_in_range here),
      ),
      let same = seen_of_mut f c.get_mut-in-Unique.result _ i e.0 e.1
          ∙ rw c.in-Unique.is refl ∙ ap (λ l. slice_get l i) here ∙ joined_get (chunk_models f) bs c.args.index k i d at in
          record { writes_back = tt; item = borrowed_item f c.get_mut-in-Unique.result _ same; value = λ _. same },
    )

pub returns-in-Shared : goal.returns-in-Shared
returns-in-Shared g c =
    let f = g.T.TryClone.model in
    let bs = c.args.chunks.now.items in
    let k = c.in_ok-at.at in
    let i = c.in_ok-at.inside in
    let d = c.in_ok-items.field-0.now in
    let at = subst (λ l. IsItemPosition (chunk_models f) l c.args.index k i) c.deref.ensures.value c.in_ok-at.ensures.item in
    let is : d ≡ get_or bs k d = c.in_ok-items.ensures.value in
    let within : i < length (items_of (get_or bs k d)) = omega (arith, at.within d, length-map (items_of (get_or bs k d)) f) in (
      (refl, λ w. tt, joined_same (chunk_models f) bs k d d at.index_in_range (ap (chunk_models f) is)),
      record {
        writes_back = tt;
        item = tt;
        value = λ t. absurd (cc_false (is_unique_at bs c.args.index) t
            (among_here f bs c.args.index k i d at.index_in_range at.offset_is_sum within ∙ ap is_chunk_unique (sym is ∙ c.in-Shared.is)));
      },
    )
