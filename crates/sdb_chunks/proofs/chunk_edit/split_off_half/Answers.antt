use Rattle.std.proofs.Common.{◌≡◌, map, take, drop, ◌/◌, ap, sym, ◌∙◌}
use Rattle.sdb_chunks.specs.Chunk.{items_of}
use Rattle.sdb_chunks.proofs.FlattenLemmas.{map_take, map_drop}
use Rattle.sdb_chunks.proofs.chunk_edit.split_off_half.Goals as goal

pub returns-in_ok-split_off-in-Unique-clause-lower_half : goal.returns-in_ok-split_off-in-Unique-clause-lower_half
returns-in_ok-split_off-in-Unique-clause-lower_half g c =
    let f = g.T.TryClone.model in
    let new = c.in-Unique.items.items in
    let m = c.len-middle.result / 2 in
    let e : map f new ≡ map f (items_of c.args.chunk.now) = ap (λ b. map f (items_of b)) (sym c.in-Unique.is) ∙ c.in_ok-make_unique.ensures.unchanged in
    ap (map f) c.in_ok-split_off-in-Unique.ensures.items ∙ map_take f new m ∙ ap (take m) e
    ∙ ap (λ n. take (n / 2) (map f (items_of c.args.chunk.now))) c.len-middle.ensures

pub returns-in_ok-split_off-in-Unique-clause-upper_half : goal.returns-in_ok-split_off-in-Unique-clause-upper_half
returns-in_ok-split_off-in-Unique-clause-upper_half g c =
    let f = g.T.TryClone.model in
    let new = c.in-Unique.items.items in
    let m = c.len-middle.result / 2 in
    let e : map f new ≡ map f (items_of c.args.chunk.now) = ap (λ b. map f (items_of b)) (sym c.in-Unique.is) ∙ c.in_ok-make_unique.ensures.unchanged in
    ap (map f) c.in_ok-split_off-in-Unique.ensures.tail ∙ map_drop f new m ∙ ap (drop m) e
    ∙ ap (λ n. drop (n / 2) (map f (items_of c.args.chunk.now))) c.len-middle.ensures
