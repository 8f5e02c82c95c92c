use Rattle.std.proofs.Common.{◌≡◌, ◌<◌, get_or, ap, sym, ◌∙◌, subst, length, arith}
use Rattle.std.specs.List.{insert}
use Rattle.std.proofs.lemmas.Bool.{le-leb}
use Rattle.sdb_chunks.specs.ChunkGroup.{group_models, flatten_group_models}
use Rattle.sdb_chunks.specs.Position.{IsInsertPosition}
use Rattle.sdb_chunks.proofs.FlattenLemmas.{joined_insert, joined_same, place_within, put_inside, on_err}
use Rattle.sdb_chunks.proofs.GroupLemmas.{grouped_set}
use Rattle.sdb_chunks.proofs.ChunkBounds.{grouped_unchanged}
use Rattle.sdb_chunks.proofs.group_list.insert_in_group_at.Goals as goal

pub returns-in_err-insert-in-Some-clause-err : goal.returns-in_err-insert-in-Some-clause-err
returns-in_err-insert-in-Some-clause-err g c =
    let f = g.T.TryClone.model in
    let s = group_models f in
    let gs = c.args.groups.now.items in
    let k = c.in-Some.at in
    let i = c.in-Some.inside in
    let d = c.index_mut.result.now in
    let was : d ≡ get_or gs k d = c.index_mut.ensures.value in
    let at = subst (λ l. IsInsertPosition s l c.args.index k i) c.deref.ensures.value c.in-Some.ensures.position in
    on_err c.from_residual.result (joined_same s gs k c.insert.new.self d at.index_in_range (c.in_err-insert-in-Some.ensures.err ∙ ap s was))

pub returns-in_ok-insert-in-Some-clause-ok : goal.returns-in_ok-insert-in-Some-clause-ok
returns-in_ok-insert-in-Some-clause-ok g c =
    let f = g.T.TryClone.model in
    let s = group_models f in
    let gs = c.args.groups.now.items in
    let k = c.in-Some.at in
    let i = c.in-Some.inside in
    let d = c.index_mut.result.now in
    let was : d ≡ get_or gs k d = c.index_mut.ensures.value in
    let at = subst (λ l. IsInsertPosition s l c.args.index k i) c.deref.ensures.value c.in-Some.ensures.position in
    joined_insert s gs c.args.index k i (f c.args.item) c.insert.new.self d at (c.in_ok-insert-in-Some.ensures.ok ∙ ap (λ b. insert (s b) i (f c.args.item)) was)

pub returns-in_ok-insert-in-Some-clause-in_range : goal.returns-in_ok-insert-in-Some-clause-in_range
returns-in_ok-insert-in-Some-clause-in_range g c =
    let f = g.T.TryClone.model in
    let s = group_models f in
    let gs = c.args.groups.now.items in
    let k = c.in-Some.at in
    let i = c.in-Some.inside in
    let d = c.index_mut.result.now in
    let was : d ≡ get_or gs k d = c.index_mut.ensures.value in
    let at = subst (λ l. IsInsertPosition s l c.args.index k i) c.deref.ensures.value c.in-Some.ensures.position in
    sym (le-leb c.args.index (length (flatten_group_models f gs)) (place_within s gs c.args.index k i d at))

pub returns-in_ok-insert-in-Some-clause-unique_after : goal.returns-in_ok-insert-in-Some-clause-unique_after
returns-in_ok-insert-in-Some-clause-unique_after g c =
    let f = g.T.TryClone.model in
    let s = group_models f in
    let gs = c.args.groups.now.items in
    let k = c.in-Some.at in
    let i = c.in-Some.inside in
    let d = c.index_mut.result.now in
    let was : d ≡ get_or gs k d = c.index_mut.ensures.value in
    let at = subst (λ l. IsInsertPosition s l c.args.index k i) c.deref.ensures.value c.in-Some.ensures.position in
    let a = c.insert.new.self in
    let put : s a ≡ insert (s (get_or gs k d)) i (f c.args.item) = c.in_ok-insert-in-Some.ensures.ok ∙ ap (λ b. insert (s b) i (f c.args.item)) was in
    let more = put_inside (s (get_or gs k d)) i (f c.args.item) (at.within d) in
    let within : i < length (s a) = omega (arith, more, ap length put) in
    λ _. grouped_set f gs c.args.index k i a at.index_in_range at.offset_is_sum within ∙ c.in_ok-insert-in-Some.ensures.unique_after

pub returns-in_err-insert-in-Some-clause-bound : goal.returns-in_err-insert-in-Some-clause-bound
returns-in_err-insert-in-Some-clause-bound g c =
    let s = group_models g.T.TryClone.model in
    let gs = c.args.groups.now.items in
    let k = c.in-Some.at in
    let d = c.index_mut.result.now in
    let at = subst (λ l. IsInsertPosition s l c.args.index k c.in-Some.inside) c.deref.ensures.value c.in-Some.ensures.position in
    let l = grouped_unchanged gs k c.insert.new.self d 20 at.index_in_range c.index_mut.ensures.value (omega (arith, c.in_err-insert-in-Some.ensures.bound)) in
    omega (arith, l)

pub returns-in_ok-insert-in-Some-clause-bound : goal.returns-in_ok-insert-in-Some-clause-bound
returns-in_ok-insert-in-Some-clause-bound g c =
    let s = group_models g.T.TryClone.model in
    let gs = c.args.groups.now.items in
    let k = c.in-Some.at in
    let d = c.index_mut.result.now in
    let at = subst (λ l. IsInsertPosition s l c.args.index k c.in-Some.inside) c.deref.ensures.value c.in-Some.ensures.position in
    let l = grouped_unchanged gs k c.insert.new.self d 20 at.index_in_range c.index_mut.ensures.value (omega (arith, c.in_ok-insert-in-Some.ensures.bound)) in
    omega (arith, l)
