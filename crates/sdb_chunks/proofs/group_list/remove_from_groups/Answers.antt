use Rattle.std.proofs.Common.{◌≡◌, slice_get, get_or, ap, sym, ◌∙◌, subst, arith}
use Rattle.std.specs.List.{remove}
use Rattle.sdb_chunks.specs.ChunkGroup.{group_models, is_unique_group_at}
use Rattle.sdb_chunks.specs.Position.{IsItemPosition}
use Rattle.sdb_chunks.proofs.FlattenLemmas.{joined_remove, joined_same, joined_get, on_err}
use Rattle.sdb_chunks.proofs.GroupLemmas.{grouped_here}
use Rattle.sdb_chunks.proofs.ChunkBounds.{grouped_unchanged}
use Rattle.sdb_chunks.proofs.group_list.remove_from_groups.Goals as goal

pub returns-in_err-item-clause-err : goal.returns-in_err-item-clause-err
returns-in_err-item-clause-err g c =
    let f = g.T.TryClone.model in
    let s = group_models f in
    let gs = c.args.groups.now.items in
    let k = c.in-Some.at in
    let i = c.in-Some.inside in
    let d = c.index_mut.result.now in
    let was : d ≡ get_or gs k d = c.index_mut.ensures.value in
    let at = subst (λ l. IsItemPosition s l c.args.index k i) c.deref.ensures.value c.in-Some.ensures.item in
    on_err c.from_residual.result (joined_same s gs k c.remove.new.self d at.index_in_range (c.in_err-item.ensures.err ∙ ap s was))

pub returns-in_err-item-clause-shared_on_err : goal.returns-in_err-item-clause-shared_on_err
returns-in_err-item-clause-shared_on_err g c =
    let f = g.T.TryClone.model in
    let s = group_models f in
    let gs = c.args.groups.now.items in
    let k = c.in-Some.at in
    let i = c.in-Some.inside in
    let d = c.index_mut.result.now in
    let was : d ≡ get_or gs k d = c.index_mut.ensures.value in
    let at = subst (λ l. IsItemPosition s l c.args.index k i) c.deref.ensures.value c.in-Some.ensures.item in
    on_err c.from_residual.result (grouped_here f gs c.args.index k i d at.index_in_range at.offset_is_sum (at.within d) ∙ sym (ap (λ x. is_unique_group_at x i) was) ∙ c.in_err-item.ensures.shared_on_err)

pub returns-clause-item : goal.returns-clause-item
returns-clause-item g c =
    let f = g.T.TryClone.model in
    let s = group_models f in
    let gs = c.args.groups.now.items in
    let k = c.in-Some.at in
    let i = c.in-Some.inside in
    let d = c.index_mut.result.now in
    let was : d ≡ get_or gs k d = c.index_mut.ensures.value in
    let at = subst (λ l. IsItemPosition s l c.args.index k i) c.deref.ensures.value c.in-Some.ensures.item in
    c.in_ok-item.ensures.item ∙ ap (λ b. slice_get (s b) i) was ∙ joined_get s gs c.args.index k i d at

pub returns-clause-ok : goal.returns-clause-ok
returns-clause-ok g c =
    let f = g.T.TryClone.model in
    let s = group_models f in
    let gs = c.args.groups.now.items in
    let k = c.in-Some.at in
    let i = c.in-Some.inside in
    let d = c.index_mut.result.now in
    let was : d ≡ get_or gs k d = c.index_mut.ensures.value in
    let at = subst (λ l. IsItemPosition s l c.args.index k i) c.deref.ensures.value c.in-Some.ensures.item in
    c.remove_empty_group.ensures.unchanged ∙ joined_remove s gs c.args.index k i c.remove.new.self d at (c.in_ok-item.ensures.ok ∙ ap (λ b. remove (s b) i) was)

pub returns-in_err-item-clause-bound : goal.returns-in_err-item-clause-bound
returns-in_err-item-clause-bound g c =
    let s = group_models g.T.TryClone.model in
    let gs = c.args.groups.now.items in
    let k = c.in-Some.at in
    let d = c.index_mut.result.now in
    let at = subst (λ l. IsItemPosition s l c.args.index k c.in-Some.inside) c.deref.ensures.value c.in-Some.ensures.item in
    let l = grouped_unchanged gs k c.remove.new.self d 0 at.index_in_range c.index_mut.ensures.value (omega (arith, c.in_err-item.ensures.bound)) in
    omega (arith, l)

pub returns-clause-bound : goal.returns-clause-bound
returns-clause-bound g c =
    let s = group_models g.T.TryClone.model in
    let gs = c.args.groups.now.items in
    let k = c.in-Some.at in
    let d = c.index_mut.result.now in
    let at = subst (λ l. IsItemPosition s l c.args.index k c.in-Some.inside) c.deref.ensures.value c.in-Some.ensures.item in
    let l = grouped_unchanged gs k c.remove.new.self d 0 at.index_in_range c.index_mut.ensures.value (omega (arith, c.in_ok-item.ensures.bound)) in
    omega (arith, l, c.remove_empty_group.ensures.bound)
