use Rattle.std.proofs.Common.{false, sym, ◌∙◌}
use Rattle.std.proofs.lemmas.Result.{err_from_is_err_and}
use Rattle.sdb_value.specs.laws.ValueLaws.{of_some}
use Rattle.sdb_value.specs.Uniqueness.{is_unique}
use Rattle.sdb_value.specs.Value.{remove_item}
use Rattle.sdb_value.specs.View.{list_value}
use Rattle.sdb_apply.proofs.OutcomeLemmas.{needs_shared, list_shared, list_edited, list_stays}
use Rattle.sdb_apply.proofs.act.delete_list_item.Goals as goal

pub returns-in_err-remove_item-in-Some-clause-outcome : goal.returns-in_err-remove_item-in-Some-clause-outcome
returns-in_err-remove_item-in-Some-clause-outcome c =
    let p = err_from_is_err_and c.from_residual.result c.from_residual.ensures.1 in
    rw (p.1, p.2) (needs_shared false (is_unique c.args.target.now) (sym c.in-Some.ensures.unique ∙ list_shared c.in-Some.items.now c.in_err-remove_item-in-Some.ensures.shared_on_err), list_stays _ _ _ _ c.in-Some.ensures.value (of_some _ _ c.in-Some.is (c.list_mut.follows.holds _)).0 c.in_err-remove_item-in-Some.ensures.err)

pub returns-in_ok-remove_item-in-Some-clause-outcome : goal.returns-in_ok-remove_item-in-Some-clause-outcome
returns-in_ok-remove_item-in-Some-clause-outcome c =
    list_edited _ c.in_ok-remove_item-in-Some.field-0 _ (remove_item c.args.index) (list_value c.in-Some.items.now) (list_value c.remove_item.new.items) _ _ c.in-Some.ensures.value (of_some _ _ c.in-Some.is (c.list_mut.follows.holds _)).0
    c.applied_if.ensures c.in_ok-remove_item-in-Some.ensures.ok

pub returns-in_ok-remove_item-in-Some-clause-unique : goal.returns-in_ok-remove_item-in-Some-clause-unique
returns-in_ok-remove_item-in-Some-clause-unique c own = (of_some _ _ c.in-Some.is (c.list_mut.follows.holds _)).1 ∙ c.remove_item.ensures.unique (c.in-Some.ensures.unique ∙ own)
