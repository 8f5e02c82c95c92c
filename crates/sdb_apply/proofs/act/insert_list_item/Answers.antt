use Rattle.std.proofs.Common.{◌∙◌, subst}
use Rattle.std.proofs.lemmas.Result.{err_from_is_err_and}
use Rattle.sdb_rope.specs.EditOutcome.{EditOutcome}
use Rattle.sdb_value.specs.laws.ValueLaws.{of_some}
use Rattle.sdb_value.specs.Uniqueness.{is_unique}
use Rattle.sdb_value.specs.Value.{Value, insert_item}
use Rattle.sdb_value.specs.View.{value_of, list_value}
use Rattle.sdb_apply.proofs.OutcomeLemmas.{needs_put, list_edited, list_stays}
use Rattle.sdb_apply.proofs.act.insert_list_item.Goals as goal

pub returns-in_err-insert_item-in-Some-clause-outcome : goal.returns-in_err-insert_item-in-Some-clause-outcome
returns-in_err-insert_item-in-Some-clause-outcome c =
    let p = err_from_is_err_and c.from_residual-in_err-insert_item-in-Some.result c.from_residual-in_err-insert_item-in-Some.ensures.1 in
    rw (p.1, p.2) (needs_put (is_unique c.args.target.now), list_stays _ _ _ _ c.in-Some.ensures.value (of_some _ _ c.in-Some.is (c.list_mut.follows.holds _)).0 c.in_err-insert_item-in-Some.ensures.err)

pub returns-in_ok-insert_item-in-Some-clause-outcome : goal.returns-in_ok-insert_item-in-Some-clause-outcome
returns-in_ok-insert_item-in-Some-clause-outcome c =
    let old = list_value c.in-Some.items.now in
    let new = list_value c.insert_item.new.items in
    let done = c.in_ok-insert_item-in-Some.field-0 in
    let Done : Value → Type 0 = λ v. EditOutcome done (insert_item c.args.index v old) old new in
    list_edited _ done _ (insert_item c.args.index (value_of c.args.value.now)) old new _ _ c.in-Some.ensures.value (of_some _ _ c.in-Some.is (c.list_mut.follows.holds _)).0 c.applied_if.ensures
    (subst Done c.in_ok-copy.ensures.value c.in_ok-insert_item-in-Some.ensures.ok)

pub returns-in_ok-insert_item-in-Some-clause-unique : goal.returns-in_ok-insert_item-in-Some-clause-unique
returns-in_ok-insert_item-in-Some-clause-unique c own = (of_some _ _ c.in-Some.is (c.list_mut.follows.holds _)).1 ∙ c.insert_item.ensures.unique (c.in-Some.ensures.unique ∙ own) (c.in_ok-copy.ensures.unique own)

pub returns-in_err-insert_item-in-Some-clause-unique : goal.returns-in_err-insert_item-in-Some-clause-unique
returns-in_err-insert_item-in-Some-clause-unique c own = (of_some _ _ c.in-Some.is (c.list_mut.follows.holds _)).1 ∙ c.insert_item.ensures.unique (c.in-Some.ensures.unique ∙ own) (c.in_ok-copy.ensures.unique own)
