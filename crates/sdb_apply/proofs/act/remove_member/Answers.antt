use Rattle.std.proofs.Common.{false, sym, ◌∙◌}
use Rattle.std.proofs.lemmas.Result.{err_from_is_err_and}
use Rattle.sdb_value.specs.laws.ValueLaws.{of_some}
use Rattle.sdb_value.specs.Uniqueness.{is_unique}
use Rattle.sdb_value.specs.Value.{without_member}
use Rattle.sdb_apply.proofs.OutcomeLemmas.{needs_shared, object_done, object_stays}
use Rattle.sdb_apply.proofs.act.remove_member.Goals as goal

pub returns-in_err-remove_at_key-in-Some-clause-outcome : goal.returns-in_err-remove_at_key-in-Some-clause-outcome
returns-in_err-remove_at_key-in-Some-clause-outcome c =
    let p = err_from_is_err_and c.from_residual.result c.from_residual.ensures.1 in
    rw (p.1, p.2) (needs_shared false (is_unique c.args.target.now) (sym c.in-Some.ensures.unique ∙ c.in_err-remove_at_key-in-Some.ensures.shared_on_err), object_stays _ _ _ _ c.in-Some.ensures.value (of_some _ _ c.in-Some.is (c.object_mut.follows.holds _)).0 c.in_err-remove_at_key-in-Some.ensures.err)

pub returns-in_ok-remove_at_key-in-Some-clause-outcome : goal.returns-in_ok-remove_at_key-in-Some-clause-outcome
returns-in_ok-remove_at_key-in-Some-clause-outcome c =
    object_done (without_member c.args.key.now) _ _ _ _ c.in-Some.ensures.value (of_some _ _ c.in-Some.is (c.object_mut.follows.holds _)).0 c.in_ok-remove_at_key-in-Some.ensures.ok

pub returns-in_ok-remove_at_key-in-Some-clause-unique : goal.returns-in_ok-remove_at_key-in-Some-clause-unique
returns-in_ok-remove_at_key-in-Some-clause-unique c own = (of_some _ _ c.in-Some.is (c.object_mut.follows.holds _)).1 ∙ c.remove_at_key.ensures.unique (c.in-Some.ensures.unique ∙ own)
