use Rattle.std.proofs.Common.{ap, ◌∙◌}
use Rattle.std.proofs.lemmas.Result.{err_from_is_err_and}
use Rattle.sdb_value.specs.laws.ValueLaws.{of_some}
use Rattle.sdb_value.specs.Uniqueness.{is_unique}
use Rattle.sdb_value.specs.Value.{put_member}
use Rattle.sdb_value.specs.View.{value_of, object_value}
use Rattle.sdb_apply.proofs.OutcomeLemmas.{needs_put, object_done, object_stays}
use Rattle.sdb_apply.proofs.act.set_member.Goals as goal

pub returns-in_err-put_at_key-in-Some-clause-outcome : goal.returns-in_err-put_at_key-in-Some-clause-outcome
returns-in_err-put_at_key-in-Some-clause-outcome c =
    let p = err_from_is_err_and c.from_residual-in_err-put_at_key-in-Some.result c.from_residual-in_err-put_at_key-in-Some.ensures.1 in
    rw (p.1, p.2) (needs_put (is_unique c.args.target.now), object_stays _ _ _ _ c.in-Some.ensures.value (of_some _ _ c.in-Some.is (c.object_mut.follows.holds _)).0 c.in_err-put_at_key-in-Some.ensures.err)

pub returns-in_ok-put_at_key-in-Some-clause-outcome : goal.returns-in_ok-put_at_key-in-Some-clause-outcome
returns-in_ok-put_at_key-in-Some-clause-outcome c =
    let ms = object_value c.in-Some.object.now in
    object_done (put_member c.args.key.now (value_of c.args.value.now)) ms _ _ _ c.in-Some.ensures.value (of_some _ _ c.in-Some.is (c.object_mut.follows.holds _)).0
    (c.in_ok-put_at_key-in-Some.ensures.ok ∙ ap (λ k. put_member k (value_of c.in_ok-copy.copy) ms) c.in_ok-name.ensures.ok ∙ ap (λ v. put_member c.args.key.now v ms) c.in_ok-copy.ensures.value)

pub returns-in_ok-put_at_key-in-Some-clause-unique : goal.returns-in_ok-put_at_key-in-Some-clause-unique
returns-in_ok-put_at_key-in-Some-clause-unique c own = (of_some _ _ c.in-Some.is (c.object_mut.follows.holds _)).1 ∙ c.put_at_key.ensures.unique (c.in-Some.ensures.unique ∙ own) (c.in_ok-copy.ensures.unique own)

pub returns-in_err-put_at_key-in-Some-clause-unique : goal.returns-in_err-put_at_key-in-Some-clause-unique
returns-in_err-put_at_key-in-Some-clause-unique c own = (of_some _ _ c.in-Some.is (c.object_mut.follows.holds _)).1 ∙ c.put_at_key.ensures.unique (c.in-Some.ensures.unique ∙ own) (c.in_ok-copy.ensures.unique own)
