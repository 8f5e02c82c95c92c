use Rattle.std.proofs.Common.{List, ℕ, ◌∙◌, subst}
use Rattle.std.proofs.lemmas.Result.{err_from_is_err_and}
use Rattle.sdb_rope.specs.EditOutcome.{EditOutcome}
use Rattle.sdb_rope.specs.Rope.{rope_bytes}
use Rattle.sdb_rope.specs.Utf16.{insert_text}
use Rattle.sdb_value.specs.laws.ValueLaws.{of_some}
use Rattle.sdb_value.specs.Uniqueness.{is_unique}
use Rattle.sdb_apply.proofs.OutcomeLemmas.{needs_put, text_edited, text_stays}
use Rattle.sdb_apply.proofs.act.insert_text.Goals as goal

pub returns-in_err-insert-in-Some-clause-outcome : goal.returns-in_err-insert-in-Some-clause-outcome
returns-in_err-insert-in-Some-clause-outcome c =
    let p = err_from_is_err_and c.from_residual.result c.from_residual.ensures.1 in
    rw (p.1, p.2) (needs_put (is_unique c.args.target.now), text_stays _ _ _ _ c.in-Some.ensures.value (of_some _ _ c.in-Some.is (c.text_mut.follows.holds _)).0 c.in_err-insert-in-Some.ensures.err)

pub returns-in_ok-insert-in-Some-clause-outcome : goal.returns-in_ok-insert-in-Some-clause-outcome
returns-in_ok-insert-in-Some-clause-outcome c =
    let old = rope_bytes c.in-Some.text.now in
    let new = rope_bytes c.insert.new.self in
    let done = c.in_ok-insert-in-Some.field-0 in
    let Done : List ℕ → Type 0 = λ s. EditOutcome done (insert_text c.args.offset s old) old new in
    text_edited _ done _ (insert_text c.args.offset c.args.piece.now) old new _ _ c.in-Some.ensures.value (of_some _ _ c.in-Some.is (c.text_mut.follows.holds _)).0 c.applied_if.ensures
    (subst Done c.as_str.ensures.value c.in_ok-insert-in-Some.ensures.ok)

pub returns-in_ok-insert-in-Some-clause-unique : goal.returns-in_ok-insert-in-Some-clause-unique
returns-in_ok-insert-in-Some-clause-unique c own = (of_some _ _ c.in-Some.is (c.text_mut.follows.holds _)).1 ∙ c.insert.ensures.unique (c.in-Some.ensures.unique ∙ own)

pub returns-in_err-insert-in-Some-clause-unique : goal.returns-in_err-insert-in-Some-clause-unique
returns-in_err-insert-in-Some-clause-unique c own = (of_some _ _ c.in-Some.is (c.text_mut.follows.holds _)).1 ∙ c.insert.ensures.unique (c.in-Some.ensures.unique ∙ own)
