use Rattle.std.proofs.Common.{◌≡◌, Result, true, IsErrOf}
use Rattle.std.specs.Prelude.{⊤}
use Rattle.sdb_value.specs.Change.{ReplacedAt, AbsentAt}
use Rattle.sdb_value.specs.Uniqueness.{is_unique}
use Rattle.sdb_value.specs.View.{value_of, plain_path}
use Rattle.sdb_component.specs.View.{plain_act}
use Rattle.sdb_apply.specs.Apply.{apply_act, apply_one}
use Rattle.sdb_apply.specs.Outcome.{IsApplyOutcome, act_allocates}
use Rattle.sdb_apply.specs.declared.op_apply.ApplyFault.{ApplyFault}
use Rattle.sdb_apply.specs.declared.op_apply.ApplyFault.TheVariants.{OutOfMemory}
use Rattle.sdb_apply.proofs.OutcomeLemmas.{outcome_at, outcome_needs_less, outcome_at_some, if_some}
use Rattle.sdb_apply.proofs.op_apply.apply_at.Goals as goal

pub returns-in-Some-clause-outcome : goal.returns-in-Some-clause-outcome
returns-in-Some-clause-outcome c =
    let act = plain_act c.args.act.now in
    let old = value_of c.args.value.now in
    let new = value_of c.change_at.new.value in
    let path = plain_path c.args.path.now in
    let Changed : Result ⊤ ApplyFault → Type 0 = λ r. ReplacedAt (λ u v. IsApplyOutcome true r (apply_act act u) u v) old path new in
    let Spares : Result ⊤ ApplyFault → Type 0 = λ r. IsErrOf r OutOfMemory → act_allocates act ≡ true in
    outcome_needs_less c.in-Some.done (act_allocates act) (is_unique c.args.value.now) (apply_one (record { path = path; act = act }) old) old new
    (outcome_at c.in-Some.done true (apply_act act) old new path (outcome_at_some (AbsentAt old path new) Changed c.in_ok-done.field-0 c.in-Some.done c.in-Some.is c.in_ok-done.ensures.changed))
    (λ own. if_some Spares c.in_ok-done.field-0 c.in-Some.done c.in-Some.is (c.in_ok-done.ensures.result_unique own))
