use Rattle.std.proofs.Common.{Result, true, length, sym}
use Rattle.std.specs.Prelude.{⊤}
use Rattle.sdb_value.specs.Change.{ReplacedAt, AbsentAt}
use Rattle.sdb_apply.specs.Apply.{apply}
use Rattle.sdb_apply.specs.Outcome.{IsApplyOutcome}
use Rattle.sdb_apply.specs.CommonPath.{strip_steps}
use Rattle.sdb_apply.specs.declared.op_apply.ApplyFault.{ApplyFault}
use Rattle.std.proofs.lemmas.List.{length-map}
use Rattle.sdb_value.specs.View.{value_of, plain_path, plain_step}
use Rattle.sdb_apply.proofs.OutcomeLemmas.{outcome_at_some, outcome_at_none}
use Rattle.sdb_apply.proofs.BelowLemmas.{whole_at, none_nowhere}
use Rattle.sdb_apply.proofs.atomic_apply.apply_many.Goals as goal

pub returns-in-Some : goal.returns-in-Some
returns-in-Some c =
    let path = c.common_path-path.result.now in
    let old = value_of c.args.value.now in
    let new = value_of c.change_at.new.value in
    let Changed : Result ⊤ ApplyFault → Type 0 = λ r. ReplacedAt (λ u v. IsApplyOutcome true r (apply (strip_steps (length path) c.args.components.now) u) u v) old (plain_path path) new in
    whole_at c.in-Some.done c.args.components.now (length path) (value_of c.args.value.now) (value_of c.change_at.new.value) (plain_path path) (sym (length-map path plain_step)) c.common_path-path.ensures.all_below
    (outcome_at_some (AbsentAt old (plain_path path) new) Changed c.in_ok-done.field-0 c.in-Some.done c.in-Some.is c.in_ok-done.ensures.changed)

pub returns-in-None : goal.returns-in-None
returns-in-None c =
    let path = c.common_path-path.result.now in
    let old = value_of c.args.value.now in
    let new = value_of c.change_at.new.value in
    let Changed : Result ⊤ ApplyFault → Type 0 = λ r. ReplacedAt (λ u v. IsApplyOutcome true r (apply (strip_steps (length path) c.args.components.now) u) u v) old (plain_path path) new in
    let nothing = outcome_at_none (AbsentAt old (plain_path path) new) Changed c.in_ok-done.field-0 c.in-None.is c.in_ok-done.ensures.changed in
    (none_nowhere c.args.components.now c.args.first.now (plain_path path) (value_of c.args.value.now) c.requires nothing.absent c.common_path-path.ensures.all_below, nothing.same)
