use Rattle.std.proofs.Common.{◌≡◌, ◌+◌, drop, Err, ap, ◌∙◌, subst}
use Rattle.sdb_value.specs.Uniqueness.{is_unique}
use Rattle.sdb_value.specs.View.{value_of, plain_path}
use Rattle.sdb_component.specs.View.{plain_act}
use Rattle.sdb_apply.specs.Apply.{apply_one}
use Rattle.sdb_apply.specs.Outcome.{IsApplyOutcome, may_allocate, act_allocates}
use Rattle.sdb_apply.specs.declared.op_apply.ApplyFault.{ApplyFault}
use Rattle.sdb_apply.specs.declared.op_apply.ApplyFault.TheVariants.{NotApplied}
use Rattle.sdb_apply.proofs.BelowLemmas.{below_more, below_none}
use Rattle.sdb_apply.proofs.atomic_apply.apply_at_depth.Goals as goal

pub loop-component-preserved : goal.loop-component-preserved
loop-component-preserved c =
    below_more c.args.depth c.loop-component.component-index c.args.components.now c.component-item.result (plain_path c.path_tail.result.now) (plain_act c.act.result.now) (value_of c.args.value.now) (value_of c.loop-component.value)
    c.loop-component-test.true c.component-item.is (c.path_tail.ensures ∙ ap (drop c.args.depth) c.path.ensures) c.act.ensures c.loop-component.invariant
    ∙ c.in-Ok.ensures.outcome

pub returns-in-Err-clause-not_applied : goal.returns-in-Err-clause-not_applied
returns-in-Err-clause-not_applied c =
    let act = plain_act c.act.result.now in
    let Says : ApplyFault → Type 0 = λ f. IsApplyOutcome (may_allocate (act_allocates act) (is_unique c.loop-component.value)) (Err f) (apply_one (record { path = plain_path c.path_tail.result.now; act = act }) (value_of c.loop-component.value)) (value_of c.loop-component.value) (value_of c.apply_at.new.value) in
    λ no. let same : c.in-Err.fault ≡ NotApplied = cc in below_none c.args.depth (c.loop-component.component-index + 1) c.args.components.now (value_of c.args.value.now)
    (below_more c.args.depth c.loop-component.component-index c.args.components.now c.component-item.result (plain_path c.path_tail.result.now) act (value_of c.args.value.now) (value_of c.loop-component.value)
    c.loop-component-test.true c.component-item.is (c.path_tail.ensures ∙ ap (drop c.args.depth) c.path.ensures) c.act.ensures c.loop-component.invariant
    ∙ (subst Says same c.in-Err.ensures.outcome).0)
