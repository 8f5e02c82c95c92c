use Rattle.std.proofs.Common.{◌≡◌, ℕ, zero, suc, ◌+◌, ◌<◌, List, [], ◌∷◌, length, get_or, take, drop, Some, None, Err, ◌∙◌, ap, sym, subst, arith, rules}
use Rattle.std.proofs.lemmas.List.{take-append-drop}
use Rattle.sdb_value.specs.Value.{Value}
use Rattle.sdb_value.specs.Uniqueness.{is_unique}
use Rattle.sdb_value.specs.View.{value_of}
use Rattle.sdb_component.specs.Plain.{PlainComponent}
use Rattle.sdb_apply.specs.Apply.{apply_one, apply}
use Rattle.sdb_apply.specs.Outcome.{IsApplyOutcome, may_allocate, act_allocates, act_allocates_at}
use Rattle.sdb_apply.specs.declared.op_apply.ApplyFault.{ApplyFault}
use Rattle.sdb_apply.specs.declared.op_apply.ApplyFault.TheVariants.{NotApplied}
use Rattle.sdb_apply.proofs.OutcomeLemmas.{needs_mono}
use Rattle.sdb_apply.proofs.FoldLemmas.{take_append, none_more}
use Rattle.sdb_apply.proofs.op_apply.apply.Goals as goal

-- the component at index i is applied next
next_is : (s op : List PlainComponent) (i : ℕ) (c : PlainComponent) (d e : Value) → s ≡ op → i < length s → c ≡ get_or s i c → apply (take i op) d ≡ Some e → apply (take (i + 1) op) d ≡ apply_one c e
next_is s op i c d e same h is done = rw (← same) (take_append s i c d e h is (rw same done))

-- an operation doesn't apply if a prefix of it doesn't
prefix_none : (op : List PlainComponent) (n : ℕ) (d : Value) → apply (take n op) d ≡ None → apply op d ≡ None
prefix_none op n d h = ap (λ l. apply l d) (sym (take-append-drop n op)) ∙ none_more (take n op) (drop n op) d h

pub loop-at-preserved : goal.loop-at-preserved
loop-at-preserved c = record {
  applied = next_is _ c.args.op.now c.loop-at.at c.component-item.result (value_of c.args.value.now) (value_of c.loop-at.value) c.components-component-items.ensures c.loop-at-test.true c.component-item.is c.loop-at.invariant.applied
      ∙ c.in-Ok.ensures.outcome;
  own = λ own. c.apply_component.ensures.unique (c.loop-at.invariant.own own);
}

-- the component at index i is the one that allocates
at_is : (s : List PlainComponent) (i : ℕ) (c : PlainComponent) → i < length s → c ≡ get_or s i c → act_allocates_at i s ≡ act_allocates c.act
at_is [] i c h is = absurd (omega arith)
at_is (x ∷ s) zero c h is = ap (λ y. act_allocates y.act) (sym is)
at_is (x ∷ s) (suc i) c h is = at_is s i c (omega arith) is

pub returns-in-Err-clause-err : goal.returns-in-Err-clause-err
returns-in-Err-clause-err c =
    let one = c.component-item.result in
    let op = c.args.op.now in
    let at = c.loop-at.at in
    let old = value_of c.args.value.now in
    let mid = value_of c.loop-at.value in
    let same = c.components-component-items.ensures in
    let Says : ApplyFault → Type 0 = λ f. IsApplyOutcome (may_allocate (act_allocates one.act) (is_unique c.loop-at.value)) (Err f) (apply_one one mid) mid (value_of c.apply_component.new.value) in
    let next = next_is _ op at one old mid same c.loop-at-test.true c.component-item.is c.loop-at.invariant.applied in
    let none : c.in-Err.why ≡ NotApplied → apply (take (at + 1) op) old ≡ None = λ no. next ∙ (subst Says no c.in-Err.ensures.outcome).0 in
    let takes : act_allocates_at at op ≡ act_allocates one.act =
    ap (act_allocates_at at) (sym same) ∙ at_is _ at one c.loop-at-test.true c.component-item.is in
    record {
      index_in_range = subst (λ l. at < length l) same c.loop-at-test.true;
      prefix_result = search rules;
      component_refused = none;
      operation_refused = λ no. prefix_none op (at + 1) old (none no);
      memory = λ wants. ap (λ t. may_allocate t (is_unique c.args.value.now)) takes
          ∙ needs_mono (act_allocates one.act) (is_unique c.args.value.now) (is_unique c.loop-at.value) c.loop-at.invariant.own (subst Says wants c.in-Err.ensures.outcome).0;
    }
