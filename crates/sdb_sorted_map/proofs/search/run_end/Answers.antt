use Rattle.std.proofs.Common.{◌≡◌, ◌<◌, ◌+◌, ◌-◌, length, ◌∙◌, sym, ap, subst, arith}
use Rattle.sdb_sorted_map.specs.KeyOrder.{IsBelowAll}
use Rattle.sdb_sorted_map.specs.SearchModel.{keys_of_other_runs, first_key_at_most}
use Rattle.sdb_sorted_map.proofs.RunLemmas.{above_parts, below_or_none}
use Rattle.sdb_sorted_map.proofs.search.run_end.Goals as goal

pub returns-then-is_not_before-clause-above : goal.returns-then-is_not_before-clause-above
returns-then-is_not_before-clause-above g c =
    let k = c.args.key.now in
    let h : c.loop-end.end - 1 < length c.args.runs.now = omega (arith, c.loop-end.invariant.within, c.loop-end-test.true) in
    above_parts g.P.SortedRun.keys c.args.runs.now (c.loop-end.end - 1) c.index-runs-end.result h c.index-runs-end.is c.requires k
    (ap (first_key_at_most k) (sym c.first_key.ensures) ∙ sym c.is_not_before.ensures ∙ c.if-is_not_before.true)

pub loop-end-preserved : goal.loop-end-preserved
loop-end-preserved g c =
    let k = c.args.key.now in
    let h : c.loop-end.end - 1 < length c.args.runs.now = omega (arith, c.loop-end.invariant.within, c.loop-end-test.true) in
    let one : c.loop-end.end ≡ c.loop-end.end - 1 + 1 = omega (arith, c.loop-end-test.true) in
    record {
      within = omega arith;
      below = below_or_none g.P.SortedRun.keys c.args.runs.now (c.loop-end.end - 1) c.index-runs-end.result h c.index-runs-end.is c.requires k
          (ap (first_key_at_most k) (sym c.first_key.ensures) ∙ sym c.is_not_before.ensures ∙ c.if-is_not_before.false)
          (subst (λ n. IsBelowAll k (keys_of_other_runs g.P.SortedRun.keys c.args.runs.now n)) one c.loop-end.invariant.below);
    }
