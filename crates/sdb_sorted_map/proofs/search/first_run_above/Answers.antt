use Rattle.std.proofs.Common.{◌<◌, ◌+◌, ◌-◌, ◌/◌, length, ◌∙◌, sym, ap, arith}
use Rattle.sdb_sorted_map.specs.SearchModel.{first_key_above}
use Rattle.sdb_sorted_map.proofs.RunLemmas.{below_part}
use Rattle.sdb_sorted_map.proofs.search.first_run_above.Goals as goal

pub loop-low-preserved-then-is_before : goal.loop-low-preserved-then-is_before
loop-low-preserved-then-is_before g c =
    let k = c.args.key.now in
    let m = c.loop-low.low + (c.loop-low.high - c.loop-low.low) / 2 in
    let h : m < length c.args.runs.now = omega (arith, c.loop-low.invariant.within, c.loop-low-test.true) in
    record {
      ordered = omega arith;
      within = omega arith;
      below = below_part g.P.SortedRun.keys c.args.runs.now m c.index-runs-middle.result h c.index-runs-middle.is c.requires k
          (ap (first_key_above k) (sym c.first_key.ensures) ∙ sym c.is_before.ensures ∙ c.if-is_before.true);
    }
