use Rattle.std.proofs.Common.{◌≡◌, ◌<◌, ◌+◌, ◌-◌, ap, subst, length, length-append, arith}
use Rattle.sdb_sorted_map.specs.KeyOrder.{IsBelowAll}
use Rattle.sdb_sorted_map.specs.SearchModel.{keys_of_first_runs, keys_of_other_runs}
use Rattle.sdb_sorted_map.proofs.RunLemmas.{keys_split_at, ascending_part, found_in_part, gap_in_part, length_to, found_within}
use Rattle.sdb_sorted_map.proofs.search.find_in_runs.Goals as goal

pub count_in-start-requires : goal.count_in-start-requires
count_in-start-requires g c =
    let t = g.P.SortedRun.keys in
    let ps = c.args.runs.now in
    let last = c.run_end-end.result - 1 in
    omega (arith, c.requires.bound, ap length (keys_split_at t ps last), length-append (keys_of_first_runs t ps last) (keys_of_other_runs t ps last))

pub find-requires-clause-ascending : goal.find-requires-clause-ascending
find-requires-clause-ascending g c =
    let inside : c.run_end-end.result - 1 < length c.args.runs.now = omega (arith, c.run_end-end.ensures.in_range, c.if-end-eq0.false) in
    ascending_part g.P.SortedRun.keys c.args.runs.now (c.run_end-end.result - 1) c.index-runs-end.result inside c.index-runs-end.is c.requires.ascending

pub find-requires-clause-bound : goal.find-requires-clause-bound
find-requires-clause-bound g c =
    let inside : c.run_end-end.result - 1 < length c.args.runs.now = omega (arith, c.run_end-end.ensures.in_range, c.if-end-eq0.false) in
    omega (
      arith,
      c.requires.bound,
      length_to g.P.SortedRun.keys c.args.runs.now (c.run_end-end.result - 1) c.index-runs-end.result inside c.index-runs-end.is,
    )

pub overflow_add-result : goal.overflow_add-result
overflow_add-result g c =
    let t = g.P.SortedRun.keys in
    let inside : c.run_end-end.result - 1 < length c.args.runs.now = omega (arith, c.run_end-end.ensures.in_range, c.if-end-eq0.false) in
    omega (
      arith,
      c.count_in-start.ensures,
      c.requires.bound,
      length_to t c.args.runs.now (c.run_end-end.result - 1) c.index-runs-end.result inside c.index-runs-end.is,
      found_within (t c.index-runs-end.result) c.args.key.now c.in-Ok.at c.in-Ok.ensures.key_index,
    )

pub overflow_add-result-in-Err : goal.overflow_add-result-in-Err
overflow_add-result-in-Err g c =
    let inside : c.run_end-end.result - 1 < length c.args.runs.now = omega (arith, c.run_end-end.ensures.in_range, c.if-end-eq0.false) in
    omega (
      arith,
      c.count_in-start.ensures,
      c.requires.bound,
      length_to g.P.SortedRun.keys c.args.runs.now (c.run_end-end.result - 1) c.index-runs-end.result inside c.index-runs-end.is,
      c.in-Err.ensures.insert_index.in_range,
    )

pub returns-in-Ok-clause-key_index : goal.returns-in-Ok-clause-key_index
returns-in-Ok-clause-key_index g c =
    let inside : c.run_end-end.result - 1 < length c.args.runs.now = omega (arith, c.run_end-end.ensures.in_range, c.if-end-eq0.false) in
    found_in_part g.P.SortedRun.keys c.args.runs.now (c.run_end-end.result - 1) c.index-runs-end.result inside c.index-runs-end.is c.args.key.now
    c.in-Ok.at _ (ap (λ n. n + c.in-Ok.at) c.count_in-start.ensures) c.run_end-end.ensures.above c.in-Ok.ensures.key_index

pub returns-in-Err-clause-insert_index : goal.returns-in-Err-clause-insert_index
returns-in-Err-clause-insert_index g c =
    let inside : c.run_end-end.result - 1 < length c.args.runs.now = omega (arith, c.run_end-end.ensures.in_range, c.if-end-eq0.false) in
    let one : c.run_end-end.result ≡ c.run_end-end.result - 1 + 1 = omega (arith, c.if-end-eq0.false) in
    gap_in_part g.P.SortedRun.keys c.args.runs.now (c.run_end-end.result - 1) c.index-runs-end.result inside c.index-runs-end.is c.args.key.now
    c.in-Err.at _ (ap (λ n. n + c.in-Err.at) c.count_in-start.ensures) c.run_end-end.ensures.above c.in-Err.ensures.insert_index
    (subst (λ n. IsBelowAll c.args.key.now (keys_of_other_runs g.P.SortedRun.keys c.args.runs.now n)) one c.run_end-end.ensures.below)
