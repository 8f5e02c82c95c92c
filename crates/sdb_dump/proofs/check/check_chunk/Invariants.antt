use Rattle.std.proofs.Common.{◌≡◌, ◌+◌, ◌≤◌, ◌++◌, List, ℕ, length}
use Rattle.sdb_dump.specs.CheckerModel.{CheckerAtStage}
use Rattle.sdb_dump.specs.CheckStages.{PlainStage}
use Rattle.sdb_dump.specs.CheckText.{check_result_from}
use Rattle.sdb_dump.proofs.check.check_chunk.Given as goal

-- the lines so far were checked, and the rest has the result of the whole
abbrev pub invariant-loop-at : goal.invariant-loop-at
invariant-loop-at l = record {
  few : l.checker.entries + length l.rest ≤ l.initial.checker.entries + length l.initial.rest;
  taken : (s : PlainStage) → CheckerAtStage l.initial.checker s
      → (t : PlainStage) × CheckerAtStage l.checker t
      × ((more : List ℕ) → check_result_from s l.initial.partial.items (l.initial.rest ++ more) ≡ check_result_from t l.partial.items (l.rest ++ more));
}

abbrev pub decreases-loop-at : goal.decreases-loop-at
decreases-loop-at l = length l.rest
