use Rattle.std.proofs.Common.{◌≡◌, ◌≤◌, ◌+◌, ◌++◌, length}
use Rattle.sdb_value_text.specs.Level.{levels_text}
use Rattle.sdb_value_text.proofs.levels.ValueText.write_part.Given as goal

abbrev pub invariant-loop : goal.invariant-loop
invariant-loop l =
    (l.out.items ++ levels_text l.self.levels.items ≡ l.initial.out.items ++ levels_text l.initial.self.levels.items)
    × (length l.initial.out.items + l.counter ≤ length l.out.items)
