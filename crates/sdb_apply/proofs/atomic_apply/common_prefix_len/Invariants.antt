use Rattle.std.proofs.Common.{◌≡◌, ◌≤◌, take, length}
use Rattle.sdb_value.specs.View.{plain_path}
use Rattle.sdb_apply.proofs.atomic_apply.common_prefix_len.Given as goal

abbrev pub invariant-loop-at : goal.invariant-loop-at
invariant-loop-at l = (take l.at (plain_path l.path) ≡ take l.at (plain_path l.other)) × (l.at ≤ length l.other)
