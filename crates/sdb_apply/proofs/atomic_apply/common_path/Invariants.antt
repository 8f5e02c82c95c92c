use Rattle.std.proofs.Common.{◌≡◌, take, length}
use Rattle.sdb_value.specs.View.{plain_path}
use Rattle.sdb_apply.specs.CommonPath.{AllBelowPath}
use Rattle.sdb_apply.proofs.atomic_apply.common_path.Given as goal

abbrev pub invariant-loop-component : goal.invariant-loop-component
invariant-loop-component l = (plain_path l.shared ≡ take (length l.shared) (plain_path l.path)) × AllBelowPath (plain_path l.shared) (take l.component-index l.components)
