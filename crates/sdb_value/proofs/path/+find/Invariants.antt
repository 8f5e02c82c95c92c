use Rattle.std.proofs.Common.{length}
use Rattle.sdb_value.proofs.path.+find.Given as goal

abbrev pub decreases-find : goal.decreases-find
decreases-find l = length l.path.now
