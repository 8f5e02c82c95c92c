use Rattle.std.proofs.Common.{length}
use Rattle.sdb_value.proofs.path.+find_mut.Given as goal

abbrev pub decreases-find_mut : goal.decreases-find_mut
decreases-find_mut l = length l.path.now
