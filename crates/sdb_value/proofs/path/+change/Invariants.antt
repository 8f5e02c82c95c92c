use Rattle.std.proofs.Common.{length, ◌+◌, ◌*◌}
use Rattle.sdb_value.proofs.path.+change.Given as goal

abbrev pub decreases-change_at : goal.decreases-change_at
decreases-change_at g l = 4 * length l.path.now

abbrev pub decreases-change_item : goal.decreases-change_item
decreases-change_item g l = 4 * length l.rest.now + 1

abbrev pub decreases-change_value : goal.decreases-change_value
decreases-change_value g l = 4 * length l.rest.now + 1

abbrev pub decreases-change_member : goal.decreases-change_member
decreases-change_member g l = 4 * length l.rest.now + 3
