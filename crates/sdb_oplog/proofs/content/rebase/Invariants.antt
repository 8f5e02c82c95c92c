use Rattle.std.proofs.Common.{◌≡◌, drop, unwrap_or}
use Rattle.sdb_oplog.specs.Rebase.{rebase}
use Rattle.sdb_oplog.proofs.RebaseLemmas.{IsRebasedUpTo}
use Rattle.sdb_oplog.proofs.content.rebase.Given as goal

abbrev pub invariant-loop-entry : goal.invariant-loop-entry
invariant-loop-entry l = record {
  over : rebase l.content l.entries ≡ rebase (unwrap_or l.rebased l.content) (drop l.entry-index l.entries);
  memory : IsRebasedUpTo l.content l.entries l.rebased l.entry-index;
}
