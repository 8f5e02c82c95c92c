use Rattle.std.proofs.Common.{drop}
use Rattle.sdb_backend.proofs.OpenCountLemmas.{IsCountSoFar}
use Rattle.sdb_backend.proofs.audit.Audit.queues.Given as goal

abbrev pub invariant-loop-held : goal.invariant-loop-held
invariant-loop-held l = IsCountSoFar l.self.shards.items (drop l.held-index l.self.shards.items) l.count
