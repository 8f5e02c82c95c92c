use Rattle.std.proofs.Common.{length}
use Rattle.sdb_oplog.specs.Decide.{stored, missed_entries}
use Rattle.sdb_desk.proofs.CacheLemmas.{document_after_append}
use Rattle.sdb_desk.proofs.document.Document.append.Goals as goal

pub invariant_of-self : goal.invariant_of-self
invariant_of-self c =
    let log = c.self.inside.decided in
    document_after_append log c.append.new.self c.args.submission c.args.now c.self.inside.cache (stored (length log) (missed_entries log c.args.submission)) c.append.result c.append.ensures.ok c.append.ensures.err c.self.invariant
