use Rattle.std.proofs.Common.{◌≡◌, ◌++◌, drop}
use Rattle.sdb_oplog.specs.Keys.{plain_key}
use Rattle.sdb_dump.specs.WriteModel.{WroteUpTo, log_text}
use Rattle.sdb_dump.proofs.write.write_log.Given as goal

abbrev pub invariant-loop-entry : goal.invariant-loop-entry
invariant-loop-entry g l = record {
  unfailed : g.W.Sink.failures l.writer ≡ g.W.Sink.failures l.initial.writer;
  wrote : WroteUpTo (g.W.Sink.bytes_written l.initial.writer) (g.W.Sink.bytes_written l.writer)
      (l.initial.out.items ++ log_text (plain_key l.initial.key) l.initial.entries)
      (l.out.items ++ log_text (plain_key l.initial.key) (drop l.entry-index l.initial.entries));
}
