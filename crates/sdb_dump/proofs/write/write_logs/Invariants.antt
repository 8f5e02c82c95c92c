use Rattle.std.proofs.Common.{◌≡◌, ◌+◌, ◌*◌, ◌≤◌, ◌^◌, ◌++◌, drop, length, map}
use Rattle.sdb_oplog.specs.Keys.{plain_key}
use Rattle.sdb_dump.specs.LogListing.{lines_of_logs}
use Rattle.sdb_dump.specs.WriteModel.{WroteUpTo, logs_text}
use Rattle.sdb_dump.proofs.write.write_logs.Given as goal

abbrev pub invariant-loop-key : goal.invariant-loop-key
invariant-loop-key g l =
    let f = g.D.DumpSource.logs l.initial.documents in
    let ks = map plain_key l.initial.keys in
    let left = map plain_key (drop l.key-index l.initial.keys) in
    record {
      unfailed : g.W.Sink.failures l.writer ≡ g.W.Sink.failures l.initial.writer;
      few : l.count ≤ l.key-index * 2 ^ 64;
      counted : l.count + length (lines_of_logs f left) ≡ length (lines_of_logs f ks);
      wrote : WroteUpTo (g.W.Sink.bytes_written l.initial.writer) (g.W.Sink.bytes_written l.writer)
          (l.initial.out.items ++ logs_text f ks) (l.out.items ++ logs_text f left);
    }
