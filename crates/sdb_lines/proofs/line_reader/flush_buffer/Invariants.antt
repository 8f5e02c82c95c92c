use Rattle.std.proofs.Common.{◌≡◌, ◌-◌, ◌≤◌, take, vec_len}
use Rattle.std.specs.Io.KnownBytes.{Appends}
use Rattle.sdb_lines.proofs.line_reader.flush_buffer.Given as goal

abbrev pub invariant-loop-at : goal.invariant-loop-at
invariant-loop-at g l = record { in_range : l.at ≤ vec_len l.out; wrote : Appends (g.W.Sink.bytes_written l.initial.writer) (g.W.Sink.bytes_written l.writer) (take l.at l.out.items); unfailed : g.W.Sink.failures l.writer ≡ g.W.Sink.failures l.initial.writer }

abbrev pub decreases-loop-at : goal.decreases-loop-at
decreases-loop-at g l = vec_len l.out - l.at
