use Rattle.std.proofs.Common.{◌≡◌, ◌+◌, ◌-◌, ◌*◌, ◌^◌, ◌≤◌, length, min, []}
use Rattle.sdb_lines.proofs.ProgressLemmas.{RunProgress}
use Rattle.sdb_lines.proofs.runner.run_lines.Given as goal

abbrev pub invariant-loop-turn : goal.invariant-loop-turn
invariant-loop-turn g l = record {
  empty : l.line_buffer.out.items ≡ [];
  room : length l.buffer ≡ 65536;
  few : l.line_buffer.counts.lines ≤ 65536 * l._turn;
  calls : min (g.R.Source.calls l.fn.reader + l._turn) (2 ^ 64 - 1) ≤ g.R.Source.calls l.reader;
  at_most : g.R.Source.calls l.reader ≤ g.R.Source.calls l.fn.reader + l._turn;
  reads : g.R.Source.failures l.reader ≡ g.R.Source.failures l.fn.reader;
  writes : g.W.Sink.failures l.writer ≡ g.W.Sink.failures l.fn.writer;
  went : RunProgress g.M.LineHandler.handles g.M.LineHandler.counts_as_step (g.R.Source.remaining_input l.fn.reader) (g.R.Source.remaining_input l.reader) (g.M.LineHandler.state l.fn.machine)
      (g.M.LineHandler.state l.machine)
      (g.M.LineHandler.opening l.fn.machine) (g.W.Sink.bytes_written l.fn.writer) (g.W.Sink.bytes_written l.writer) l.line_buffer.counts l.line_buffer.partial_line.items;
}
