use Rattle.std.proofs.Common.{◌≡◌, ◌+◌, ◌≤◌, ◌++◌, List, ℕ, length}
use Rattle.std.specs.declared.option.Option.{Option}
use Rattle.sdb_lines.specs.Chunks.{lines_ended_by, partial_line_after}
use Rattle.sdb_lines.specs.Counts.{counts_after}
use Rattle.sdb_lines.specs.Runs.{AppendsAnswersUpTo}
use Rattle.sdb_lines.proofs.line_reader.handle_chunk_lines.Given as goal

abbrev pub invariant-loop-at : goal.invariant-loop-at
invariant-loop-at g l = record {
  room : l.line_buffer.counts.lines + length l.rest ≤ l.initial.line_buffer.counts.lines + length l.initial.rest;
  unfailed : g.W.Sink.failures l.writer ≡ g.W.Sink.failures l.initial.writer;
  unended : partial_line_after l.initial.rest l.initial.line_buffer.partial_line.items ≡ partial_line_after l.rest l.line_buffer.partial_line.items;
  taken : (lines : List (Option (List ℕ)))
      × (lines_ended_by l.initial.rest l.initial.line_buffer.partial_line.items ≡ lines ++ lines_ended_by l.rest l.line_buffer.partial_line.items)
      × (l.line_buffer.counts ≡ counts_after g.M.LineHandler.counts_as_step l.initial.line_buffer.counts lines)
      × AppendsAnswersUpTo g.M.LineHandler.handles l.line_buffer.out.items (g.M.LineHandler.state l.initial.machine) lines (g.M.LineHandler.state l.machine)
      l.initial.line_buffer.out.items (g.W.Sink.bytes_written l.initial.writer) (g.W.Sink.bytes_written l.writer);
}

abbrev pub decreases-loop-at : goal.decreases-loop-at
decreases-loop-at g l = length l.rest
