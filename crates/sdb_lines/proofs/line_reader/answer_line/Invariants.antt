use Rattle.std.proofs.Common.{◌≡◌, ◌+◌, if◌then◌else◌}
use Rattle.sdb_lines.specs.Lines.{readable_text}
use Rattle.sdb_lines.proofs.AnswerParts.{AnswersSoFar}
use Rattle.sdb_lines.proofs.line_reader.answer_line.Given as goal

abbrev pub invariant-loop-is_done : goal.invariant-loop-is_done
invariant-loop-is_done g l = record {
  unfailed : g.W.Sink.failures l.writer ≡ g.W.Sink.failures l.fn.writer;
  so_far : AnswersSoFar g.M.LineHandler.handles g.M.LineHandler.is_answering g.M.LineHandler.state l.is_done
      (g.M.LineHandler.state l.fn.machine) (readable_text l.line) l.machine
      l.fn.out.items l.out.items (g.W.Sink.bytes_written l.fn.writer) (g.W.Sink.bytes_written l.writer);
}

abbrev pub decreases-loop-is_done : goal.decreases-loop-is_done
decreases-loop-is_done g l = if l.is_done then 0 else 1 + g.M.LineHandler.parts_left l.machine
