use Rattle.std.proofs.lemmas.Result.{on_ok_weaker, on_err_weaker}
use Rattle.sdb_lines.proofs.Runs.{line_buffer-written, line_buffer-prefix}
use Rattle.sdb_lines.proofs.line_reader.handle_chunk.Goals as goal

pub returns-clause-prefix_on_err : goal.returns-clause-prefix_on_err
returns-clause-prefix_on_err g c =
    let line_buffer = rw c.requires.empty at c.in_ok-handle_chunk_lines.ensures.wrote_answers in
    on_err_weaker c.write_and_flush.result (λ f. line_buffer-prefix g.M.LineHandler.handles _ line_buffer f) c.write_and_flush.ensures.prefix_on_err

pub returns-clause-wrote_answers : goal.returns-clause-wrote_answers
returns-clause-wrote_answers g c =
    let line_buffer = rw c.requires.empty at c.in_ok-handle_chunk_lines.ensures.wrote_answers in
    on_ok_weaker c.write_and_flush.result (λ w. line_buffer-written g.M.LineHandler.handles _ line_buffer w) c.write_and_flush.ensures.wrote
