use Rattle.std.proofs.Common.{◌∙◌}
use Rattle.sdb_lines.proofs.AnswerParts.{so_far-written, so_far-more, so_far-prefix, so_far-only, so_far-done}
use Rattle.sdb_lines.proofs.WriteLemmas.{on_any_err}
use Rattle.sdb_lines.proofs.line_reader.answer_line.Goals as goal

pub returns-in_err-write_long_output-clause-prefix_on_err : goal.returns-in_err-write_long_output-clause-prefix_on_err
returns-in_err-write_long_output-clause-prefix_on_err g c =
    on_any_err _ (so_far-prefix g.M.LineHandler.handles g.M.LineHandler.is_answering g.M.LineHandler.state _ c.loop-is_done.invariant.so_far c.in_err-write_long_output.ensures.prefix_on_err)

pub returns-in_err-is_done-clause-prefix_on_err : goal.returns-in_err-is_done-clause-prefix_on_err
returns-in_err-is_done-clause-prefix_on_err g c =
    let written = so_far-written g.M.LineHandler.handles g.M.LineHandler.is_answering g.M.LineHandler.state _ _ c.loop-is_done.invariant.so_far c.in_ok-write_long_output.ensures.wrote in
    on_any_err _ (so_far-only g.M.LineHandler.handles g.M.LineHandler.is_answering g.M.LineHandler.state written)

pub loop-is_done-preserved : goal.loop-is_done-preserved
loop-is_done-preserved g c =
    let so_far = rw c.loop-is_done-test.true at c.loop-is_done.invariant.so_far in
    let written = so_far-written g.M.LineHandler.handles g.M.LineHandler.is_answering g.M.LineHandler.state _ _ so_far c.in_ok-write_long_output.ensures.wrote in
    record {
      unfailed = c.in_ok-write_long_output.ensures.no_failure ∙ c.loop-is_done.invariant.unfailed;
      so_far = so_far-more g.M.LineHandler.handles g.M.LineHandler.is_answering g.M.LineHandler.state _ written c.in_ok-is_done.ensures.answer;
    }

pub returns-in_err-write_long_output-2-clause-prefix_on_err : goal.returns-in_err-write_long_output-2-clause-prefix_on_err
returns-in_err-write_long_output-2-clause-prefix_on_err g c =
    on_any_err _ (so_far-prefix g.M.LineHandler.handles g.M.LineHandler.is_answering g.M.LineHandler.state _ c.loop-is_done.invariant.so_far c.in_err-write_long_output-2.ensures.prefix_on_err)

pub returns-clause-wrote_answers : goal.returns-clause-wrote_answers
returns-clause-wrote_answers g c =
    let so_far = rw c.loop-is_done-test.false at c.loop-is_done.invariant.so_far in
    so_far-done g.M.LineHandler.handles g.M.LineHandler.is_answering g.M.LineHandler.state (so_far-written g.M.LineHandler.handles g.M.LineHandler.is_answering g.M.LineHandler.state _ _ so_far c.in_ok-write_long_output-2.ensures.wrote)
