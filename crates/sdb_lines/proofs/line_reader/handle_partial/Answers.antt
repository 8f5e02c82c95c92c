use Rattle.std.proofs.Common.{◌+◌, ◌++◌, ◌∷◌, [], ap, ◌∙◌}
use Rattle.std.specs.Prelude.{if◌then◌else◌}
use Rattle.sdb_lines.specs.Lines.{readable_text}
use Rattle.sdb_lines.specs.Counts.{counts_after}
use Rattle.sdb_lines.proofs.ChunkLemmas.{reading-partial, counted-one}
use Rattle.sdb_lines.proofs.Runs.{nothing-written}
use Rattle.sdb_lines.proofs.WriteLemmas.{on_any_err}
use Rattle.sdb_lines.proofs.line_reader.handle_partial.Goals as goal

pub returns-clause-count : goal.returns-clause-count
returns-clause-count g c =
    let s = g.M.LineHandler.counts_as_step in
    let old = c.args.line_buffer.now in
    let read = ap readable_text (c.as_slice.ensures.value ∙ c.in_ok-append_partial.ensures.items) ∙ reading-partial (old.partial_line.items ++ c.args.input.now) in
    let steps = c.count_line.ensures.steps ∙ ap (λ b. old.counts.steps + (if b then 1 else 0)) c.in_ok-is_step.ensures.step in
    counted-one s old.counts c.count_line.new.self (readable_text c.as_slice.result.now) c.count_line.ensures.lines steps
    ∙ ap (λ r. counts_after s old.counts (r ∷ [])) read

pub returns-clause-wrote_answers : goal.returns-clause-wrote_answers
returns-clause-wrote_answers g c =
    let old = c.args.line_buffer.now in
    let read = ap readable_text (c.as_slice.ensures.value ∙ c.in_ok-append_partial.ensures.items) ∙ reading-partial (old.partial_line.items ++ c.args.input.now) in
    rw read at c.in_ok-is_step.ensures.wrote_answers

pub returns-in_err-append_partial-clause-prefix_on_err : goal.returns-in_err-append_partial-clause-prefix_on_err
returns-in_err-append_partial-clause-prefix_on_err g c = on_any_err _ (nothing-written g.M.LineHandler.handles _ _ _ _)

pub returns-in_err-is_step-clause-prefix_on_err : goal.returns-in_err-is_step-clause-prefix_on_err
returns-in_err-is_step-clause-prefix_on_err g c =
    let old = c.args.line_buffer.now in
    let read = ap readable_text (c.as_slice.ensures.value ∙ c.in_ok-append_partial.ensures.items) ∙ reading-partial (old.partial_line.items ++ c.args.input.now) in
    on_any_err _ (rw read at c.in_err-is_step.ensures.prefix_on_err)
