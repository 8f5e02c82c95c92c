use Rattle.std.proofs.Common.{◌≡◌, Some, None, ◌∙◌, ap, sym, arith, length, ◌≤◌}
use Rattle.sdb_lines.specs.Lines.{readable_text}
use Rattle.sdb_lines.proofs.AnswerParts.{unreadable-answers, unreadable-step}
use Rattle.sdb_lines.proofs.ChunkLemmas.{reading-good, reading-bad}
use Rattle.sdb_lines.proofs.line_reader.handle_line.Goals as goal

pub returns-in-Ok-clause-answer : goal.returns-in-Ok-clause-answer
returns-in-Ok-clause-answer g c =
    let line = c.args.line.now in
    let short : length line ≤ 1048576 = omega arith in
    let e : readable_text line ≡ Some c.in-Ok.text.now = reading-good line short c.in-Ok.ensures.cases.1 ∙ ap Some (sym c.in-Ok.ensures.cases.0) in
    simp e c.handle.ensures.answer

pub returns-in-Ok-clause-step : goal.returns-in-Ok-clause-step
returns-in-Ok-clause-step g c =
    let line = c.args.line.now in
    let short : length line ≤ 1048576 = omega arith in
    let e : readable_text line ≡ Some c.in-Ok.text.now = reading-good line short c.in-Ok.ensures.cases.1 ∙ ap Some (sym c.in-Ok.ensures.cases.0) in
    simp e c.handle.ensures.step

pub returns-in-Err-clause-answer : goal.returns-in-Err-clause-answer
returns-in-Err-clause-answer g c =
    let line = c.args.line.now in
    let short : length line ≤ 1048576 = omega arith in
    let e : readable_text line ≡ None = reading-bad line short c.in-Err.ensures.cases.0 in
    let h = c.handle_unreadable-in-Err in
    unreadable-answers g.M.LineHandler.handles g.M.LineHandler.is_answering g.M.LineHandler.state h.result (g.M.LineHandler.state c.args.machine.now) h.new.machine (readable_text line) c.args.out.now.items h.new.out.items e h.ensures.answer h.ensures.progress

pub returns-in-Err-clause-step : goal.returns-in-Err-clause-step
returns-in-Err-clause-step g c =
    let line = c.args.line.now in
    let short : length line ≤ 1048576 = omega arith in
    let e : readable_text line ≡ None = reading-bad line short c.in-Err.ensures.cases.0 in
    unreadable-step c.handle_unreadable-in-Err.result g.M.LineHandler.counts_as_step (readable_text line) e c.handle_unreadable-in-Err.ensures.progress
