use Rattle.std.proofs.Common.{rules, ◌≡◌, ◌<◌, ◌∷◌, [], ap, ◌∙◌, sym, length}
use Rattle.std.proofs.lemmas.Result.{on_err_weaker}
use Rattle.sdb_lines.specs.Lines.{readable_text, readable_lines_from}
use Rattle.sdb_lines.proofs.Runs.{line_buffer-prefix}
use Rattle.sdb_lines.proofs.ChunkLemmas.{readings-last}
use Rattle.sdb_lines.proofs.line_reader.handle_rest.Goals as goal

pub returns-clause-prefix_on_err : goal.returns-clause-prefix_on_err
returns-clause-prefix_on_err g c =
    let takes = g.M.LineHandler.handles in
    let old = c.args.line_buffer.now in
    let some : 0 < length old.partial_line.items = search rules in
    let read : readable_lines_from [] old.partial_line.items ≡ readable_text c.as_slice.result.now ∷ [] = readings-last old.partial_line.items some ∙ ap (λ l. readable_text l ∷ []) (sym c.as_slice.ensures.value) in
    let whole = rw (c.requires.empty, ← read) at c.in_ok-is_step.ensures.wrote_answers in
    on_err_weaker c.write_and_flush.result (λ f. line_buffer-prefix takes _ whole f) c.write_and_flush.ensures.prefix_on_err
