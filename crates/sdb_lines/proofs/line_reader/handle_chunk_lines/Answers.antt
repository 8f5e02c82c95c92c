use Rattle.std.proofs.Common.{arith, ◌+◌, ◌-◌, ◌++◌, ◌∷◌, [], refl, ap, sym, ◌∙◌, length, take, drop, length-drop, append-nil, append_assoc}
use Rattle.std.proofs.lemmas.List.{length-take}
use Rattle.sdb_lines.specs.Lines.{readable_text}
use Rattle.sdb_lines.specs.Chunks.{lines_ended_by, kept_prefix}
use Rattle.sdb_lines.specs.Counts.{counts_after}
use Rattle.sdb_lines.proofs.ChunkLemmas.{ended-at, unended-at, ended-plain, unended-plain, counted-append}
use Rattle.sdb_lines.proofs.Runs.{lines-line_buffer, lines-prefix, prefix-lines}
use Rattle.sdb_lines.proofs.WriteLemmas.{but-no_error, on_any_err}
use Rattle.sdb_lines.proofs.line_reader.handle_chunk_lines.Goals as goal

pub returns-in_err-handle_partial-clause-prefix_on_err : goal.returns-in_err-handle_partial-clause-prefix_on_err
returns-in_err-handle_partial-clause-prefix_on_err g c =
    let takes = g.M.LineHandler.handles in
    let at = c.in-Some.at in
    let rest = c.loop-at.rest.now in
    let (lines, all, counts, answers) = c.loop-at.invariant.taken in
    let line = readable_text (c.loop-at.line_buffer.partial_line.items ++ take at rest) in
    let tail = lines_ended_by (take (length rest - (at + 1)) (drop (at + 1) rest)) [] in
    let e = ended-at rest c.loop-at.line_buffer.partial_line.items [] at c.in-Some.ensures.found.1 c.in-Some.ensures.found.2 refl in
    let front = prefix-lines takes tail (lines-prefix takes answers c.in_err-handle_partial.ensures.prefix_on_err) in
    on_any_err _ (rw (append_assoc lines (line ∷ []) tail, ← e, ← all) at front)

pub loop-at-preserved : goal.loop-at-preserved
loop-at-preserved g c =
    let takes = g.M.LineHandler.handles in
    let s = g.M.LineHandler.counts_as_step in
    let at = c.in-Some.at in
    let old = c.loop-at.line_buffer in
    let new = c.handle_partial.new.line_buffer in
    let rest = c.loop-at.rest.now in
    let (lines, all, counts, answers) = c.loop-at.invariant.taken in
    let line = readable_text (old.partial_line.items ++ take at rest) in
    let e = ended-at rest old.partial_line.items new.partial_line.items at c.in-Some.ensures.found.1 c.in-Some.ensures.found.2 c.in_ok-handle_partial.ensures.partial_line in
    let u = unended-at rest old.partial_line.items new.partial_line.items at c.in-Some.ensures.found.1 c.in-Some.ensures.found.2 c.in_ok-handle_partial.ensures.partial_line in
    record {
      room = omega (arith, ap (λ k. k.lines) c.in_ok-handle_partial.ensures.count, c.loop-at.invariant.room, c.in-Some.ensures.found.0, length-take (length rest - (at + 1)) (drop (at + 1) rest), length-drop (at + 1) rest);
      unfailed = but-no_error _ _ c.in_ok-handle_partial.ensures.write_failures ∙ c.loop-at.invariant.unfailed;
      unended = c.loop-at.invariant.unended ∙ u;
      taken = (
        lines ++ line ∷ [],
        all ∙ ap (λ l. lines ++ l) e ∙ sym (append_assoc lines (line ∷ []) _),
        c.in_ok-handle_partial.ensures.count ∙ ap (λ k. counts_after s k (line ∷ [])) counts ∙ counted-append s c.args.line_buffer.now.counts lines (line ∷ []),
        lines-line_buffer takes answers c.in_ok-handle_partial.ensures.wrote_answers,
      );
    }

pub returns-clause-partial_line : goal.returns-clause-partial_line
returns-clause-partial_line g c =
    c.in_ok-append_partial.ensures.items ∙ ap kept_prefix (sym (c.loop-at.invariant.unended ∙ unended-plain c.loop-at.rest.now c.loop-at.line_buffer.partial_line.items c.in_default.ensures.none))

pub returns-clause-count : goal.returns-clause-count
returns-clause-count g c =
    let (lines, all, counts, answers) = c.loop-at.invariant.taken in
    let e = ended-plain c.loop-at.rest.now c.loop-at.line_buffer.partial_line.items c.in_default.ensures.none in
    counts ∙ ap (counts_after g.M.LineHandler.counts_as_step c.args.line_buffer.now.counts) (sym (all ∙ ap (λ l. lines ++ l) e ∙ append-nil lines))

pub returns-clause-wrote_answers : goal.returns-clause-wrote_answers
returns-clause-wrote_answers g c =
    let (lines, all, counts, answers) = c.loop-at.invariant.taken in
    let e = ended-plain c.loop-at.rest.now c.loop-at.line_buffer.partial_line.items c.in_default.ensures.none in
    rw (← (all ∙ ap (λ l. lines ++ l) e ∙ append-nil lines)) at answers
