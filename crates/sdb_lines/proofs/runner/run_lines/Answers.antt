use Rattle.std.proofs.Common.{arith, take, ap, ◌∙◌, length-take, refl}
use Rattle.sdb_lines.proofs.ChunkLemmas.{ended-few}
use Rattle.sdb_lines.proofs.Runs.{nothing-written}
use Rattle.sdb_lines.proofs.WriteLemmas.{but-no_error, if_any_some, on_any_err}
use Rattle.sdb_lines.proofs.ProgressLemmas.{progress-start, progress-step, progress-prefix, progress-stop, progress-whole, progress-whole_prefix, progress-counts, opening-prefix}
use Rattle.sdb_lines.proofs.runner.run_lines.Goals as goal

pub returns-in_err-space-clause-prefix_on_err : goal.returns-in_err-space-clause-prefix_on_err
returns-in_err-space-clause-prefix_on_err g c =
    on_any_err _ (if_any_some (g.R.Source.remaining_input c.args.reader.now) _ (λ _. nothing-written g.M.LineHandler.handles _ _ _ _))

pub returns-in_err-write_opening-clause-prefix_on_err : goal.returns-in_err-write_opening-clause-prefix_on_err
returns-in_err-write_opening-clause-prefix_on_err g c =
    on_any_err _ (opening-prefix g.M.LineHandler.handles g.M.LineHandler.counts_as_step (g.R.Source.remaining_input c.args.reader.now) (g.M.LineHandler.state c.args.machine.now) (g.M.LineHandler.opening c.args.machine.now) _ _ c.in_err-write_opening.ensures.prefix_on_err)

pub loop-turn-init : goal.loop-turn-init
loop-turn-init g c = record {
  empty = c.new-line_buffer.ensures.out;
  room = omega arith;
  few = omega arith;
  calls = omega arith;
  at_most = omega arith;
  reads = refl;
  writes = but-no_error _ _ c.in_ok-write_opening.ensures.write_failures;
  went = progress-start g.M.LineHandler.handles g.M.LineHandler.counts_as_step _ _ _ _ _ _ _ c.in_ok-write_opening.ensures.wrote c.new-line_buffer.ensures.partial_line c.new-line_buffer.ensures.lines c.new-line_buffer.ensures.steps;
}

pub loop-turn-preserved : goal.loop-turn-preserved
loop-turn-preserved g c =
    let input = take c.in-Ok.n c.read_into.new.buf in
    record {
      empty = c.in_ok-handle_chunk-in-Ok.ensures.empty;
      room = omega (arith, c.loop-turn.invariant.room, c.read_into.auto.buf);
      few = omega (arith, ap (λ n. n.lines) c.in_ok-handle_chunk-in-Ok.ensures.count, c.loop-turn.invariant.few, c.loop-turn.invariant.room, c.read_into.auto.buf, ended-few input c.loop-turn.line_buffer.partial_line.items, length-take c.in-Ok.n c.read_into.new.buf);
      calls = omega (arith, c.loop-turn.invariant.calls, c.read_into.ensures.calls);
      at_most = omega (arith, c.loop-turn.invariant.at_most, c.read_into.ensures.calls);
      reads = c.in-Ok.ensures.failures ∙ c.loop-turn.invariant.reads;
      writes = but-no_error _ _ c.in_ok-handle_chunk-in-Ok.ensures.write_failures ∙ c.loop-turn.invariant.writes;
      went = progress-step g.M.LineHandler.handles g.M.LineHandler.counts_as_step _ input _ _ c.loop-turn.invariant.went c.in-Ok.ensures.bytes.0 c.in_ok-handle_chunk-in-Ok.ensures.partial_line c.in_ok-handle_chunk-in-Ok.ensures.count c.in_ok-handle_chunk-in-Ok.ensures.wrote_answers;
    }

pub returns-clause-prefix_on_err : goal.returns-clause-prefix_on_err
returns-clause-prefix_on_err g c = progress-prefix g.M.LineHandler.handles g.M.LineHandler.counts_as_step c.loop-turn.invariant.went

pub returns-in-Err-clause-prefix_on_err : goal.returns-in-Err-clause-prefix_on_err
returns-in-Err-clause-prefix_on_err g c = progress-prefix g.M.LineHandler.handles g.M.LineHandler.counts_as_step c.loop-turn.invariant.went

pub returns-in_err-handle_chunk-in-Ok-clause-prefix_on_err : goal.returns-in_err-handle_chunk-in-Ok-clause-prefix_on_err
returns-in_err-handle_chunk-in-Ok-clause-prefix_on_err g c =
    on_any_err _ (progress-stop g.M.LineHandler.handles g.M.LineHandler.counts_as_step _ (take c.in-Ok.n c.read_into.new.buf) c.loop-turn.invariant.went c.in-Ok.ensures.bytes.0 c.in_err-handle_chunk-in-Ok.ensures.prefix_on_err)

pub returns-in_err-handle_rest-in-Ok-eq0-clause-prefix_on_err : goal.returns-in_err-handle_rest-in-Ok-eq0-clause-prefix_on_err
returns-in_err-handle_rest-in-Ok-eq0-clause-prefix_on_err g c =
    let takes = g.M.LineHandler.handles in
    let bytes = c.in-Ok-eq0.ensures.bytes in
    let nothing = ap (λ n. take n c.read_into.new.buf) c.in-Ok-eq0.field-0-test in
    let ends = bytes.1 c.in-Ok-eq0.field-0-test (omega (arith, c.loop-turn.invariant.room, c.read_into.auto.buf)) in
    on_any_err _ (progress-whole_prefix takes g.M.LineHandler.counts_as_step _ _ nothing c.loop-turn.invariant.went bytes.0 ends _ c.in_err-handle_rest-in-Ok-eq0.ensures.prefix_on_err)

pub returns-in-Ok-eq0-clause-wrote_all : goal.returns-in-Ok-eq0-clause-wrote_all
returns-in-Ok-eq0-clause-wrote_all g c =
    let takes = g.M.LineHandler.handles in
    let bytes = c.in-Ok-eq0.ensures.bytes in
    let nothing = ap (λ n. take n c.read_into.new.buf) c.in-Ok-eq0.field-0-test in
    let ends = bytes.1 c.in-Ok-eq0.field-0-test (omega (arith, c.loop-turn.invariant.room, c.read_into.auto.buf)) in
    progress-whole takes g.M.LineHandler.counts_as_step _ _ nothing c.loop-turn.invariant.went bytes.0 ends _ _ c.in_ok-handle_rest-in-Ok-eq0.ensures.wrote_answers

pub returns-in-Ok-eq0-clause-counts : goal.returns-in-Ok-eq0-clause-counts
returns-in-Ok-eq0-clause-counts g c =
    let takes = g.M.LineHandler.handles in
    let bytes = c.in-Ok-eq0.ensures.bytes in
    let nothing = ap (λ n. take n c.read_into.new.buf) c.in-Ok-eq0.field-0-test in
    let ends = bytes.1 c.in-Ok-eq0.field-0-test (omega (arith, c.loop-turn.invariant.room, c.read_into.auto.buf)) in
    progress-counts takes g.M.LineHandler.counts_as_step _ _ nothing c.loop-turn.invariant.went bytes.0 ends _ c.in_ok-handle_rest-in-Ok-eq0.ensures.count
