use Rattle.std.proofs.Common.{arith, ◌∙◌}
use Rattle.std.proofs.lemmas.Bool.{ne_eqb}
use Rattle.sdb_lines.proofs.WriteLemmas.{put-more, prefix-taken}
use Rattle.sdb_lines.proofs.Runs.{Appends-unchanged}
use Rattle.sdb_lines.proofs.line_reader.flush_buffer.Goals as goal

pub returns-in-Ok-eq0-clause-prefix_on_err : goal.returns-in-Ok-eq0-clause-prefix_on_err
returns-in-Ok-eq0-clause-prefix_on_err g c =
    prefix-taken _ _ c.args.out.now.items _ (put-more _ _ _ c.args.out.now.items c.deref.result.now c.loop-at.at c.in-Ok-eq0.field-0 c.deref.ensures.value c.loop-at.invariant.wrote c.in-Ok-eq0.ensures.bytes)

pub loop-at-preserved : goal.loop-at-preserved
loop-at-preserved g c = record {
  in_range = omega (arith, c.in-Ok.ensures.bound);
  unfailed = (let e = rw (ne_eqb c.in-Ok.n 0 c.in-Ok.n-test.1) at c.in-Ok.ensures.failures in e ∙ c.loop-at.invariant.unfailed);
  wrote = put-more _ _ _ c.args.out.now.items c.deref.result.now c.loop-at.at c.in-Ok.n c.deref.ensures.value c.loop-at.invariant.wrote c.in-Ok.ensures.bytes;
}

pub returns-in-Err-clause-prefix_on_err : goal.returns-in-Err-clause-prefix_on_err
returns-in-Err-clause-prefix_on_err g c =
    prefix-taken _ _ c.args.out.now.items c.loop-at.at (Appends-unchanged _ _ _ _ c.loop-at.invariant.wrote c.in-Err.ensures.bytes)
