use Rattle.std.proofs.Common.{◌<◌, length, arith, refl}
use Rattle.std.proofs.lemmas.Bool.Decides.{nat_tests}
use Rattle.sdb_apply.proofs.BelowLemmas.{common_prefix_extends}
use Rattle.sdb_apply.proofs.atomic_apply.common_prefix_len.Goals as goal

pub loop-at-preserved : goal.loop-at-preserved
loop-at-preserved c =
    let within : c.loop-at.at < length c.args.other.now = grind (arith, nat_tests, c.in-Some.ensures.lookup.0) in (
      common_prefix_extends c.args.path.now c.args.other.now c.loop-at.at c.index-path-at.result c.in-Some.beside.now c.loop-at-test.true within c.index-path-at.is c.in-Some.ensures.lookup.1 (c.if-not-steps_equal_at.ensures refl) c.loop-at.invariant.0,
      omega (arith, within),
    )
