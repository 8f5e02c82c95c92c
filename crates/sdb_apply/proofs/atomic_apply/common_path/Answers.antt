use Rattle.sdb_apply.proofs.BelowLemmas.{shared_prefix, shared_more}
use Rattle.sdb_value.specs.View.{plain_path}
use Rattle.sdb_apply.proofs.atomic_apply.common_path.Goals as goal

pub loop-component-preserved : goal.loop-component-preserved
loop-component-preserved c = (
  shared_prefix c.common_prefix_len.result c.loop-component.shared.now (plain_path c.args.path.now) c.loop-component.invariant.0,
  shared_more c.common_prefix_len.result c.loop-component.component-index c.loop-component.shared.now c.path.result.now c.args.components.now c.component-item.result c.loop-component-test.true c.component-item.is c.common_prefix_len.ensures.in_range
      c.path.ensures c.common_prefix_len.ensures.equal c.loop-component.invariant.1,
)
