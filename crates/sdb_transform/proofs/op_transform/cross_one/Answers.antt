use Rattle.std.proofs.Common.{refl}
use Rattle.sdb_transform.proofs.PairLemmas.{one_pair}
use Rattle.sdb_transform.proofs.WeightLemmas.{few_pairs}
use Rattle.sdb_transform.proofs.op_transform.cross_one.Goals as goal

pub returns-clause-ok : goal.returns-clause-ok
returns-clause-ok c = (_, one_pair c.args.left.now c.args.right.now _ _ c.in_ok-pieces.ensures.ok c.in_ok-run.ensures.ok, c.into_op.ensures, c.into_op-2.ensures, refl)

pub returns-clause-bound : goal.returns-clause-bound
returns-clause-bound c = few_pairs _ _ _ (one_pair c.args.left.now c.args.right.now _ _ c.in_ok-pieces.ensures.ok c.in_ok-run.ensures.ok)
