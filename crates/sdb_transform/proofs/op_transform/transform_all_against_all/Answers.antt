use Rattle.std.proofs.Common.{◌≡◌, length, arith}
use Rattle.std.proofs.lemmas.Bool.Decides.{nat_tests}
use Rattle.sdb_transform.proofs.SideLemmas.{empty_rebased}
use Rattle.sdb_transform.proofs.StackLemmas.{empty_list}
use Rattle.sdb_transform.proofs.op_transform.transform_all_against_all.Goals as goal

pub returns-then-is_empty-clause-ok : goal.returns-then-is_empty-clause-ok
returns-then-is_empty-clause-ok c =
    let none : length c.args.components.items ≡ 0 = grind (arith, nat_tests, c.args.components.ok.0, c.is_empty.ensures, c.if-is_empty.true) in
    rw c.new.ensures (empty_rebased c.args.side c.args.components.items c.args.others.now (empty_list c.args.components.items none))
