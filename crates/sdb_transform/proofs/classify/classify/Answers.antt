use Rattle.std.proofs.Common.{◌≡◌, Some, sym, arith}
use Rattle.sdb_value.specs.View.{plain_path}
use Rattle.sdb_transform.specs.Transform.{strip_prefix}
use Rattle.sdb_transform.proofs.ClassificationLemmas.{kind_of_first}
use Rattle.sdb_transform.proofs.classify.classify.Goals as goal

pub returns-in-len1-up : goal.returns-in-len1-up
returns-in-len1-up c =
    let e : strip_prefix c.args.other.now.path c.args.component.now.path ≡ Some (plain_path c.in-Some.rest.now) = sym (rw (c.path.ensures, c.path-2.ensures) at c.in-Some.ensures) in
    let p = kind_of_first c.classify_step.result c.args.side c.args.component.now c.args.other.now c.in-Some.rest.now c.step-item.result (omega arith) c.step-item.is e (rw c.act-in-len1-up.ensures at c.classify_step.ensures) in
    record { kind = p.0; feasible = p.1 }
