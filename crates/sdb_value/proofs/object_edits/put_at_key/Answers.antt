use Rattle.std.proofs.Common.{string_bytes}
use Rattle.sdb_value.specs.laws.PrefixLaws.{on_any_err}
use Rattle.sdb_value.proofs.PutLemmas.{object_put, object_unchanged, object_absent, unique_inserted}
use Rattle.sdb_value.proofs.object_edits.put_at_key.Goals as goal

pub returns-in_err-insert-clause-err : goal.returns-in_err-insert-clause-err
returns-in_err-insert-clause-err c = on_any_err c.from_residual.result (object_unchanged c.args.members.now c.insert.new.self c.in_err-insert.ensures.err)

pub returns-in_err-insert-clause-absent_on_err : goal.returns-in_err-insert-clause-absent_on_err
returns-in_err-insert-clause-absent_on_err c own =
    on_any_err c.from_residual.result (object_absent c.args.members.now (string_bytes c.args.key) (c.in_err-insert.ensures.absent_on_err own))

pub returns-in_err-insert-clause-unique : goal.returns-in_err-insert-clause-unique
returns-in_err-insert-clause-unique c own new =
    unique_inserted c.insert.result c.args.members.now c.insert.new.self (string_bytes c.args.key) c.args.new c.insert.ensures.ok c.insert.ensures.err c.insert.ensures.unique own new

pub returns-clause-ok : goal.returns-clause-ok
returns-clause-ok c = object_put c.args.members.now c.insert.new.self (string_bytes c.args.key) c.args.new c.in_ok-insert.ensures.ok

pub returns-clause-unique : goal.returns-clause-unique
returns-clause-unique c own new =
    unique_inserted c.insert.result c.args.members.now c.insert.new.self (string_bytes c.args.key) c.args.new c.insert.ensures.ok c.insert.ensures.err c.insert.ensures.unique own new
