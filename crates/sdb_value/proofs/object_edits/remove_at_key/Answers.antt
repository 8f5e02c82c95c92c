use Rattle.sdb_value.specs.laws.PrefixLaws.{on_any_err}
use Rattle.sdb_value.proofs.PutLemmas.{object_without, object_unchanged, not_held, unique_removed}
use Rattle.sdb_value.proofs.object_edits.remove_at_key.Goals as goal

pub returns-in_err-remove-clause-err : goal.returns-in_err-remove-clause-err
returns-in_err-remove-clause-err c = on_any_err c.from_residual.result (object_unchanged c.args.members.now c.remove.new.self c.in_err-remove.ensures.err)

pub returns-in_err-remove-clause-unique : goal.returns-in_err-remove-clause-unique
returns-in_err-remove-clause-unique c own =
    unique_removed c.remove.result c.args.members.now c.remove.new.self c.args.key.now c.remove.ensures.ok c.remove.ensures.err c.remove.ensures.unique own

pub returns-in_err-remove-clause-shared_on_err : goal.returns-in_err-remove-clause-shared_on_err
returns-in_err-remove-clause-shared_on_err c = on_any_err c.from_residual.result (not_held c.args.members.now c.in_err-remove.ensures.shared_on_err)

pub returns-clause-ok : goal.returns-clause-ok
returns-clause-ok c = object_without c.args.members.now c.remove.new.self c.args.key.now c.in_ok-remove.ensures.ok

pub returns-clause-unique : goal.returns-clause-unique
returns-clause-unique c own =
    unique_removed c.remove.result c.args.members.now c.remove.new.self c.args.key.now c.remove.ensures.ok c.remove.ensures.err c.remove.ensures.unique own
