use Rattle.sdb_value.specs.laws.PrefixLaws.{on_any_err}
use Rattle.sdb_value.proofs.ListLemmas.{list_replaced, list_same, unique_replaced, unique_same}
use Rattle.sdb_value.proofs.list_edits.replace_item.Goals as goal

pub returns-in_err-replace-clause-err : goal.returns-in_err-replace-clause-err
returns-in_err-replace-clause-err c = on_any_err c.from_residual.result (list_same c.args.items.now c.replace.new.self c.in_err-replace.ensures.err.0)

pub returns-in_err-replace-clause-unique : goal.returns-in_err-replace-clause-unique
returns-in_err-replace-clause-unique c own fresh = unique_same c.args.items.now c.replace.new.self c.in_err-replace.ensures.err.0 c.replace.ensures.unique own

pub returns-clause-ok : goal.returns-clause-ok
returns-clause-ok c =
    list_replaced c.in_ok-replace.field-0 c.is_some.result c.args.items.now c.replace.new.self c.args.index c.args.new c.in_ok-replace.ensures.ok.0
    c.in_ok-replace.ensures.ok.1 c.is_some.ensures

pub returns-clause-unique : goal.returns-clause-unique
returns-clause-unique c = unique_replaced c.args.items.now c.replace.new.self c.args.index c.args.new c.in_ok-replace.ensures.ok.1 c.replace.ensures.unique
