use Rattle.std.proofs.Common.{true≢false, sym, ◌∙◌}
use Rattle.sdb_value.specs.laws.PrefixLaws.{on_any_err}
use Rattle.sdb_value.proofs.ListLemmas.{list_removed, list_same, shared_at, shared_place, unique_removed}
use Rattle.sdb_value.proofs.list_edits.remove_item.Goals as goal

pub returns-in_err-remove-clause-err : goal.returns-in_err-remove-clause-err
returns-in_err-remove-clause-err c = on_any_err c.from_residual.result (list_same c.args.items.now c.remove.new.self c.in_err-remove.ensures.err.0)

pub returns-in_err-remove-clause-shared_on_err : goal.returns-in_err-remove-clause-shared_on_err
returns-in_err-remove-clause-shared_on_err c = on_any_err c.from_residual.result (shared_at c.args.items.now c.args.index c.in_err-remove.ensures.err.1)

pub returns-in_err-remove-clause-unique : goal.returns-in_err-remove-clause-unique
returns-in_err-remove-clause-unique c =
    λ own. absurd (true≢false (sym own ∙ shared_place c.args.items.now c.args.index c.in_err-remove.ensures.err.1))

pub returns-clause-ok : goal.returns-clause-ok
returns-clause-ok c =
    list_removed c.in_ok-remove.field-0 c.is_some.result c.args.items.now c.remove.new.self c.args.index c.in_ok-remove.ensures.ok.0 c.in_ok-remove.ensures.ok.1
    c.is_some.ensures

pub returns-clause-unique : goal.returns-clause-unique
returns-clause-unique c = unique_removed c.args.items.now c.remove.new.self c.args.index c.in_ok-remove.ensures.ok.1 c.remove.ensures.unique
