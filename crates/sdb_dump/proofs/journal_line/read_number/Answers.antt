use Rattle.std.proofs.Common.{sym, ◌∙◌}
use Rattle.sdb_dump.specs.JournalText.{number_of_data}
use Rattle.sdb_dump.proofs.HoldsLemmas.{if_ok_then}
use Rattle.sdb_dump.proofs.LineValueLemmas.{no_value, value_of_tree}
use Rattle.sdb_dump.proofs.journal_line.read_number.Goals as goal

pub returns-in_default : goal.returns-in_default
returns-in_default c = let line = c.args.line.now in sym (no_value (number_of_data line) line c.in_default.ensures.cases.0)

pub returns-in-Some : goal.returns-in-Some
returns-in-Some c =
    let line = c.args.line.now in
    let is = value_of_tree (number_of_data line) line c.in-Ok.text.now c.in_ok-value.field-0 c.in-Some.value c.in-Ok.ensures.cases.1 c.in-Ok.ensures.cases.0 c.in_ok-value.ensures.ok c.in-Some.is in
    if_ok_then c.number_of_data.result (λ l g. g ∙ sym is) c.number_of_data.ensures
