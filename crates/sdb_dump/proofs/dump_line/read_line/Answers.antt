use Rattle.std.proofs.Common.{sym, ◌∙◌}
use Rattle.sdb_dump.specs.DumpLine.{line_of_data}
use Rattle.sdb_dump.proofs.HoldsLemmas.{if_ok_then}
use Rattle.sdb_dump.proofs.LineValueLemmas.{no_value, value_of_tree}
use Rattle.sdb_dump.proofs.dump_line.read_line.Goals as goal

pub returns-in_default-clause-read : goal.returns-in_default-clause-read
returns-in_default-clause-read c = sym (no_value line_of_data c.args.line.now c.in_default.ensures.cases.0)

pub returns-in-Some-clause-read : goal.returns-in-Some-clause-read
returns-in-Some-clause-read c =
    let is = value_of_tree line_of_data c.args.line.now c.in-Ok.text.now c.in_ok-value.field-0 c.in-Some.value c.in-Ok.ensures.cases.1 c.in-Ok.ensures.cases.0 c.in_ok-value.ensures.ok c.in-Some.is in
    if_ok_then c.read_line_data.result (λ l g. g ∙ sym is) c.read_line_data.ensures.line
