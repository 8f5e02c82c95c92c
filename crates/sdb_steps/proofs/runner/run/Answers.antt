use Rattle.std.proofs.Common.{map, ap}
use Rattle.std.proofs.lemmas.Option.{IfSome_then}
use Rattle.sdb_lines.specs.Lines.{readable_text, lines_of}
use Rattle.sdb_steps.proofs.OutputLemmas.{if_any_some, on_any_err, on_ok, on_err, wrote_all, wrote_prefix, wrote_nothing}
use Rattle.sdb_steps.proofs.runner.run.Goals as goal

pub returns-clause-wrote_all : goal.returns-clause-wrote_all
returns-clause-wrote_all g c =
    on_ok c.run_lines.result (λ h. IfSome_then (g.R.Source.remaining_input c.args.reader.now) h
    (λ input a. wrote_all _ c.run_lines.new.machine (map readable_text (lines_of input)) _ _ (ap (λ w. w.machine) c.in_ok-world.ensures) (ap (λ w. w.sessions) c.in_ok-world.ensures) a)) c.run_lines.ensures.wrote_all

pub returns-clause-prefix_on_err : goal.returns-clause-prefix_on_err
returns-clause-prefix_on_err g c =
    on_err c.run_lines.result (λ h. IfSome_then (g.R.Source.remaining_input c.args.reader.now) h
    (λ input a. wrote_prefix _ (map readable_text (lines_of input)) _ _ (ap (λ w. w.machine) c.in_ok-world.ensures) (ap (λ w. w.sessions) c.in_ok-world.ensures) a)) c.run_lines.ensures.prefix_on_err

pub returns-in_err-world-clause-prefix_on_err : goal.returns-in_err-world-clause-prefix_on_err
returns-in_err-world-clause-prefix_on_err g c =
    on_any_err _ (if_any_some (g.R.Source.remaining_input c.args.reader.now) _ (λ input. wrote_nothing (map readable_text (lines_of input)) _))
