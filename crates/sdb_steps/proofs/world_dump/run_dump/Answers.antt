use Rattle.std.proofs.Common.{map, ap}
use Rattle.std.proofs.KnownBytes.{Appends-nil}
use Rattle.std.proofs.Common.{inl}
use Rattle.std.proofs.lemmas.Option.{IfSome_then}
use Rattle.sdb_lines.specs.Lines.{readable_text, lines_of}
use Rattle.sdb_steps.proofs.DumpLemmas.{unwritten_prefix, dump_written, dumped_prefix, writes_on, reads_on, if_ok_both}
use Rattle.sdb_steps.proofs.OutputLemmas.{if_any_some, on_any_err, on_err}
use Rattle.sdb_steps.proofs.world_dump.run_dump.Goals as goal

pub returns-in_err-run_lines-clause-prefix_on_err : goal.returns-in_err-run_lines-clause-prefix_on_err
returns-in_err-run_lines-clause-prefix_on_err g c =
    on_any_err _ (IfSome_then (g.R.Source.remaining_input c.args.reader.now) c.in_err-run_lines.ensures.prefix_on_err
    (λ input a. unwritten_prefix _ (map readable_text (lines_of input)) _ _ a))

pub returns-clause-wrote_all : goal.returns-clause-wrote_all
returns-clause-wrote_all g c =
    if_ok_both c.dump.result _ _ (λ wrote n counted. IfSome_then (g.R.Source.remaining_input c.args.reader.now) c.in_ok-run_lines.ensures.wrote_all
    (λ input a. dump_written _ c.run_lines.new.machine (map readable_text (lines_of input)) _ _ _ n (ap (λ w. w.machine) c.in_ok-new.ensures) (ap (λ w. w.sessions) c.in_ok-new.ensures) a wrote counted)) c.dump.ensures.wrote_all c.dump.ensures.entries

pub returns-clause-prefix_on_err : goal.returns-clause-prefix_on_err
returns-clause-prefix_on_err g c =
    on_err c.dump.result (λ wrote. IfSome_then (g.R.Source.remaining_input c.args.reader.now) c.in_ok-run_lines.ensures.wrote_all
    (λ input a. dumped_prefix _ c.run_lines.new.machine (map readable_text (lines_of input)) _ _ _ (ap (λ w. w.machine) c.in_ok-new.ensures) (ap (λ w. w.sessions) c.in_ok-new.ensures) a wrote)) c.dump.ensures.prefix_on_err

pub returns-clause-read_failures : goal.returns-clause-read_failures
returns-clause-read_failures g c = reads_on c.dump.result _ _ _ _ c.in_ok-run_lines.ensures.read_failures c.dump.ensures.never_read_failed

pub returns-clause-write_failures : goal.returns-clause-write_failures
returns-clause-write_failures g c = writes_on c.dump.result _ _ _ c.in_ok-run_lines.ensures.write_failures c.dump.ensures.write_failures
