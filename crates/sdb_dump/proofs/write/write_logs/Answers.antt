use Rattle.std.proofs.Common.{◌+◌, ◌++◌, ◌∙◌, drop, length, map, arith}
use Rattle.sdb_oplog.specs.Keys.{plain_key}
use Rattle.sdb_dump.specs.LogListing.{lines_of_logs}
use Rattle.sdb_dump.specs.WriteModel.{log_text, logs_text}
use Rattle.sdb_dump.proofs.OutputLemmas.{but_then, but_prefix, log_left, count_left, no_error, on_any_err}
use Rattle.sdb_dump.proofs.write.write_logs.Goals as goal

pub returns-in_err-write_log-clause-prefix_on_err : goal.returns-in_err-write_log-clause-prefix_on_err
returns-in_err-write_log-clause-prefix_on_err g c =
    let f = g.D.DumpSource.logs c.args.documents.now in
    let i = c.loop-key.key-index in
    let keys = c.args.keys.now in
    let es = c.entries_of-entries.result.now in
    let out = c.loop-key.out.items in
    let is = log_left f keys i c.key-item.result es out c.loop-key-test.true c.key-item.is c.entries_of-entries.ensures in
    on_any_err _ (but_prefix _ (out ++ log_text (plain_key c.key-item.result) es) (logs_text f (map plain_key (drop (i + 1) keys))) c.loop-key.invariant.wrote is c.in_err-write_log.ensures.prefix_on_err)

pub loop-key-preserved : goal.loop-key-preserved
loop-key-preserved g c =
    let f = g.D.DumpSource.logs c.args.documents.now in
    let i = c.loop-key.key-index in
    let keys = c.args.keys.now in
    let es = c.entries_of-entries.result.now in
    let out = c.loop-key.out.items in
    let is = log_left f keys i c.key-item.result es out c.loop-key-test.true c.key-item.is c.entries_of-entries.ensures in
    record {
      unfailed = no_error c.in_ok-write_log.ensures.write_failures ∙ c.loop-key.invariant.unfailed;
      few = search (arith, c.loop-key.invariant.few);
      counted = count_left f keys i c.key-item.result es c.loop-key.count (length (lines_of_logs f (map plain_key keys))) c.loop-key-test.true c.key-item.is c.entries_of-entries.ensures c.loop-key.invariant.counted;
      wrote = but_then (out ++ log_text (plain_key c.key-item.result) es) (logs_text f (map plain_key (drop (i + 1) keys))) c.write_log.new.out.items c.loop-key.invariant.wrote is c.in_ok-write_log.ensures.wrote;
    }
