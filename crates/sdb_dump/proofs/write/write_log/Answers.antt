use Rattle.std.proofs.Common.{◌+◌, ◌∙◌, drop}
use Rattle.sdb_oplog.specs.Keys.{plain_key}
use Rattle.sdb_dump.specs.WriteModel.{log_text}
use Rattle.sdb_dump.proofs.OutputLemmas.{but_then, but_some, but_prefix, entry_left, on_any_err}
use Rattle.sdb_dump.proofs.write.write_log.Goals as goal

pub returns-in_err-append_line-clause-prefix_on_err : goal.returns-in_err-append_line-clause-prefix_on_err
returns-in_err-append_line-clause-prefix_on_err g c = on_any_err _ (but_some c.loop-entry.invariant.wrote)

pub returns-in_err-extend_from_slice-clause-prefix_on_err : goal.returns-in_err-extend_from_slice-clause-prefix_on_err
returns-in_err-extend_from_slice-clause-prefix_on_err g c = on_any_err _ (but_some c.loop-entry.invariant.wrote)

pub returns-in_err-flush_if_full-clause-prefix_on_err : goal.returns-in_err-flush_if_full-clause-prefix_on_err
returns-in_err-flush_if_full-clause-prefix_on_err g c =
    let i = c.loop-entry.entry-index in
    let k = plain_key c.args.key.now in
    let line_buffer = c.extend_from_slice.new.self.items in
    let is = entry_left k c.args.entries.now i c.entry-item.result c.loop-entry.out.items c.append_line.new.out.items line_buffer c.loop-entry-test.true c.entry-item.is c.in_ok-append_line.ensures c.in_ok-extend_from_slice.ensures.items in
    on_any_err _ (but_prefix _ line_buffer (log_text k (drop (i + 1) c.args.entries.now)) c.loop-entry.invariant.wrote is c.in_err-flush_if_full.ensures.prefix_on_err)

pub loop-entry-preserved : goal.loop-entry-preserved
loop-entry-preserved g c =
    let i = c.loop-entry.entry-index in
    let k = plain_key c.args.key.now in
    let line_buffer = c.extend_from_slice.new.self.items in
    let is = entry_left k c.args.entries.now i c.entry-item.result c.loop-entry.out.items c.append_line.new.out.items line_buffer c.loop-entry-test.true c.entry-item.is c.in_ok-append_line.ensures c.in_ok-extend_from_slice.ensures.items in
    record {
      unfailed = c.in_ok-flush_if_full.ensures.no_failure ∙ c.loop-entry.invariant.unfailed;
      wrote = but_then line_buffer (log_text k (drop (i + 1) c.args.entries.now)) c.flush_if_full.new.out.items c.loop-entry.invariant.wrote is c.in_ok-flush_if_full.ensures.wrote;
    }
