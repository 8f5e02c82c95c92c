use Rattle.std.proofs.Common.{◌≡◌, Some, None, sym, ap, ◌∙◌}
use Rattle.std.specs.Prelude.{option_map}
use Rattle.sdb_dump.specs.DumpLine.{read_line}
use Rattle.sdb_dump.specs.View.{plain_line_content}
use Rattle.sdb_backend.specs.RestorationModel.{restored_logs}
use Rattle.sdb_store.proofs.RestoreLemmas.{on_ok_map, if_err_map, restorer_kept}
use Rattle.sdb_store.proofs.RestoredItems.{entry_restored, wrong_entry, number_restored, content_of_entry, content_of_number}
use Rattle.sdb_store.proofs.restorer.Restorer.restore_line.Goals as goal

pub returns-in-Some-clause-ok : goal.returns-in-Some-clause-ok
returns-in-Some-clause-ok c =
    let r = plain_line_content c.in-Some.content in
    let old = c.args.self.now in
    let new = c.restore_entry.new.self in
    let line = c.args.line.now in
    let read : read_line line ≡ Some r = sym c.in_ok-content.ensures.read ∙ ap (option_map plain_line_content) c.in-Some.is in
    on_ok_map c.restore_entry.result
    (λ h.
    record {
      content = content_of_entry old new line r read h c.restore_entry.ensures.highest;
      item = λ xs has. entry_restored old new xs line has r read h c.restore_entry.ensures.highest;
    })
    c.restore_entry.ensures.ok

pub returns-in-Some-clause-err : goal.returns-in-Some-clause-err
returns-in-Some-clause-err c =
    let r = plain_line_content c.in-Some.content in
    let line = c.args.line.now in
    let read : read_line line ≡ Some r = sym c.in_ok-content.ensures.read ∙ ap (option_map plain_line_content) c.in-Some.is in
    if_err_map c.restore_entry.result (λ fault h wrong xs has. wrong_entry c.args.self.now c.restore_entry.new.self xs line has r read (h wrong)) c.restore_entry.ensures.err

pub returns-in-None-clause-restorer : goal.returns-in-None-clause-restorer
returns-in-None-clause-restorer c = restorer_kept c.args.self.now c.restore_number.new.self c.restore_number.ensures.documents c.restore_number.ensures.not_lower c.requires

pub returns-in-None-clause-ok : goal.returns-in-None-clause-ok
returns-in-None-clause-ok c =
    let old = c.args.self.now in
    let new = c.restore_number.new.self in
    let line = c.args.line.now in
    let read : read_line line ≡ None = sym c.in_ok-content.ensures.read ∙ ap (option_map plain_line_content) c.in-None.is in
    on_ok_map c.restore_number.result
    (λ h.
    record {
      content = content_of_number old new line read h;
      item = λ xs has. number_restored old new xs line has read h (ap restored_logs c.restore_number.ensures.documents);
    })
    c.restore_number.ensures.ok
