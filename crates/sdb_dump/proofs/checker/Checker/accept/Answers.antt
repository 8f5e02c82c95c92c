use Rattle.std.proofs.Common.{◌≡◌, ap, sym, ◌∙◌}
use Rattle.sdb_oplog.specs.Keys.{PlainKey}
use Rattle.sdb_dump.specs.CheckerModel.{AreNotEmpty, logs_of_map}
use Rattle.sdb_dump.specs.DumpText.{log_of_lines}
use Rattle.sdb_dump.proofs.EnterLemmas.{accepted_none, accepted_some}
use Rattle.sdb_dump.proofs.LogMapLemmas.{documents_of}
use Rattle.sdb_dump.proofs.checker.Checker.accept.Goals as goal
use Rattle.sdb_dump.proofs.checker.Checker.accept.Goals.{in-Some+in_ok-keep_log, in_default}

pub returns-clause-accepted : goal.returns-clause-accepted
returns-clause-accepted c = λ xs h.
    let old = c.args.self in
    let es = c.match-take.self.logs.entries in
    let kept : (((q : PlainKey) → logs_of_map es q ≡ log_of_lines xs q) × AreNotEmpty es) × (c.match-take.self.entries ≡ old.entries) = elim c.match-take.branch [
      | in-Some+in_ok-keep_log w ↦ (
        accepted_some old es w.in-Some.last xs (sym c.take.ensures.value ∙ w.in-Some.is) (ap (λ x. x.logs.entries) w.self-is ∙ w.in_ok-keep_log.ensures.logs) h,
        ap (λ x. x.entries) w.self-is ∙ w.in_ok-keep_log.ensures.entries,
      )
      | in_default w ↦ (
        accepted_none old es xs (sym c.take.ensures.value ∙ w.in_default.is) (ap (λ x. x.logs.entries) w.self-is) h,
        ap (λ x. x.entries) w.self-is,
      )
    ] in
    record {
      logs = kept.0.0;
      documents = documents_of es c.len.result c.len.ensures.ordered kept.0.1 c.len.ensures.len;
      fits = h.fits;
      counted = kept.1 ∙ h.counted;
    }
