use Rattle.std.proofs.Common.{◌≡◌, ◌+◌, Some, None, length, refl, sym, ap, ap₂, ◌∙◌, subst}
use Rattle.std.specs.List.{slice_get}
use Rattle.sdb_dump.specs.CheckerModel.{CheckerContinues, TakesDocument}
use Rattle.sdb_dump.specs.DumpText.{decided_entry}
use Rattle.sdb_dump.specs.View.{plain_line_content}
use Rattle.sdb_dump.specs.declared.checker.Checker.{Checker}
use Rattle.sdb_dump.specs.declared.checker.LastDocument.{LastDocument}
use Rattle.sdb_dump.proofs.DecideLemmas.{stored_is}
use Rattle.sdb_dump.proofs.EnterLemmas.{not_entered, enter_holds}
use Rattle.sdb_dump.proofs.checker.Checker.check_entry.Goals as goal

pub returns-in_default-get-clause-accepted : goal.returns-in_default-get-clause-accepted
returns-in_default-get-clause-accepted c = λ xs h.
    let r = plain_line_content c.args.read in
    let mid = c.take_document.new.self in
    let log = c.in-Some.document in
    let w : CheckerContinues xs r.key log mid = subst (TakesDocument xs r.key mid) c.in-Some.is (c.in_ok-document.ensures.taken xs h) in
    let by : decided_entry log r.submission r.moment ≡ None =
    ap₂ slice_get (sym (c.log-2.ensures.log ∙ c.in_ok-append_decided.ensures)) (sym (c.len-at.ensures.len ∙ ap length c.log.ensures.log)) ∙ sym c.in_default-get.ensures in
    not_entered xs c.args.line.now r log mid w by

pub returns-clause-accepted : goal.returns-clause-accepted
returns-clause-accepted c = λ xs h.
    let r = plain_line_content c.args.read in
    let old = c.args.self.now in
    let mid = c.take_document.new.self in
    let log = c.in-Some.document in
    let e = c.in-Some-get.entry.now in
    let last : LastDocument = record { key = c.args.read.key; document = c.append_decided.new.log } in
    let new : Checker = record { alloc = mid.alloc; stage = mid.stage; logs = mid.logs; last = Some last; entries = mid.entries + 1 } in
    let w : CheckerContinues xs r.key log mid = subst (TakesDocument xs r.key mid) c.in-Some.is (c.in_ok-document.ensures.taken xs h) in
    let by : decided_entry log r.submission r.moment ≡ Some e =
    ap₂ slice_get (sym (c.log-2.ensures.log ∙ c.in_ok-append_decided.ensures)) (sym (c.len-at.ensures.len ∙ ap length c.log.ensures.log)) ∙ sym c.in-Some-get.ensures in
    enter_holds xs c.args.line.now r log mid w old new e last c.in_ok-is_right.is_right h c.requires.in_limits.0 c.requires.in_limits.1 by refl refl refl
    (c.in_ok-append_decided.ensures ∙ (stored_is log r.submission r.moment e by).grows)
    (ap (λ n. n + 1) c.take_document.ensures.entries) c.in_ok-is_right.ensures
