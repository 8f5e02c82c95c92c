use Rattle.std.proofs.Common.{refl, sym, ◌∙◌, subst}
use Rattle.sdb_oplog.specs.Keys.{plain_key}
use Rattle.sdb_dump.specs.CheckerModel.{CheckerContinues}
use Rattle.sdb_dump.specs.declared.checker.Checker.{Checker}
use Rattle.sdb_dump.proofs.EnterLemmas.{takes_first, takes_below, takes_same, takes_above}
use Rattle.sdb_dump.proofs.checker.Checker.take_document.Goals as goal

pub returns-in_default-clause-taken : goal.returns-in_default-clause-taken
returns-in_default-clause-taken c = λ xs h.
    let old = c.args.self.now in
    let k = plain_key c.args.key.now in
    let mid : Checker = record { alloc = old.alloc; stage = old.stage; logs = old.logs; last = c.take.new.self; entries = old.entries } in
    subst (λ d. CheckerContinues xs k d mid) (sym c.new.ensures) (takes_first old mid xs k (sym c.take.ensures.value ∙ c.in_default.is) refl h)

pub returns-in-Less-clause-taken : goal.returns-in-Less-clause-taken
returns-in-Less-clause-taken c = λ xs h.
    let old = c.args.self.now in
    takes_below old old c.in-Some.last xs (plain_key c.args.key.now) (sym c.take.ensures.value ∙ c.in-Some.is) h (sym c.cmp.ensures ∙ c.in-Less.is)

pub returns-in-Equal-clause-taken : goal.returns-in-Equal-clause-taken
returns-in-Equal-clause-taken c = λ xs h.
    let old = c.args.self.now in
    let mid : Checker = record { alloc = old.alloc; stage = old.stage; logs = old.logs; last = c.take.new.self; entries = old.entries } in
    takes_same old mid c.in-Some.last xs (plain_key c.args.key.now) (sym c.take.ensures.value ∙ c.in-Some.is) h (sym c.cmp.ensures ∙ c.in-Equal.is) refl

pub returns-in_ok-keep_log-in-Greater-clause-taken : goal.returns-in_ok-keep_log-in-Greater-clause-taken
returns-in_ok-keep_log-in-Greater-clause-taken c = λ xs h.
    let old = c.args.self.now in
    let k = plain_key c.args.key.now in
    subst (λ d. CheckerContinues xs k d c.keep_log.new.self) (sym c.new-in-Greater.ensures)
    (takes_above old c.keep_log.new.self c.in-Some.last xs k (sym c.take.ensures.value ∙ c.in-Some.is) h (sym c.cmp.ensures ∙ c.in-Greater.is) c.in_ok-keep_log-in-Greater.ensures.logs)
