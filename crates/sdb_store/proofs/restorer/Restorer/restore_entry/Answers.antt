use Rattle.std.proofs.Common.{◌≢◌, ◌≤◌, inr, true, false, sym, subst, ◌∙◌, arith}
use Rattle.std.proofs.Math.Nat.{le-max_left, le-max_right}
use Rattle.sdb_dump.specs.View.{plain_line_content}
use Rattle.sdb_store.specs.RestorerModel.{restorer_logs, highest_number}
use Rattle.sdb_store.proofs.RestoreLemmas.{restorer_with, entry_appended}
use Rattle.sdb_store.proofs.restorer.Restorer.restore_entry.Goals as goal

pub submit-requires : goal.submit-requires
submit-requires c =
    let by = c.args.content.submission.by in
    let old = highest_number c.args.self.now in
    let is = c.max-self.ensures in
    let not_lower : old ≤ c.max-self.result = subst (λ n. old ≤ n) (sym is) (le-max_left old c.by.result) in
    let right : c.by.result ≤ c.max-self.result = subst (λ n. c.by.result ≤ n) (sym is) (le-max_right old c.by.result) in
    let at_least : by ≤ c.max-self.result = subst (λ n. n ≤ c.max-self.result) c.by.ensures right in
    let some : by ≢ 0 = λ e. c.if-by-eq0.false (c.by-2.ensures ∙ e) in
    record { restorer = restorer_with c.args.self.now c.max-self.result not_lower c.requires; number = (omega (arith, some), at_least) }

pub returns-then-by-eq0-clause-restorer : goal.returns-then-by-eq0-clause-restorer
returns-then-by-eq0-clause-restorer c =
    let old = highest_number c.args.self.now in
    restorer_with c.args.self.now c.max-self.result (subst (λ n. old ≤ n) (sym c.max-self.ensures) (le-max_left old c.by.result)) c.requires

pub returns-then-branch-clause-ok : goal.returns-then-branch-clause-ok
returns-then-branch-clause-ok c =
    let made = c.in_ok-version.ensures.ok in
    entry_appended c.args.line.now (plain_line_content c.args.content) (restorer_logs c.args.self.now) (restorer_logs c.submit.new.self) made.1 c.in_ok-version.version true made.0 (sym c.if-branch.true ∙ c.in_ok-has_line.ensures)

pub returns-clause-err : goal.returns-clause-err
returns-clause-err c =
    let made = c.in_ok-version.ensures.ok in
    λ _. inr (entry_appended c.args.line.now (plain_line_content c.args.content) (restorer_logs c.args.self.now) (restorer_logs c.submit.new.self) made.1 c.in_ok-version.version false made.0 (sym c.if-branch.false ∙ c.in_ok-has_line.ensures))
