-- Decisions that store nothing.
use Rattle.std.proofs.Common.{◌≡◌, ℕ, length, true, Err, inl, inr, refl, sym, ap, ◌∙◌, subst}
use Rattle.sdb_oplog.specs.declared.codes.Code.{Code}
use Rattle.sdb_oplog.specs.declared.codes.Code.TheVariants.{E10}
use Rattle.sdb_oplog.specs.declared.decided_log.Rejection.{Rejection}
use Rattle.sdb_oplog.specs.declared.decided_log.Rejection.TheVariants.{Refused}
use Rattle.sdb_oplog.specs.Plain.{PlainSubmission}
use Rattle.sdb_oplog.specs.Keys.{PlainKey}
use Rattle.sdb_oplog.specs.Decide.{decide_allocates, missed_entries}
use Rattle.sdb_oplog.specs.DecidedLog.{CanStore, plain_rejection, IsRejectedAs, IsRejectionOrOutOfMemory}
use Rattle.sdb_oplog.specs.Snap.{document_of}
use Rattle.sdb_oplog.specs.laws.DecidedLogLaws.{rejected_not_out_of_memory}
use Rattle.sdb_desk.specs.Looks.{IsLook}
use Rattle.sdb_desk.specs.Machine.{PlainAttempt, IsRefusedByWork, decided, work_result}
use Rattle.sdb_desk.specs.ShardState.{ShardState}
use Rattle.sdb_desk.specs.StateChanges.{StateAfterCommit, StateAfterDecision}
use Rattle.sdb_desk.specs.laws.LookLaws.{missed_is_current, snapshot_is_current}
use Rattle.sdb_desk.proofs.DecideLemmas.{decides_rejected, commits_rejected, work_rejects, work_not_out_of_memory}
use Rattle.sdb_desk.proofs.StateLemmas.{follow_of_unchanged}

code_is : (code : Code) → Refused code ≡ Refused E10 → code ≡ E10
code_is code h = cc

-- a rejection of this submission, in a state that doesn't change
module _ (state : ShardState) (k : PlainKey) (now : ℕ) (r : Rejection) (s : PlainSubmission) where
  decision_of_refusal : IsRejectionOrOutOfMemory (state.logs k) s now r → (r ≡ Refused E10 → decide_allocates (state.logs k) s ≡ true)
      → StateAfterDecision k s now (plain_rejection r) state state
  decision_of_refusal h takes = record {
    decides = decides_rejected state.logs state.logs k s now r (plain_rejection r) refl h takes refl;
    others = follow_of_unchanged state state refl;
  }

  pub decision_of_rejection : IsRejectedAs (state.logs k) s now r → StateAfterDecision k s now (plain_rejection r) state state
  decision_of_rejection h = decision_of_refusal (inr h) (λ e. absurd (rejected_not_out_of_memory (state.logs k) s now r e h))

  pub decision_of_code : (code : Code) → r ≡ Refused code → IsRejectionOrOutOfMemory (state.logs k) s now (Refused code)
      → (code ≡ E10 → decide_allocates (state.logs k) s ≡ true) → StateAfterDecision k s now (plain_rejection r) state state
  decision_of_code code is h takes =
      decision_of_refusal (subst (IsRejectionOrOutOfMemory (state.logs k) s now) (sym is) h) (λ e. takes (code_is code (sym is ∙ e)))

  pub decision_of_failure : r ≡ Refused E10 → decide_allocates (state.logs k) s ≡ true → StateAfterDecision k s now (plain_rejection r) state state
  decision_of_failure is takes = decision_of_refusal (inl is) (λ e. takes)

-- a rejection of this work, whose look is a current one
module _ (state : ShardState) (k : PlainKey) (now : ℕ) (r : Rejection) (a : PlainAttempt) (look : IsLook (state.logs k) a) (current : length (state.logs k) ≡ a.look.version) where
  commit_of_refusal : IsRejectionOrOutOfMemory (state.logs k) a.submission now r → (r ≡ Refused E10 → decide_allocates (state.logs k) a.submission ≡ true)
      → (r ≡ Refused E10 → IsRefusedByWork (state.logs k) a → ⊥) → StateAfterCommit k a now (decided (plain_rejection r)) state state
  commit_of_refusal h takes found = record {
    commits = commits_rejected state.logs state.logs k a now r (plain_rejection r) refl current h takes found refl;
    others = follow_of_unchanged state state refl;
  }

  pub commit_of_rejection : IsRejectedAs (state.logs k) a.submission now r → StateAfterCommit k a now (decided (plain_rejection r)) state state
  commit_of_rejection h =
      let never = rejected_not_out_of_memory (state.logs k) a.submission now r in
      commit_of_refusal (inr h) (λ e. absurd (never e h)) (λ e f. never e h)

  pub commit_of_code : (code : Code) → r ≡ Refused code → CanStore (state.logs k) a.submission → work_result a ≡ Err code
      → StateAfterCommit k a now (decided (plain_rejection r)) state state
  commit_of_code code is new result =
      let log = state.logs k in
      let h = work_rejects log a new (missed_is_current log a look current) (snapshot_is_current log a look current) now code result in
      let never : r ≡ Refused E10 → ⊥ = λ e. work_not_out_of_memory a (result ∙ ap Err (code_is code (sym is ∙ e))) in
      commit_of_refusal (subst (IsRejectionOrOutOfMemory log a.submission now) (sym is) h) (λ e. absurd (never e)) (λ e f. never e)
