-- The outcome of a commit.
use Rattle.std.proofs.Common.{◌≡◌, ℕ, List, length, true, false, Option, Result, Ok, Err, unwrap_or, inl, inr, refl, sym, ap, ◌∙◌}
use Rattle.std.specs.Result.{is_err}
use Rattle.sdb_value.specs.Value.{Value}
use Rattle.sdb_oplog.specs.declared.codes.Code.{Code}
use Rattle.sdb_oplog.specs.declared.codes.Code.TheVariants.{E10}
use Rattle.sdb_oplog.specs.declared.decided_log.Rejection.{Rejection}
use Rattle.sdb_oplog.specs.declared.decided_log.Rejection.TheVariants.{Refused}
use Rattle.sdb_oplog.specs.Plain.{PlainContent, PlainEntry, PlainSubmission}
use Rattle.sdb_oplog.specs.Keys.{PlainKey, Logs, with_log}
use Rattle.sdb_oplog.specs.Rebase.{rebase}
use Rattle.sdb_oplog.specs.Refusal.{result_and_then}
use Rattle.sdb_oplog.specs.Snap.{apply_content, document_of}
use Rattle.sdb_oplog.specs.Decide.{PlainReply, decide, decide_allocates, missed_entries}
use Rattle.sdb_oplog.specs.DecidedLog.{CanStore, WillStore, plain_rejection, IsRejectedAs, IsRejectionOrOutOfMemory}
use Rattle.sdb_oplog.specs.laws.LogLaws.{decides_over, decides_refused, rebase_not_out_of_memory, apply_content_not_out_of_memory}
use Rattle.sdb_desk.specs.Machine.{PlainAttempt, DecidesOrOutOfMemory, CommitsOrOutOfMemory, IsRefusedByWork, decided, work_result}
use Rattle.sdb_desk.specs.laws.MapLaws.{updated_at_same}

err_of : {A B : Type 0} {c code : Code} → ◌≡◌ {A = Result A Code} (Err c) (Err code) → ◌≡◌ {A = Result B Code} (Err c) (Err code)
err_of {c = c} {code = code} e = let s : c ≡ code = cc in ap Err s

-- a rejection leaves the log unchanged
logs_unchanged : (logs : Logs) (k : PlainKey) (s : PlainSubmission) (now : ℕ) (r : Rejection) → IsRejectedAs (logs k) s now r → logs ≡ with_log logs k (decide (logs k) s now).log
logs_unchanged logs k s now r e = updated_at_same logs k (decide (logs k) s now).log (ap (λ d. d.log) e)

pub decides_rejected : (logs new : Logs) (k : PlainKey) (s : PlainSubmission) (now : ℕ) (r : Rejection) (reply : PlainReply) → reply ≡ plain_rejection r → IsRejectionOrOutOfMemory (logs k) s now r
    → (r ≡ Refused E10 → decide_allocates (logs k) s ≡ true) → new ≡ logs → DecidesOrOutOfMemory logs k s now reply new
decides_rejected logs new k s now r reply is (inl e) takes same = inl (is ∙ ap plain_rejection e, same, takes e)
decides_rejected logs new k s now r reply is (inr e) takes same = inr (is ∙ sym (ap (λ d. d.reply) e), same ∙ logs_unchanged logs k s now r e)

pub commits_rejected : (logs new : Logs) (k : PlainKey) (a : PlainAttempt) (now : ℕ) (r : Rejection) (reply : PlainReply) → reply ≡ plain_rejection r → length (logs k) ≡ a.look.version
    → IsRejectionOrOutOfMemory (logs k) a.submission now r → (r ≡ Refused E10 → decide_allocates (logs k) a.submission ≡ true) → (r ≡ Refused E10 → IsRefusedByWork (logs k) a → ⊥) → new ≡ logs
    → CommitsOrOutOfMemory logs k a now (decided reply) new
commits_rejected logs new k a now r reply is here (inl e) takes found same = inl (is ∙ ap plain_rejection e, same, inr (here, takes e, found e))
commits_rejected logs new k a now r reply is here (inr e) takes found same = inr (here, is ∙ sym (ap (λ d. d.reply) e), same ∙ logs_unchanged logs k a.submission now r e)

-- ---- a work that is stored or rejected

module _ (log : List PlainEntry) (a : PlainAttempt) (new : CanStore log a.submission) (missed : a.look.missed ≡ missed_entries log a.submission) (snapshot : a.look.snapshot ≡ document_of log) where
  pub work_will_store : (content : Option PlainContent) (made : Option Value) → rebase a.submission.content a.look.missed ≡ Ok (unwrap_or content a.submission.content) → work_result a ≡ Ok made
      → WillStore log a.submission content made
  work_will_store content made rebases makes = record {
    new = new;
    rebased_is = ap (rebase a.submission.content) (sym missed) ∙ rebases;
    makes = ap (apply_content (unwrap_or content a.submission.content)) (sym snapshot) ∙ sym (ap (result_and_then (λ m. apply_content m a.look.snapshot)) rebases) ∙ makes;
  }

  rejected_by : (now : ℕ) (code : Code) (r : Result PlainContent Code) → rebase a.submission.content (missed_entries log a.submission) ≡ r → result_and_then (λ m. apply_content m (document_of log)) r ≡ Err code
      → IsRejectedAs log a.submission now (Refused code)
  rejected_by now code (Ok m) over e = decides_refused log a.submission now m code new.is_new new.has_room new.version_reached over e
  rejected_by now code (Err c) over e = decides_over log a.submission now code new.is_new new.has_room new.version_reached (over ∙ err_of e)

  -- the work's refusal is the decision
  pub work_rejects : (now : ℕ) (code : Code) → work_result a ≡ Err code → IsRejectionOrOutOfMemory log a.submission now (Refused code)
  work_rejects now code e =
      inr (rejected_by now code (rebase a.submission.content (missed_entries log a.submission)) refl
      (ap (λ d. result_and_then (λ m. apply_content m d) (rebase a.submission.content (missed_entries log a.submission))) (sym snapshot)
      ∙ ap (λ es. result_and_then (λ m. apply_content m a.look.snapshot) (rebase a.submission.content es)) (sym missed) ∙ e))

result_not_out_of_memory : (r : Result PlainContent Code) (d : Option Value) → (r ≡ Err E10 → ⊥) → result_and_then (λ m. apply_content m d) r ≡ Err E10 → ⊥
result_not_out_of_memory (Ok m) d n h = apply_content_not_out_of_memory m d h
result_not_out_of_memory (Err c) d n h = n (err_of h)

-- no work is refused with E10
pub work_not_out_of_memory : (a : PlainAttempt) → work_result a ≡ Err E10 → ⊥
work_not_out_of_memory a h =
    result_not_out_of_memory (rebase a.submission.content a.look.missed) a.look.snapshot (rebase_not_out_of_memory a.submission.content a.look.missed) h

-- a work with a result isn't refused
pub work_not_refused : (log : List PlainEntry) (a : PlainAttempt) (made : Option Value) → work_result a ≡ Ok made → IsRefusedByWork log a → ⊥
work_not_refused log a made is h = let never : false ≡ true = ap is_err (sym is) ∙ h.2 in cc
