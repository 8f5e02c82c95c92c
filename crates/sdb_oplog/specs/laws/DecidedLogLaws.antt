-- Laws of submissions that a log stores or rejects, and of made logs.
use Rattle.std.proofs.Common.{◌≡◌, ℕ, List, [], ◌∷◌, ◌++◌, Bool, true, false, cond, Option, Some, None, Result, Ok, Err, refl, unwrap_or, ◌⊎◌, inl, inr, sym, ap, ◌∙◌, append_assoc}
use Rattle.std.specs.Option.{is_some}
use Rattle.sdb_value.specs.Value.{Value}
use Rattle.sdb_oplog.specs.declared.codes.Code.{Code}
use Rattle.sdb_oplog.specs.declared.codes.Code.TheVariants.{E4, E10, E11}
use Rattle.sdb_oplog.specs.declared.decided_log.Rejection.{Rejection}
use Rattle.sdb_oplog.specs.declared.decided_log.Rejection.TheVariants.{Repeat, Refused}
use Rattle.sdb_oplog.specs.Plain.{PlainContent, create, delete, edit, PlainEntry, PlainSubmission}
use Rattle.sdb_oplog.specs.Refusal.{result_and_then, IsRefusalOrOutOfMemory}
use Rattle.sdb_oplog.specs.Snap.{apply_content, snap, document_of, stored_at}
use Rattle.sdb_oplog.specs.Rebase.{rebase}
use Rattle.sdb_oplog.specs.Decide.{refused, decide, append_decided, rebased_content, new_entry, is_log_full, is_version_too_new, IsMade, IsMadeFrom, missed_entries, apply_to_copy_allocates, decide_allocates}
use Rattle.sdb_oplog.specs.DecidedLog.{CanStore, WillStore, IsRejectedAs, IsRejectionOrOutOfMemory}
use Rattle.sdb_oplog.specs.laws.LogLaws.{append_nil, append_changes, some_of_is_some, document_of_append, decides_repeat, decides_settled, out_of_memory_or_refusal, decides_over, decides_refused, apply_allocates_decide, decide_not_out_of_memory}

-- no rejection is an allocation failure
pub rejected_not_out_of_memory : (log : List PlainEntry) (s : PlainSubmission) (now : ℕ) (r : Rejection) → r ≡ Refused E10 → IsRejectedAs log s now r → ⊥
rejected_not_out_of_memory log s now (Repeat v) e h = cc
rejected_not_out_of_memory log s now (Refused code) e h =
    let c : code ≡ E10 = cc in decide_not_out_of_memory log s now (ap (λ d. d.reply) h ∙ ap refused c)

module _ (log : List PlainEntry) (s : PlainSubmission) (now : ℕ) (code : Code) (new : CanStore log s) where
  rebase_rejects : (code ≡ E10) ⊎ (rebase s.content (missed_entries log s) ≡ Err code) → IsRejectionOrOutOfMemory log s now (Refused code)
  rebase_rejects (inl e) = inl (ap Refused e)
  rebase_rejects (inr e) = inr (decides_over log s now code new.is_new new.has_room new.version_reached e)

  -- the refusal of a rebase
  pub rejected_by_rebase : IsRefusalOrOutOfMemory (rebase s.content (missed_entries log s)) code → IsRejectionOrOutOfMemory log s now (Refused code)
  rejected_by_rebase h = rebase_rejects (out_of_memory_or_refusal (rebase s.content (missed_entries log s)) code h)

  document_rejects : (m : PlainContent) → rebase s.content (missed_entries log s) ≡ Ok m → (code ≡ E10) ⊎ (apply_content m (document_of log) ≡ Err code) → IsRejectionOrOutOfMemory log s now (Refused code)
  document_rejects m over (inl e) = inl (ap Refused e)
  document_rejects m over (inr e) = inr (decides_refused log s now m code new.is_new new.has_room new.version_reached over e)

  -- the refusal of the document
  pub rejected_by_document : (m : PlainContent) → rebase s.content (missed_entries log s) ≡ Ok m → IsRefusalOrOutOfMemory (apply_content m (document_of log)) code → IsRejectionOrOutOfMemory log s now (Refused code)
  rejected_by_document m over h = document_rejects m over (out_of_memory_or_refusal (apply_content m (document_of log)) code h)

-- ---- allocations

copied_if_applied : (m : PlainContent) (d made : Option Value) → apply_content m d ≡ Ok made → apply_to_copy_allocates m d ≡ true
copied_if_applied (create v) None made e = refl
copied_if_applied (create v) (Some d) made e = cc
copied_if_applied delete d made e = refl
copied_if_applied (edit op) None made e = cc
copied_if_applied (edit op) (Some d) made e = refl

-- a decision that stores a submission allocates
pub will_store_allocates : (log : List PlainEntry) (s : PlainSubmission) (content : Option PlainContent) (made : Option Value) → WillStore log s content made → decide_allocates log s ≡ true
will_store_allocates log s content made w =
    apply_allocates_decide log s (unwrap_or content s.content) w.new.is_new w.new.has_room w.new.version_reached w.rebased_is (copied_if_applied (unwrap_or content s.content) (document_of log) made w.makes)

-- ---- documents of made logs

pub same_last : (log : List PlainEntry) (e f : PlainEntry) → log ++ e ∷ [] ≡ log ++ f ∷ [] → e ≡ f
same_last [] e f h = cc
same_last (x ∷ log) e f h = let g : log ++ e ∷ [] ≡ log ++ f ∷ [] = cc in same_last log e f g

applied_if_ok : (r : Result (Option Value) Code) (k m : PlainContent) → result_and_then (λ n. Ok k) r ≡ Ok m → (n : Option Value) × (r ≡ Ok n) × (k ≡ m)
applied_if_ok (Ok n) k m e = (n, refl, cc)
applied_if_ok (Err c) k m e = cc

pub applied_if_settled : (full newer : Bool) (r : Result PlainContent Code) (d : Option Value) (m : PlainContent)
    → cond full (Err E11) (cond newer (Err E4) (result_and_then (λ k. result_and_then (λ n. Ok k) (apply_content k d)) r)) ≡ Ok m
    → (n : Option Value) × (r ≡ Ok m) × (apply_content m d ≡ Ok n)
applied_if_settled true newer r d m e = cc
applied_if_settled false true r d m e = cc
applied_if_settled false false (Err c) d m e = cc
applied_if_settled false false (Ok k) d m e = let a = applied_if_ok (apply_content k d) k m e in (a.0, ap Ok a.2, ap (λ x. apply_content x d) (sym a.2) ∙ a.1)

alive_of_append_decided : (log : List PlainEntry) (s : PlainSubmission) (now : ℕ) (e : PlainEntry) (r : Result PlainContent Code)
    → is_some (snap log) ≡ true → rebased_content log s ≡ r → (append_decided log s now r).log ≡ log ++ e ∷ [] → is_some (snap (log ++ e ∷ [])) ≡ true
alive_of_append_decided log s now e (Err c) alive is h = absurd (append_changes log e h)
alive_of_append_decided log s now e (Ok m) alive is h =
    let a = applied_if_settled (is_log_full log) (is_version_too_new log s) (rebase s.content (missed_entries log s)) (document_of log) m is in
    ap is_some (ap (λ x. snap (log ++ x ∷ [])) (sym (same_last log (new_entry log s now m) e h))
    ∙ document_of_append log (new_entry log s now m) (document_of log) a.0 (some_of_is_some (snap log) alive) a.2)

alive_of_decide : (log : List PlainEntry) (s : PlainSubmission) (now : ℕ) (e : PlainEntry) (o : Option ℕ)
    → is_some (snap log) ≡ true → stored_at s.src s.seq log ≡ o → (decide log s now).log ≡ log ++ e ∷ [] → is_some (snap (log ++ e ∷ [])) ≡ true
alive_of_decide log s now e (Some i) alive is h = absurd (append_changes log e (sym (ap (λ d. d.log) (decides_repeat log s now i is)) ∙ h))
alive_of_decide log s now e None alive is h =
    alive_of_append_decided log s now e (rebased_content log s) alive refl (sym (ap (λ d. d.log) (decides_settled log s now (rebased_content log s) is refl)) ∙ h)

alive_of_made_from : (before es : List PlainEntry) → is_some (snap before) ≡ true → IsMadeFrom before es → is_some (snap (before ++ es)) ≡ true
alive_of_made_from before [] alive h = ap (λ l. is_some (snap l)) (append_nil before) ∙ alive
alive_of_made_from before (e ∷ es) alive h =
    ap (λ l. is_some (snap l)) (sym (append_assoc before (e ∷ []) es))
    ∙ alive_of_made_from (before ++ e ∷ []) es (alive_of_decide before e.arrived e.moment e (stored_at e.arrived.src e.arrived.seq before) alive refl h.0) h.1

-- each entry of a made log applies
pub alive_of_made : (log : List PlainEntry) → IsMade log → is_some (snap log) ≡ true
alive_of_made log h = alive_of_made_from [] log refl h
