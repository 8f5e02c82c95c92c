-- The entries of a made log, each with the document before it.
use Rattle.std.proofs.Common.{◌≡◌, ℕ, zero, suc, ◌<◌, List, [], ◌∷◌, ◌++◌, take, drop, length, Option, Some, None, Result, Ok, Err, option_map, option_and_then, refl, sym, ap, ◌∙◌, subst, arith, append_assoc, take-append-drop}
use Rattle.std.specs.Prelude.{⊤}
use Rattle.std.specs.Option.{option_map_or}
use Rattle.std.specs.Result.{result_ok}
use Rattle.sdb_value.specs.Value.{Value}
use Rattle.sdb_component.specs.Plain.{PlainComponent}
use Rattle.sdb_apply.specs.Apply.{apply}
use Rattle.sdb_transform.specs.Cross.{Crossing, cross_ops}
use Rattle.sdb_transform.specs.OperationConvergence.{AreMadeFor}
use Rattle.sdb_transform.proofs.FormedValues.{IsFormed, formed_of}
use Rattle.sdb_transform.proofs.OperationRuns.{run_of, run_formed}
use Rattle.sdb_oplog.specs.declared.codes.Code.{Code}
use Rattle.sdb_oplog.specs.declared.codes.Code.TheVariants.{E8}
use Rattle.sdb_oplog.specs.Plain.{PlainContent, create, delete, edit, PlainSubmission, PlainEntry}
use Rattle.sdb_oplog.specs.Refusal.{result_and_then}
use Rattle.sdb_oplog.specs.Rebase.{over, rebase}
use Rattle.sdb_oplog.specs.Snap.{apply_content, snap_from, snap, document_of, stored_at}
use Rattle.sdb_oplog.specs.Decide.{decide, append_decided, rebased_content, new_entry, is_log_full, is_version_too_new, missed_entries, IsMadeFrom, IsMade}
use Rattle.sdb_oplog.specs.RebasedContents.{IsContentMadeFor, AreEntriesMadeFor}
use Rattle.sdb_oplog.specs.laws.LogLaws.{append_nil, append_changes, decides_repeat, decides_settled, rebase_append, snap_one}
use Rattle.sdb_oplog.specs.laws.DecidedLogLaws.{same_last, applied_if_settled}
use Rattle.sdb_client_model.specs.Invariant.{IsEdit}
use Rattle.sdb_client_model.proofs.PendingLemmas.{same_some}

pub same_ok : {A E : Type 0} (x y : A) → ◌≡◌ {A = Result A E} (Ok x) (Ok y) → x ≡ y
same_ok x y e = cc

pub same_operation : (x y : List PlainComponent) → edit x ≡ edit y → x ≡ y
same_operation x y e = cc

-- ---- the entry at a version

pub take_next : (log : List PlainEntry) (v : ℕ) (e : PlainEntry) (later : List PlainEntry) → drop v log ≡ e ∷ later → take (suc v) log ≡ take v log ++ e ∷ []
take_next [] zero e later h = cc
take_next [] (suc v) e later h = cc
take_next (x ∷ log) zero e later h = let same : x ≡ e = cc in ap (λ y. y ∷ []) same
take_next (x ∷ log) (suc v) e later h = ap (λ l. x ∷ l) (take_next log v e later h)

pub drop_next : (log : List PlainEntry) (v : ℕ) (e : PlainEntry) (later : List PlainEntry) → drop v log ≡ e ∷ later → drop (suc v) log ≡ later
drop_next [] zero e later h = cc
drop_next [] (suc v) e later h = cc
drop_next (x ∷ log) zero e later h = cc
drop_next (x ∷ log) (suc v) e later h = drop_next log v e later h

pub below_length : (log : List PlainEntry) (v : ℕ) (e : PlainEntry) (later : List PlainEntry) → drop v log ≡ e ∷ later → v < length log
below_length [] zero e later h = cc
below_length [] (suc v) e later h = cc
below_length (x ∷ log) zero e later h = omega arith
below_length (x ∷ log) (suc v) e later h = let rest = below_length log v e later h in omega arith

-- ---- the documents

abbrev pub IsFormedDocument : Option Value → Type 0
IsFormedDocument None = ⊤
IsFormedDocument (Some d) = IsFormed d

pub apply_edit : (op : List PlainComponent) (d e : Value) → apply op d ≡ Some e → apply_content (edit op) (Some d) ≡ Ok (Some e)
apply_edit op d e h = ap (λ o. result_and_then (λ f. Ok (Some f)) (option_map_or (λ f. Ok f) o (Err E8))) h

formed_after : (m : PlainContent) (d n : Option Value) → IsFormedDocument d → IsContentMadeFor m d → apply_content m d ≡ Ok n → IsFormedDocument n
formed_after (create v) None n f h e = subst IsFormedDocument (same_ok (Some v) n e) (formed_of v h)
formed_after (create v) (Some d) n f h e = cc
formed_after delete d n f h e = subst IsFormedDocument (same_ok None n e) tt
formed_after (edit op) None n f h e = absurd h
formed_after (edit op) (Some d) n f h e =
    let r = run_of op d h in
    subst IsFormedDocument (same_ok (Some r.result) n (sym (apply_edit op d r.result r.applied) ∙ e)) (run_formed op d r.result f r.run)

-- the entries after a prefix are made for the document after it
pub record RestMade (es : List PlainEntry) (d : Option Value) : Type 0 where
  pub formed : IsFormedDocument d
  pub made : AreEntriesMadeFor es d

pub made_after : (xs ys : List PlainEntry) (d n : Option Value) → IsFormedDocument d → AreEntriesMadeFor (xs ++ ys) d → snap_from d xs ≡ Some n → RestMade ys n
made_after [] ys d n f h s = subst (RestMade ys) (same_some d n s) (record { formed = f; made = h })
made_after (x ∷ xs) ys d n f h s =
    made_after xs ys h.1 n (formed_after x.content d h.1 f h.0 h.2) h.3
    (sym (ap (λ r. option_and_then (λ m. snap_from m xs) (result_ok r)) h.2) ∙ s)

pub edit_of : (m : PlainContent) → IsEdit m → (op : List PlainComponent) × (m ≡ edit op)
edit_of (create v) h = absurd h
edit_of delete h = absurd h
edit_of (edit op) h = (op, refl)

-- the edit at a version, where d is the document, and the document after it
pub record EntryAt (log : List PlainEntry) (v : ℕ) (e : PlainEntry) (d : Value) : Type 0 where
  pub operation : List PlainComponent
  pub is : e.content ≡ edit operation
  pub after : Value
  pub applied : apply operation d ≡ Some after
  pub document : snap (take (suc v) log) ≡ Some (Some after)

abbrev pub applied_entry : (log : List PlainEntry) (v : ℕ) (e : PlainEntry) (later : List PlainEntry) (d : Value) (op : List PlainComponent) (after : Value) → snap (take v log) ≡ Some (Some d)
    → drop v log ≡ e ∷ later → e.content ≡ edit op → apply op d ≡ Some after → EntryAt log v e d
applied_entry log v e later d op after s is content applied = record {
  operation = op;
  is = content;
  after = after;
  applied = applied;
  document =
      ap snap (take_next log v e later is)
      ∙ snap_one (take v log) e None (Some d) s
      ∙ ap (λ m. result_ok (apply_content m (Some d))) content
      ∙ ap result_ok (apply_edit op d after applied);
}

-- its operation is made for the document
pub record MadeEntryAt (log : List PlainEntry) (v : ℕ) (e : PlainEntry) (d : Value) : Type 0 where
  pub at : EntryAt log v e d
  pub formed : IsFormed d
  pub made : AreMadeFor at.operation d

pub made_entry : (log : List PlainEntry) (v : ℕ) (e : PlainEntry) (later : List PlainEntry) (d : Value) → RestMade (drop v log) (Some d) → snap (take v log) ≡ Some (Some d)
    → drop v log ≡ e ∷ later → IsEdit e.content → MadeEntryAt log v e d
unfolding edit_of
made_entry log v e later d rest s is edits =
    let made = subst (λ l. AreEntriesMadeFor l (Some d)) is rest.made in
    let op = edit_of e.content edits in
    let here : AreMadeFor op.0 d = subst (λ m. IsContentMadeFor m (Some d)) op.1 made.0 in
    let r = run_of op.0 d here in
    record { at = applied_entry log v e later d op.0 r.result s is op.1 r.applied; formed = rest.formed; made = here }

-- ---- what a decision has stored

stored_of_settled : (log : List PlainEntry) (s : PlainSubmission) (now : ℕ) (e : PlainEntry) (r : Result PlainContent Code)
    → rebased_content log s ≡ r → (append_decided log s now r).log ≡ log ++ e ∷ [] → rebase s.content (missed_entries log s) ≡ Ok e.content
stored_of_settled log s now e (Err c) is h = absurd (append_changes log e h)
stored_of_settled log s now e (Ok m) is h =
    let a = applied_if_settled (is_log_full log) (is_version_too_new log s) (rebase s.content (missed_entries log s)) (document_of log) m is in
    a.1 ∙ ap (λ (x : PlainEntry). Ok x.content) (same_last log (new_entry log s now m) e h)

stored_of_decide : (log : List PlainEntry) (s : PlainSubmission) (now : ℕ) (e : PlainEntry) (o : Option ℕ)
    → stored_at s.src s.seq log ≡ o → (decide log s now).log ≡ log ++ e ∷ [] → rebase s.content (missed_entries log s) ≡ Ok e.content
stored_of_decide log s now e (Some i) is h = absurd (append_changes log e (sym (ap (λ d. d.log) (decides_repeat log s now i is)) ∙ h))
stored_of_decide log s now e None is h =
    stored_of_settled log s now e (rebased_content log s) refl (sym (ap (λ d. d.log) (decides_settled log s now (rebased_content log s) is refl)) ∙ h)

decided_after : (before xs later : List PlainEntry) (e : PlainEntry) → IsMadeFrom before (xs ++ e ∷ later) → (decide (before ++ xs) e.arrived e.moment).log ≡ (before ++ xs) ++ e ∷ []
decided_after before [] later e h = subst (λ l. (decide l e.arrived e.moment).log ≡ l ++ e ∷ []) (sym (append_nil before)) h.0
decided_after before (x ∷ xs) later e h =
    subst (λ l. (decide l e.arrived e.moment).log ≡ l ++ e ∷ []) (append_assoc before (x ∷ []) xs) (decided_after (before ++ x ∷ []) xs later e h.1)

-- the entry at a version is its submission, rebased on the entries before it
pub rebased_at : (log : List PlainEntry) (v : ℕ) (e : PlainEntry) (later : List PlainEntry) → IsMade log → drop v log ≡ e ∷ later
    → rebase e.arrived.content (missed_entries (take v log) e.arrived) ≡ Ok e.content
rebased_at log v e later made is =
    let parts : IsMade (take v log ++ e ∷ later) = subst IsMade (sym (ap (λ l. take v log ++ l) (sym is) ∙ take-append-drop v log)) made in
    stored_of_decide (take v log) e.arrived e.moment e (stored_at e.arrived.src e.arrived.seq (take v log)) refl (decided_after [] (take v log) later e parts)

-- ---- one more entry to rebase on

pub rebase_one_more : (xs : List PlainEntry) (e : PlainEntry) (m : PlainContent) (op other : List PlainComponent) (x : Crossing PlainComponent) → rebase m xs ≡ Ok (edit op)
    → e.content ≡ edit other → cross_ops op other ≡ Some x → rebase m (xs ++ e ∷ []) ≡ Ok (edit x.left)
rebase_one_more xs e m op other x h is crossed =
    rebase_append xs (e ∷ []) m
    ∙ ap (result_and_then (λ k. rebase k (e ∷ []))) h
    ∙ ap (λ c. result_and_then (λ k. Ok k) (over (edit op) c)) is
    ∙ ap (λ o. result_and_then (λ k. Ok k) (option_map_or (λ c. Ok (edit c)) (option_map (λ (y : Crossing PlainComponent). y.left) o) (Err E8))) crossed

edit_of_over : (c : PlainContent) (op : List PlainComponent) (es : List PlainEntry) (k : PlainContent) → result_and_then (λ m. rebase m es) (over (edit op) c) ≡ Ok k
    → ((o : List PlainComponent) → rebase (edit o) es ≡ Ok k → IsEdit k) → IsEdit k
edit_of_over (create v) op es k h below = cc
edit_of_over delete op es k h below = cc
edit_of_over (edit other) op es k h below = edit_of_crossing (cross_ops op other) es k h below
  where
    edit_of_crossing : (o : Option (Crossing PlainComponent)) (es : List PlainEntry) (k : PlainContent)
        → result_and_then (λ m. rebase m es) (option_map_or (λ c. Ok (edit c)) (option_map (λ (y : Crossing PlainComponent). y.left) o) (Err E8)) ≡ Ok k
        → ((o : List PlainComponent) → rebase (edit o) es ≡ Ok k → IsEdit k) → IsEdit k
    edit_of_crossing None es k h below = cc
    edit_of_crossing (Some y) es k h below = below y.left h

-- a rebased edit is an edit
pub edit_of_rebase : (es : List PlainEntry) (op : List PlainComponent) (k : PlainContent) → rebase (edit op) es ≡ Ok k → IsEdit k
edit_of_rebase [] op k h = subst IsEdit (same_ok (edit op) k h) tt
edit_of_rebase (x ∷ es) op k h = edit_of_over x.content op es k h (λ o g. edit_of_rebase es o k g)
