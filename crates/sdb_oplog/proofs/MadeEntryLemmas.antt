-- Entries of a made log whose submissions were made at their base versions.
use Rattle.std.proofs.Common.{◌≡◌, ℕ, List, [], ◌∷◌, ◌++◌, take, drop, true, Option, Some, None, Result, Ok, Err, option_map, option_and_then, refl, sym, ap, ◌∙◌, subst, append_assoc, take-append-drop}
use Rattle.std.specs.Option.{is_some, option_map_or}
use Rattle.sdb_value.specs.Value.{Value, with_value_at}
use Rattle.sdb_component.specs.Plain.{PlainComponent}
use Rattle.sdb_apply.specs.Apply.{apply_act, apply_one, apply}
use Rattle.sdb_apply.proofs.ChangeLemmas.{has_effect}
use Rattle.sdb_transform.specs.OperationConvergence.{AreMadeFor}
use Rattle.sdb_transform.proofs.OperationRuns.{ComponentRun, OperationRun, unchecked_of}
use Rattle.sdb_oplog.specs.declared.codes.Code.{Code}
use Rattle.sdb_oplog.specs.declared.codes.Code.TheVariants.{E8}
use Rattle.sdb_oplog.specs.Plain.{PlainContent, create, delete, edit, PlainSubmission, PlainEntry}
use Rattle.sdb_oplog.specs.Refusal.{result_and_then}
use Rattle.sdb_oplog.specs.Rebase.{rebase}
use Rattle.sdb_oplog.specs.Snap.{apply_content, snap_from, snap, document_of, stored_at}
use Rattle.sdb_oplog.specs.Decide.{decide, append_decided, rebased_content, new_entry, is_log_full, is_version_too_new, base_version, missed_entries, IsMadeFrom, IsMade}
use Rattle.sdb_oplog.specs.RebasedContents.{IsContentMadeFor, AreEntriesMadeFor, IsMadeAtBase, AreMadeAtBaseFrom, AreMadeAtBase, base_document, StoredEntriesAreMade, RebasedAreMadeIfAllMade}
use Rattle.sdb_oplog.specs.laws.LogLaws.{append_nil, append_changes, some_of_is_some, document_of_append, decides_repeat, decides_settled}
use Rattle.sdb_oplog.specs.laws.DecidedLogLaws.{same_last, applied_if_settled}
use Rattle.sdb_oplog.proofs.RebasedContentLemmas.{IsFormedDocument, ContentRun, content_run, content_made_or_overflows, formed_after, rebase_run, snap_after_first, snap_prefix, snap_since}

-- ---- a content that is made apart from the range of sums, and applies

same_some : {A : Type 0} (x y : A) → Some x ≡ Some y → x ≡ y
same_some x y e = cc

some_step : {A B : Type 0} (o : Option A) (f : A → Option B) (b : B) → option_and_then f o ≡ Some b → (a : A) × (o ≡ Some a) × (f a ≡ Some b)
some_step None f b e = cc
some_step (Some a) f b e = (a, refl, e)

-- the component's result with the range of sums is the one without
same_result : (c : PlainComponent) (d f g : Value) → ComponentRun c d f → apply_one c d ≡ Some g → f ≡ g
same_result c d f g r h =
    let goes = sym (ap (option_and_then (λ u. option_map (with_value_at d c.path) (apply_act c.act u))) r.found) ∙ h in
    let v = has_effect (apply_act c.act r.before) (with_value_at d c.path) g goes in
    let same = same_some r.after v.0 (sym r.act.changed ∙ unchecked_of c.act r.before v.0 v.1) in
    sym r.written ∙ ap (with_value_at d c.path) same
    ∙ same_some (with_value_at d c.path v.0) g (sym (ap (option_map (with_value_at d c.path)) v.1) ∙ goes)

run_made : (op : List PlainComponent) (d e f : Value) → OperationRun op d e → apply op d ≡ Some f → AreMadeFor op d
run_made [] d e f r h = (tt, tt)
run_made (c ∷ cs) d e f r h =
    let g = some_step (apply_one c d) (apply cs) f h in
    let one = r.1 in
    let rest = run_made cs g.0 e f (subst (λ x. OperationRun cs x e) (same_result c d r.0 g.0 one g.1) r.2) g.2 in
    ((record { position = one.before; result = g.0; found = one.found; accepted = g.1; key = one.act.key }, rest.0), ((one.act.texts, one.act.inserts), rest.1))

ok_edit : (o : Option Value) (n : Option Value) → result_and_then (λ e. Ok (Some e)) (option_map_or (λ e. Ok e) o (Err E8)) ≡ Ok n → (e : Value) × (o ≡ Some e)
ok_edit None n e = cc
ok_edit (Some e) n h = (e, refl)

content_made : (m : PlainContent) (d n : Option Value) → ContentRun m d → apply_content m d ≡ Ok n → IsContentMadeFor m d
content_made (create v) d n r h = r
content_made delete d n r h = tt
content_made (edit op) None n r h = r
content_made (edit op) (Some d) n r h = let e = ok_edit (apply op d) n h in run_made op d r.0 e.0 r.1 e.1

-- ---- parts of made entries

-- the entries after a prefix are made for the document after it
pub record RestMade (es : List PlainEntry) (d : Option Value) : Type 0 where
  pub formed : IsFormedDocument d
  pub made : AreEntriesMadeFor es d

made_after : (xs ys : List PlainEntry) (d n : Option Value) → IsFormedDocument d → AreEntriesMadeFor (xs ++ ys) d → snap_from d xs ≡ Some n → RestMade ys n
made_after [] ys d n f h s = subst (RestMade ys) (same_some d n s) (record { formed = f; made = h })
made_after (x ∷ xs) ys d n f h s = made_after xs ys h.1 n (formed_after x.content d h.1 f h.0 h.2) h.3 (snap_after_first xs x d h.1 n h.2 s)

made_append : (xs : List PlainEntry) (e : PlainEntry) (d n k : Option Value) → AreEntriesMadeFor xs d → snap_from d xs ≡ Some n → IsContentMadeFor e.content n → apply_content e.content n ≡ Ok k
    → AreEntriesMadeFor (xs ++ e ∷ []) d
made_append [] e d n k h s a b =
    let is = sym (same_some d n s) in
    (subst (IsContentMadeFor e.content) is a, k, subst (λ m. apply_content e.content m ≡ Ok k) is b, tt)
made_append (x ∷ xs) e d n k h s a b = (h.0, h.1, h.2, made_append xs e h.1 n k h.3 (snap_after_first xs x d h.1 n h.2 s) a b)

-- the document at a version, and the entries since it
pub rest_made : (log : List PlainEntry) (v : ℕ) → is_some (snap log) ≡ true → AreEntriesMadeFor log None → RestMade (drop v log) (document_of (take v log))
rest_made log v alive h =
    made_after (take v log) (drop v log) None (document_of (take v log)) tt (subst (λ l. AreEntriesMadeFor l None) (sym (take-append-drop v log)) h) (snap_prefix log v alive)

-- ---- what a decision has stored

record StoredContent (log : List PlainEntry) (s : PlainSubmission) (m : PlainContent) : Type 0 where
  pub result : Option Value
  pub rebased : rebase s.content (missed_entries log s) ≡ Ok m
  pub applied : apply_content m (document_of log) ≡ Ok result

stored_of_settled : (log : List PlainEntry) (s : PlainSubmission) (now : ℕ) (e : PlainEntry) (r : Result PlainContent Code)
    → rebased_content log s ≡ r → (append_decided log s now r).log ≡ log ++ e ∷ [] → StoredContent log s e.content
stored_of_settled log s now e (Err c) is h = absurd (append_changes log e h)
stored_of_settled log s now e (Ok m) is h =
    let a = applied_if_settled (is_log_full log) (is_version_too_new log s) (rebase s.content (missed_entries log s)) (document_of log) m is in
    subst (λ (x : PlainEntry). StoredContent log s x.content) (same_last log (new_entry log s now m) e h) (record { result = a.0; rebased = a.1; applied = a.2 })

stored_of_decide : (log : List PlainEntry) (s : PlainSubmission) (now : ℕ) (e : PlainEntry) (o : Option ℕ)
    → stored_at s.src s.seq log ≡ o → (decide log s now).log ≡ log ++ e ∷ [] → StoredContent log s e.content
stored_of_decide log s now e (Some i) is h = absurd (append_changes log e (sym (ap (λ d. d.log) (decides_repeat log s now i is)) ∙ h))
stored_of_decide log s now e None is h =
    stored_of_settled log s now e (rebased_content log s) refl (sym (ap (λ d. d.log) (decides_settled log s now (rebased_content log s) is refl)) ∙ h)

-- ---- all entries

-- a made log of made entries
record MadeBefore (log : List PlainEntry) : Type 0 where
  pub alive : is_some (snap log) ≡ true
  pub made : AreEntriesMadeFor log None

-- the rebased content of a submission that is made at its base version
rebased_run : (log : List PlainEntry) (s : PlainSubmission) (m : PlainContent) → MadeBefore log → IsMadeAtBase log s → rebase s.content (missed_entries log s) ≡ Ok m → ContentRun m (document_of log)
rebased_run log s m b a h =
    let v = base_version log s in
    let rest = rest_made log v b.alive b.made in
    (rebase_run (missed_entries log s) s.content m (base_document log s) (document_of log) rest.formed (content_run s.content (base_document log s) a) rest.made h (snap_since log v b.alive)).run

made_entry : (log : List PlainEntry) (s : PlainSubmission) (m : PlainContent) → MadeBefore log → IsMadeAtBase log s → StoredContent log s m → IsContentMadeFor m (document_of log)
made_entry log s m b a st = content_made m (document_of log) st.result (rebased_run log s m b a st.rebased) st.applied

made_with_entry : (log : List PlainEntry) (e : PlainEntry) → MadeBefore log → IsMadeAtBase log e.arrived → StoredContent log e.arrived e.content → MadeBefore (log ++ e ∷ [])
made_with_entry log e b a st = record {
  alive = ap is_some (document_of_append log e (document_of log) st.result (some_of_is_some (snap log) b.alive) st.applied);
  made = made_append log e None (document_of log) st.result b.made (some_of_is_some (snap log) b.alive) (made_entry log e.arrived e.content b a st) st.applied;
}

made_from : (before es : List PlainEntry) → MadeBefore before → IsMadeFrom before es → AreMadeAtBaseFrom before es → MadeBefore (before ++ es)
made_from before [] b h a = subst MadeBefore (sym (append_nil before)) b
made_from before (e ∷ es) b h a =
    let st = stored_of_decide before e.arrived e.moment e (stored_at e.arrived.src e.arrived.seq before) refl h.0 in
    subst MadeBefore (append_assoc before (e ∷ []) es) (made_from (before ++ e ∷ []) es (made_with_entry before e b a.0 st) h.1 a.1)

made_log : (log : List PlainEntry) → IsMade log → AreMadeAtBase log → MadeBefore log
made_log log h a = made_from [] log (record { alive = refl; made = tt }) h a

pub entries_made : StoredEntriesAreMade
entries_made log h a = (made_log log h a).made

pub rebased_made_if_all_made : RebasedAreMadeIfAllMade
rebased_made_if_all_made log s m h all a e = content_made_or_overflows m (document_of log) (rebased_run log s m (made_log log h all) a e)
