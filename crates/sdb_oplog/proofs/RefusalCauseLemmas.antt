-- The causes for which an edit that is made at its base version is refused.
use Rattle.std.proofs.Common.{◌≡◌, ℕ, List, [], ◌∷◌, Bool, true, false, cond, Option, Some, None, Result, Ok, Err, option_map, option_and_then, ◌⊎◌, inl, inr, refl, sym, ap, ◌∙◌, subst}
use Rattle.std.specs.Option.{is_some, option_map_or}
use Rattle.std.specs.Result.{result_ok}
use Rattle.sdb_value.specs.Value.{Value}
use Rattle.sdb_component.specs.Plain.{PlainComponent}
use Rattle.sdb_apply.specs.Apply.{apply}
use Rattle.sdb_transform.specs.Cross.{Crossing, cross_ops}
use Rattle.sdb_transform.specs.OperationConvergence.{AreMadeFor, SomeSumLeavesRange}
use Rattle.sdb_transform.proofs.CrossingExistence.{crossing_of_runs}
use Rattle.sdb_transform.proofs.FormedValues.{IsFormed}
use Rattle.sdb_transform.proofs.OperationRuns.{OperationRun, MadeOrOverflows, run_formed, run_of, made_or_overflows}
use Rattle.sdb_oplog.specs.declared.codes.Code.{Code}
use Rattle.sdb_oplog.specs.declared.codes.Code.TheVariants.{E4, E5, E6, E8, E11}
use Rattle.sdb_oplog.specs.Plain.{PlainContent, create, delete, edit, PlainSubmission, PlainEntry}
use Rattle.sdb_oplog.specs.Refusal.{result_and_then}
use Rattle.sdb_oplog.specs.Rebase.{over, rebase}
use Rattle.sdb_oplog.specs.Snap.{apply_content, snap_from, snap, document_of, stored_at}
use Rattle.sdb_oplog.specs.Decide.{repeated, refused, decide, append_decided, rebased_content, base_version, missed_entries, is_log_full, is_version_too_new}
use Rattle.sdb_oplog.specs.RebasedContents.{IsContentMadeFor, AreEntriesMadeFor, base_document, AreMissedEntriesMade, RebasedEdit, RebasedSumLeavesRange, PositionLeavesRangeAmong, IsDeleteAmong, RefusalCause, log_full, version_too_new, document_deleted, position_leaves_range, sum_leaves_range, IsEditMadeAtBase, RefusalsHaveCauses, RefusalsHaveCausesIfAllMade}
use Rattle.sdb_oplog.specs.laws.LogLaws.{decides_repeat, decides_settled}
use Rattle.sdb_oplog.specs.laws.DecidedLogLaws.{alive_of_made}
use Rattle.sdb_oplog.proofs.RebasedContentLemmas.{IsFormedDocument, ContentRun, formed_document, content_run, rebase_run, edit_applied, edit_over_run, snap_since}
use Rattle.sdb_oplog.proofs.MadeEntryLemmas.{entries_made, rest_made}

-- ---- causes among the entries

-- why an edit isn't rebased, or isn't applied then
data Cause (m : PlainContent) (d : Option Value) (es : List PlainEntry) (code : Code) : Type 0 where
  by_delete : code ≡ E5 → IsDeleteAmong es → Cause m d es code
  by_position : code ≡ E8 → PositionLeavesRangeAmong m d es → Cause m d es code
  by_sum : code ≡ E8 → RebasedSumLeavesRange m d es → Cause m d es code

same_code : {A : Type 0} (c code : Code) → ◌≡◌ {A = Result A Code} (Err c) (Err code) → code ≡ c
same_code c code e = cc

-- an edit with no more entries to be rebased on
abbrev edit_here : (op : List PlainComponent) (d : Value) → RebasedEdit (edit op) (Some d) []
edit_here op d = record { operation = op; document = d; rebased = refl; replayed = refl }

module _ (op l : List PlainComponent) (x : PlainEntry) (d f : Value) (o : over (edit op) x.content ≡ Ok (edit l)) (a : apply_content x.content (Some d) ≡ Ok (Some f)) where
  abbrev edit_after : (es : List PlainEntry) → RebasedEdit (edit l) (Some f) es → RebasedEdit (edit op) (Some d) (x ∷ es)
  edit_after es r = record {
    operation = r.operation;
    document = r.document;
    rebased = ap (result_and_then (λ k. rebase k es)) o ∙ r.rebased;
    replayed = ap (λ r. option_and_then (λ m. snap_from m es) (result_ok r)) a ∙ r.replayed;
  }

  cause_after : (es : List PlainEntry) (code : Code) → Cause (edit l) (Some f) es code → Cause (edit op) (Some d) (x ∷ es) code
  cause_after es code (by_delete e c) = by_delete e (record { first = x ∷ c.first; next = c.next; rest = c.rest; parts = ap (λ l. x ∷ l) c.parts; deletes = c.deletes })
  cause_after es code (by_position e c) =
      by_position e
      (record {
        first = x ∷ c.first;
        next = c.next;
        rest = c.rest;
        other = c.other;
        parts = ap (λ l. x ∷ l) c.parts;
        edits = c.edits;
        after_first = edit_after c.first c.after_first;
        no_crossing = c.no_crossing;
        not_in_range = c.not_in_range;
      })
  cause_after es code (by_sum e c) = by_sum e (record { after = edit_after es c.after; sum = c.sum })

-- ---- a rebase that is refused

crossing_not_none : (L R : List PlainComponent) → cross_ops L R ≡ None → (x : Crossing PlainComponent) × (cross_ops L R ≡ Some x) → ⊥
crossing_not_none L R e x = let bad : None ≡ Some x.0 = sym e ∙ x.1 in cc

-- an edit whose transform against the next entry is refused
refused_here : (op other : List PlainComponent) (x : PlainEntry) (es : List PlainEntry) (code : Code) (d e f : Value) → code ≡ E8 → x.content ≡ edit other → cross_ops op other ≡ None
    → IsFormed d → OperationRun op d e → OperationRun other d f → Cause (edit op) (Some d) (x ∷ es) code
refused_here op other x es code d e f c is none w a b =
    by_position c
    (record {
      first = [];
      next = x;
      rest = es;
      other = other;
      parts = refl;
      edits = is;
      after_first = edit_here op d;
      no_crossing = none;
      not_in_range = λ i j. crossing_not_none op other none (crossing_of_runs d e f op other w a b i j);
    })

-- of an edit, by the crossing with the next entry's operation
abbrev RefusedAfter : List PlainEntry → Code → Type 0
RefusedAfter es code =
    (op : List PlainComponent) (d e : Value) → IsFormed d → OperationRun op d e → AreEntriesMadeFor es (Some d)
    → rebase (edit op) es ≡ Err code → Cause (edit op) (Some d) es code

module _ (x : PlainEntry) (es : List PlainEntry) (code : Code) (below : RefusedAfter es code) (op : List PlainComponent) (d e : Value) (f : IsFormed d) (run : OperationRun op d e)
    (h : rebase (edit op) (x ∷ es) ≡ Err code) (n : Option Value) (a : apply_content x.content (Some d) ≡ Ok n)
    (rest : AreEntriesMadeFor es n) where
  refused_by_crossing : (other : List PlainComponent) (o : Option (Crossing PlainComponent)) → x.content ≡ edit other → AreMadeFor other d → cross_ops op other ≡ o → Cause (edit op) (Some d) (x ∷ es) code
  refused_by_crossing other None is b none =
      let over_is : over (edit op) x.content ≡ Err E8 = ap (over (edit op)) is ∙ ap (λ o. option_map_or (λ c. Ok (edit c)) (option_map (λ y. y.left) o) (Err E8)) none in
      let r = run_of other d b in
      refused_here op other x es code d e r.result (same_code E8 code (sym (ap (result_and_then (λ k. rebase k es)) over_is) ∙ h)) is none f run r.run
  refused_by_crossing other (Some y) is b some =
      let over_is : over (edit op) x.content ≡ Ok (edit y.left) = ap (over (edit op)) is ∙ ap (λ o. option_map_or (λ c. Ok (edit c)) (option_map (λ y. y.left) o) (Err E8)) some in
      let r = run_of other d b in
      let after : Some r.result ≡ n = edit_applied other d r.result n r.applied (ap (λ c. apply_content c (Some d)) (sym is) ∙ a) in
      let a2 : apply_content x.content (Some d) ≡ Ok (Some r.result) = a ∙ ap Ok (sym after) in
      let left = edit_over_run op other d e r.result y some f run r.run in
      let rest2 = subst (AreEntriesMadeFor es) (sym after) rest in
      let h2 : rebase (edit y.left) es ≡ Err code = sym (ap (result_and_then (λ k. rebase k es)) over_is) ∙ h in
      cause_after op y.left x d r.result over_is a2 es code
      (below y.left r.result left.0 (run_formed other d r.result f r.run) left.1 rest2 h2)

  refused_by_content : (c : PlainContent) → x.content ≡ c → IsContentMadeFor c (Some d) → Cause (edit op) (Some d) (x ∷ es) code
  refused_by_content (create v) is b = let bad : Err E6 ≡ Ok n = ap (λ c. apply_content c (Some d)) (sym is) ∙ a in cc
  refused_by_content delete is b =
      let over_is : over (edit op) x.content ≡ Err E5 = ap (over (edit op)) is in
      by_delete (same_code E5 code (sym (ap (result_and_then (λ k. rebase k es)) over_is) ∙ h))
      (record { first = []; next = x; rest = es; parts = refl; deletes = is })
  refused_by_content (edit other) is b = refused_by_crossing other (cross_ops op other) is b refl

rebase_refused : (es : List PlainEntry) (code : Code) → RefusedAfter es code
rebase_refused [] code op d e f run made h = cc
rebase_refused (x ∷ es) code op d e f run made h =
    refused_by_content x es code (rebase_refused es code) op d e f run h made.1 made.2 made.3 x.content refl made.0

-- ---- a rebased edit that isn't applied

edit_of_over : (c : PlainContent) (op : List PlainComponent) (es : List PlainEntry) (k : PlainContent) → result_and_then (λ m. rebase m es) (over (edit op) c) ≡ Ok k
    → ((o : List PlainComponent) → rebase (edit o) es ≡ Ok k → (r : List PlainComponent) × (k ≡ edit r)) → (r : List PlainComponent) × (k ≡ edit r)
edit_of_over (create v) op es k h below = cc
edit_of_over delete op es k h below = cc
edit_of_over (edit other) op es k h below = edit_of_crossing (cross_ops op other) es k h below
  where
    edit_of_crossing : (o : Option (Crossing PlainComponent)) (es : List PlainEntry) (k : PlainContent)
        → result_and_then (λ m. rebase m es) (option_map_or (λ c. Ok (edit c)) (option_map (λ y. y.left) o) (Err E8)) ≡ Ok k
        → ((o : List PlainComponent) → rebase (edit o) es ≡ Ok k → (r : List PlainComponent) × (k ≡ edit r)) → (r : List PlainComponent) × (k ≡ edit r)
    edit_of_crossing None es k h below = cc
    edit_of_crossing (Some y) es k h below = below y.left h

-- a rebased edit is an edit
edit_of_rebase : (es : List PlainEntry) (op : List PlainComponent) (k : PlainContent) → rebase (edit op) es ≡ Ok k → (r : List PlainComponent) × (k ≡ edit r)
edit_of_rebase [] op k h = (op, cc)
edit_of_rebase (x ∷ es) op k h = edit_of_over x.content op es k h (λ o g. edit_of_rebase es o k g)

record EditRun (op : List PlainComponent) (d : Option Value) : Type 0 where
  pub document : Value
  pub end : Value
  pub is : d ≡ Some document
  pub run : OperationRun op document end

edit_run : (op : List PlainComponent) (d : Option Value) → ContentRun (edit op) d → EditRun op d
edit_run op None r = absurd r
edit_run op (Some d) r = record { document = d; end = r.0; is = refl; run = r.1 }

refused_code : (o : Option Value) (code : Code) → result_and_then (λ e. Ok (Some e)) (option_map_or (λ e. Ok e) o (Err E8)) ≡ Err code → (code ≡ E8) × (o ≡ None)
refused_code None code h = (same_code E8 code h, refl)
refused_code (Some e) code h = cc

refused_by_sum : (op : List PlainComponent) (d e : Value) (code : Code) → apply_content (edit op) (Some d) ≡ Err code → MadeOrOverflows op d e → (code ≡ E8) × SomeSumLeavesRange op d
refused_by_sum op d e code h (inl m) = let bad : None ≡ Some e = sym (refused_code (apply op d) code h).1 ∙ m.applied in cc
refused_by_sum op d e code h (inr o) = ((refused_code (apply op d) code h).0, o)

apply_refused : (es : List PlainEntry) (code : Code) (op : List PlainComponent) (k : PlainContent) (d e : Value) (after : Option Value) → IsFormed d → OperationRun op d e
    → AreEntriesMadeFor es (Some d) → snap_from (Some d) es ≡ Some after → rebase (edit op) es ≡ Ok k → apply_content k after ≡ Err code → Cause (edit op) (Some d) es code
apply_refused es code op k d e after f run made s h refuses =
    let o = edit_of_rebase es op k h in
    let r = edit_run o.0 after (subst (λ c. ContentRun c after) o.1 (rebase_run es (edit op) k (Some d) after f (e, run) made h s).run) in
    let refuses2 : apply_content (edit o.0) (Some r.document) ≡ Err code = ap (λ c. apply_content c (Some r.document)) (sym o.1) ∙ ap (apply_content k) (sym r.is) ∙ refuses in
    let sum = refused_by_sum o.0 r.document r.end code refuses2 (made_or_overflows o.0 r.document r.end r.run) in
    by_sum sum.0 (record { after = record { operation = o.0; document = r.document; rebased = h ∙ ap Ok o.1; replayed = s ∙ ap Some r.is }; sum = sum.1 })

-- ---- a submission that is refused

cause_of : (log : List PlainEntry) (s : PlainSubmission) (code : Code) → Cause s.content (base_document log s) (missed_entries log s) code → RefusalCause log s code
cause_of log s code (by_delete e c) = document_deleted e c
cause_of log s code (by_position e c) = position_leaves_range e c
cause_of log s code (by_sum e c) = sum_leaves_range e c

-- by the result of the rebase, and by the tests before it
module _ (log : List PlainEntry) (s : PlainSubmission) (code : Code) where
  refused_result : (r : Result PlainContent Code) → ((c : Code) → r ≡ Err c → Cause s.content (base_document log s) (missed_entries log s) c)
      → ((k : PlainContent) (c : Code) → r ≡ Ok k → apply_content k (document_of log) ≡ Err c → Cause s.content (base_document log s) (missed_entries log s) c)
      → result_and_then (λ k. result_and_then (λ n. Ok k) (apply_content k (document_of log))) r ≡ Err code → RefusalCause log s code
  refused_result (Err c) rebases applies h = cause_of log s code (subst (Cause s.content (base_document log s) (missed_entries log s)) (sym (same_code c code h)) (rebases c refl))
  refused_result (Ok k) rebases applies h = cause_of log s code (applies k code refl (err_step (apply_content k (document_of log)) k h))
    where
      err_step : (r : Result (Option Value) Code) (k : PlainContent) → result_and_then (λ n. Ok k) r ≡ Err code → r ≡ Err code
      err_step (Ok n) k h = cc
      err_step (Err c) k h = let same = same_code c code h in ap Err (sym same)

  refused_settled : (full newer : Bool) (r : Result PlainContent Code) → is_log_full log ≡ full → is_version_too_new log s ≡ newer
      → (result_and_then (λ k. result_and_then (λ n. Ok k) (apply_content k (document_of log))) r ≡ Err code → RefusalCause log s code)
      → cond full (Err E11) (cond newer (Err E4) (result_and_then (λ k. result_and_then (λ n. Ok k) (apply_content k (document_of log))) r)) ≡ Err code
      → RefusalCause log s code
  refused_settled true newer r a b below h = log_full (same_code E11 code h) a
  refused_settled false true r a b below h = version_too_new (same_code E4 code h) b
  refused_settled false false r a b below h = below h

refused_content : (log : List PlainEntry) (s : PlainSubmission) (now : ℕ) (code : Code) (r : Result PlainContent Code) → (append_decided log s now r).reply ≡ refused code → r ≡ Err code
refused_content log s now code (Ok m) h = cc
refused_content log s now code (Err c) h = let same : c ≡ code = cc in ap Err same

refused_by_decide : (log : List PlainEntry) (s : PlainSubmission) (now : ℕ) (code : Code) (o : Option ℕ) → stored_at s.src s.seq log ≡ o → (decide log s now).reply ≡ refused code
    → rebased_content log s ≡ Err code
refused_by_decide log s now code (Some i) is h = let bad : repeated i ≡ refused code = sym (ap (λ d. d.reply) (decides_repeat log s now i is)) ∙ h in cc
refused_by_decide log s now code None is h =
    refused_content log s now code (rebased_content log s) (sym (ap (λ d. d.reply) (decides_settled log s now (rebased_content log s) is refl)) ∙ h)

-- ---- of an edit that is made at its base version

not_edit : (m : PlainContent) (op : List PlainComponent) → m ≡ edit op → (m ≡ delete) ⊎ ((v : Value) × (m ≡ create v)) → ⊥
not_edit m op e (inl h) = let bad : edit op ≡ delete = sym e ∙ h in cc
not_edit m op e (inr h) = let bad : edit op ≡ create h.0 = sym e ∙ h.1 in cc

rebase_causes : (es : List PlainEntry) (m : PlainContent) (b : Option Value) (op : List PlainComponent) (code : Code) → m ≡ edit op → ContentRun m b → IsFormedDocument b → AreEntriesMadeFor es b
    → rebase m es ≡ Err code → Cause m b es code
rebase_causes es (create v) b op code is run f made h = absurd (not_edit (create v) op is (inr (v, refl)))
rebase_causes es delete b op code is run f made h = absurd (not_edit delete op is (inl refl))
rebase_causes es (edit o) None op code is run f made h = absurd run
rebase_causes es (edit o) (Some d) op code is run f made h = rebase_refused es code o d run.0 f run.1 made h

apply_causes : (es : List PlainEntry) (m k : PlainContent) (b after : Option Value) (op : List PlainComponent) (code : Code) → m ≡ edit op → ContentRun m b → IsFormedDocument b → AreEntriesMadeFor es b
    → snap_from b es ≡ Some after → rebase m es ≡ Ok k → apply_content k after ≡ Err code → Cause m b es code
apply_causes es (create v) k b after op code is run f made s h refuses = absurd (not_edit (create v) op is (inr (v, refl)))
apply_causes es delete k b after op code is run f made s h refuses = absurd (not_edit delete op is (inl refl))
apply_causes es (edit o) k None after op code is run f made s h refuses = absurd run
apply_causes es (edit o) k (Some d) after op code is run f made s h refuses = apply_refused es code o k d run.0 after f run.1 made s h refuses

refusals : (log : List PlainEntry) (s : PlainSubmission) (now : ℕ) (code : Code) → is_some (snap log) ≡ true → IsFormedDocument (base_document log s)
    → AreMissedEntriesMade log s → IsEditMadeAtBase log s → (decide log s now).reply ≡ refused code → RefusalCause log s code
refusals log s now code alive f made a h =
    let v = base_version log s in
    let b = base_document log s in
    let es = missed_entries log s in
    let run = content_run s.content b a.made in
    let err = refused_by_decide log s now code (stored_at s.src s.seq log) refl h in
    refused_settled log s code (is_log_full log) (is_version_too_new log s) (rebase s.content es) refl refl
    (refused_result log s code (rebase s.content es)
    (λ c e. rebase_causes es s.content b a.operation c a.edits run f made e)
    (λ k c e g. apply_causes es s.content k b (document_of log) a.operation c a.edits run f made (snap_since log v alive) e g))
    err

pub refusals_have_causes : RefusalsHaveCauses
refusals_have_causes log s now code made f missed a h = refusals log s now code (alive_of_made log made) (formed_document (base_document log s) f) missed a h

pub refusals_have_causes_if_all_made : RefusalsHaveCausesIfAllMade
refusals_have_causes_if_all_made log s now code made all a h =
    let alive = alive_of_made log made in
    let rest = rest_made log (base_version log s) alive (entries_made log made all) in
    refusals log s now code alive rest.formed rest.made a h
