-- The entries of a log that aren't saved are decisions of submissions, which can be decided again when they are saved.
use Rattle.std.proofs.Common.{◌≡◌, ℕ, List, [], ◌∷◌, ◌++◌, All, Contains, refl, sym, ap, ◌∙◌, subst, append_assoc}
use Rattle.std.proofs.lemmas.List.Elements.{All-nil, All-cons, All-head, All-tail, All-append, All-weaker, Contains-append_left}
use Rattle.sdb_oplog.specs.Plain.{PlainSubmission, PlainEntry}
use Rattle.sdb_oplog.specs.Decide.{Decision, decide, new_entry, IsMadeFrom}
use Rattle.sdb_oplog.specs.laws.LogLaws.{append_nil}
use Rattle.sdb_client_model.specs.Client.{next_sent}
use Rattle.sdb_client_model.specs.Machine.{SubmittedEdit, SharedDocument, ClientStep, make_edit, send_edit, decide_edit, process_entry, submission_of, after_decision, IsClientStep, IsClientRun}
use Rattle.sdb_client_model.specs.MessageLaws.{edit_steps}
use Rattle.sdb_client_model.proofs.MessageLogs.{DecisionCase, is_repeated, is_refused, is_stored, decision_case}

-- the entry's submission is an edit that was sent
abbrev pub IsOfSubmitted : List SubmittedEdit → PlainEntry → Type 0
IsOfSubmitted ms e = (m : SubmittedEdit) × Contains ms m × (e.arrived ≡ submission_of m e.arrived.via e.arrived.by)

pub submitted_more : (ms ns : List SubmittedEdit) → ((m : SubmittedEdit) → Contains ms m → Contains ns m)
    → (es : List PlainEntry) → All (IsOfSubmitted ms) es → All (IsOfSubmitted ns) es
submitted_more ms ns more es h = All-weaker (IsOfSubmitted ms) (IsOfSubmitted ns) (λ e k. (k.0, more k.0 k.1, k.2)) es h

-- ---- what a run adds to the log

pub record LogGrowth (old new : SharedDocument) : Type 0 where
  pub entries : List PlainEntry
  pub log_is : new.log ≡ old.log ++ entries
  pub submitted : All (IsOfSubmitted new.submitted) entries
  pub more : (m : SubmittedEdit) → Contains old.submitted m → Contains new.submitted m

no_growth : (old new : SharedDocument) → new.log ≡ old.log
    → ((m : SubmittedEdit) → Contains old.submitted m → Contains new.submitted m) → LogGrowth old new
no_growth old new is more = record {
  entries = [];
  log_is = is ∙ sym (append_nil old.log);
  submitted = All-nil (IsOfSubmitted new.submitted);
  more = more;
}

same_growth : (old new : SharedDocument) → new ≡ old → LogGrowth old new
same_growth old new is = no_growth old new (ap (λ (s : SharedDocument). s.log) is)
    (λ m has. subst (λ (s : SharedDocument). Contains s.submitted m) (sym is) has)

changed_growth : (old new mid : SharedDocument) → new ≡ mid → mid.log ≡ old.log
    → ((m : SubmittedEdit) → Contains old.submitted m → Contains mid.submitted m) → LogGrowth old new
changed_growth old new mid is log more = no_growth old new (ap (λ (s : SharedDocument). s.log) is ∙ log)
    (λ m has. subst (λ (s : SharedDocument). Contains s.submitted m) (sym is) (more m has))

-- a decision adds at most one entry, of its submission
decision_growth : (s : SharedDocument) (m : SubmittedEdit) (via : List ℕ) (by now : ℕ) → Contains s.submitted m
    → DecisionCase s.log (submission_of m via by) now → LogGrowth s (after_decision s (submission_of m via by) now)
decision_growth s m via by now has (is_repeated i at is) = no_growth s (after_decision s (submission_of m via by) now)
    (ap (λ (d : Decision). d.log) is) (λ k has. has)
decision_growth s m via by now has (is_refused code is) = no_growth s (after_decision s (submission_of m via by) now)
    (ap (λ (d : Decision). d.log) is) (λ k has. has)
decision_growth s m via by now has (is_stored content none is) =
    let e = new_entry s.log (submission_of m via by) now content in
    record {
      entries = e ∷ [];
      log_is = ap (λ (d : Decision). d.log) is;
      submitted = All-cons (IsOfSubmitted s.submitted) e [] (m, has, refl) (All-nil (IsOfSubmitted s.submitted));
      more = λ k has. has;
    }

step_growth : (step : ClientStep) (old new : SharedDocument) → IsClientStep step old new → LogGrowth old new
step_growth (make_edit source op) old new step = changed_growth old new _ step refl (λ m has. has)
step_growth (send_edit source) old new step =
    changed_growth old new _ step.new_is refl
    (λ m has.
    Contains-append_left old.submitted
    (record { source = source; sent = next_sent (old.clients source) step.operation } ∷ []) m has)
step_growth (decide_edit m via by now) old new step =
    subst (LogGrowth old) (sym step.1)
    (decision_growth old m via by now step.0 (decision_case old.log (submission_of m via by) now))
step_growth (process_entry source) old new step = changed_growth old new _ step.new_is refl (λ m has. has)

growth_after : (old mid new : SharedDocument) → LogGrowth old mid → LogGrowth mid new → LogGrowth old new
growth_after old mid new a b = record {
  entries = a.entries ++ b.entries;
  log_is = b.log_is ∙ ap (λ l. l ++ b.entries) a.log_is ∙ append_assoc old.log a.entries b.entries;
  submitted =
      All-append (IsOfSubmitted new.submitted) a.entries b.entries
      (submitted_more mid.submitted new.submitted b.more a.entries a.submitted) b.submitted;
  more = λ m has. b.more m (a.more m has);
}

pub log_growth : (steps : List ClientStep) (old new : SharedDocument) → IsClientRun steps old new → LogGrowth old new
log_growth [] old new run = same_growth old new run
log_growth (step ∷ steps) old new run =
    growth_after old run.0 new (step_growth step old run.0 run.1) (log_growth steps run.0 new run.2)

-- ---- the entries are decided again

abbrev pub document_with : SharedDocument → List PlainEntry → SharedDocument
document_with s log = record { log = log; clients = s.clients; submitted = s.submitted }

pub record DecidesAll (old new : SharedDocument) : Type 0 where
  pub steps : List ClientStep
  pub run : IsClientRun steps old new
  pub none_edited : edit_steps steps ≡ []

-- each entry is decided again on those before it
pub decides_all : (s : SharedDocument) (before es : List PlainEntry) → IsMadeFrom before es
    → All (IsOfSubmitted s.submitted) es → DecidesAll (document_with s before) (document_with s (before ++ es))
decides_all s before [] made of = record {
  steps = [];
  run = ap (document_with s) (append_nil before);
  none_edited = refl;
}
decides_all s before (e ∷ es) made of =
    let m = All-head (IsOfSubmitted s.submitted) e es of in
    let decided : (decide before (submission_of m.0 e.arrived.via e.arrived.by) e.moment).log ≡ before ++ e ∷ [] =
    ap (λ (x : PlainSubmission). (decide before x e.moment).log) (sym m.2) ∙ made.0 in
    let rest = decides_all s (before ++ e ∷ []) es made.1 (All-tail (IsOfSubmitted s.submitted) e es of) in
    record {
      steps = decide_edit m.0 e.arrived.via e.arrived.by e.moment ∷ rest.steps;
      run = (
        document_with s (before ++ e ∷ []),
        (m.1, sym (ap (document_with s) decided)),
        subst (λ l. IsClientRun rest.steps (document_with s (before ++ e ∷ [])) (document_with s l))
            (append_assoc before (e ∷ []) es) rest.run,
      );
      none_edited = rest.none_edited;
    }

-- the parts of a made log
pub made_before : (before es later : List PlainEntry) → IsMadeFrom before (es ++ later) → IsMadeFrom before es
made_before before [] later made = tt
made_before before (e ∷ es) later made = (made.0, made_before (before ++ e ∷ []) es later made.1)

pub made_after : (before es later : List PlainEntry) → IsMadeFrom before (es ++ later)
    → IsMadeFrom (before ++ es) later
made_after before [] later made = subst (λ l. IsMadeFrom l later) (sym (append_nil before)) made
made_after before (e ∷ es) later made =
    subst (λ l. IsMadeFrom l later) (append_assoc before (e ∷ []) es)
    (made_after (before ++ e ∷ []) es later made.1)
