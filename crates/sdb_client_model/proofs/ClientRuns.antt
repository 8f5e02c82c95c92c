-- Runs of clients.
use Rattle.std.proofs.Common.{◌≡◌, ℕ, ◌≤◌, List, [], ◌∷◌, take, length, Some, None, unwrap_or, sym, ap, ◌∙◌, subst, arith, drop, Option, refl, ◌⊎◌, inl, inr, length-drop}
use Rattle.std.proofs.lemmas.List.{take_all, drop_all}
use Rattle.std.specs.Prelude.{Contains}
use Rattle.sdb_component.specs.Plain.{PlainComponent}
use Rattle.sdb_oplog.specs.Plain.{PlainEntry}
use Rattle.sdb_oplog.specs.Snap.{snap, document_of, stored_at}
use Rattle.sdb_oplog.specs.Decide.{IsMade}
use Rattle.sdb_oplog.specs.RebasedContents.{IsWellFormedDocument}
use Rattle.sdb_value.specs.Value.{Value}
use Rattle.sdb_transform.proofs.FormedValues.{formed_of}
use Rattle.sdb_client_model.proofs.EntryLemmas.{IsFormedDocument}
use Rattle.sdb_oplog.specs.laws.LogLaws.{append_nil, some_of_is_some}
use Rattle.sdb_oplog.specs.laws.DecidedLogLaws.{alive_of_made}
use Rattle.sdb_client_model.specs.Client.{SentEdit, Client, shown_document, apply_all}
use Rattle.sdb_client_model.specs.Machine.{SubmittedEdit, SharedDocument, ClientStep, make_edit, send_edit, decide_edit, process_entry, IsClientStep, IsClientRun}
use Rattle.sdb_client_model.specs.Invariant.{AreEdits, IsSentEditOf, IsSentOrNone, FollowsLog, IsStoredOrSent, IsConsistent}
use Rattle.sdb_client_model.specs.Convergence.{IsNewClient, IsStart, RunsAreConsistent, ClientsConverge, ClientsAgree, IsQuiet}
use Rattle.sdb_client_model.specs.RunPremises.{AreStepsInRange, IsStepInRange}
use Rattle.sdb_client_model.specs.MadeEdits.{ArePendingMade, IsSentMade, AreOwnEditsMade, AreEditsMade, EditsStayMade, ClientsShowDocuments, AwaitsStep, NoneIsStuck, NoneRefused, EntriesAreProcessed, awaits_entry, awaits_send, awaits_decision, IsReachedInRange}
use Rattle.sdb_client_model.proofs.ClientSteps.{consistent_edit, consistent_send, consistent_entry}
use Rattle.sdb_client_model.proofs.PendingLemmas.{shown_of_made}
use Rattle.sdb_client_model.proofs.DecisionLemmas.{consistent_decision}
use Rattle.sdb_client_model.proofs.MadeEdits.{StartsFormed, made_edit, made_send, made_processed, entry_is_processed, made_decision, not_refused}

-- ---- the start

new_follows : (log : List PlainEntry) (source : List ℕ) (c : Client) → IsMade log → IsNewClient log source c → FollowsLog log source c
new_follows log source c made n =
    let length_is = n.version in
    let reached : length log ≤ c.version = omega arith in
    record {
      version_reached = omega arith;
      document =
          ap snap (take_all c.version log reached)
          ∙ some_of_is_some (snap log) (alive_of_made log made)
          ∙ ap Some n.document;
      edits = subst AreEdits (sym (drop_all c.version log reached)) tt;
      sent = subst (IsSentOrNone log source c) (sym n.sent) tt;
      seqs = n.seqs;
    }

none_submitted : (s : SharedDocument) (m : SubmittedEdit) → Contains [] m → IsStoredOrSent s.log (s.clients m.source) m
none_submitted s m has = let below = has.1 in absurd (omega arith)

none_sent : {G : Type 0} (t : SentEdit) → None ≡ Some t → G
none_sent t h = cc

pub consistent_start : (s : SharedDocument) → IsStart s → IsConsistent s
consistent_start s h = record {
  log_is_made = h.log_is_made;
  clients = λ source. new_follows s.log source (s.clients source) h.log_is_made (h.clients source);
  submitted = λ m has. none_submitted s m (subst (λ l. Contains l m) h.submitted has);
  network = λ source t k. none_sent t (sym (h.clients source).sent ∙ k);
}

-- ---- each run

pub consistent_step : (step : ClientStep) (old new : SharedDocument) → IsConsistent old → IsClientStep step old new → IsConsistent new
consistent_step (make_edit source op) old new h step = subst IsConsistent (sym step) (consistent_edit old h source op)
consistent_step (send_edit source) old new h step =
    subst IsConsistent (sym step.new_is) (consistent_send old h source step.operation step.rest step.none_sent step.first)
consistent_step (decide_edit m via by now) old new h step = subst IsConsistent (sym step.1) (consistent_decision old h m step.0 via by now)
consistent_step (process_entry source) old new h step =
    subst IsConsistent (sym step.new_is) (consistent_entry old h source step.entry step.later step.entry_is step.client step.client_is)

pub consistent_run : (steps : List ClientStep) (old new : SharedDocument) → IsConsistent old → IsClientRun steps old new → IsConsistent new
consistent_run [] old new h run = subst IsConsistent (sym run) h
consistent_run (step ∷ steps) old new h run = consistent_run steps run.0 new (consistent_step step old run.0 h run.1) run.2

pub runs_are_consistent : RunsAreConsistent
runs_are_consistent steps start s r = consistent_run steps start s (consistent_start start r.starts) r.run

-- what a client shows that has no pending edit
shown_without_pending : (s : SharedDocument) (source : List ℕ) → IsConsistent s → (s.clients source).pending ≡ []
    → shown_document (s.clients source) ≡ document_of (take (s.clients source).version s.log)
shown_without_pending s source h none =
    ap (λ ops. apply_all ops (s.clients source).document) none
    ∙ sym (ap (λ o. unwrap_or o None) (h.clients source).document)

pub clients_converge : ClientsConverge
clients_converge steps start s source r quiet =
    let length_is = quiet.all_processed in
    shown_without_pending s source (runs_are_consistent steps start s r) quiet.none_pending
    ∙ ap document_of (take_all (s.clients source).version s.log (omega arith))

pub clients_agree : ClientsAgree
clients_agree steps start s source other r none none_other same =
    let h = runs_are_consistent steps start s r in
    shown_without_pending s source h none
    ∙ ap (λ v. document_of (take v s.log)) same
    ∙ sym (shown_without_pending s other h none_other)

-- what a client waits for that has processed all entries
module _ (s : SharedDocument) (source : List ℕ) (h : IsConsistent s) where
  abbrev client : Client
  client = s.clients source

  all_processed : drop client.version s.log ≡ [] → length s.log ≤ client.version
  all_processed none = let left = ap length none in omega (arith, length-drop client.version s.log, left)

  awaits_decision_of : (t : SentEdit) → client.sent ≡ Some t → drop client.version s.log ≡ [] → IsSentEditOf s.log source client t → AwaitsStep s source
  awaits_decision_of t is none r =
      awaits_decision t is (h.network source t is) (ap (stored_at source t.seq) (sym (take_all client.version s.log (all_processed none))) ∙ r.not_processed)

  awaits_pending : (op : List PlainComponent) (rest : List (List PlainComponent)) (o : Option SentEdit) → client.pending ≡ op ∷ rest → drop client.version s.log ≡ [] → client.sent ≡ o
      → IsSentOrNone s.log source client o → AwaitsStep s source
  awaits_pending op rest None first none is r = awaits_send op rest is first
  awaits_pending op rest (Some t) first none is r = awaits_decision_of t is none r

  quiet_or_awaits : (later : List PlainEntry) (ops : List (List PlainComponent)) → drop client.version s.log ≡ later → client.pending ≡ ops → IsQuiet s.log client ⊎ AwaitsStep s source
  quiet_or_awaits (e ∷ later) ops is pending = inr (awaits_entry e later is)
  quiet_or_awaits [] (op ∷ rest) is pending = inr (awaits_pending op rest client.sent pending is refl (h.clients source).sent)
  quiet_or_awaits [] [] is pending =
      let reached = (h.clients source).version_reached in
      let all = all_processed is in
      inl (record { all_processed = omega arith; none_pending = pending })

-- ---- runs of made edits, in range

own_edits_of_new : (log : List PlainEntry) (source : List ℕ) (c : Client) → IsNewClient log source c → AreOwnEditsMade (length log) log c
own_edits_of_new log source c n =
    let length_is = n.version in
    record {
      start_reached = omega arith;
      pending = subst (λ ops. ArePendingMade ops c.document) (sym n.pending) tt;
      sent = subst (IsSentMade (length log) log) (sym n.sent) tt;
    }

pub made_start : (s : SharedDocument) → IsStart s → AreEditsMade s s
made_start s h = record {
  entries = [];
  log = sym (append_nil s.log);
  made = tt;
  clients = λ source. own_edits_of_new s.log source (s.clients source) (h.clients source);
}

formed_document : (d : Option Value) → IsWellFormedDocument d → IsFormedDocument d
formed_document None h = tt
formed_document (Some d) h = formed_of d h

pub starts_formed : (s : SharedDocument) → IsStart s → IsWellFormedDocument (document_of s.log) → StartsFormed s
starts_formed s h f = record { snapped = some_of_is_some (snap s.log) (alive_of_made s.log h.log_is_made); formed = formed_document (document_of s.log) f }

module _ (start : SharedDocument) (from : StartsFormed start) where
  pub made_step : (step : ClientStep) (old new : SharedDocument) → IsConsistent old → AreEditsMade start old → IsStepInRange step old → IsClientStep step old new → AreEditsMade start new
  made_step (make_edit source op) old new h a range step = subst (AreEditsMade start) (sym step) (made_edit start old from h a source op range)
  made_step (send_edit source) old new h a range step = subst (AreEditsMade start) (sym step.new_is) (made_send start old from h a source step.operation step.rest step.first)
  made_step (decide_edit m via by now) old new h a range step = subst (AreEditsMade start) (sym step.1) (made_decision start old from h a m step.0 via by now range)
  made_step (process_entry source) old new h a range step =
      subst (AreEditsMade start) (sym step.new_is) (made_processed start old from h a source step.entry step.later step.entry_is range step.client step.client_is)

  made_run : (steps : List ClientStep) (old new : SharedDocument) → IsConsistent old → AreEditsMade start old → (run : IsClientRun steps old new) → AreStepsInRange steps old new run → AreEditsMade start new
  made_run [] old new h a run range = subst (AreEditsMade start) (sym run) a
  made_run (step ∷ steps) old new h a run range =
      made_run steps run.0 new (consistent_step step old run.0 h run.1) (made_step step old run.0 h a range.0 run.1) run.2 range.1

from_start : (steps : List ClientStep) (start s : SharedDocument) → IsReachedInRange steps start s → StartsFormed start
from_start steps start s r = starts_formed start r.reached.starts r.well_formed

pub edits_stay_made : EditsStayMade
edits_stay_made steps start s r =
    made_run start (from_start steps start s r) steps start s (consistent_start start r.reached.starts) (made_start start r.reached.starts) r.reached.run r.steps_in_range

pub clients_show_documents : ClientsShowDocuments
clients_show_documents steps start s source r =
    let c = s.clients source in
    shown_of_made c.pending c.document ((edits_stay_made steps start s r).clients source).pending

pub none_is_stuck : NoneIsStuck
none_is_stuck steps start s source r =
    let h = runs_are_consistent steps start s r.reached in
    quiet_or_awaits s source h (drop (s.clients source).version s.log) (s.clients source).pending refl refl

pub entries_are_processed : EntriesAreProcessed
entries_are_processed steps start s source e later r is range =
    let h = runs_are_consistent steps start s r.reached in
    let a = edits_stay_made steps start s r in
    entry_is_processed start s (from_start steps start s r) h a source e later is range

pub none_refused : NoneRefused
none_refused steps start s m via by now code r has range k =
    not_refused start s (from_start steps start s r) (runs_are_consistent steps start s r.reached) (edits_stay_made steps start s r) m has via by now range code k
