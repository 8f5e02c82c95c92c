-- Each run of a server with a file is a run of the clients' machine with the saved entries as its log, and loses
-- nothing that was sent.
use Rattle.std.proofs.Common.{◌≡◌, ℕ, ◌≤◌, List, [], ◌∷◌, ◌++◌, length, Some, All, refl, sym, ap, ◌∙◌, subst, arith, append_assoc, length-append}
use Rattle.std.proofs.lemmas.List.{take-append-le}
use Rattle.std.proofs.lemmas.List.Elements.{All-nil}
use Rattle.sdb_oplog.specs.Plain.{PlainEntry}
use Rattle.sdb_oplog.specs.Snap.{snap, document_of}
use Rattle.sdb_oplog.specs.laws.LogLaws.{append_nil}
use Rattle.sdb_client_model.specs.Machine.{ClientStep, IsClientRun}
use Rattle.sdb_client_model.specs.Convergence.{IsStart}
use Rattle.sdb_client_model.specs.StoredOnce.{count_edits}
use Rattle.sdb_client_model.specs.Messages.{ClientConnection}
use Rattle.sdb_client_model.specs.MessageMachine.{MessageState, source_client}
use Rattle.sdb_client_model.specs.MessageLaws.{IsMessageStart, edit_steps, edit_steps_of, HasReceivedAll}
use Rattle.sdb_client_model.specs.SavingMachine.{SavingState, SavingStep, message_step, server_saves, server_releases, server_restarts, saved_document, IsSavingStep, IsSavingRun}
use Rattle.sdb_client_model.specs.SavingLaws.{IsSavingStart, IsReachedWithFile, message_steps, SavingRunsAreClientRuns, EditsAreSaved, SavedClientsConverge, BeginsWith, SavedEntriesStay, HasEntriesOf, SentEntriesStay, with_held, NoneIsMissingWithFile, HasProcessedAll, ClientsProcessAllWithFile, ClientsConvergeWithFile}
use Rattle.sdb_client_model.proofs.ClientRuns.{consistent_start, clients_converge}
use Rattle.sdb_client_model.proofs.StoredOnceLemmas.{all_edits_are_stored}
use Rattle.sdb_client_model.proofs.MessageInvariant.{FollowsOpen, all_of_log_append, received_append}
use Rattle.sdb_client_model.proofs.MessageRuns.{start_of_log, run_append, edit_steps_append, edit_steps_of_first, count_of_edit_steps}
use Rattle.sdb_client_model.proofs.MessageCompleteness.{IsComplete}
use Rattle.sdb_client_model.proofs.MessageCompleteRuns.{start_complete, complete_in, all_processed_in}
use Rattle.sdb_client_model.proofs.SentViews.{open_with_held, sent_view}
use Rattle.sdb_client_model.proofs.SavingInvariant.{saved_view, IsHeldOf, HoldsWithFile}
use Rattle.sdb_client_model.proofs.SavedDecisions.{IsOfSubmitted, document_with}
use Rattle.sdb_client_model.proofs.SavingSteps.{file_kept, step_kept}

-- ---- the start

module _ (s : SavingState) (h : IsSavingStart s) where
  document_is : saved_document s ≡ s.current.shared
  document_is = ap (document_with s.current.shared) h.all_saved

  pub start_shared : IsStart (saved_document s)
  start_shared = subst IsStart (sym document_is) h.current.shared

  saved_start : IsMessageStart (saved_view s)
  saved_start = record {
    shared = start_shared;
    none_early = h.current.none_early;
    none_acknowledged = h.current.none_acknowledged;
    none_connected = h.current.none_connected;
    none_unread = h.current.none_unread;
  }

  view_start : IsMessageStart (sent_view s)
  view_start = record {
    shared = h.current.shared;
    none_early = h.current.none_early;
    none_acknowledged = h.current.none_acknowledged;
    none_connected = λ source. ap (λ o. open_with_held o (s.held source)) (h.current.none_connected source);
    none_unread = h.current.none_unread;
  }

  -- both views are starts of the machine without a file
  pub start_holds : HoldsWithFile s
  start_holds = record {
    unsaved = [];
    log_is = sym h.all_saved ∙ sym (append_nil s.file);
    submitted = All-nil (IsOfSubmitted s.current.shared.submitted);
    saved = consistent_start (saved_document s) start_shared;
    saved_of_log = start_of_log (saved_view s) saved_start;
    view = record {
      consistent = consistent_start s.current.shared h.current.shared;
      of_log = start_of_log (sent_view s) view_start;
      complete = start_complete (sent_view s) view_start;
    };
    held = λ source. subst (All (IsHeldOf source s.current.shared.log)) (sym (h.none_held source))
        (All-nil (IsHeldOf source s.current.shared.log));
    none_held = λ source none. h.none_held source;
  }

-- ---- runs

pub record RunKeepsAll (steps : List SavingStep) (old new : SavingState) : Type 0 where
  pub client_steps : List ClientStep
  pub run : IsClientRun client_steps (saved_document old) (saved_document new)
  pub edits : edit_steps client_steps ≡ edit_steps_of (message_steps steps)
  pub holds : HoldsWithFile new

pub edit_steps_of_next : (step : SavingStep) (steps : List SavingStep)
    → edit_steps_of (message_steps (step ∷ [])) ++ edit_steps_of (message_steps steps)
    ≡ edit_steps_of (message_steps (step ∷ steps))
edit_steps_of_next (message_step step) steps = edit_steps_of_first step (message_steps steps)
edit_steps_of_next (server_saves n) steps = refl
edit_steps_of_next (server_releases source) steps = refl
edit_steps_of_next server_restarts steps = refl

-- the runs of the steps, one after the other
pub run_kept : (steps : List SavingStep) (old new : SavingState) → HoldsWithFile old → IsSavingRun steps old new
    → RunKeepsAll steps old new
run_kept [] old new h run = record {
  client_steps = [];
  run = ap saved_document run;
  edits = refl;
  holds = subst HoldsWithFile (sym run) h;
}
run_kept (step ∷ steps) old new h run =
    let a = step_kept step old run.0 h run.1 in
    let b = run_kept steps run.0 new a.holds run.2 in
    record {
      client_steps = a.client_steps ++ b.client_steps;
      run =
          run_append a.client_steps b.client_steps (saved_document old) (saved_document run.0) (saved_document new) a.run
          b.run;
      edits =
          edit_steps_append a.client_steps b.client_steps
          ∙ ap (λ l. l ++ edit_steps b.client_steps) a.edits
          ∙ ap (λ l. edit_steps_of (message_steps (step ∷ [])) ++ l) b.edits
          ∙ edit_steps_of_next step steps;
      holds = b.holds;
    }

pub saving_run_append : (xs ys : List SavingStep) (old mid new : SavingState) → IsSavingRun xs old mid
    → IsSavingRun ys mid new → IsSavingRun (xs ++ ys) old new
saving_run_append [] ys old mid new a b = subst (λ m. IsSavingRun ys m new) a b
saving_run_append (x ∷ xs) ys old mid new a b = (a.0, a.1, saving_run_append xs ys a.0 mid new a.2 b)

pub reached_run : (steps : List SavingStep) (start s : SavingState) → IsReachedWithFile steps start s
    → RunKeepsAll steps start s
reached_run steps start s r = run_kept steps start s (start_holds start r.starts) r.run

pub saving_runs_are_client_runs : SavingRunsAreClientRuns
saving_runs_are_client_runs steps start s r =
    let m = reached_run steps start s r in
    record {
      client_steps = m.client_steps;
      reached = record { starts = start_shared start r.starts; run = m.run };
      edits = m.edits;
    }

pub edits_are_saved : EditsAreSaved
edits_are_saved steps start s source r =
    let m = saving_runs_are_client_runs steps start s r in
    let e = all_edits_are_stored m.client_steps (saved_document start) (saved_document s) source m.reached in
    record {
      entries = e.entries;
      log = e.log;
      sent = e.sent;
      seqs = e.seqs;
      edits = e.edits ∙ sym (count_of_edit_steps source m.client_steps) ∙ ap (count_edits source) m.edits;
    }

pub saved_clients_converge : SavedClientsConverge
saved_clients_converge steps start s source r quiet =
    let m = saving_runs_are_client_runs steps start s r in
    clients_converge m.client_steps (saved_document start) (saved_document s) source m.reached quiet

-- ---- what stays

same_file : (old new : SavingState) → new.file ≡ old.file → BeginsWith new.file old.file
same_file old new is = ([], is ∙ sym (append_nil old.file))

file_grows : (step : SavingStep) (old new : SavingState) → IsSavingStep step old new → BeginsWith new.file old.file
file_grows (message_step step) old new p = same_file old new (file_kept step old new p)
file_grows (server_saves n) old new p = (_, ap (λ (s : SavingState). s.file) p)
file_grows (server_releases source) old new p = same_file old new (ap (λ (s : SavingState). s.file) p.new_is)
file_grows server_restarts old new p = same_file old new (ap (λ (s : SavingState). s.file) p.new_is)

begins_with_later : (xs ys zs : List PlainEntry) → BeginsWith ys xs → BeginsWith zs ys → BeginsWith zs xs
begins_with_later xs ys zs a b = (a.0 ++ b.0, b.1 ∙ ap (λ l. l ++ b.0) a.1 ∙ append_assoc xs a.0 b.0)

files_grow : (steps : List SavingStep) (old new : SavingState) → IsSavingRun steps old new
    → BeginsWith new.file old.file
files_grow [] old new run = same_file old new (ap (λ (s : SavingState). s.file) run)
files_grow (step ∷ steps) old new run =
    begins_with_later old.file run.0.file new.file (file_grows step old run.0 run.1) (files_grow steps run.0 new run.2)

pub saved_entries_stay : SavedEntriesStay
saved_entries_stay steps later_steps start s later r run =
    let m = reached_run steps start s r in
    let l = run_kept later_steps s later m.holds run in
    (files_grow later_steps s later run, (l.holds.unsaved, l.holds.log_is))

-- what is of the file is of a longer one
pub sent_entries_stay : SentEntriesStay
sent_entries_stay steps later_steps start s later source r run =
    let h = (reached_run steps start s r).holds in
    let more = files_grow later_steps s later run in
    let client = source_client s.current source in
    let follows = h.saved.clients source in
    let reached = follows.version_reached in
    let messages = h.saved_of_log.clients source in
    let ms = s.current.shared.submitted in
    subst (λ log. HasEntriesOf log source s.current) (sym more.1) (record {
      version_reached = omega (arith, length-append s.file more.0);
      document = ap snap (take-append-le client.version s.file more.0 reached) ∙ follows.document;
      received = received_append source s.file more.0 client.sent (s.current.received source) messages.received;
      sent = λ k is_open.
          let open_is = subst (FollowsOpen source s.file ms client.version) is_open messages.connection in
          all_of_log_append source s.file more.0 k.to_client open_is.to_client;
    })

-- ---- no entry is missing

module _ (steps : List SavingStep) (start s : SavingState) (source : List ℕ) (k : ClientConnection)
    (r : IsReachedWithFile steps start s) (is_open : s.current.connections source ≡ Some k) where
  abbrev l : ClientConnection
  l = with_held k (s.held source)

  abbrev view : MessageState
  view = sent_view s

  view_open : view.connections source ≡ Some l
  view_open = ap (λ o. open_with_held o (s.held source)) is_open

  complete_with_held : (position : ℕ) → k.queue ≡ Some position
      → IsComplete source s.current.shared.log (source_client s.current source) (s.current.received source) l position
  complete_with_held position subscribed =
      complete_in view source l position (reached_run steps start s r).holds.view view_open subscribed

  -- the client has processed all entries, and these are saved
  processes_all : HasReceivedAll s.current.shared.log (source_client s.current source) (s.current.received source) l
      → HasProcessedAll source s
  processes_all h =
      let holds = (reached_run steps start s r).holds in
      let reached = (holds.saved.clients source).version_reached in
      let all = all_processed_in view source l holds.view view_open h in
      record { version_is = all; all_saved = all_saved holds.unsaved holds.log_is (omega arith) }
    where
      all_saved : (unsaved : List PlainEntry) → s.current.shared.log ≡ s.file ++ unsaved
          → length s.current.shared.log ≤ length s.file → s.file ≡ s.current.shared.log
      all_saved [] is below = sym (is ∙ append_nil s.file)
      all_saved (e ∷ es) is below =
          let more = ap length is in absurd (omega (arith, length-append s.file (e ∷ es)))

pub none_is_missing_with_file : NoneIsMissingWithFile
none_is_missing_with_file steps start s source k position i r is_open subscribed low below =
    (complete_with_held steps start s source k r is_open position subscribed).read i low below

pub clients_process_all_with_file : ClientsProcessAllWithFile
clients_process_all_with_file steps start s source k r is_open h = processes_all steps start s source k r is_open h

pub clients_converge_with_file : ClientsConvergeWithFile
clients_converge_with_file steps start s source k r is_open h none =
    let all = processes_all steps start s source k r is_open h in
    saved_clients_converge steps start s source r
    (record { all_processed = all.version_is ∙ ap length (sym all.all_saved); none_pending = none })
    ∙ ap document_of all.all_saved
