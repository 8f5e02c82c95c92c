-- A small run of a server with a file is a small run of the clients' machine, and can lead to convergence.
use Rattle.std.proofs.Common.{◌≡◌, ℕ, List, [], ◌∷◌, ◌++◌, length, All, inl, inr, refl, sym, ap, ◌∙◌, subst}
use Rattle.std.proofs.lemmas.List.Elements.{All-contains}
use Rattle.sdb_oplog.specs.Snap.{document_of}
use Rattle.sdb_oplog.specs.Decide.{IsMade}
use Rattle.sdb_client_model.specs.Client.{shown_document}
use Rattle.sdb_client_model.specs.Machine.{SharedDocument, ClientStep, make_edit, IsClientRun}
use Rattle.sdb_client_model.specs.SmallRuns.{made_components, count_made}
use Rattle.sdb_client_model.specs.Messages.{submit}
use Rattle.sdb_client_model.specs.MessageMachine.{MessageState, MessageStep, client_edits, client_sends, client_resends, client_receives, client_advances, server_handles, server_refuses, server_handles_unread, server_pumps, client_connects, client_subscribes, connection_ends, with_shared, source_client, IsMessageStep}
use Rattle.sdb_client_model.specs.MessageLaws.{edit_steps, edit_steps_of}
use Rattle.sdb_client_model.specs.SavingMachine.{SavingState, SavingStep, message_step, server_saves, server_releases, server_restarts, saved_document, with_current, IsSavingStep, IsSavingRun}
use Rattle.sdb_client_model.specs.SavingLaws.{message_steps}
use Rattle.sdb_client_model.specs.SmallSavingRuns.{IsSavingStepMade, AreSavingStepsMade, IsReachedBySmallSavingRun, SmallSavingRunsAreSmallRuns, NoSubmissionIsRefusedWithFile, NextEntriesAreProcessedWithFile, CanConvergeWithFile, ClientsCanConvergeWithFile}
use Rattle.sdb_client_model.proofs.MessageRuns.{edit_steps_append}
use Rattle.sdb_client_model.proofs.SmallMessageLemmas.{MadeRun, made_append, steps_made, components_of_edits, count_of_edits, small_of_same, small_continued}
use Rattle.sdb_client_model.proofs.MessageContinuations.{IsSmallState, next_not_refused}
use Rattle.sdb_client_model.proofs.SmallMessageSteps.{next_step}
use Rattle.sdb_client_model.proofs.MessageInvariant.{IsFromClient}
use Rattle.sdb_client_model.proofs.MessageClientSteps.{follows}
use Rattle.sdb_client_model.proofs.MessageConvergence.{can_converge}
use Rattle.sdb_client_model.proofs.SentViews.{sent_view}
use Rattle.sdb_client_model.proofs.SavedDecisions.{document_with, decides_all, made_after}
use Rattle.sdb_client_model.proofs.SavingInvariant.{saved_view, HoldsWithFile}
use Rattle.sdb_client_model.proofs.SavingSteps.{KeepsAll, step_kept}
use Rattle.sdb_client_model.proofs.SavingRuns.{start_shared, start_holds, edit_steps_of_next, reached_run}
use Rattle.sdb_client_model.proofs.ViewRuns.{after_saving_all, saved_all, holds_saved_all, view_run}

-- ---- the steps of the clients' machine

record MadeKept (step : SavingStep) (old new : SavingState) : Type 0 where
  pub client_steps : List ClientStep
  pub run : MadeRun client_steps (saved_document old) (saved_document new)
  pub edits : edit_steps client_steps ≡ edit_steps_of (message_steps (step ∷ []))

no_edit_kept : (step : SavingStep) (old new : SavingState) → edit_steps_of (message_steps (step ∷ [])) ≡ []
    → KeepsAll step old new → MadeKept step old new
no_edit_kept step old new none k = record {
  client_steps = k.client_steps;
  run = record {
    run = k.run;
    made = steps_made k.client_steps (saved_document old) (saved_document new) k.run (k.edits ∙ none);
  };
  edits = k.edits;
}

-- only the step of an edit has a premise
message_made_kept : (step : MessageStep) (old new : SavingState) → IsSavingStepMade (message_step step) old
    → IsSavingStep (message_step step) old new → KeepsAll (message_step step) old new
    → MadeKept (message_step step) old new
message_made_kept (client_edits source op) old new made p k = record {
  client_steps = make_edit source op ∷ [];
  run = record {
    run = (
      saved_document new,
      ap saved_document p.new_is ∙ ap (λ s. saved_document (with_current old s)) p.changes,
      refl,
    );
    made = (made, tt);
  };
  edits = refl;
}
message_made_kept (client_sends source) old new made p k = no_edit_kept (message_step (client_sends source)) old new refl
    k
message_made_kept (client_resends source) old new made p k =
    no_edit_kept (message_step (client_resends source)) old new refl k
message_made_kept (client_receives source) old new made p k =
    no_edit_kept (message_step (client_receives source)) old new refl k
message_made_kept (client_advances source) old new made p k =
    no_edit_kept (message_step (client_advances source)) old new refl k
message_made_kept (server_handles source now) old new made p k =
    no_edit_kept (message_step (server_handles source now)) old new refl k
message_made_kept (server_refuses source) old new made p k =
    no_edit_kept (message_step (server_refuses source)) old new refl k
message_made_kept (server_handles_unread m now) old new made p k =
    no_edit_kept (message_step (server_handles_unread m now)) old new refl k
message_made_kept (server_pumps source) old new made p k =
    no_edit_kept (message_step (server_pumps source)) old new refl k
message_made_kept (client_connects source via) old new made p k =
    no_edit_kept (message_step (client_connects source via)) old new refl k
message_made_kept (client_subscribes source) old new made p k =
    no_edit_kept (message_step (client_subscribes source)) old new refl k
message_made_kept (connection_ends source) old new made p k =
    no_edit_kept (message_step (connection_ends source)) old new refl k

made_kept : (step : SavingStep) (old new : SavingState) → IsSavingStepMade step old → IsSavingStep step old new
    → KeepsAll step old new → MadeKept step old new
made_kept (message_step step) old new made p k = message_made_kept step old new made p k
made_kept (server_saves n) old new made p k = no_edit_kept (server_saves n) old new refl k
made_kept (server_releases source) old new made p k = no_edit_kept (server_releases source) old new refl k
made_kept server_restarts old new made p k = no_edit_kept server_restarts old new refl k

record MadeKeptRun (steps : List SavingStep) (old new : SavingState) : Type 0 where
  pub client_steps : List ClientStep
  pub run : MadeRun client_steps (saved_document old) (saved_document new)
  pub edits : edit_steps client_steps ≡ edit_steps_of (message_steps steps)

-- the runs of the steps, one after the other
made_kept_run : (steps : List SavingStep) (old new : SavingState) → HoldsWithFile old
    → (run : IsSavingRun steps old new) → AreSavingStepsMade steps old new run → MadeKeptRun steps old new
made_kept_run [] old new h run made = record {
  client_steps = [];
  run = record { run = ap saved_document run; made = tt };
  edits = refl;
}
made_kept_run (step ∷ steps) old new h run made =
    let k = step_kept step old run.0 h run.1 in
    let a = made_kept step old run.0 made.0 run.1 k in
    let b = made_kept_run steps run.0 new k.holds run.2 made.1 in
    record {
      client_steps = a.client_steps ++ b.client_steps;
      run =
          made_append a.client_steps b.client_steps (saved_document old) (saved_document run.0) (saved_document new) a.run
          b.run;
      edits =
          edit_steps_append a.client_steps b.client_steps
          ∙ ap (λ l. l ++ edit_steps b.client_steps) a.edits
          ∙ ap (λ l. edit_steps_of (message_steps (step ∷ [])) ++ l) b.edits
          ∙ edit_steps_of_next step steps;
    }

-- the same edits have the same sums
pub small_saving_runs_are_small_runs : SmallSavingRunsAreSmallRuns
small_saving_runs_are_small_runs steps start s r =
    let starts = r.reached.starts in
    let m = made_kept_run steps start s (start_holds start starts) r.reached.run r.made in
    record {
      client_steps = m.client_steps;
      reached = record {
        reached = record { starts = start_shared start starts; run = m.run.run };
        well_formed = r.well_formed;
        made = m.run.made;
        small =
            small_of_same (edit_steps_of (message_steps steps)) m.client_steps (saved_document start)
            (ap made_components (sym m.edits) ∙ components_of_edits m.client_steps)
            (ap count_made (sym m.edits) ∙ count_of_edits m.client_steps) r.small;
      };
      edits = m.edits;
    }

-- ---- the view of a state

-- a start without held messages, as a state of the machine without a file
abbrev view_start_of : SavingState → MessageState
view_start_of s = with_shared s.current (saved_document s)

-- the unsaved entries are decided after the saved ones
small_view : (steps : List SavingStep) (start s : SavingState) → IsReachedBySmallSavingRun steps start s
    → IsSmallState (view_start_of start) (sent_view s)
small_view steps start s r =
    let m = small_saving_runs_are_small_runs steps start s r in
    let h = (reached_run steps start s r.reached).holds in
    let d =
    decides_all s.current.shared s.file h.unsaved
    (made_after [] s.file h.unsaved (subst IsMade h.log_is h.view.consistent.log_is_made)) h.submitted in
    let log_is = ap (document_with s.current.shared) (sym h.log_is) in
    record {
      client_steps = m.client_steps ++ d.steps;
      reached =
          small_continued m.client_steps d.steps (saved_document start) (saved_document s) s.current.shared m.reached
          (subst (IsClientRun d.steps (saved_document s)) log_is d.run) d.none_edited;
      holds = h.view;
    }

pub no_submission_is_refused_with_file : NoSubmissionIsRefusedWithFile
no_submission_is_refused_with_file steps start s source k t now code r is_open has is =
    let h = (reached_run steps start s r.reached).holds in
    let ms = s.current.shared.submitted in
    let version = (source_client s.current source).version in
    let sent = (follows (saved_view s) h.saved h.saved_of_log source k is_open).to_server in
    next_not_refused (view_start_of start) (sent_view s) (small_view steps start s r)
    (record { source = source; sent = t }) k.via k.by now code
    (All-contains (IsFromClient source ms version) k.to_server (submit t) sent has) is

-- the client processes its entry as in the view
advances_as_in_view : (source : List ℕ) (s : SavingState) (later : MessageState)
    → IsMessageStep (client_advances source) (sent_view s) later
    → (new : SavingState) × IsSavingStep (message_step (client_advances source)) s new
advances_as_in_view source s later (inl p) = (
  _,
  record {
    state = _;
    changes = inl (record { ack_is = p.ack_is; client = p.client; client_is = p.client_is; new_is = refl });
    new_is = refl;
  },
)
advances_as_in_view source s later (inr p) = (
  _,
  record {
    state = _;
    changes = inr
        (record {
          entry = p.entry;
          entry_is = p.entry_is;
          client = p.client;
          client_is = p.client_is;
          new_is = refl;
        });
    new_is = refl;
  },
)

pub next_entries_are_processed_with_file : NextEntriesAreProcessedWithFile
next_entries_are_processed_with_file steps start s source r next =
    let step = next_step (view_start_of start) (sent_view s) (small_view steps start s r) source next in
    advances_as_in_view source s step.0 step.1

-- ---- convergence

module _ (steps : List SavingStep) (start s : SavingState) (sources : List (List ℕ))
    (r : IsReachedBySmallSavingRun steps start s) where
  abbrev saved : SavingState
  saved = after_saving_all s

  -- all entries are saved, and then the view converges
  pub can_converge_with_file : CanConvergeWithFile sources s
  can_converge_with_file =
      let h = (reached_run steps start s r.reached).holds in
      let c = can_converge (view_start_of start) (sent_view s) sources (small_view steps start s r) in
      let v = view_run c.steps saved c.later (holds_saved_all s h) (saved_all s h) c.run in
      let shared_is : v.new.current.shared ≡ c.later.shared = ap (λ (x : MessageState). x.shared) v.view in
      record {
        steps = server_saves (length s.current.shared.log) ∷ v.saving_steps;
        later = v.new;
        run = (saved, refl, v.run);
        none_edited = v.edits ∙ c.none_edited;
        all_saved = v.all_saved;
        none_pending =
            subst (λ (x : SharedDocument). All (λ source. (x.clients source).pending ≡ []) sources) (sym shared_is)
            c.none_pending;
        shown =
            subst (λ log. All (λ source. shown_document (source_client v.new.current source) ≡ document_of log) sources)
            (sym v.all_saved)
            (subst (λ (x : SharedDocument).
            All (λ source. shown_document (x.clients source) ≡ document_of x.log) sources) (sym shared_is) c.shown);
      }

pub clients_can_converge_with_file : ClientsCanConvergeWithFile
clients_can_converge_with_file steps start s sources r = can_converge_with_file steps start s sources r
