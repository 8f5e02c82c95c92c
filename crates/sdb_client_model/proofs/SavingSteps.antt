-- Each step of a server with a file keeps what holds of its state, and is a run of the clients' machine.
use Rattle.std.proofs.Common.{◌≡◌, ℕ, ◌<◌, List, [], ◌∷◌, ◌++◌, take, drop, length, Some, All, Contains, refl, sym, ap, ◌∙◌, subst, append_assoc, take-append-drop}
use lib.Seq.{drop-append_seam}
use Rattle.std.proofs.lemmas.List.Elements.{All-nil, All-head, All-append, All-push, All-take, All-drop, All-weaker, All-contains, Contains-append_right}
use Rattle.sdb_oplog.specs.Plain.{PlainEntry}
use Rattle.sdb_oplog.specs.Decide.{IsMade, IsMadeFrom}
use Rattle.sdb_oplog.specs.laws.LogLaws.{append_nil}
use Rattle.sdb_client_model.specs.Machine.{SubmittedEdit, SharedDocument, ClientStep, IsClientRun}
use Rattle.sdb_client_model.specs.Invariant.{IsConsistent}
use Rattle.sdb_client_model.specs.Messages.{ClientMessage, subscribe, submit, ClientConnection}
use Rattle.sdb_client_model.specs.MessageMachine.{UnreadSubmission, MessageStep, client_edits, client_sends, client_resends, client_receives, client_advances, server_handles, server_refuses, server_handles_unread, server_pumps, client_connects, client_subscribes, connection_ends, with_connection, source_client, unread_submissions}
use Rattle.sdb_client_model.specs.MessageLaws.{edit_steps, edit_steps_of, IsOfLog}
use Rattle.sdb_client_model.specs.SavingMachine.{SavingState, SavingStep, message_step, server_saves, server_releases, server_restarts, saved_document, after_held_answers, after_round, SendsHeld, IsUnread, is_of_ended, is_in_channel, after_kill, IsHoldingStep, IsSavingStep}
use Rattle.sdb_client_model.specs.SavingLaws.{message_steps, with_held}
use Rattle.sdb_client_model.proofs.ClientRuns.{consistent_run}
use Rattle.sdb_client_model.proofs.MessageInvariant.{AreMessagesOfLog, messages_append}
use Rattle.sdb_client_model.proofs.MessageClientSteps.{follows, messages_with_connection, messages_end}
use Rattle.sdb_client_model.proofs.MessageRuns.{step_is_refined}
use Rattle.sdb_client_model.proofs.MessageCompleteness.{AreComplete}
use Rattle.sdb_client_model.proofs.MessageCompleteSteps.{complete_end}
use Rattle.sdb_client_model.proofs.MessageCompleteRuns.{HoldsAfterRun, holds_after}
use Rattle.sdb_client_model.proofs.SavedDecisions.{IsOfSubmitted, submitted_more, log_growth, decides_all, made_before, made_after}
use Rattle.sdb_client_model.proofs.SentViews.{open_with_held, sent_view, unread_with_held, view_step, view_releases}
use Rattle.sdb_client_model.proofs.SavingInvariant.{saved_view, IsHeldOf, HoldsWithFile, released_of_file}
use Rattle.sdb_client_model.proofs.SavedViews.{saved_step}
use Rattle.sdb_client_model.proofs.HeldMessages.{held_step, held_release}

-- the clients' machine with the saved entries as its log, and what holds after the step
pub record KeepsAll (step : SavingStep) (old new : SavingState) : Type 0 where
  pub client_steps : List ClientStep
  pub run : IsClientRun client_steps (saved_document old) (saved_document new)
  pub edits : edit_steps client_steps ≡ edit_steps_of (message_steps (step ∷ []))
  pub holds : HoldsWithFile new

-- ---- a step of a client, a session or the network

abbrev file_of : SavingState → List PlainEntry
file_of s = s.file

answers_keep_file : (source : List ℕ) (old new : SavingState) (k : ClientConnection) (m : ClientMessage)
    (rest : List ClientMessage) (now : ℕ) → new ≡ after_held_answers old source k m rest now → new.file ≡ old.file
answers_keep_file source old new k (subscribe v) rest now is = ap file_of is
answers_keep_file source old new k (submit t) rest now is = ap file_of is

-- only a round changes the file
pub file_kept : (step : MessageStep) (old new : SavingState) → IsHoldingStep step old new → new.file ≡ old.file
file_kept (client_edits source op) old new p = ap file_of p.new_is
file_kept (client_sends source) old new p = ap file_of p.new_is
file_kept (client_resends source) old new p = ap file_of p.new_is
file_kept (client_receives source) old new p = ap file_of p.new_is
file_kept (client_advances source) old new p = ap file_of p.new_is
file_kept (server_handles source now) old new p =
    answers_keep_file source old new p.connection p.message p.rest now p.new_is
file_kept (server_refuses source) old new p = ap file_of p.new_is
file_kept (server_handles_unread m now) old new p = ap file_of p.new_is
file_kept (server_pumps source) old new p = ap file_of p.new_is
file_kept (client_connects source via) old new p = ap file_of p.new_is
file_kept (client_subscribes source) old new p = ap file_of p.new_is
file_kept (connection_ends source) old new p = ap file_of p.new_is

-- the step as one of both views
message_kept : (step : MessageStep) (old new : SavingState) → HoldsWithFile old → IsHoldingStep step old new
    → KeepsAll (message_step step) old new
message_kept step old new h p =
    let view = view_step step old new h.none_held p in
    let after = holds_after (step ∷ []) (sent_view old) (sent_view new) h.view (sent_view new, view, refl) in
    let refined = step_is_refined step (sent_view old) (sent_view new) h.view.consistent h.view.of_log view in
    let growth = log_growth refined.client_steps old.current.shared new.current.shared refined.run in
    let saved = saved_step step old new h.saved h.saved_of_log p in
    let held = held_step old new h growth after.of_log step p in
    record {
      client_steps = saved.client_steps;
      run = saved.run;
      edits = saved.edits;
      holds = record {
        unsaved = h.unsaved ++ growth.entries;
        log_is =
            growth.log_is
            ∙ ap (λ l. l ++ growth.entries) h.log_is
            ∙ append_assoc old.file h.unsaved growth.entries
            ∙ ap (λ l. l ++ (h.unsaved ++ growth.entries)) (sym (file_kept step old new p));
        submitted =
            All-append (IsOfSubmitted new.current.shared.submitted) h.unsaved growth.entries
            (submitted_more old.current.shared.submitted new.current.shared.submitted growth.more h.unsaved h.submitted)
            growth.submitted;
        saved = consistent_run saved.client_steps (saved_document old) (saved_document new) h.saved saved.run;
        saved_of_log = saved.of_log;
        view = after;
        held = held.held;
        none_held = held.none_held;
      };
    }

-- ---- a round

module _ (old : SavingState) (h : HoldsWithFile old) (n : ℕ) where
  abbrev es : List PlainEntry
  es = take n h.unsaved

  abbrev later : List PlainEntry
  later = drop n h.unsaved

  abbrev ms : List SubmittedEdit
  ms = old.current.shared.submitted

  abbrev saved : SavingState
  saved = record { current = old.current; file = old.file ++ es; held = old.held }

  made_now : IsMadeFrom old.file es
  made_now =
      made_before old.file es later
      (subst (IsMadeFrom old.file) (sym (take-append-drop n h.unsaved))
      (made_after [] old.file h.unsaved (subst IsMade h.log_is h.view.consistent.log_is_made)))

  -- the entries are decided again, on the saved ones before them
  round_kept : KeepsAll (server_saves n) old saved
  round_kept =
      let decided = decides_all old.current.shared old.file es made_now (All-take (IsOfSubmitted ms) n h.unsaved
      h.submitted) in
      record {
        client_steps = decided.steps;
        run = decided.run;
        edits = decided.none_edited;
        holds = record {
          unsaved = later;
          log_is =
              h.log_is
              ∙ ap (λ l. old.file ++ l) (sym (take-append-drop n h.unsaved))
              ∙ sym (append_assoc old.file es later);
          submitted = All-drop (IsOfSubmitted ms) n h.unsaved h.submitted;
          saved = consistent_run decided.steps (saved_document old) (saved_document saved) h.saved decided.run;
          saved_of_log = record {
            clients = λ other.
                messages_append other old.file es ms (source_client old.current other) (old.current.received other)
                (old.current.connections other) (h.saved_of_log.clients other);
            unread = h.saved_of_log.unread;
          };
          view = h.view;
          held = h.held;
          none_held = h.none_held;
        };
      }

  saved_is : after_round old n ≡ saved
  saved_is =
      ap (λ l. record { current = old.current; file = old.file ++ take n l; held = old.held })
      (ap (drop (length old.file)) h.log_is ∙ drop-append_seam old.file h.unsaved)

-- ---- a release

module _ (source : List ℕ) (old new : SavingState) (h : HoldsWithFile old) (p : SendsHeld source old new) where
  abbrev k : ClientConnection
  k = p.connection

  abbrev sending : ClientConnection
  sending = record k { to_client = k.to_client ++ p.first.message ∷ [] }

  first_of_file : IsOfLog source old.file p.first.message
  first_of_file =
      released_of_file source old.file h.unsaved p.first
      (subst (λ l. IsHeldOf source l p.first) h.log_is
      (All-head (IsHeldOf source old.current.shared.log) p.first p.rest
      (subst (All (IsHeldOf source old.current.shared.log)) p.held_is (h.held source)))) p.is_saved

  sent_of_file : AreMessagesOfLog (with_connection (saved_view old) source (Some sending))
  sent_of_file =
      let f = follows (saved_view old) h.saved h.saved_of_log source k p.is_open in
      messages_with_connection (saved_view old) h.saved h.saved_of_log source k p.is_open (Some sending)
      (record {
        to_client = All-push (IsOfLog source old.file) k.to_client p.first.message f.to_client first_of_file;
        to_server = f.to_server;
      })

  -- the released message is of the saved log
  release_kept : KeepsAll (server_releases source) old new
  release_kept =
      let shared_is : new.current.shared ≡ old.current.shared =
      ap (λ (s : SavingState). s.current.shared) p.new_is in
      let file_is = ap (λ (s : SavingState). s.file) p.new_is in
      let document_is : saved_document new ≡ saved_document old = ap saved_document p.new_is in
      let held = held_release source old new h p in
      record {
        client_steps = [];
        run = document_is;
        edits = refl;
        holds = record {
          unsaved = h.unsaved;
          log_is =
              ap (λ (s : SharedDocument). s.log) shared_is ∙ h.log_is ∙ ap (λ l. l ++ h.unsaved) (sym file_is);
          submitted = subst (λ (s : SharedDocument). All (IsOfSubmitted s.submitted) h.unsaved) (sym shared_is)
              h.submitted;
          saved = subst IsConsistent (sym document_is) h.saved;
          saved_of_log = subst AreMessagesOfLog (sym (ap saved_view p.new_is)) sent_of_file;
          view = subst HoldsAfterRun (sym (view_releases source old new p)) h.view;
          held = held.held;
          none_held = held.none_held;
        };
      }

-- ---- a restart

module _ (old : SavingState) (h : HoldsWithFile old) where
  unread_submitted : (m : UnreadSubmission) → IsUnread old.current m → Contains old.current.shared.submitted m.edit
  unread_submitted m (is_of_ended has) =
      All-contains (λ (u : UnreadSubmission). Contains old.current.shared.submitted u.edit) old.current.unread m
      h.saved_of_log.unread has
  unread_submitted m (is_in_channel k is_open has) =
      let ended = messages_end (saved_view old) h.saved h.saved_of_log m.edit.source k is_open in
      let us = unread_submissions m.edit.source k k.to_server in
      All-contains (λ (u : UnreadSubmission). Contains old.current.shared.submitted u.edit) (old.current.unread ++ us) m
      ended.unread (Contains-append_right old.current.unread us m has)

  -- the pass number of an unread submission was given before
  unread_pass : (m : UnreadSubmission) → IsUnread old.current m → m.by < old.current.next_pass
  unread_pass m (is_of_ended has) =
      All-contains (λ (u : UnreadSubmission). u.by < old.current.next_pass) old.current.unread m h.view.complete.passes
      has
  unread_pass m (is_in_channel k is_open has) =
      let source = m.edit.source in
      let hs = old.held source in
      let us = unread_submissions source k k.to_server in
      let ended =
      complete_end (sent_view old) h.view.consistent h.view.of_log h.view.complete source (with_held k hs)
      (ap (λ o. open_with_held o hs) is_open) in
      let same : old.current.unread ++ unread_submissions source (with_held k hs) k.to_server ≡ old.current.unread ++ us
      = ap (λ l. old.current.unread ++ l) (sym (unread_with_held source k hs k.to_server)) in
      All-contains (λ (u : UnreadSubmission). u.by < old.current.next_pass) (old.current.unread ++ us) m
      (subst (All (λ (u : UnreadSubmission). u.by < old.current.next_pass)) same ended.passes)
      (Contains-append_right old.current.unread us m has)

  module _ (unread : List UnreadSubmission) (are_unread : All (IsUnread old.current) unread) where
    killed_of_log : AreMessagesOfLog (saved_view (after_kill old unread))
    killed_of_log = record {
      clients = λ other. record { received = (h.saved_of_log.clients other).received; connection = tt };
      unread =
          All-weaker (IsUnread old.current)
          (λ (u : UnreadSubmission). Contains old.current.shared.submitted u.edit) unread_submitted unread are_unread;
    }

    killed_complete : AreComplete (sent_view (after_kill old unread))
    killed_complete = record {
      clients = λ other. tt;
      passes =
          All-weaker (IsUnread old.current) (λ (u : UnreadSubmission). u.by < old.current.next_pass) unread_pass unread
          are_unread;
    }

    -- both views are the saved one, without connections
    restart_kept : KeepsAll server_restarts old (after_kill old unread)
    restart_kept = record {
      client_steps = [];
      run = refl;
      edits = refl;
      holds = record {
        unsaved = [];
        log_is = sym (append_nil old.file);
        submitted = All-nil (IsOfSubmitted old.current.shared.submitted);
        saved = h.saved;
        saved_of_log = killed_of_log;
        view = record { consistent = h.saved; of_log = killed_of_log; complete = killed_complete };
        held = λ source. All-nil (IsHeldOf source old.file);
        none_held = λ source none. refl;
      };
    }

-- ---- each step

pub step_kept : (step : SavingStep) (old new : SavingState) → HoldsWithFile old → IsSavingStep step old new
    → KeepsAll step old new
step_kept (message_step step) old new h p = message_kept step old new h p
step_kept (server_saves n) old new h p =
    subst (KeepsAll (server_saves n) old) (sym (p ∙ saved_is old h n)) (round_kept old h n)
step_kept (server_releases source) old new h p = release_kept source old new h p
step_kept server_restarts old new h p =
    subst (KeepsAll server_restarts old) (sym p.new_is) (restart_kept old h p.unread p.are_unread)
