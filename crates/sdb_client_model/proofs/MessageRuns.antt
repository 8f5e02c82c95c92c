-- Each run of the machine with messages is a run of the one without.
use Rattle.std.proofs.Common.{◌≡◌, ℕ, suc, List, [], ◌∷◌, ◌++◌, slice_get, Bool, true, false, cond, Some, All, Contains, ◌⊎◌, inl, inr, refl, sym, ap, ◌∙◌, subst, bytes_eq}
use Rattle.std.proofs.lemmas.List.Elements.{All-nil, All-head, All-contains}
use Rattle.sdb_oplog.specs.Plain.{PlainEntry}
use Rattle.sdb_client_model.specs.Client.{Client, is_sent_edit, after_acknowledgement, after_content}
use Rattle.sdb_client_model.specs.Machine.{SharedDocument, ClientStep, make_edit, send_edit, decide_edit, process_entry, with_changed_client, IsClientStep, IsClientRun, ProcessesEntry}
use Rattle.sdb_client_model.specs.Invariant.{IsConsistent}
use Rattle.sdb_client_model.specs.StoredOnce.{count_edits}
use Rattle.sdb_client_model.specs.Messages.{ClientMessage, subscribe, submit, ClientConnection}
use Rattle.sdb_client_model.specs.MessageMachine.{UnreadSubmission, MessageState, source_client, MessageStep, client_edits, client_sends, client_resends, client_receives, client_advances, server_handles, server_refuses, server_handles_unread, server_pumps, client_connects, client_subscribes, connection_ends, ProcessesOwn, ProcessesEarly, after_handling, IsMessageStep, IsMessageRun}
use Rattle.sdb_client_model.specs.MessageLaws.{IsMessageStart, IsReachedByMessages, edit_steps, edit_steps_of, MessageRunsAreClientRuns, MessageEditsAreStored, MessageClientsConverge, ReceivedAreOfLog, MessagesAreOfLog}
use Rattle.sdb_client_model.proofs.ClientRuns.{consistent_start, consistent_run, clients_converge}
use Rattle.sdb_client_model.proofs.StoredOnceLemmas.{all_edits_are_stored}
use Rattle.sdb_client_model.proofs.MessageLogs.{drop_of_slice_get, stored_entry}
use Rattle.sdb_client_model.proofs.MessageInvariant.{IsFromClient, FollowsOpen, AreMessagesOfLog}
use Rattle.sdb_client_model.proofs.MessageClientSteps.{none_is_some, follows, messages_edit, messages_send, messages_resend, messages_receive, messages_end, messages_own, messages_early, messages_connect, messages_subscribes}
use Rattle.sdb_client_model.proofs.MessageServerSteps.{messages_unread, messages_handle, messages_refuse, messages_pump}

-- ---- one step

-- the steps of the machine without messages
pub record IsRefined (step : MessageStep) (old new : MessageState) : Type 0 where
  pub client_steps : List ClientStep
  pub run : IsClientRun client_steps old.shared new.shared
  pub edits : edit_steps client_steps ≡ edit_steps_of (step ∷ [])

abbrev HasNoEdit : MessageStep → Type 0
HasNoEdit step = edit_steps_of (step ∷ []) ≡ []

same_shared : (step : MessageStep) (old new : MessageState) → HasNoEdit step → new.shared ≡ old.shared
    → IsRefined step old new
same_shared step old new none is = record { client_steps = []; run = is; edits = sym none }

one_step : (step : MessageStep) (client_step : ClientStep) (old new : MessageState)
    → edit_steps (client_step ∷ []) ≡ edit_steps_of (step ∷ []) → IsClientStep client_step old.shared new.shared
    → IsRefined step old new
one_step step client_step old new edits is = record {
  client_steps = client_step ∷ [];
  run =
      (new.shared, is, refl);
  edits = edits;
}

module _ (old new : MessageState) (consistent : IsConsistent old.shared) (h : AreMessagesOfLog old) (source : List ℕ)
  where
    abbrev log : List PlainEntry
    log = old.shared.log

    abbrev c : Client
    c = source_client old source

    own_entry : (v : ℕ) → (old.received source).ack ≡ Some v → (e : PlainEntry) × (slice_get log v ≡ Some e)
        × (is_sent_edit source c.sent e ≡ true)
    own_entry v is =
        let a = (h.clients source).received.ack v is in
        let e = stored_entry log source a.0.seq v a.2 in
        (e.entry, e.is, ap (λ o. is_sent_edit source o e.entry) a.1 ∙ e.identifier)

    entry_processed : (e : PlainEntry) (client : Client) (own : Bool) → slice_get log c.version ≡ Some e
        → is_sent_edit source c.sent e ≡ own
        → cond own (after_acknowledgement c c.pending) (after_content c e.content) ≡ Some client
        → new.shared ≡ with_changed_client old.shared source client → ProcessesEntry source old.shared new.shared
    entry_processed e client own at is done new_is = record {
      entry = e;
      later = _;
      entry_is = drop_of_slice_get log c.version e at;
      client = client;
      client_is = ap (λ b. cond b (after_acknowledgement c c.pending) (after_content c e.content)) is ∙ done;
      new_is = new_is;
    }

    own_processed : ProcessesOwn source old new → ProcessesEntry source old.shared new.shared
    own_processed p =
        let e = own_entry c.version p.ack_is in
        entry_processed e.0 p.client true e.1 e.2 p.client_is (ap (λ (s : MessageState). s.shared) p.new_is)

    early_processed : ProcessesEarly source old new → ProcessesEntry source old.shared new.shared
    early_processed p =
        let e = (h.clients source).received.early c.version p.entry p.entry_is in
        entry_processed p.entry p.client false e.0 e.1 p.client_is (ap (λ (s : MessageState). s.shared) p.new_is)

    handled : (k : ClientConnection) → old.connections source ≡ Some k
        → (m : ClientMessage) (rest : List ClientMessage) (now : ℕ) → k.to_server ≡ m ∷ rest
        → new ≡ after_handling old source k m rest now
        → IsRefined (server_handles source now) old new
    handled k is_open (subscribe v) rest now first is = same_shared (server_handles source now) old new refl
        (ap (λ (s : MessageState). s.shared) is)
    handled k is_open (submit t) rest now first is =
        let sent = All-head (IsFromClient source old.shared.submitted c.version) (submit t) rest
        (subst (All (IsFromClient source old.shared.submitted c.version)) first
        (follows old consistent h source k is_open).to_server) in
        one_step (server_handles source now) (decide_edit (record { source = source; sent = t }) k.via k.by now) old new
        refl
        (sent, ap (λ (s : MessageState). s.shared) is)

    advanced : ProcessesOwn source old new ⊎ ProcessesEarly source old new → IsRefined (client_advances source) old new
    advanced (inl p) = one_step (client_advances source) (process_entry source) old new refl (own_processed p)
    advanced (inr p) = one_step (client_advances source) (process_entry source) old new refl (early_processed p)

pub step_is_refined : (step : MessageStep) (old new : MessageState) → IsConsistent old.shared → AreMessagesOfLog old
    → IsMessageStep step old new → IsRefined step old new
step_is_refined (client_edits source op) old new c h step =
    one_step (client_edits source op) (make_edit source op) old new refl (ap (λ (s : MessageState). s.shared) step)
step_is_refined (client_sends source) old new c h step =
    one_step (client_sends source) (send_edit source) old new refl
    (record {
      operation = step.operation;
      rest = step.queue;
      none_sent = step.none_sent;
      first = step.first;
      new_is = ap (λ (s : MessageState). s.shared) step.new_is;
    })
step_is_refined (client_resends source) old new c h step = same_shared (client_resends source) old new refl
    (ap (λ (s : MessageState). s.shared) step.new_is)
step_is_refined (client_receives source) old new c h step = same_shared (client_receives source) old new refl
    (ap (λ (s : MessageState). s.shared) step.new_is)
step_is_refined (client_advances source) old new c h step = advanced old new c h source step
step_is_refined (server_handles source now) old new c h step =
    handled old new c h source step.connection step.is_open step.message step.rest now step.first step.new_is
step_is_refined (server_refuses source) old new c h step = same_shared (server_refuses source) old new refl
    (ap (λ (s : MessageState). s.shared) step.new_is)
step_is_refined (server_handles_unread m now) old new c h step =
    one_step (server_handles_unread m now) (decide_edit m.edit m.via m.by now) old new refl (
      All-contains (λ (u : UnreadSubmission). Contains old.shared.submitted u.edit) old.unread m h.unread step.0,
      ap
          (λ (s : MessageState). s.shared) step.1,
    )
step_is_refined (server_pumps source) old new c h step = same_shared (server_pumps source) old new refl
    (ap (λ (s : MessageState). s.shared) step.new_is)
step_is_refined (client_connects source via) old new c h step = same_shared (client_connects source via) old new refl
    (ap (λ (s : MessageState). s.shared) step.1)
step_is_refined (client_subscribes source) old new c h step = same_shared (client_subscribes source) old new refl
    (ap (λ (s : MessageState). s.shared) step.new_is)
step_is_refined (connection_ends source) old new c h step = same_shared (connection_ends source) old new refl
    (ap (λ (s : MessageState). s.shared) step.new_is)

advanced_of_log : (source : List ℕ) (old new : MessageState) → IsConsistent old.shared → AreMessagesOfLog old
    → ProcessesOwn source old new ⊎ ProcessesEarly source old new → AreMessagesOfLog new
advanced_of_log source old new c h (inl p) = subst AreMessagesOfLog (sym p.new_is)
    (messages_own old c h source p.client p.client_is)
advanced_of_log source old new c h (inr p) = subst AreMessagesOfLog (sym p.new_is)
    (messages_early old c h source p.client p.entry.content p.client_is)

pub step_of_log : (step : MessageStep) (old new : MessageState) → IsConsistent old.shared → AreMessagesOfLog old
    → IsMessageStep step old new → AreMessagesOfLog new
step_of_log (client_edits source op) old new c h step = subst AreMessagesOfLog (sym step)
    (messages_edit old c h source op)
step_of_log (client_sends source) old new c h step =
    subst AreMessagesOfLog (sym step.new_is) (messages_send old c h source step.connection step.connected.is_open
    step.operation step.none_sent)
step_of_log (client_resends source) old new c h step =
    subst AreMessagesOfLog (sym step.new_is) (messages_resend old c h source step.connection step.connected.is_open
    step.edit step.is_sent)
step_of_log (client_receives source) old new c h step =
    subst AreMessagesOfLog (sym step.new_is) (messages_receive old c h source step.connection step.is_open step.message
    step.rest step.first)
step_of_log (client_advances source) old new c h step = advanced_of_log source old new c h step
step_of_log (server_handles source now) old new c h step =
    subst AreMessagesOfLog (sym step.new_is) (messages_handle old c h source step.connection step.is_open step.message
    step.rest now step.first)
step_of_log (server_refuses source) old new c h step =
    subst AreMessagesOfLog (sym step.new_is) (messages_refuse old c h source step.connection step.is_open step.message
    step.rest step.first)
step_of_log (server_handles_unread m now) old new c h step = subst AreMessagesOfLog (sym step.1)
    (messages_unread old c h m now)
step_of_log (server_pumps source) old new c h step =
    subst AreMessagesOfLog (sym step.new_is) (messages_pump old c h source step.connection step.is_open step.position
    step.entry step.entry_is)
step_of_log (client_connects source via) old new c h step = subst AreMessagesOfLog (sym step.1)
    (messages_connect old c h source via)
step_of_log (client_subscribes source) old new c h step =
    subst AreMessagesOfLog (sym step.new_is) (messages_subscribes old c h source step.connection step.is_open)
step_of_log (connection_ends source) old new c h step = subst AreMessagesOfLog (sym step.new_is)
    (messages_end old c h source step.connection step.is_open)

-- ---- the start

pub start_of_log : (s : MessageState) → IsMessageStart s → AreMessagesOfLog s
start_of_log s h = record {
  clients = λ source. record {
    received = record {
      early = λ v e is. none_is_some e (sym (h.none_early source v) ∙ is);
      ack = λ v is. none_is_some v (sym (h.none_acknowledged source) ∙ is);
    };
    connection = subst (FollowsOpen source s.shared.log s.shared.submitted (source_client s source).version)
        (sym (h.none_connected source)) tt;
  };
  unread = subst (All (λ (m : UnreadSubmission). Contains s.shared.submitted m.edit)) (sym h.none_unread)
      (All-nil (λ (m : UnreadSubmission). Contains s.shared.submitted m.edit));
}

-- ---- runs

pub run_append : (xs ys : List ClientStep) (old mid new : SharedDocument) → IsClientRun xs old mid → IsClientRun ys mid new
    → IsClientRun (xs ++ ys) old new
run_append [] ys old mid new a b = subst (λ m. IsClientRun ys m new) a b
run_append (x ∷ xs) ys old mid new a b = (a.0, a.1, run_append xs ys a.0 mid new a.2 b)

pub edit_steps_append : (xs ys : List ClientStep) → edit_steps (xs ++ ys) ≡ edit_steps xs ++ edit_steps ys
edit_steps_append [] ys = refl
edit_steps_append (make_edit source op ∷ xs) ys = ap (λ l. make_edit source op ∷ l) (edit_steps_append xs ys)
edit_steps_append (send_edit source ∷ xs) ys = edit_steps_append xs ys
edit_steps_append (decide_edit m via by now ∷ xs) ys = edit_steps_append xs ys
edit_steps_append (process_entry source ∷ xs) ys = edit_steps_append xs ys

pub edit_steps_of_first : (x : MessageStep) (xs : List MessageStep)
    → edit_steps_of (x ∷ []) ++ edit_steps_of xs ≡ edit_steps_of (x ∷ xs)
edit_steps_of_first (client_edits source op) xs = refl
edit_steps_of_first (client_sends source) xs = refl
edit_steps_of_first (client_resends source) xs = refl
edit_steps_of_first (client_receives source) xs = refl
edit_steps_of_first (client_advances source) xs = refl
edit_steps_of_first (server_handles source now) xs = refl
edit_steps_of_first (server_refuses source) xs = refl
edit_steps_of_first (server_handles_unread m now) xs = refl
edit_steps_of_first (server_pumps source) xs = refl
edit_steps_of_first (client_connects source via) xs = refl
edit_steps_of_first (client_subscribes source) xs = refl
edit_steps_of_first (connection_ends source) xs = refl

-- a run, and what holds after it
pub record IsRefinedRun (steps : List MessageStep) (old new : MessageState) : Type 0 where
  pub client_steps : List ClientStep
  pub run : IsClientRun client_steps old.shared new.shared
  pub edits : edit_steps client_steps ≡ edit_steps_of steps
  pub of_log : AreMessagesOfLog new

pub refined_step : (step : MessageStep) (old new : MessageState) → IsConsistent old.shared → AreMessagesOfLog old
    → IsMessageStep step old new → IsConsistent new.shared
refined_step step old new c h is = let r = step_is_refined step old new c h is in consistent_run r.client_steps
    old.shared new.shared c r.run

refined_run : (steps : List MessageStep) (old new : MessageState) → IsConsistent old.shared → AreMessagesOfLog old
    → IsMessageRun steps old new → IsRefinedRun steps old new
refined_run [] old new c h run = record {
  client_steps = [];
  run = ap (λ (s : MessageState). s.shared) run;
  edits = refl;
  of_log = subst AreMessagesOfLog (sym run) h;
}
refined_run (step ∷ steps) old new c h run =
    let a = step_is_refined step old run.0 c h run.1 in
    let b = refined_run steps run.0 new (consistent_run a.client_steps old.shared run.0.shared c a.run)
    (step_of_log step old run.0 c h run.1) run.2 in
    record {
      client_steps = a.client_steps ++ b.client_steps;
      run = run_append a.client_steps b.client_steps old.shared run.0.shared new.shared a.run b.run;
      edits =
          edit_steps_append a.client_steps b.client_steps
          ∙ ap (λ l. l ++ edit_steps b.client_steps) a.edits
          ∙ ap (λ l. edit_steps_of (step ∷ []) ++ l) b.edits
          ∙ edit_steps_of_first step steps;
      of_log = b.of_log;
    }

reached_run : (steps : List MessageStep) (start s : MessageState) → IsReachedByMessages steps start s
    → IsRefinedRun steps start s
reached_run steps start s r = refined_run steps start s (consistent_start start.shared r.starts.shared)
    (start_of_log start r.starts) r.run

pub message_runs_are_client_runs : MessageRunsAreClientRuns
message_runs_are_client_runs steps start s r =
    let m = reached_run steps start s r in
    record {
      client_steps = m.client_steps;
      reached = record { starts = r.starts.shared; run = m.run };
      edits =
          m.edits;
    }

pub count_of_edit_steps : (source : List ℕ) (steps : List ClientStep)
    → count_edits source (edit_steps steps) ≡ count_edits source steps
count_of_edit_steps source [] = refl
count_of_edit_steps source (make_edit other op ∷ steps) =
    ap (λ n. cond (bytes_eq other source) (suc n) n) (count_of_edit_steps source steps)
count_of_edit_steps source (send_edit other ∷ steps) = count_of_edit_steps source steps
count_of_edit_steps source (decide_edit m via by now ∷ steps) = count_of_edit_steps source steps
count_of_edit_steps source (process_entry other ∷ steps) = count_of_edit_steps source steps

pub message_edits_are_stored : MessageEditsAreStored
message_edits_are_stored steps start s source r =
    let m = message_runs_are_client_runs steps start s r in
    let e = all_edits_are_stored m.client_steps start.shared s.shared source m.reached in
    record {
      entries = e.entries;
      log = e.log;
      sent = e.sent;
      seqs = e.seqs;
      edits =
          e.edits
          ∙ sym (count_of_edit_steps source m.client_steps)
          ∙ ap (count_edits source) m.edits;
    }

pub message_clients_converge : MessageClientsConverge
message_clients_converge steps start s source r quiet =
    let m = message_runs_are_client_runs steps start s r in
    clients_converge m.client_steps start.shared s.shared source m.reached quiet

pub received_are_of_log : ReceivedAreOfLog
received_are_of_log steps start s source r = ((reached_run steps start s r).of_log.clients source).received

pub messages_are_of_log : MessagesAreOfLog
messages_are_of_log steps start s source k r is_open =
    (subst (FollowsOpen source s.shared.log s.shared.submitted (source_client s source).version) is_open
    ((reached_run steps start s r).of_log.clients source).connection).to_client
