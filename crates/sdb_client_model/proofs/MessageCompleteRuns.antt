-- No run leaves an entry missing, so a client that has received all shows the server's document.
use Rattle.std.proofs.Common.{◌≡◌, ℕ, ◌-◌, ◌<◌, ◌≤◌, List, [], ◌∷◌, length, Some, All, Contains, ◌⊎◌, inl, inr, sym, ◌∙◌, subst, arith, nat_lt, ltb-true, ltb-false}
use Rattle.std.proofs.lemmas.List.Elements.{All-nil}
use Rattle.std.proofs.lemmas.Bool.{cases_Bool}
use Rattle.sdb_oplog.specs.Plain.{PlainEntry}
use Rattle.sdb_client_model.specs.Client.{Client}
use Rattle.sdb_client_model.specs.Invariant.{IsConsistent}
use Rattle.sdb_client_model.specs.Messages.{subscribe, submit, op_message, acknowledged, ClientConnection, ReceivedEntries}
use Rattle.sdb_client_model.specs.MessageMachine.{UnreadSubmission, MessageState, source_client, MessageStep, client_edits, client_sends, client_resends, client_receives, client_advances, server_handles, server_refuses, server_handles_unread, server_pumps, client_connects, client_subscribes, connection_ends, ProcessesOwn, ProcessesEarly, IsMessageStep, IsMessageRun}
use Rattle.sdb_client_model.specs.MessageLaws.{IsMessageStart, IsReachedByMessages, IsReceivedOrSent, is_early, is_acknowledged, is_entry_sent, is_acknowledgement_sent, NoneIsMissing, HasReceivedAll, ConnectedClientsProcessAll, ConnectedClientsConverge}
use Rattle.sdb_client_model.proofs.ClientRuns.{consistent_start}
use Rattle.sdb_client_model.proofs.MessageInvariant.{AreMessagesOfLog}
use Rattle.sdb_client_model.proofs.MessageRuns.{refined_step, step_of_log, start_of_log, message_clients_converge}
use Rattle.sdb_client_model.proofs.MessageClientSteps.{none_is_some}
use Rattle.sdb_client_model.proofs.MessageCompleteness.{IsComplete, IsCompleteAt, OpenIsComplete, AreComplete}
use Rattle.sdb_client_model.proofs.MessageCompleteSteps.{complete_edit, complete_send, complete_message, complete_receive, complete_own, complete_early, complete_connect, complete_handle, complete_refuse, complete_unread, complete_pump, complete_end}

-- ---- each step and each run

advanced_complete : (source : List ℕ) (old new : MessageState) → IsConsistent old.shared → AreMessagesOfLog old
    → AreComplete old → ProcessesOwn source old new ⊎ ProcessesEarly source old new → AreComplete new
advanced_complete source old new c m h (inl p) = subst AreComplete (sym p.new_is)
    (complete_own old c m h source p.client p.ack_is p.client_is)
advanced_complete source old new c m h (inr p) = subst AreComplete (sym p.new_is)
    (complete_early old c m h source p.client p.entry.content p.client_is)

step_complete : (step : MessageStep) (old new : MessageState) → IsConsistent old.shared → AreMessagesOfLog old
    → AreComplete old → IsMessageStep step old new → AreComplete new
step_complete (client_edits source op) old new c m h step = subst AreComplete (sym step)
    (complete_edit old c m h source op)
step_complete (client_sends source) old new c m h step =
    subst AreComplete (sym step.new_is) (complete_send old c m h source step.connection step.connected.is_open
    step.operation step.none_sent)
step_complete (client_resends source) old new c m h step =
    subst AreComplete (sym step.new_is)
    (complete_message old c m h source step.connection step.connected.is_open (submit step.edit))
step_complete (client_receives source) old new c m h step =
    subst AreComplete (sym step.new_is) (complete_receive old c m h source step.connection step.is_open step.message
    step.rest step.first)
step_complete (client_advances source) old new c m h step = advanced_complete source old new c m h step
step_complete (server_handles source now) old new c m h step =
    subst AreComplete (sym step.new_is) (complete_handle old c m h source step.connection step.is_open step.message
    step.rest now step.first)
step_complete (server_refuses source) old new c m h step =
    subst AreComplete (sym step.new_is) (complete_refuse old c m h source step.connection step.is_open step.message
    step.rest)
step_complete (server_handles_unread u now) old new c m h step = subst AreComplete (sym step.1)
    (complete_unread old c m h u now step.0)
step_complete (server_pumps source) old new c m h step =
    subst AreComplete (sym step.new_is) (complete_pump old c m h source step.connection step.is_open step.position
    step.subscribed step.entry step.entry_is)
step_complete (client_connects source via) old new c m h step = subst AreComplete (sym step.1)
    (complete_connect old c m h source via)
step_complete (client_subscribes source) old new c m h step =
    subst AreComplete (sym step.new_is)
    (complete_message old c m h source step.connection step.is_open
    (subscribe ((source_client old source).version - 1)))
step_complete (connection_ends source) old new c m h step = subst AreComplete (sym step.new_is)
    (complete_end old c m h source step.connection step.is_open)

pub record HoldsAfterRun (s : MessageState) : Type 0 where
  pub consistent : IsConsistent s.shared
  pub of_log : AreMessagesOfLog s
  pub complete : AreComplete s

pub holds_after : (steps : List MessageStep) (old new : MessageState) → HoldsAfterRun old → IsMessageRun steps old new
    → HoldsAfterRun new
holds_after [] old new h run = subst HoldsAfterRun (sym run) h
holds_after (step ∷ steps) old new h run =
    holds_after steps run.0 new
    (record {
      consistent = refined_step step old run.0 h.consistent h.of_log run.1;
      of_log = step_of_log step old run.0 h.consistent h.of_log run.1;
      complete = step_complete step old run.0 h.consistent h.of_log h.complete run.1;
    }) run.2

pub start_complete : (s : MessageState) → IsMessageStart s → AreComplete s
start_complete s h = record {
  clients = λ source. subst (OpenIsComplete source s.shared.log s.unread s.next_pass (source_client s source)
      (s.received source)) (sym (h.none_connected source)) tt;
  passes = subst (All (λ (m : UnreadSubmission). m.by < s.next_pass)) (sym h.none_unread)
      (All-nil (λ (m : UnreadSubmission). m.by < s.next_pass));
}

pub holds : (steps : List MessageStep) (start s : MessageState) → IsReachedByMessages steps start s → HoldsAfterRun s
holds steps start s r =
    holds_after steps start s
    (record {
      consistent = consistent_start start.shared r.starts.shared;
      of_log = start_of_log start
          r.starts;
      complete = start_complete start r.starts;
    }) r.run

pub complete_in : (s : MessageState) (source : List ℕ) (k : ClientConnection) (position : ℕ) → HoldsAfterRun s
    → s.connections source ≡ Some k → k.queue ≡ Some position
    → IsComplete source s.shared.log (source_client s source) (s.received source) k position
complete_in s source k position h is_open subscribed =
    let here = subst (OpenIsComplete source s.shared.log s.unread s.next_pass (source_client s source)
    (s.received source))
    is_open (h.complete.clients source) in
    subst (IsCompleteAt source s.shared.log (source_client s source) (s.received source) k) subscribed here.entries

pub none_is_missing : NoneIsMissing
none_is_missing steps start s source k position i r is_open subscribed low below =
    (complete_in s source k position (holds steps start s r) is_open subscribed).read i low below

-- ---- a client that has received all

pub none_contained : {A G : Type 0} (x : A) → Contains [] x → G
none_contained x (k, below, is) = absurd (omega arith)

not_missing : (log : List PlainEntry) (c : Client) (r : ReceivedEntries) (k : ClientConnection)
    → HasReceivedAll log c r k → IsReceivedOrSent c r k c.version → ⊥
not_missing log c r k h (is_early e is) = none_is_some e (sym h.none_early ∙ is)
not_missing log c r k h (is_acknowledged is) = h.none_acknowledged is
not_missing log c r k h (is_entry_sent e has at) = none_contained (op_message e)
    (subst (λ l. Contains l (op_message e)) h.none_in_channel has)
not_missing log c r k h (is_acknowledgement_sent t is has) =
    none_contained (acknowledged t.seq c.version) (subst (λ l. Contains l (acknowledged t.seq c.version))
    h.none_in_channel has)

version_is : (v n : ℕ) → v ≤ n → (v < n → ⊥) → v ≡ n
version_is v n h less = elim (cases_Bool (nat_lt v n)) [
  | inl below ↦ absurd (less (ltb-true v n below))
  | inr not_below ↦ (let above = ltb-false v n not_below in omega arith)
]

pub all_processed_in : (s : MessageState) (source : List ℕ) (k : ClientConnection) → HoldsAfterRun s
    → s.connections source ≡ Some k
    → HasReceivedAll s.shared.log (source_client s source) (s.received source) k
    → (source_client s source).version ≡ length s.shared.log
all_processed_in s source k holds is_open h =
    version_is (source_client s source).version (length s.shared.log)
    (holds.consistent.clients source).version_reached
    (λ below.
    not_missing s.shared.log (source_client s source) (s.received source) k h
    ((complete_in s source k (length s.shared.log) holds is_open h.all_read).read (source_client s source).version
    (omega arith) below))

pub connected_clients_process_all : ConnectedClientsProcessAll
connected_clients_process_all steps start s source k r is_open h =
    all_processed_in s source k (holds steps start s r) is_open h

pub connected_clients_converge : ConnectedClientsConverge
connected_clients_converge steps start s source k r is_open h none =
    message_clients_converge steps start s source r
    (record { all_processed = connected_clients_process_all steps start s source k r is_open h; none_pending = none })
