-- After a small run with messages the server refuses no submission, and a client can process the entry at its version.
use Rattle.std.proofs.Common.{ℕ, List, true, false, None, inl, inr, refl}
use Rattle.std.proofs.lemmas.List.Elements.{All-contains}
use Rattle.sdb_client_model.specs.Machine.{with_changed_client}
use Rattle.sdb_client_model.specs.Messages.{submit, with_early, with_ack}
use Rattle.sdb_client_model.specs.MessageMachine.{MessageState, source_client, with_received, with_shared, client_advances, IsMessageStep}
use Rattle.sdb_client_model.specs.SmallMessageRuns.{NoSubmissionIsRefused, HasNextEntry, next_is_early, next_is_acknowledged, NextEntriesAreProcessed}
use Rattle.sdb_client_model.proofs.MessageInvariant.{IsFromClient}
use Rattle.sdb_client_model.proofs.MessageClientSteps.{follows}
use Rattle.sdb_client_model.proofs.MessageContinuations.{IsSmallState, small_state, known, next_not_refused, own_entry, processed_client}

pub no_submission_is_refused : NoSubmissionIsRefused
no_submission_is_refused steps start s source k t now code r is_open has is =
    let h = small_state steps start s r in
    let sent = (follows s (known start s h).consistent (known start s h).of_log source k is_open).to_server in
    next_not_refused start s h (record { source = source; sent = t }) k.via k.by now code
    (All-contains (IsFromClient source s.shared.submitted (source_client s source).version) k.to_server (submit t) sent
    has) is

pub next_step : (start s : MessageState) → IsSmallState start s → (source : List ℕ)
    → HasNextEntry (source_client s source) (s.received source)
    → (later : MessageState) × IsMessageStep (client_advances source) s later
next_step start s h source (next_is_early e is) =
    let at = ((known start s h).of_log.clients source).received.early (source_client s source).version e is in
    let x = processed_client start s h source e false at.0 at.1 in (
      with_received (with_shared s (with_changed_client s.shared source x.0)) source
          (with_early (source_client s source).version None (s.received source)),
      inr (record { entry = e; entry_is = is; client = x.0; client_is = x.1; new_is = refl }),
    )
next_step start s h source (next_is_acknowledged ack) =
    let e = own_entry start s h source ack in
    let x = processed_client start s h source e.0 true e.1 e.2 in (
      with_received (with_shared s (with_changed_client s.shared source x.0)) source
          (with_ack None (s.received source)),
      inl (record { ack_is = ack; client = x.0; client_is = x.1; new_is = refl }),
    )

pub next_entries_are_processed : NextEntriesAreProcessed
next_entries_are_processed steps start s source r next =
    next_step start s (small_state steps start s r) source next
