-- Edits that are made for what their clients show stay made, if no position and no sum leaves the range.
use Rattle.std.proofs.Common.{◌≡◌, ℕ, ◌≤◌, List, [], ◌∷◌, ◌++◌, drop, length, Bool, true, false, cond, Option, Some, None, unwrap_or, refl, sym, ap, ◌∙◌, subst, arith, append_assoc, take, option_and_then}
use Rattle.sdb_value.specs.Value.{Value}
use Rattle.std.proofs.lemmas.List.{take-append-le}
use Rattle.std.specs.Prelude.{Contains}
use Rattle.sdb_component.specs.Plain.{PlainComponent}
use Rattle.sdb_oplog.specs.declared.codes.Code.{Code}
use Rattle.sdb_oplog.specs.Plain.{edit, PlainSubmission, PlainEntry}
use Rattle.sdb_oplog.specs.Snap.{snap_from, snap, document_of, stored_at}
use Rattle.sdb_oplog.specs.Decide.{Decision, stored as stored_reply, repeated, refused, decide, new_entry, missed_entries}
use Rattle.sdb_oplog.specs.RebasedContents.{IsContentMadeFor, AreEntriesMadeFor, PositionLeavesRangeAmong, RebasedSumLeavesRange}
use Rattle.sdb_oplog.specs.laws.LogLaws.{some_of_is_some, decides_repeat}
use Rattle.sdb_oplog.specs.laws.DecidedLogLaws.{alive_of_made}
use Rattle.sdb_client_model.specs.Client.{SentEdit, Client, apply_all, is_sent_edit, after_edit, after_send, after_acknowledgement, after_content, after_entry}
use Rattle.sdb_client_model.specs.Machine.{SubmittedEdit, SharedDocument, with_client, with_changed_client, after_sending, submission_of, after_decision}
use Rattle.sdb_client_model.specs.Invariant.{AreEdits, IsSentEditOf, IsSentOrNone, FollowsLog, IsConsistent}
use Rattle.sdb_client_model.specs.RunPremises.{IsMadeForShown, ProcessesInRange, IsRebasedInRange}
use Rattle.sdb_client_model.specs.MadeEdits.{ArePendingMade, IsSentMade, AreOwnEditsMade, AreEditsMade, AppliesReceived, IsProcessed}
use Rattle.sdb_client_model.proofs.PendingLemmas.{same_some, PendingCrossed, pending_crossed, made_for_shown, pending_made_append}
use Rattle.sdb_client_model.proofs.EntryLemmas.{same_operation, apply_edit, IsFormedDocument, RestMade, MadeEntryAt, made_entry}
use Rattle.sdb_client_model.proofs.StoredEdits.{snap_append, snap_at, rest_made, made_append, StoredEdit, stored_edit}
use Rattle.sdb_client_model.proofs.ClientSteps.{client_at, acknowledged, acknowledgement, acknowledged_shown, first_applied, received, received_client}
use Rattle.sdb_client_model.proofs.DecisionLemmas.{sent_by_client, sent_edit}

-- ---- one client is changed

-- the start has a document, which is formed
pub record StartsFormed (start : SharedDocument) : Type 0 where
  pub snapped : snap start.log ≡ Some (document_of start.log)
  pub formed : IsFormedDocument (document_of start.log)

-- the entries since a version that isn't before the start are made
pub made_since : (start s : SharedDocument) (v : ℕ) (d : Option Value) → StartsFormed start → AreEditsMade start s → length start.log ≤ v → snap (take v s.log) ≡ Some d → RestMade (drop v s.log) d
made_since start s v d from a reached at =
    subst (λ l. RestMade (drop v l) d) (sym a.log)
    (rest_made start.log a.entries v (document_of start.log) d from.formed a.made from.snapped reached (ap (λ l. snap (take v l)) (sym a.log) ∙ at))

module _ (start s : SharedDocument) (from : StartsFormed start) (h : IsConsistent s) (a : AreEditsMade start s) (source : List ℕ) where
  abbrev old : Client
  old = s.clients source

  abbrev AreMade : Client → Type 0
  AreMade c = AreOwnEditsMade (length start.log) s.log c

  made_changed : (new : SharedDocument) (c : Client) → new.log ≡ s.log → new.clients ≡ with_client s.clients source c → AreMade c → AreEditsMade start new
  made_changed new c same changed own = record {
    entries = a.entries;
    log = same ∙ a.log;
    made = a.made;
    clients = λ other.
        subst (λ l. AreOwnEditsMade (length start.log) l (new.clients other)) (sym same)
        (subst (λ (clients : List ℕ → Client). AreMade (clients other)) (sym changed) (client_at AreMade s.clients source other c (a.clients other) (λ e. own)));
  }

  pub made_edit : (op : List PlainComponent) → IsMadeForShown op (apply_all old.pending old.document) → AreEditsMade start (with_changed_client s source (after_edit op old))
  made_edit op made =
      let own = a.clients source in
      let d = made_for_shown op (apply_all old.pending old.document) made in
      let c = after_edit op old in
      made_changed (with_changed_client s source c) c refl refl
      (record { start_reached = own.start_reached; pending = pending_made_append old.pending op old.document d.0 own.pending d.1 d.2; sent = own.sent })

  pub made_send : (op : List PlainComponent) (rest : List (List PlainComponent)) → old.pending ≡ op ∷ rest → AreEditsMade start (after_sending s source op)
  made_send op rest first =
      let own = a.clients source in
      let made = subst (λ ops. ArePendingMade ops old.document) first own.pending in
      let document = ap (λ o. unwrap_or o None) (h.clients source).document in
      made_changed (after_sending s source op) (after_send op old) refl refl
      (record { start_reached = own.start_reached; pending = own.pending; sent = (own.start_reached, subst (IsContentMadeFor (edit op)) (sym document) made.0) })

  -- ---- an entry

  module _ (e : PlainEntry) (later : List PlainEntry) (is : drop old.version s.log ≡ e ∷ later) (m : MadeEntryAt s.log old.version e old.document) (range : ProcessesInRange source old (e ∷ later)) where
    crosses : is_sent_edit source old.sent e ≡ false → PendingCrossed old.pending m.at.operation old.document m.at.after
    crosses other = pending_crossed old.pending m.at.operation old.document m.at.after m.formed (a.clients source).pending m.made m.at.applied (range m.at.operation other m.at.is)

    not_other : {G : Type 0} (b : Bool) → b ≡ true → b ≡ false → G
    not_other b t f = let bad : true ≡ false = sym t ∙ f in cc

    after_of : (b : Bool) → is_sent_edit source old.sent e ≡ b → after_entry source e old ≡ cond b (after_acknowledgement old old.pending) (after_content old e.content)
    after_of b own = ap (λ b. cond b (after_acknowledgement old old.pending) (after_content old e.content)) own

    module _ (t : SentEdit) (is_sent : old.sent ≡ Some t) (own : is_sent_edit source old.sent e ≡ true) (r : IsSentEditOf s.log source old t) where
      identified : is_sent_edit source (Some t) e ≡ true
      identified = ap (λ o. is_sent_edit source o e) (sym is_sent) ∙ own

      abbrev own_processed : IsProcessed source e old
      own_processed = record {
        client = acknowledged s h source e later is m.at r.queue;
        client_is = after_of true own ∙ acknowledgement s h source e later is m.at t is_sent identified r;
        acknowledged = λ own. acknowledged_shown s h source e later is m.at t is_sent identified r;
        received = λ op other is. not_other (is_sent_edit source old.sent e) own other;
      }

      own_made : AreMade own_processed.client
      own_made =
          let made = subst (λ ops. ArePendingMade ops old.document) r.first (a.clients source).pending in
          let first = first_applied s h source e later is m.at t is_sent identified r in
          let reached = (a.clients source).start_reached in
          record { start_reached = omega arith; pending = subst (ArePendingMade r.queue) (same_some made.1 m.at.after (sym made.2 ∙ first)) made.3; sent = tt }

    module _ (other : is_sent_edit source old.sent e ≡ false) where
      abbrev p : PendingCrossed old.pending m.at.operation old.document m.at.after
      p = crosses other

      applies_received : (op : List PlainComponent) → e.content ≡ edit op → AppliesReceived op old (received s h source e later is m.at p.crossing p.crossed)
      applies_received op content =
          subst (λ x. AppliesReceived x old (received s h source e later is m.at p.crossing p.crossed)) (same_operation m.at.operation op (sym m.at.is ∙ content))
          (record { crossing = p.crossing; crossed = p.crossed; shown = sym p.shown })

      abbrev other_processed : IsProcessed source e old
      other_processed = record {
        client = received s h source e later is m.at p.crossing p.crossed;
        client_is = after_of false other ∙ received_client s h source e later is m.at p.crossing p.crossed;
        acknowledged = λ own. not_other (is_sent_edit source old.sent e) own other;
        received = λ op differs content. applies_received op content;
      }

      other_made : AreMade other_processed.client
      other_made = let reached = (a.clients source).start_reached in record { start_reached = omega arith; pending = p.made; sent = (a.clients source).sent }

    -- the client after the entry exists, and its edits are made
    abbrev Processed : Type 0
    Processed = (p : IsProcessed source e old) × AreMade p.client

    own_step : (o : Option SentEdit) → old.sent ≡ o → is_sent_edit source old.sent e ≡ true → IsSentOrNone s.log source old o → Processed
    own_step None none own r = let bad : false ≡ true = ap (λ o. is_sent_edit source o e) (sym none) ∙ own in cc
    own_step (Some t) is_sent own r = (own_processed t is_sent own r, own_made t is_sent own r)

    step_at : (b : Bool) → is_sent_edit source old.sent e ≡ b → Processed
    step_at true own = own_step old.sent refl own (h.clients source).sent
    step_at false other = (other_processed other, other_made other)

    processed : Processed
    processed = step_at (is_sent_edit source old.sent e) refl

  module _ (e : PlainEntry) (later : List PlainEntry) (is : drop old.version s.log ≡ e ∷ later) (range : ProcessesInRange source old (drop old.version s.log)) where
    at_version : MadeEntryAt s.log old.version e old.document
    at_version =
        let f = h.clients source in
        let edits = subst AreEdits is f.edits in
        made_entry s.log old.version e later old.document (made_since start s old.version (Some old.document) from a (a.clients source).start_reached f.document) f.document is edits.0

    processed_at : Processed e later is at_version (subst (ProcessesInRange source old) is range)
    processed_at = processed e later is at_version (subst (ProcessesInRange source old) is range)

    pub entry_is_processed : IsProcessed source e old
    entry_is_processed = processed_at.0

    pub made_processed : (c : Client) → after_entry source e old ≡ Some c → AreEditsMade start (with_changed_client s source c)
    made_processed c k = made_changed (with_changed_client s source c) c refl refl (subst AreMade (same_some processed_at.0.client c (sym processed_at.0.client_is ∙ k)) processed_at.1)

-- ---- a decision

module _ (start s : SharedDocument) (from : StartsFormed start) (h : IsConsistent s) (a : AreEditsMade start s) (m : SubmittedEdit) (has : Contains s.submitted m) (via : List ℕ) (by now : ℕ)
    (range : stored_at m.source m.sent.seq s.log ≡ None → IsRebasedInRange s.log (submission_of m via by)) where
  abbrev submission : PlainSubmission
  submission = submission_of m via by

  module _ (new : stored_at m.source m.sent.seq s.log ≡ None) where
    sent : IsSentEditOf s.log m.source (s.clients m.source) m.sent
    sent = sent_edit s h m has via by now new

    made : IsSentMade (length start.log) s.log (Some m.sent)
    made = subst (IsSentMade (length start.log) s.log) (sent_by_client s h m has via by now new) (a.clients m.source).sent

    stored_for : (d : Option Value) → document_of (take m.sent.base s.log) ≡ d → IsContentMadeFor (edit m.sent.operation) d → StoredEdit s.log submission
    stored_for None is here = absurd here
    stored_for (Some d) is here =
        let base = sent.base_reached in
        let reached = (h.clients m.source).version_reached in
        let at = snap_at s.log m.sent.base h.log_is_made ∙ ap Some is in
        let es = missed_entries s.log submission in
        stored_edit s.log submission (range new).room (omega arith) m.sent.operation d h.log_is_made refl at here (made_since start s m.sent.base (Some d) from a made.0 at) sent.edits
        (subst (λ o. PositionLeavesRangeAmong (edit m.sent.operation) o es → ⊥) is (range new).positions)
        (subst (λ o. RebasedSumLeavesRange (edit m.sent.operation) o es → ⊥) is (range new).sums)

    stored : StoredEdit s.log submission
    stored = stored_for (document_of (take m.sent.base s.log)) refl made.1

    -- the entries that a client has processed are the same in a longer log
    sent_made_append : (e : PlainEntry) (source : List ℕ) (c : Client) (o : Option SentEdit) → FollowsLog s.log source c → IsSentOrNone s.log source c o → IsSentMade (length start.log) s.log o
        → IsSentMade (length start.log) (s.log ++ e ∷ []) o
    sent_made_append e source c None f r made = tt
    sent_made_append e source c (Some t) f r made =
        let reached = f.version_reached in
        let base = r.base_reached in
        (made.0, subst (λ l. IsContentMadeFor (edit t.operation) (document_of l)) (sym (take-append-le t.base s.log (e ∷ []) (omega arith))) made.1)

    abbrev entry : PlainEntry
    entry = new_entry s.log submission now (edit stored.operation)

    made_entries : AreEntriesMadeFor (a.entries ++ entry ∷ []) (document_of start.log)
    made_entries =
        let document : snap_from (document_of start.log) a.entries ≡ Some (Some stored.document) =
        sym (ap (option_and_then (λ m. snap_from m a.entries)) from.snapped)
        ∙ sym (snap_append start.log a.entries None)
        ∙ ap snap (sym a.log)
        ∙ some_of_is_some (snap s.log) (alive_of_made s.log h.log_is_made)
        ∙ ap Some stored.document_is in
        made_append a.entries entry (document_of start.log) (Some stored.document) (Some stored.after) a.made document stored.made
        (apply_edit stored.operation stored.document stored.after stored.applied)

    made_stored : AreEditsMade start (record { log = s.log ++ entry ∷ []; clients = s.clients; submitted = s.submitted })
    made_stored = record {
      entries = a.entries ++ entry ∷ [];
      log = ap (λ l. l ++ entry ∷ []) a.log ∙ append_assoc start.log a.entries (entry ∷ []);
      made = made_entries;
      clients = λ other.
          let c = s.clients other in
          let f = h.clients other in
          let own = a.clients other in
          record { start_reached = own.start_reached; pending = own.pending; sent = sent_made_append entry other c c.sent f f.sent own.sent };
    }

    made_new : AreEditsMade start (after_decision s submission now)
    made_new =
        subst (λ l. AreEditsMade start (record { log = l; clients = s.clients; submitted = s.submitted })) (sym (ap (λ (d : Decision). d.log) (stored.decided now new))) made_stored

    new_not_refused : (code : Code) → (decide s.log submission now).reply ≡ refused code → ⊥
    new_not_refused code k =
        let bad : stored_reply (length s.log) (missed_entries s.log submission) ≡ refused code = sym (ap (λ (d : Decision). d.reply) (stored.decided now new)) ∙ k in cc

  made_at : (o : Option ℕ) → stored_at m.source m.sent.seq s.log ≡ o → AreEditsMade start (after_decision s submission now)
  made_at None new = made_new new
  made_at (Some i) is =
      subst (λ l. AreEditsMade start (record { log = l; clients = s.clients; submitted = s.submitted }))
      (sym (ap (λ (d : Decision). d.log) (decides_repeat s.log submission now i is))) a

  pub made_decision : AreEditsMade start (after_decision s submission now)
  made_decision = made_at (stored_at m.source m.sent.seq s.log) refl

  not_refused_at : (o : Option ℕ) (code : Code) → stored_at m.source m.sent.seq s.log ≡ o → (decide s.log submission now).reply ≡ refused code → ⊥
  not_refused_at None code new k = new_not_refused new code k
  not_refused_at (Some i) code is k = let bad : repeated i ≡ refused code = sym (ap (λ (d : Decision). d.reply) (decides_repeat s.log submission now i is)) ∙ k in cc

  pub not_refused : (code : Code) → (decide s.log submission now).reply ≡ refused code → ⊥
  not_refused code k = not_refused_at (stored_at m.source m.sent.seq s.log) code refl k
