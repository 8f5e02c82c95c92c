-- Each step of a client keeps a shared document consistent.
use Rattle.std.proofs.Common.{◌≡◌, ℕ, ◌+◌, ◌<◌, ◌≤◌, List, [], ◌∷◌, ◌++◌, take, drop, length, Bool, true, false, cond, Option, Some, None, unwrap_or, option_map, option_and_then, ◌⊎◌, inl, inr, refl, sym, ap, ◌∙◌, subst, arith, add-one, length-take}
use Rattle.std.proofs.lemmas.List.{drop-append-le, drop_all}
use Rattle.std.proofs.lemmas.List.Elements.{Contains-push, Contains-append_left, Contains-push_cases}
use Rattle.std.specs.Prelude.{bytes_eq, Contains}
use Rattle.std.specs.Option.{is_some}
use Rattle.sdb_component.specs.Plain.{PlainComponent}
use Rattle.sdb_value.specs.Value.{Value}
use Rattle.sdb_apply.specs.Apply.{apply}
use Rattle.sdb_transform.specs.Cross.{and_then}
use Rattle.sdb_oplog.specs.Plain.{PlainContent, create, delete, edit, PlainEntry}
use Rattle.sdb_oplog.specs.Rebase.{rebase}
use Rattle.sdb_oplog.specs.Snap.{snap, stored_at, has_identifier}
use Rattle.sdb_oplog.specs.Decide.{missed_entries}
use Rattle.sdb_oplog.proofs.LogGrowth.{none_more}
use Rattle.sdb_client_model.specs.Client.{SentEdit, Client, apply_all, shown_document, PendingCrossing, cross_pending, is_sent_edit, after_edit, next_sent, after_send, after_acknowledgement, after_content, after_entry}
use Rattle.sdb_client_model.specs.Machine.{SubmittedEdit, SharedDocument, with_client, with_changed_client, after_sending}
use Rattle.sdb_client_model.specs.Invariant.{AreEdits, IsSentEditOf, IsSentOrNone, FollowsLog, IsStoredOrSent, IsConsistent}
use Rattle.sdb_client_model.proofs.PendingLemmas.{same_some, some_step, map_step, first_crossed}
use Rattle.sdb_client_model.proofs.EntryLemmas.{same_ok, same_operation, take_next, drop_next, below_length, EntryAt, applied_entry, rebased_at, rebase_one_more}
use Rattle.sdb_client_model.proofs.AppendLemmas.{same_source, other_source, identifier_parts, stored_of_entry, not_stored_of_seqs, seqs_of_prefix, seqs_below_next, entries_of_seqs, entry_of}

-- ---- one client is changed

changed_at : (P : Client → Type 0) (b : Bool) (old c : Client) → P old → (b ≡ true → P c) → P (cond b c old)
changed_at P true old c h k = k refl
changed_at P false old c h k = h

pub client_at : (P : Client → Type 0) (clients : List ℕ → Client) (source other : List ℕ) (c : Client) → P (clients other) → (source ≡ other → P c) → P (with_client clients source c other)
client_at P clients source other c h k = changed_at P (bytes_eq source other) (clients other) c h (λ e. k (same_source source other e))

own_at : (P : Client → Type 0) (b : Bool) (old c : Client) → P c → (b ≡ false → ⊥) → P (cond b c old)
own_at P true old c h never = h
own_at P false old c h never = absurd (never refl)

own_client : (P : Client → Type 0) (clients : List ℕ → Client) (source : List ℕ) (c : Client) → P c → P (with_client clients source c source)
own_client P clients source c h = own_at P (bytes_eq source source) (clients source) c h (λ differs. other_source source source differs refl)

never_sent : {G : Type 0} (t : SentEdit) → None ≡ Some t → G
never_sent t h = cc

-- a changed client that keeps its sent edit and its next seq
same_sent : (log : List PlainEntry) (old c : Client) (m : SubmittedEdit) → c.sent ≡ old.sent → c.next_seq ≡ old.next_seq → IsStoredOrSent log old m → IsStoredOrSent log c m
same_sent log old c m is same h = record {
  seq_is_used = subst (λ n. m.sent.seq < n) (sym same) h.seq_is_used;
  stored_or_sent = subst (λ o. (is_some (stored_at m.source m.sent.seq log) ≡ true) ⊎ (o ≡ Some m.sent)) (sym is) h.stored_or_sent;
  same = λ t e. h.same t (sym is ∙ e);
}

module _ (s : SharedDocument) (h : IsConsistent s) (source : List ℕ) where
  abbrev old : Client
  old = s.clients source

  with_same_sent : (c : Client) → FollowsLog s.log source c → c.sent ≡ old.sent → c.next_seq ≡ old.next_seq → IsConsistent (with_changed_client s source c)
  with_same_sent c f is same = record {
    log_is_made = h.log_is_made;
    clients = λ other. client_at (FollowsLog s.log other) s.clients source other c (h.clients other) (λ e. subst (λ x. FollowsLog s.log x c) e f);
    submitted = λ m has.
        client_at (λ x. IsStoredOrSent s.log x m) s.clients source m.source c (h.submitted m has)
        (λ e. same_sent s.log old c m is same (subst (λ x. IsStoredOrSent s.log (s.clients x) m) (sym e) (h.submitted m has)));
    network = λ other t.
        client_at (λ (x : Client). x.sent ≡ Some t → Contains s.submitted (record { source = other; sent = t })) s.clients source other c (h.network other t)
        (λ e k. subst (λ x. Contains s.submitted (record { source = x; sent = t })) e (h.network source t (sym is ∙ k)));
  }

  -- ---- an edit

  sent_with_edit : (op : List PlainComponent) (o : Option SentEdit) → IsSentOrNone s.log source old o → IsSentOrNone s.log source (after_edit op old) o
  sent_with_edit op None r = tt
  sent_with_edit op (Some t) r = record {
    operation = r.operation;
    queue = r.queue ++ op ∷ [];
    first = ap (λ l. l ++ op ∷ []) r.first;
    base_reached = r.base_reached;
    rebased = r.rebased;
    edits = r.edits;
    not_processed = r.not_processed;
    entry = r.entry;
    seq_is_used = r.seq_is_used;
  }

  pub consistent_edit : (op : List PlainComponent) → IsConsistent (with_changed_client s source (after_edit op old))
  consistent_edit op =
      let f = h.clients source in
      with_same_sent (after_edit op old)
      (record {
        version_reached = f.version_reached;
        document = f.document;
        edits = f.edits;
        sent = sent_with_edit op old.sent f.sent;
        seqs = f.seqs;
      }) refl refl

  -- ---- an edit is sent

  not_none : (t : SentEdit) → old.sent ≡ None → old.sent ≡ Some t → ⊥
  not_none t a b = let bad : None ≡ Some t = sym a ∙ b in cc

  module _ (op : List PlainComponent) (rest : List (List PlainComponent)) (none : old.sent ≡ None) (first : old.pending ≡ op ∷ rest) where
    abbrev sent : SentEdit
    sent = next_sent old op

    new_sent : IsSentEditOf s.log source (after_send op old) sent
    new_sent =
        let f = h.clients source in
        let none_between : drop old.version (take old.version s.log) ≡ [] = drop_all old.version (take old.version s.log) (omega (arith, length-take old.version s.log)) in
        record {
          operation = op;
          queue = rest;
          first = first;
          base_reached = omega arith;
          rebased = ap (rebase (edit op)) none_between;
          edits = f.edits;
          not_processed = not_stored_of_seqs (take old.version s.log) source old.next_seq (seqs_of_prefix s.log old.version old.next_seq source f.seqs);
          entry = entries_of_seqs s.log source sent f.seqs;
          seq_is_used = omega arith;
        }

    sent_follows : FollowsLog s.log source (after_send op old)
    sent_follows =
        let f = h.clients source in
        record {
          version_reached = f.version_reached;
          document = f.document;
          edits = f.edits;
          sent = new_sent;
          seqs = seqs_below_next s.log old.next_seq source f.seqs;
        }

    earlier_submitted : (m : SubmittedEdit) → IsStoredOrSent s.log old m → IsStoredOrSent s.log (after_send op old) m
    earlier_submitted m r =
        let used = r.seq_is_used in
        record {
          seq_is_used = omega arith;
          stored_or_sent = inl (stored r.stored_or_sent);
          same = λ t is same. let this : old.next_seq ≡ t.seq = ap (λ (x : SentEdit). x.seq) (same_some sent t is) in absurd (omega arith);
        }
      where
        stored : (is_some (stored_at m.source m.sent.seq s.log) ≡ true) ⊎ (old.sent ≡ Some m.sent) → is_some (stored_at m.source m.sent.seq s.log) ≡ true
        stored (inl k) = k
        stored (inr k) = absurd (not_none m.sent none k)

    now_submitted : IsStoredOrSent s.log (after_send op old) (record { source = source; sent = sent })
    now_submitted = record { seq_is_used = omega arith; stored_or_sent = inr refl; same = λ t is same. sym (same_some sent t is) }

    submitted_after : (m : SubmittedEdit) → Contains s.submitted m ⊎ (record { source = source; sent = sent } ≡ m)
        → IsStoredOrSent s.log (with_client s.clients source (after_send op old) m.source) m
    submitted_after m (inl has) =
        client_at (λ x. IsStoredOrSent s.log x m) s.clients source m.source (after_send op old) (h.submitted m has)
        (λ e. earlier_submitted m (subst (λ x. IsStoredOrSent s.log (s.clients x) m) (sym e) (h.submitted m has)))
    submitted_after m (inr e) =
        subst (λ (x : SubmittedEdit). IsStoredOrSent s.log (with_client s.clients source (after_send op old) x.source) x) e
        (own_client (λ x. IsStoredOrSent s.log x (record { source = source; sent = sent })) s.clients source (after_send op old) now_submitted)

    network_before : (other : List ℕ) (t : SentEdit) → (s.clients other).sent ≡ Some t → Contains (s.submitted ++ record { source = source; sent = sent } ∷ []) (record { source = other; sent = t })
    network_before other t k = Contains-append_left s.submitted (record { source = source; sent = sent } ∷ []) (record { source = other; sent = t }) (h.network other t k)

    network_now : (other : List ℕ) (t : SentEdit) → source ≡ other → Some sent ≡ Some t → Contains (s.submitted ++ record { source = source; sent = sent } ∷ []) (record { source = other; sent = t })
    network_now other t e k =
        subst (λ x. Contains (s.submitted ++ record { source = source; sent = sent } ∷ []) (record { source = x; sent = t })) e
        (subst (λ x. Contains (s.submitted ++ record { source = source; sent = sent } ∷ []) (record { source = source; sent = x })) (same_some sent t k)
        (Contains-push s.submitted (record { source = source; sent = sent })))

    pub consistent_send : IsConsistent (after_sending s source op)
    consistent_send = record {
      log_is_made = h.log_is_made;
      clients = λ other. client_at (FollowsLog s.log other) s.clients source other (after_send op old) (h.clients other) (λ e. subst (λ x. FollowsLog s.log x (after_send op old)) e sent_follows);
      submitted = λ m has. submitted_after m (Contains-push_cases s.submitted (record { source = source; sent = sent }) m has);
      network = λ other t.
          client_at (λ (x : Client). x.sent ≡ Some t → Contains (s.submitted ++ record { source = source; sent = sent } ∷ []) (record { source = other; sent = t }))
          s.clients source other (after_send op old) (network_before other t) (network_now other t);
    }

  -- ---- an entry

  module _ (e : PlainEntry) (later : List PlainEntry) (is : drop old.version s.log ≡ e ∷ later) where
    next_edits : AreEdits (drop (old.version + 1) s.log)
    next_edits =
        subst AreEdits (sym (ap (λ v. drop v s.log) (add-one old.version) ∙ drop_next s.log old.version e later is))
        (subst AreEdits is (h.clients source).edits).1

    next_reached : old.version + 1 ≤ length s.log
    next_reached = let below = below_length s.log old.version e later is in omega arith

    -- the entry of the sent edit is what is pending first
    own_content : (t : SentEdit) → has_identifier source t.seq e ≡ true → (r : IsSentEditOf s.log source old t) → e.content ≡ edit r.operation
    own_content t own r =
        let p = identifier_parts source t.seq e own in
        let entry = entry_of s.log old.version e later source t is r.entry p.0 p.1 in
        let stored = rebased_at s.log old.version e later h.log_is_made is in
        let content = ap (λ m. rebase m (missed_entries (take old.version s.log) e.arrived)) (sym entry.operation) ∙ stored in
        let base = ap (λ v. rebase (edit t.operation) (drop (unwrap_or v (length (take old.version s.log))) (take old.version s.log))) (sym entry.base) ∙ content in
        same_ok e.content (edit r.operation) (sym base ∙ r.rebased)

    module _ (at : EntryAt s.log old.version e old.document) where
      next_document : snap (take (old.version + 1) s.log) ≡ Some (Some at.after)
      next_document = ap (λ v. snap (take v s.log)) (add-one old.version) ∙ at.document

      -- the sent edit is acknowledged
      abbrev pub acknowledged : List (List PlainComponent) → Client
      acknowledged ops = record { version = old.version + 1; document = at.after; pending = ops; sent = None; next_seq = old.next_seq }

      module _ (t : SentEdit) (is_sent : old.sent ≡ Some t) (own : has_identifier source t.seq e ≡ true) (r : IsSentEditOf s.log source old t) where
        pub first_applied : apply r.operation old.document ≡ Some at.after
        first_applied = ap (λ op. apply op old.document) (same_operation r.operation at.operation (sym (own_content t own r) ∙ at.is)) ∙ at.applied

        pub acknowledgement : after_acknowledgement old old.pending ≡ Some (acknowledged r.queue)
        acknowledgement =
            ap (after_acknowledgement old) r.first
            ∙ ap (option_map (λ d. record { version = old.version + 1; document = d; pending = r.queue; sent = None; next_seq = old.next_seq })) first_applied

        pub acknowledged_shown : shown_document (acknowledged r.queue) ≡ shown_document old
        acknowledged_shown = sym (ap (λ ops. apply_all ops old.document) r.first ∙ ap (option_and_then (apply_all r.queue)) first_applied)

        acknowledged_follows : FollowsLog s.log source (acknowledged r.queue)
        acknowledged_follows =
            let f = h.clients source in
            record { version_reached = next_reached; document = next_document; edits = next_edits; sent = tt; seqs = f.seqs }

        acknowledged_submitted : (m : SubmittedEdit) → source ≡ m.source → IsStoredOrSent s.log old m → IsStoredOrSent s.log (acknowledged r.queue) m
        acknowledged_submitted m from k = record {
          seq_is_used = k.seq_is_used;
          stored_or_sent = inl (stored k.stored_or_sent);
          same = λ t bad seq. cc;
        }
          where
            stored : (is_some (stored_at m.source m.sent.seq s.log) ≡ true) ⊎ (old.sent ≡ Some m.sent) → is_some (stored_at m.source m.sent.seq s.log) ≡ true
            stored (inl done) = done
            stored (inr this) =
                let same = same_some t m.sent (sym is_sent ∙ this) in
                subst (λ x. is_some (stored_at x m.sent.seq s.log) ≡ true) from
                (subst (λ (x : SentEdit). is_some (stored_at source x.seq s.log) ≡ true) same (stored_of_entry s.log old.version e later source t.seq is own))

        consistent_acknowledged : IsConsistent (with_changed_client s source (acknowledged r.queue))
        consistent_acknowledged = record {
          log_is_made = h.log_is_made;
          clients = λ other.
              client_at (FollowsLog s.log other) s.clients source other (acknowledged r.queue) (h.clients other)
              (λ e. subst (λ x. FollowsLog s.log x (acknowledged r.queue)) e acknowledged_follows);
          submitted = λ m has.
              client_at (λ x. IsStoredOrSent s.log x m) s.clients source m.source (acknowledged r.queue) (h.submitted m has)
              (λ e. acknowledged_submitted m e (subst (λ x. IsStoredOrSent s.log (s.clients x) m) (sym e) (h.submitted m has)));
          network = λ other t.
              client_at (λ (x : Client). x.sent ≡ Some t → Contains s.submitted (record { source = other; sent = t })) s.clients source other (acknowledged r.queue) (h.network other t)
              (λ e none. never_sent t none);
        }

      -- another one's edit is received
      module _ (x : PendingCrossing) (crossed : cross_pending old.pending at.operation ≡ Some x) where
        abbrev pub received : Client
        received = record { version = old.version + 1; document = at.after; pending = x.pending; sent = old.sent; next_seq = old.next_seq }

        pub received_client : after_content old e.content ≡ Some received
        received_client =
            ap (after_content old) at.is
            ∙ ap (λ o. and_then o (λ d.
            and_then (cross_pending old.pending at.operation) (λ x.
            Some (record { version = old.version + 1; document = d; pending = x.pending; sent = old.sent; next_seq = old.next_seq })))) at.applied
            ∙ ap (λ o. and_then o (λ x.
            Some (record { version = old.version + 1; document = at.after; pending = x.pending; sent = old.sent; next_seq = old.next_seq }))) crossed

        module _ (other : is_sent_edit source old.sent e ≡ false) where
          received_sent : (o : Option SentEdit) → old.sent ≡ o → IsSentOrNone s.log source old o → IsSentOrNone s.log source received o
          received_sent None none r = tt
          received_sent (Some t) is_sent r =
              let first = first_crossed r.operation at.operation r.queue x (ap (λ ops. cross_pending ops at.operation) (sym r.first) ∙ crossed) in
              let next : take (old.version + 1) s.log ≡ take old.version s.log ++ e ∷ [] = ap (λ v. take v s.log) (add-one old.version) ∙ take_next s.log old.version e later is in
              let reached = (h.clients source).version_reached in
              let base = r.base_reached in
              let within : t.base ≤ length (take old.version s.log) = omega (arith, length-take old.version s.log) in
              record {
                operation = first.crossing.left;
                queue = first.rest;
                first = first.first;
                base_reached = omega arith;
                rebased =
                    ap (λ l. rebase (edit t.operation) (drop t.base l)) next
                    ∙ ap (rebase (edit t.operation)) (drop-append-le t.base (take old.version s.log) (e ∷ []) within)
                    ∙ rebase_one_more (drop t.base (take old.version s.log)) e (edit t.operation) r.operation at.operation first.crossing r.rebased at.is first.crossed;
                edits = r.edits;
                not_processed =
                    ap (stored_at source t.seq) next
                    ∙ none_more (take old.version s.log) source t.seq e r.not_processed (sym (ap (λ o. is_sent_edit source o e) is_sent) ∙ other);
                entry = r.entry;
                seq_is_used = r.seq_is_used;
              }

          received_follows : FollowsLog s.log source received
          received_follows =
              let f = h.clients source in
              record { version_reached = next_reached; document = next_document; edits = next_edits; sent = received_sent old.sent refl f.sent; seqs = f.seqs }

          consistent_received : IsConsistent (with_changed_client s source received)
          consistent_received = with_same_sent received received_follows refl refl

    -- the entry at the client's version, if this operation of it applies
    abbrev entry_with : (op : List PlainComponent) (after : Value) → e.content ≡ edit op → apply op old.document ≡ Some after → EntryAt s.log old.version e old.document
    entry_with op after content applied = applied_entry s.log old.version e later old.document op after (h.clients source).document is content applied

    -- the client after the entry, by whether it is the sent edit
    consistent_own : (o : Option SentEdit) (c : Client) → old.sent ≡ o → IsSentOrNone s.log source old o → is_sent_edit source o e ≡ true → after_acknowledgement old old.pending ≡ Some c
        → IsConsistent (with_changed_client s source c)
    consistent_own None c is_sent r own k = cc
    consistent_own (Some t) c is_sent r own k =
        let d = map_step (apply r.operation old.document) (λ d. record { version = old.version + 1; document = d; pending = r.queue; sent = None; next_seq = old.next_seq }) c
        (sym (ap (after_acknowledgement old) r.first) ∙ k) in
        let at = entry_with r.operation d.0 (own_content t own r) d.1 in
        subst (λ x. IsConsistent (with_changed_client s source x)) d.2 (consistent_acknowledged at t is_sent own r)

    consistent_other : (m : PlainContent) (c : Client) → e.content ≡ m → is_sent_edit source old.sent e ≡ false → after_content old m ≡ Some c → IsConsistent (with_changed_client s source c)
    consistent_other (create v) c content other k = cc
    consistent_other delete c content other k = cc
    consistent_other (edit op) c content other k =
        let d = some_step (apply op old.document) (λ d.
        and_then (cross_pending old.pending op) (λ x.
        Some (record { version = old.version + 1; document = d; pending = x.pending; sent = old.sent; next_seq = old.next_seq }))) c k in
        let x = some_step (cross_pending old.pending op) (λ x. Some (record { version = old.version + 1; document = d.0; pending = x.pending; sent = old.sent; next_seq = old.next_seq })) c d.2 in
        let at = entry_with op d.0 content d.1 in
        subst (λ x. IsConsistent (with_changed_client s source x)) (same_some (received at x.0 x.1) c x.2) (consistent_received at x.0 x.1 other)

    consistent_after : (b : Bool) (c : Client) → is_sent_edit source old.sent e ≡ b → cond b (after_acknowledgement old old.pending) (after_content old e.content) ≡ Some c
        → IsConsistent (with_changed_client s source c)
    consistent_after true c own k = consistent_own old.sent c refl (h.clients source).sent own k
    consistent_after false c other k = consistent_other e.content c refl other k

    pub consistent_entry : (c : Client) → after_entry source e old ≡ Some c → IsConsistent (with_changed_client s source c)
    consistent_entry c k = consistent_after (is_sent_edit source old.sent e) c refl k
