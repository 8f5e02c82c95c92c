-- A decision of the server keeps a shared document consistent.
use Rattle.std.proofs.Common.{◌≡◌, ℕ, ◌<◌, List, [], ◌∷◌, ◌++◌, true, false, Option, Some, None, Result, Ok, Err, ◌⊎◌, inl, inr, refl, sym, ap, ◌∙◌, subst}
use Rattle.std.specs.Prelude.{Contains}
use Rattle.std.specs.Option.{is_some}
use Rattle.sdb_oplog.specs.Plain.{PlainContent, edit, PlainSubmission, PlainEntry}
use Rattle.sdb_oplog.specs.Rebase.{rebase}
use Rattle.sdb_oplog.specs.Snap.{stored_at, document_of}
use Rattle.sdb_oplog.specs.Decide.{decide, rebased_content, new_entry, is_log_full, is_version_too_new, missed_entries, IsMade}
use Rattle.sdb_oplog.specs.laws.LogLaws.{decides_repeat, decides_settled, made_of_decide}
use Rattle.sdb_oplog.specs.laws.DecidedLogLaws.{applied_if_settled}
use Rattle.sdb_oplog.specs.declared.codes.Code.{Code}
use Rattle.sdb_client_model.specs.Client.{SentEdit, Client}
use Rattle.sdb_client_model.specs.Machine.{SubmittedEdit, SharedDocument, submission_of, after_decision}
use Rattle.sdb_client_model.specs.Invariant.{IsEdit, StoresSentEdit, IsSentEditOf, IsSentOrNone, IsConsistent}
use Rattle.sdb_client_model.proofs.EntryLemmas.{edit_of_rebase}
use Rattle.sdb_client_model.proofs.AppendLemmas.{stored_append, IsNextEntry, follows_append}

module _ (s : SharedDocument) (h : IsConsistent s) (m : SubmittedEdit) (has : Contains s.submitted m) (via : List ℕ) (by now : ℕ) where
  abbrev submission : PlainSubmission
  submission = submission_of m via by

  -- an edit that isn't stored is its client's sent one
  module _ (new : stored_at m.source m.sent.seq s.log ≡ None) where
    is_sent : (is_some (stored_at m.source m.sent.seq s.log) ≡ true) ⊎ ((s.clients m.source).sent ≡ Some m.sent) → (s.clients m.source).sent ≡ Some m.sent
    is_sent (inl k) = let bad : false ≡ true = sym (ap is_some new) ∙ k in cc
    is_sent (inr k) = k

    pub sent_by_client : (s.clients m.source).sent ≡ Some m.sent
    sent_by_client = is_sent (h.submitted m has).stored_or_sent

    pub sent_edit : IsSentEditOf s.log m.source (s.clients m.source) m.sent
    sent_edit = subst (IsSentOrNone s.log m.source (s.clients m.source)) sent_by_client (h.clients m.source).sent

  module _ (content : PlainContent) (edits : IsEdit content) (is : (decide s.log submission now).log ≡ s.log ++ new_entry s.log submission now content ∷ []) where
    abbrev entry : PlainEntry
    entry = new_entry s.log submission now content

    stores_sent : (other : List ℕ) (t : SentEdit) → (s.clients other).sent ≡ Some t → m.source ≡ other → m.sent.seq ≡ t.seq → StoresSentEdit t entry
    stores_sent other t k from seq =
        let same = (h.submitted m has).same t (subst (λ x. (s.clients x).sent ≡ Some t) (sym from) k) (sym seq) in
        record { base = ap (λ (x : SentEdit). Some x.base) (sym same); operation = ap (λ (x : SentEdit). edit x.operation) (sym same) }

    next_entry : (other : List ℕ) → IsNextEntry other (s.clients other) entry
    next_entry other = record {
      edits = edits;
      seq = λ from. subst (λ x. m.sent.seq < (s.clients x).next_seq) from (h.submitted m has).seq_is_used;
      sent = stores_sent other;
    }

    stored_or_sent : (k : SubmittedEdit) (c : Client) → (is_some (stored_at k.source k.sent.seq s.log) ≡ true) ⊎ (c.sent ≡ Some k.sent)
        → (is_some (stored_at k.source k.sent.seq (s.log ++ entry ∷ [])) ≡ true) ⊎ (c.sent ≡ Some k.sent)
    stored_or_sent k c (inl r) = inl (stored_append s.log entry k.source k.sent.seq r)
    stored_or_sent k c (inr r) = inr r

    consistent_stored : IsConsistent (record { log = s.log ++ entry ∷ []; clients = s.clients; submitted = s.submitted })
    consistent_stored = record {
      log_is_made = subst IsMade is (made_of_decide s.log submission now h.log_is_made);
      clients = λ other. follows_append s.log other (s.clients other) entry (h.clients other) (next_entry other);
      submitted = λ k has.
          let r = h.submitted k has in
          record { seq_is_used = r.seq_is_used; stored_or_sent = stored_or_sent k (s.clients k.source) r.stored_or_sent; same = r.same };
      network = h.network;
    }

  consistent_log : (log : List PlainEntry) → log ≡ s.log → IsConsistent (record { log = log; clients = s.clients; submitted = s.submitted })
  consistent_log log same = subst (λ l. IsConsistent (record { log = l; clients = s.clients; submitted = s.submitted })) (sym same) h

  consistent_settled : (r : Result PlainContent Code) → stored_at m.source m.sent.seq s.log ≡ None → rebased_content s.log submission ≡ r → IsConsistent (after_decision s submission now)
  consistent_settled (Err code) new is = consistent_log (decide s.log submission now).log (ap (λ d. d.log) (decides_settled s.log submission now (Err code) new is))
  consistent_settled (Ok content) new is =
      let log_is = ap (λ d. d.log) (decides_settled s.log submission now (Ok content) new is) in
      let rebased = (applied_if_settled (is_log_full s.log) (is_version_too_new s.log submission) (rebase submission.content (missed_entries s.log submission)) (document_of s.log) content is).1 in
      subst (λ l. IsConsistent (record { log = l; clients = s.clients; submitted = s.submitted })) (sym log_is)
      (consistent_stored content (edit_of_rebase (missed_entries s.log submission) m.sent.operation content rebased) log_is)

  consistent_at : (o : Option ℕ) → stored_at m.source m.sent.seq s.log ≡ o → IsConsistent (after_decision s submission now)
  consistent_at None new = consistent_settled (rebased_content s.log submission) new refl
  consistent_at (Some i) is = consistent_log (decide s.log submission now).log (ap (λ d. d.log) (decides_repeat s.log submission now i is))

  pub consistent_decision : IsConsistent (after_decision s submission now)
  consistent_decision = consistent_at (stored_at m.source m.sent.seq s.log) refl
