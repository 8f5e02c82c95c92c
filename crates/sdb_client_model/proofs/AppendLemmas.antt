-- A log with one more entry.
use Rattle.std.proofs.Common.{◌≡◌, ℕ, zero, suc, ◌+◌, ◌<◌, List, [], ◌∷◌, ◌++◌, take, drop, Bool, true, false, cond, Option, Some, None, option_map, inl, inr, refl, sym, ap, ◌∙◌, subst, arith, length-append}
use Rattle.std.proofs.lemmas.List.{take-append-le, drop-append-le}
use Rattle.std.proofs.lemmas.Bool.{cases_Bool, and_parts, eqb-true}
use Rattle.std.proofs.lemmas.Slice.Eq.{bytes_eq-Decides}
use Rattle.std.specs.Prelude.{nat_eq, bytes_eq}
use Rattle.std.specs.Option.{is_some}
use Rattle.sdb_oplog.specs.Plain.{edit, PlainEntry}
use Rattle.sdb_oplog.specs.Rebase.{rebase}
use Rattle.sdb_oplog.specs.Snap.{snap, stored_at, has_identifier}
use Rattle.sdb_client_model.specs.Client.{SentEdit, Client}
use Rattle.sdb_client_model.specs.Invariant.{IsEdit, AreEdits, AreSeqsBelow, StoresSentEdit, AreEntriesOfSentEdit, IsSentEditOf, IsSentOrNone, FollowsLog}

-- ---- source and seq

pub same_source : (a b : List ℕ) → bytes_eq a b ≡ true → a ≡ b
same_source a b h = (bytes_eq-Decides a b).0 h

pub other_source : (a b : List ℕ) → bytes_eq a b ≡ false → a ≡ b → ⊥
other_source a b h e = let same = (bytes_eq-Decides a b).1 e in let bad : false ≡ true = sym h ∙ same in cc

pub identifier_parts : (s : List ℕ) (n : ℕ) (e : PlainEntry) → has_identifier s n e ≡ true → (e.arrived.src ≡ s) × (e.arrived.seq ≡ n)
identifier_parts s n e h =
    let p = and_parts (nat_eq e.arrived.seq n) (bytes_eq e.arrived.src s) h in
    (same_source e.arrived.src s p.1, eqb-true e.arrived.seq n p.0)

stored_first : (b : Bool) (o p : Option ℕ) → is_some (cond b (Some 0) (option_map (λ i. i + 1) o)) ≡ true → (is_some o ≡ true → is_some p ≡ true) → is_some (cond b (Some 0) (option_map (λ i. i + 1) p)) ≡ true
stored_first true o p h below = refl
stored_first false None p h below = cc
stored_first false (Some i) None h below = let bad = below refl in cc
stored_first false (Some i) (Some j) h below = refl

-- a stored submission stays stored
pub stored_append : (es : List PlainEntry) (e : PlainEntry) (s : List ℕ) (n : ℕ) → is_some (stored_at s n es) ≡ true → is_some (stored_at s n (es ++ e ∷ [])) ≡ true
stored_append [] e s n h = cc
stored_append (x ∷ es) e s n h = stored_first (has_identifier s n x) (stored_at s n es) (stored_at s n (es ++ e ∷ [])) h (stored_append es e s n)

stored_here : (b : Bool) (o : Option ℕ) → b ≡ true → is_some (cond b (Some 0) o) ≡ true
stored_here true o h = refl
stored_here false o h = cc

stored_later : (b : Bool) (o : Option ℕ) → is_some o ≡ true → is_some (cond b (Some 0) (option_map (λ i. i + 1) o)) ≡ true
stored_later true o h = refl
stored_later false None h = cc
stored_later false (Some i) h = refl

-- the submission of an entry is stored
pub stored_of_entry : (log : List PlainEntry) (v : ℕ) (e : PlainEntry) (later : List PlainEntry) (s : List ℕ) (n : ℕ) → drop v log ≡ e ∷ later → has_identifier s n e ≡ true → is_some (stored_at s n log) ≡ true
stored_of_entry [] zero e later s n is h = cc
stored_of_entry [] (suc v) e later s n is h = cc
stored_of_entry (x ∷ log) zero e later s n is h = let same : x ≡ e = cc in stored_here (has_identifier s n x) _ (ap (has_identifier s n) same ∙ h)
stored_of_entry (x ∷ log) (suc v) e later s n is h = stored_later (has_identifier s n x) (stored_at s n log) (stored_of_entry log v e later s n is h)

not_stored_first : (b : Bool) (o : Option ℕ) → b ≡ false → o ≡ None → cond b (Some 0) (option_map (λ i. i + 1) o) ≡ None
not_stored_first true o h k = cc
not_stored_first false o h k = ap (option_map (λ i. i + 1)) k

pub not_same_identifier : (s : List ℕ) (n : ℕ) (e : PlainEntry) → (e.arrived.src ≡ s → e.arrived.seq < n) → has_identifier s n e ≡ false
not_same_identifier s n e h = elim (cases_Bool (has_identifier s n e)) [
  | inl t ↦ (let p = identifier_parts s n e t in let low = h p.0 in absurd (omega (arith, low, p.1)))
  | inr f ↦ f
]

-- a new seq isn't stored
pub not_stored_of_seqs : (es : List PlainEntry) (s : List ℕ) (n : ℕ) → AreSeqsBelow n s es → stored_at s n es ≡ None
not_stored_of_seqs [] s n h = refl
not_stored_of_seqs (x ∷ es) s n h = not_stored_first (has_identifier s n x) (stored_at s n es) (not_same_identifier s n x h.0) (not_stored_of_seqs es s n h.1)

-- ---- facts of all entries

pub edits_append : (es : List PlainEntry) (e : PlainEntry) → AreEdits es → IsEdit e.content → AreEdits (es ++ e ∷ [])
edits_append [] e h k = (k, tt)
edits_append (x ∷ es) e h k = (h.0, edits_append es e h.1 k)

pub seqs_append : (es : List PlainEntry) (e : PlainEntry) (n : ℕ) (s : List ℕ) → AreSeqsBelow n s es → (e.arrived.src ≡ s → e.arrived.seq < n) → AreSeqsBelow n s (es ++ e ∷ [])
seqs_append [] e n s h k = (k, tt)
seqs_append (x ∷ es) e n s h k = (h.0, seqs_append es e n s h.1 k)

pub seqs_of_prefix : (es : List PlainEntry) (v n : ℕ) (s : List ℕ) → AreSeqsBelow n s es → AreSeqsBelow n s (take v es)
seqs_of_prefix [] zero n s h = tt
seqs_of_prefix [] (suc v) n s h = tt
seqs_of_prefix (x ∷ es) zero n s h = tt
seqs_of_prefix (x ∷ es) (suc v) n s h = (h.0, seqs_of_prefix es v n s h.1)

pub seqs_below_next : (es : List PlainEntry) (n : ℕ) (s : List ℕ) → AreSeqsBelow n s es → AreSeqsBelow (n + 1) s es
seqs_below_next [] n s h = tt
seqs_below_next (x ∷ es) n s h = ((λ is. let low = h.0 is in omega (arith, low)), seqs_below_next es n s h.1)

pub entries_append : (es : List PlainEntry) (e : PlainEntry) (s : List ℕ) (t : SentEdit) → AreEntriesOfSentEdit s t es → (e.arrived.src ≡ s → e.arrived.seq ≡ t.seq → StoresSentEdit t e) → AreEntriesOfSentEdit s t (es ++ e ∷ [])
entries_append [] e s t h k = (k, tt)
entries_append (x ∷ es) e s t h k = (h.0, entries_append es e s t h.1 k)

-- no entry has a new seq
pub entries_of_seqs : (es : List PlainEntry) (s : List ℕ) (t : SentEdit) → AreSeqsBelow t.seq s es → AreEntriesOfSentEdit s t es
entries_of_seqs [] s t h = tt
entries_of_seqs (x ∷ es) s t h = ((λ is same. let low = h.0 is in absurd (omega (arith, low, same))), entries_of_seqs es s t h.1)

pub entry_of : (log : List PlainEntry) (v : ℕ) (e : PlainEntry) (later : List PlainEntry) (s : List ℕ) (t : SentEdit) → drop v log ≡ e ∷ later → AreEntriesOfSentEdit s t log → e.arrived.src ≡ s → e.arrived.seq ≡ t.seq → StoresSentEdit t e
entry_of [] zero e later s t is h = cc
entry_of [] (suc v) e later s t is h = cc
entry_of (x ∷ log) zero e later s t is h =
    let same : x ≡ e = cc in subst (λ (y : PlainEntry). y.arrived.src ≡ s → y.arrived.seq ≡ t.seq → StoresSentEdit t y) same h.0
entry_of (x ∷ log) (suc v) e later s t is h = entry_of log v e later s t is h.1

-- ---- a client of a log

-- what a client needs of a new entry
pub record IsNextEntry (source : List ℕ) (c : Client) (e : PlainEntry) : Type 0 where
  pub edits : IsEdit e.content
  pub seq : e.arrived.src ≡ source → e.arrived.seq < c.next_seq
  pub sent : (t : SentEdit) → c.sent ≡ Some t → e.arrived.src ≡ source → e.arrived.seq ≡ t.seq → StoresSentEdit t e

module _ (log : List PlainEntry) (source : List ℕ) (c : Client) (e : PlainEntry) (f : FollowsLog log source c) (next : IsNextEntry source c e) where
  sent_append : (t : SentEdit) → c.sent ≡ Some t → IsSentEditOf log source c t → IsSentEditOf (log ++ e ∷ []) source c t
  sent_append t is r =
      let reached = f.version_reached in
      let base = r.base_reached in
      let at_version = take-append-le c.version log (e ∷ []) reached in
      record {
        operation = r.operation;
        queue = r.queue;
        first = r.first;
        base_reached = r.base_reached;
        rebased = ap (λ l. rebase (edit t.operation) (drop t.base l)) at_version ∙ r.rebased;
        edits = subst AreEdits (sym (drop-append-le t.base log (e ∷ []) (omega arith))) (edits_append (drop t.base log) e r.edits next.edits);
        not_processed = ap (stored_at source t.seq) at_version ∙ r.not_processed;
        entry = entries_append log e source t r.entry (next.sent t is);
        seq_is_used = r.seq_is_used;
      }

  sent_append_at : (o : Option SentEdit) → c.sent ≡ o → IsSentOrNone log source c o → IsSentOrNone (log ++ e ∷ []) source c o
  sent_append_at None is r = tt
  sent_append_at (Some t) is r = sent_append t is r

  pub follows_append : FollowsLog (log ++ e ∷ []) source c
  follows_append =
      let reached = f.version_reached in
      record {
        version_reached = omega (arith, length-append log (e ∷ []));
        document = ap snap (take-append-le c.version log (e ∷ []) reached) ∙ f.document;
        edits = subst AreEdits (sym (drop-append-le c.version log (e ∷ []) reached)) (edits_append (drop c.version log) e f.edits next.edits);
        sent = sent_append_at c.sent refl f.sent;
        seqs = seqs_append log e c.next_seq source f.seqs next.seq;
      }
