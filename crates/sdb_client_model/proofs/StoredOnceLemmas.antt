-- Where the edits of a client are, after each step and each run.
use Rattle.std.proofs.Common.{◌≡◌, ℕ, zero, suc, ◌+◌, List, [], ◌∷◌, ◌++◌, drop, length, Bool, true, false, cond, Option, Some, None, Result, Ok, Err, ◌⊎◌, inl, inr, refl, sym, ap, ◌∙◌, subst, arith, append_assoc, append-nil, length-append}
use Rattle.std.proofs.lemmas.Bool.{cases_Bool, and_from, eq-eqb}
use Rattle.std.proofs.lemmas.List.{drop_at}
use Rattle.std.specs.Prelude.{bytes_eq, nat_eq, Contains}
use Rattle.std.specs.Option.{is_some, is_none}
use Rattle.sdb_component.specs.Plain.{PlainComponent}
use Rattle.sdb_apply.specs.Apply.{apply}
use Rattle.sdb_transform.specs.Cross.{and_then, cross_ops}
use Rattle.sdb_oplog.specs.Plain.{PlainContent, create, delete, edit, PlainSubmission, PlainEntry}
use Rattle.sdb_oplog.specs.Snap.{stored_at, has_identifier, are_identifiers_new}
use Rattle.sdb_oplog.specs.Decide.{decide, rebased_content, new_entry, IsMadeFrom}
use Rattle.sdb_oplog.specs.laws.LogLaws.{append_nil, append_changes, decides_repeat, decides_settled}
use Rattle.sdb_oplog.proofs.LogGrowth.{none_more}
use Rattle.sdb_oplog.specs.declared.codes.Code.{Code}
use Rattle.sdb_client_model.specs.Client.{SentEdit, Client, PendingCrossing, cross_pending, queue_after, queued_edits, is_sent_edit, after_edit, after_send, after_acknowledgement, after_content, after_entry}
use Rattle.sdb_client_model.specs.Machine.{SubmittedEdit, SharedDocument, ClientStep, make_edit, send_edit, decide_edit, process_entry, with_client, with_changed_client, after_sending, submission_of, after_decision, IsClientStep, IsClientRun}
use Rattle.sdb_client_model.specs.Invariant.{IsSentOrNone, IsConsistent}
use Rattle.sdb_client_model.specs.StoredOnce.{seqs_of, unstored_seqs, consecutive_seqs, count_edits, AllEditsAreStored, NoneStoredTwice}
use Rattle.sdb_client_model.proofs.PendingLemmas.{same_some, some_step, map_step}
use Rattle.sdb_client_model.proofs.AppendLemmas.{same_source, other_source, identifier_parts, not_stored_of_seqs, stored_append, stored_of_entry}
use Rattle.sdb_client_model.proofs.ClientRuns.{consistent_start, consistent_step, runs_are_consistent}

-- ---- lists of seqs

seqs_cond : (b : Bool) (n : ℕ) (xs ys : List ℕ) → cond b (n ∷ (xs ++ ys)) (xs ++ ys) ≡ cond b (n ∷ xs) xs ++ ys
seqs_cond true n xs ys = refl
seqs_cond false n xs ys = refl

seqs_append : (xs ys : List PlainEntry) (source : List ℕ) → seqs_of source (xs ++ ys) ≡ seqs_of source xs ++ seqs_of source ys
seqs_append [] ys source = refl
seqs_append (x ∷ xs) ys source =
    ap (λ l. cond (bytes_eq x.arrived.src source) (x.arrived.seq ∷ l) l) (seqs_append xs ys source)
    ∙ seqs_cond (bytes_eq x.arrived.src source) x.arrived.seq (seqs_of source xs) (seqs_of source ys)

consecutive_append : (n a b : ℕ) → consecutive_seqs n (a + b) ≡ consecutive_seqs n a ++ consecutive_seqs (n + a) b
consecutive_append n zero b =
    let k : zero + b ≡ b = omega arith in
    let m : n + zero ≡ n = omega arith in
    ap (consecutive_seqs n) k ∙ sym (ap (λ i. consecutive_seqs i b) m)
consecutive_append n (suc a) b =
    let k : suc a + b ≡ suc (a + b) = omega arith in
    let m : n + 1 + a ≡ n + suc a = omega arith in
    ap (consecutive_seqs n) k
    ∙ ap (λ l. n ∷ l) (consecutive_append (n + 1) a b)
    ∙ ap (λ i. n ∷ (consecutive_seqs (n + 1) a ++ consecutive_seqs i b)) m

-- ---- what steps store

-- the edits of one client, before and after steps
record EditsAreMoved (source : List ℕ) (steps : List ClientStep) (old new : SharedDocument) : Type 0 where
  pub entries : List PlainEntry
  pub log : new.log ≡ old.log ++ entries
  pub sent : ℕ
  pub seqs :
      seqs_of source entries ++ unstored_seqs new.log source (new.clients source).sent
      ≡ unstored_seqs old.log source (old.clients source).sent ++ consecutive_seqs (old.clients source).next_seq sent
  pub next : (new.clients source).next_seq ≡ (old.clients source).next_seq + sent
  pub edits : sent + length (queued_edits (new.clients source)) ≡ length (queued_edits (old.clients source)) + count_edits source steps

count_cond : (b : Bool) (n : ℕ) → cond b (suc n) n ≡ cond b 1 0 + n
count_cond true n = omega arith
count_cond false n = omega arith

count_first : (source : List ℕ) (step : ClientStep) (steps : List ClientStep) → count_edits source (step ∷ steps) ≡ count_edits source (step ∷ []) + count_edits source steps
count_first source (make_edit other op) steps = count_cond (bytes_eq other source) (count_edits source steps)
count_first source (send_edit other) steps = omega arith
count_first source (decide_edit m via by now) steps = omega arith
count_first source (process_entry other) steps = omega arith

moved_then : (source : List ℕ) (step : ClientStep) (steps : List ClientStep) (old mid new : SharedDocument) → EditsAreMoved source (step ∷ []) old mid → EditsAreMoved source steps mid new
    → EditsAreMoved source (step ∷ steps) old new
moved_then source step steps old mid new a b =
    let u = unstored_seqs new.log source (new.clients source).sent in
    let v = unstored_seqs mid.log source (mid.clients source).sent in
    let w = unstored_seqs old.log source (old.clients source).sent in
    let n = (old.clients source).next_seq in
    let an = a.next in
    let bn = b.next in
    let ae = a.edits in
    let be = b.edits in
    let more = count_first source step steps in
    record {
      entries = a.entries ++ b.entries;
      log = b.log ∙ ap (λ l. l ++ b.entries) a.log ∙ append_assoc old.log a.entries b.entries;
      sent = a.sent + b.sent;
      seqs =
          ap (λ l. l ++ u) (seqs_append a.entries b.entries source)
          ∙ append_assoc (seqs_of source a.entries) (seqs_of source b.entries) u
          ∙ ap (λ l. seqs_of source a.entries ++ l) b.seqs
          ∙ sym (append_assoc (seqs_of source a.entries) v (consecutive_seqs (mid.clients source).next_seq b.sent))
          ∙ ap (λ l. l ++ consecutive_seqs (mid.clients source).next_seq b.sent) a.seqs
          ∙ ap (λ i. (w ++ consecutive_seqs n a.sent) ++ consecutive_seqs i b.sent) an
          ∙ append_assoc w (consecutive_seqs n a.sent) (consecutive_seqs (n + a.sent) b.sent)
          ∙ ap (λ l. w ++ l) (sym (consecutive_append n a.sent b.sent));
      next = omega arith;
      edits = omega arith;
    }

-- ---- a step that stores and sends nothing

abbrev pub HasSameEdits : List ℕ → SharedDocument → Client → Type 0
HasSameEdits source old c =
    (unstored_seqs old.log source c.sent ≡ unstored_seqs old.log source (old.clients source).sent)
    × (c.next_seq ≡ (old.clients source).next_seq) × (length (queued_edits c) ≡ length (queued_edits (old.clients source)))

moved_nothing : (source : List ℕ) (step : ClientStep) (old new : SharedDocument) → new.log ≡ old.log → HasSameEdits source old (new.clients source) → count_edits source (step ∷ []) ≡ 0
    → EditsAreMoved source (step ∷ []) old new
moved_nothing source step old new same h none =
    let next = h.1 in
    let queue = h.2 in
    record {
      entries = [];
      log = same ∙ sym (append_nil old.log);
      sent = 0;
      seqs =
          ap (λ l. unstored_seqs l source (new.clients source).sent) same
          ∙ h.0
          ∙ sym (append-nil (unstored_seqs old.log source (old.clients source).sent));
      next = omega arith;
      edits = omega arith;
    }

same_edits : (source : List ℕ) (old : SharedDocument) → HasSameEdits source old (old.clients source)
same_edits source old = (refl, refl, refl)

-- the client of another source is changed
unchanged_client : (clients : List ℕ → Client) (other source : List ℕ) (c : Client) → bytes_eq other source ≡ false → with_client clients other c source ≡ clients source
unchanged_client clients other source c differs = ap (λ b. cond b c (clients source)) differs

changed_client : (clients : List ℕ → Client) (other source : List ℕ) (c : Client) → bytes_eq other source ≡ true → with_client clients other c source ≡ c
changed_client clients other source c same = ap (λ b. cond b c (clients source)) same

-- ---- an edit

queue_push : (o : Option SentEdit) (ops : List (List PlainComponent)) (op first : List PlainComponent) (queue : List (List PlainComponent)) → (o ≡ None) ⊎ (ops ≡ first ∷ queue)
    → length (queue_after o (ops ++ op ∷ [])) ≡ length (queue_after o ops) + 1
queue_push None ops op first queue h = length-append ops (op ∷ [])
queue_push (Some t) ops op first queue (inl h) = cc
queue_push (Some t) [] op first queue (inr h) = cc
queue_push (Some t) (p ∷ ops) op first queue (inr h) = length-append ops (op ∷ [])

queue_push_of : (s : SharedDocument) (source : List ℕ) (op : List PlainComponent) (o : Option SentEdit) → IsSentOrNone s.log source (s.clients source) o
    → length (queue_after o ((s.clients source).pending ++ op ∷ [])) ≡ length (queue_after o (s.clients source).pending) + 1
queue_push_of s source op None r = length-append (s.clients source).pending (op ∷ [])
queue_push_of s source op (Some t) r = queue_push (Some t) (s.clients source).pending op r.operation r.queue (inr r.first)

moved_edit : (source other : List ℕ) (op : List PlainComponent) (old : SharedDocument) (b : Bool) → IsConsistent old → bytes_eq other source ≡ b
    → EditsAreMoved source (make_edit other op ∷ []) old (with_changed_client old other (after_edit op (old.clients other)))
moved_edit source other op old false h is =
    moved_nothing source (make_edit other op) old (with_changed_client old other (after_edit op (old.clients other))) refl
    (subst (HasSameEdits source old) (sym (unchanged_client old.clients other source (after_edit op (old.clients other)) is)) (same_edits source old))
    (ap (λ b. cond b 1 0) is)
moved_edit source other op old true h is =
    let c = after_edit op (old.clients other) in
    let from = same_source other source is in
    let here = changed_client old.clients other source c is ∙ ap (λ x. after_edit op (old.clients x)) from in
    let push = ap (λ (k : Client). length (queued_edits k)) here ∙ queue_push_of old source op (old.clients source).sent (h.clients source).sent in
    let one : count_edits source (make_edit other op ∷ []) ≡ 1 = ap (λ b. cond b 1 0) is in
    let next = ap (λ (k : Client). k.next_seq) here in
    record {
      entries = [];
      log = sym (append_nil old.log);
      sent = 0;
      seqs =
          ap (λ (k : Client). unstored_seqs old.log source k.sent) here
          ∙ sym (append-nil (unstored_seqs old.log source (old.clients source).sent));
      next = omega arith;
      edits = omega arith;
    }

-- ---- an edit is sent

moved_send : (source other : List ℕ) (op : List PlainComponent) (rest : List (List PlainComponent)) (old : SharedDocument) (b : Bool) → IsConsistent old → bytes_eq other source ≡ b
    → (old.clients other).sent ≡ None → (old.clients other).pending ≡ op ∷ rest → EditsAreMoved source (send_edit other ∷ []) old (after_sending old other op)
moved_send source other op rest old false h is none first =
    moved_nothing source (send_edit other) old (after_sending old other op) refl
    (subst (HasSameEdits source old) (sym (unchanged_client old.clients other source (after_send op (old.clients other)) is)) (same_edits source old)) refl
moved_send source other op rest old true h is none first =
    let c = after_send op (old.clients other) in
    let from = same_source other source is in
    let here = changed_client old.clients other source c is ∙ ap (λ x. after_send op (old.clients x)) from in
    let n = (old.clients source).next_seq in
    let none_here : (old.clients source).sent ≡ None = subst (λ x. (old.clients x).sent ≡ None) from none in
    let first_here : (old.clients source).pending ≡ op ∷ rest = subst (λ x. (old.clients x).pending ≡ op ∷ rest) from first in
    let new_seq = not_stored_of_seqs old.log source n (h.clients source).seqs in
    let queue = ap (λ (k : Client). length (queued_edits k)) here ∙ ap (λ ops. length (queue_after (Some (record { seq = n; base = (old.clients source).version; operation = op })) ops)) first_here in
    let old_queue : length (queued_edits (old.clients source)) ≡ suc (length rest) = ap (λ o. length (queue_after o (old.clients source).pending)) none_here ∙ ap length first_here in
    let next = ap (λ (k : Client). k.next_seq) here in
    record {
      entries = [];
      log = sym (append_nil old.log);
      sent = 1;
      seqs =
          ap (λ (k : Client). unstored_seqs old.log source k.sent) here
          ∙ ap (λ o. cond (is_some o) [] (n ∷ [])) new_seq
          ∙ sym (ap (λ o. unstored_seqs old.log source o ++ n ∷ []) none_here);
      next = omega arith;
      edits = omega arith;
    }

-- ---- a decision

is_some_append : (es : List PlainEntry) (e : PlainEntry) (s : List ℕ) (n : ℕ) (o : Option ℕ) → stored_at s n es ≡ o → has_identifier s n e ≡ false → is_some (stored_at s n (es ++ e ∷ [])) ≡ is_some (stored_at s n es)
is_some_append es e s n None is differs = ap is_some (none_more es s n e is differs) ∙ sym (ap is_some is)
is_some_append es e s n (Some i) is differs = let some = ap is_some is in stored_append es e s n some ∙ sym some

other_identifier : (s : List ℕ) (n : ℕ) (e : PlainEntry) → bytes_eq e.arrived.src s ≡ false → has_identifier s n e ≡ false
other_identifier s n e differs = elim (cases_Bool (has_identifier s n e)) [
  | inl same ↦ absurd (other_source e.arrived.src s differs (identifier_parts s n e same).0)
  | inr k ↦ k
]

unstored_append : (log : List PlainEntry) (e : PlainEntry) (source : List ℕ) (o : Option SentEdit) → bytes_eq e.arrived.src source ≡ false → unstored_seqs (log ++ e ∷ []) source o ≡ unstored_seqs log source o
unstored_append log e source None differs = refl
unstored_append log e source (Some t) differs =
    ap (λ b. cond b [] (t.seq ∷ [])) (is_some_append log e source t.seq (stored_at source t.seq log) refl (other_identifier source t.seq e differs))

-- what a decision appends
data Appends (log : List PlainEntry) (s : PlainSubmission) (new : List PlainEntry) : Type 0 where
  appends_nothing : new ≡ log → Appends log s new
  appends_entry : (e : PlainEntry) → e.arrived ≡ s → stored_at s.src s.seq log ≡ None → new ≡ log ++ e ∷ [] → Appends log s new

appends_settled : (log : List PlainEntry) (s : PlainSubmission) (now : ℕ) (r : Result PlainContent Code) → stored_at s.src s.seq log ≡ None → rebased_content log s ≡ r → Appends log s (decide log s now).log
appends_settled log s now (Err code) new is = appends_nothing (ap (λ d. d.log) (decides_settled log s now (Err code) new is))
appends_settled log s now (Ok m) new is = appends_entry (new_entry log s now m) refl new (ap (λ d. d.log) (decides_settled log s now (Ok m) new is))

decide_appends : (log : List PlainEntry) (s : PlainSubmission) (now : ℕ) (o : Option ℕ) → stored_at s.src s.seq log ≡ o → Appends log s (decide log s now).log
decide_appends log s now None is = appends_settled log s now (rebased_content log s) is refl
decide_appends log s now (Some i) is = appends_nothing (ap (λ d. d.log) (decides_repeat log s now i is))

-- the client's sent edit is stored now
seqs_of_own : (b : Bool) (n : ℕ) → b ≡ true → cond b (n ∷ []) [] ≡ n ∷ []
seqs_of_own true n is = refl
seqs_of_own false n is = cc

stored_push : (es : List PlainEntry) (e : PlainEntry) (s : List ℕ) (n : ℕ) → has_identifier s n e ≡ true → is_some (stored_at s n (es ++ e ∷ [])) ≡ true
stored_push es e s n is = stored_of_entry (es ++ e ∷ []) (length es) e [] s n (drop_at es (e ∷ []) (length es) refl) is

module _ (source : List ℕ) (m : SubmittedEdit) (via : List ℕ) (by now : ℕ) (old : SharedDocument) (h : IsConsistent old) (has : Contains old.submitted m) where
  abbrev decision : ClientStep
  decision = decide_edit m via by now

  -- an entry of another source
  moved_other_entry : (e : PlainEntry) → bytes_eq e.arrived.src source ≡ false → EditsAreMoved source (decision ∷ []) old (record { log = old.log ++ e ∷ []; clients = old.clients; submitted = old.submitted })
  moved_other_entry e other = record {
    entries = e ∷ [];
    log = refl;
    sent = 0;
    seqs =
        ap (λ b. cond b (e.arrived.seq ∷ []) [] ++ unstored_seqs (old.log ++ e ∷ []) source (old.clients source).sent) other
        ∙ unstored_append old.log e source (old.clients source).sent other
        ∙ sym (append-nil (unstored_seqs old.log source (old.clients source).sent));
    next = omega arith;
    edits = omega arith;
  }

  is_sent : (c : Client) → stored_at m.source m.sent.seq old.log ≡ None → (is_some (stored_at m.source m.sent.seq old.log) ≡ true) ⊎ (c.sent ≡ Some m.sent) → c.sent ≡ Some m.sent
  is_sent c new (inl k) = let bad : false ≡ true = sym (ap is_some new) ∙ k in cc
  is_sent c new (inr k) = k

  -- the entry of the client's sent edit
  moved_own_entry : (e : PlainEntry) → e.arrived ≡ submission_of m via by → stored_at m.source m.sent.seq old.log ≡ None → bytes_eq e.arrived.src source ≡ true
      → EditsAreMoved source (decision ∷ []) old (record { log = old.log ++ e ∷ []; clients = old.clients; submitted = old.submitted })
  moved_own_entry e is new own =
      let log = old.log ++ e ∷ [] in
      let n = m.sent.seq in
      let from : m.source ≡ source = sym (ap (λ (x : PlainSubmission). x.src) is) ∙ same_source e.arrived.src source own in
      let seq : e.arrived.seq ≡ n = ap (λ (x : PlainSubmission). x.seq) is in
      let sent : (old.clients source).sent ≡ Some m.sent = subst (λ x. (old.clients x).sent ≡ Some m.sent) from (is_sent (old.clients m.source) new (h.submitted m has).stored_or_sent) in
      let new_here : stored_at source n old.log ≡ None = subst (λ x. stored_at x n old.log ≡ None) from new in
      let identifier : has_identifier source n e ≡ true = and_from (nat_eq e.arrived.seq n) (bytes_eq e.arrived.src source) (eq-eqb e.arrived.seq n seq) own in
      let stored = stored_push old.log e source n identifier in
      record {
        entries = e ∷ [];
        log = refl;
        sent = 0;
        seqs =
            ap (λ l. l ++ unstored_seqs log source (old.clients source).sent) (seqs_of_own (bytes_eq e.arrived.src source) e.arrived.seq own)
            ∙ ap (λ o. e.arrived.seq ∷ unstored_seqs log source o) sent
            ∙ ap (λ b. e.arrived.seq ∷ cond b [] (n ∷ [])) stored
            ∙ ap (λ i. i ∷ []) seq
            ∙ sym (ap (λ o. cond (is_some o) [] (n ∷ []) ++ []) new_here)
            ∙ sym (ap (λ o. unstored_seqs old.log source o ++ []) sent);
        next = omega arith;
        edits = omega arith;
      }

  moved_entry : (e : PlainEntry) (b : Bool) → e.arrived ≡ submission_of m via by → stored_at m.source m.sent.seq old.log ≡ None → bytes_eq e.arrived.src source ≡ b
      → EditsAreMoved source (decision ∷ []) old (record { log = old.log ++ e ∷ []; clients = old.clients; submitted = old.submitted })
  moved_entry e false is new other = moved_other_entry e other
  moved_entry e true is new own = moved_own_entry e is new own

  moved_appended : (log : List PlainEntry) → Appends old.log (submission_of m via by) log → EditsAreMoved source (decision ∷ []) old (record { log = log; clients = old.clients; submitted = old.submitted })
  moved_appended log (appends_nothing same) = moved_nothing source decision old (record { log = log; clients = old.clients; submitted = old.submitted }) same (same_edits source old) refl
  moved_appended log (appends_entry e is new same) =
      subst (λ l. EditsAreMoved source (decision ∷ []) old (record { log = l; clients = old.clients; submitted = old.submitted })) (sym same)
      (moved_entry e (bytes_eq e.arrived.src source) is new refl)

  moved_decision : EditsAreMoved source (decision ∷ []) old (after_decision old (submission_of m via by) now)
  moved_decision =
      moved_appended (decide old.log (submission_of m via by) now).log
      (decide_appends old.log (submission_of m via by) now (stored_at m.source m.sent.seq old.log) refl)

-- ---- an entry

queue_length : (o : Option SentEdit) (ps qs : List (List PlainComponent)) → length ps ≡ length qs → length (queue_after o ps) ≡ length (queue_after o qs)
queue_length None ps qs h = h
queue_length (Some t) [] [] h = refl
queue_length (Some t) [] (q ∷ qs) h = omega arith
queue_length (Some t) (p ∷ ps) [] h = omega arith
queue_length (Some t) (p ∷ ps) (q ∷ qs) h = omega arith

crossed_length : (ops : List (List PlainComponent)) (received : List PlainComponent) (y : PendingCrossing) → cross_pending ops received ≡ Some y → length y.pending ≡ length ops
crossed_length [] received y h = ap (λ (z : PendingCrossing). length z.pending) (sym (same_some _ y h))
crossed_length (op ∷ ops) received y h =
    let x = some_step (cross_ops op received) (λ x. and_then (cross_pending ops x.right) (λ z. Some (record { pending = x.left ∷ z.pending; received = z.received }))) y h in
    let z = some_step (cross_pending ops x.0.right) (λ z. Some (record { pending = x.0.left ∷ z.pending; received = z.received })) y x.2 in
    ap (λ (w : PendingCrossing). length w.pending) (sym (same_some _ y z.2)) ∙ ap suc (crossed_length ops x.0.right z.0 z.1)

-- the client after another one's entry
record KeepsEdits (old c : Client) : Type 0 where
  pub sent : c.sent ≡ old.sent
  pub next : c.next_seq ≡ old.next_seq
  pub pending : length c.pending ≡ length old.pending

keeps_edits : (m : PlainContent) (old c : Client) → after_content old m ≡ Some c → KeepsEdits old c
keeps_edits (create v) old c h = cc
keeps_edits delete old c h = cc
keeps_edits (edit op) old c h =
    let d = some_step (apply op old.document) (λ d. and_then (cross_pending old.pending op) (λ x. Some (record { version = old.version + 1; document = d; pending = x.pending; sent = old.sent; next_seq = old.next_seq }))) c h in
    let y = some_step (cross_pending old.pending op) (λ x. Some (record { version = old.version + 1; document = d.0; pending = x.pending; sent = old.sent; next_seq = old.next_seq })) c d.2 in
    let is = same_some _ c y.2 in
    record {
      sent = ap (λ (k : Client). k.sent) (sym is);
      next = ap (λ (k : Client). k.next_seq) (sym is);
      pending = ap (λ (k : Client). length k.pending) (sym is) ∙ crossed_length old.pending op y.0 y.1;
    }

-- the client after its acknowledgement
record Acknowledges (old c : Client) (rest : List (List PlainComponent)) : Type 0 where
  pub sent : c.sent ≡ None
  pub next : c.next_seq ≡ old.next_seq
  pub pending : c.pending ≡ rest

acknowledges : (old c : Client) (ops : List (List PlainComponent)) → after_acknowledgement old ops ≡ Some c → (op : List PlainComponent) × (rest : List (List PlainComponent)) × (ops ≡ op ∷ rest) × Acknowledges old c rest
acknowledges old c [] h = cc
acknowledges old c (op ∷ ops) h =
    let d = map_step (apply op old.document) (λ d. record { version = old.version + 1; document = d; pending = ops; sent = None; next_seq = old.next_seq }) c h in
    let is = d.2 in
    (op, ops, refl, record { sent = ap (λ (k : Client). k.sent) (sym is); next = ap (λ (k : Client). k.next_seq) (sym is); pending = ap (λ (k : Client). k.pending) (sym is) })

module _ (source : List ℕ) (old : SharedDocument) (e : PlainEntry) (later : List PlainEntry) (is : drop (old.clients source).version old.log ≡ e ∷ later) (c : Client) where
  same_after_acknowledgement : (o : Option SentEdit) → (old.clients source).sent ≡ o → is_sent_edit source o e ≡ true → after_acknowledgement (old.clients source) (old.clients source).pending ≡ Some c
      → HasSameEdits source old c
  same_after_acknowledgement None sent own k = cc
  same_after_acknowledgement (Some t) sent own k =
      let a = acknowledges (old.clients source) c (old.clients source).pending k in
      let stored = stored_of_entry old.log (old.clients source).version e later source t.seq is own in (
        ap (unstored_seqs old.log source) a.3.sent
            ∙ sym (ap (λ b. cond b [] (t.seq ∷ [])) stored)
            ∙ sym (ap (unstored_seqs old.log source) sent),
        a.3.next,
        ap (λ o. length (queue_after o c.pending)) a.3.sent
            ∙ ap length a.3.pending
            ∙ sym (ap (λ ops. length (queue_after (Some t) ops)) a.2)
            ∙ sym (ap (λ o. length (queue_after o (old.clients source).pending)) sent),
      )

  pub same_after_entry : (b : Bool) → is_sent_edit source (old.clients source).sent e ≡ b
      → cond b (after_acknowledgement (old.clients source) (old.clients source).pending) (after_content (old.clients source) e.content) ≡ Some c → HasSameEdits source old c
  same_after_entry true own k = same_after_acknowledgement (old.clients source).sent refl own k
  same_after_entry false other k =
      let a = keeps_edits e.content (old.clients source) c k in (
        ap (unstored_seqs old.log source) a.sent,
        a.next,
        ap (λ o. length (queue_after o c.pending)) a.sent ∙ queue_length (old.clients source).sent c.pending (old.clients source).pending a.pending,
      )

moved_entry_processed : (source other : List ℕ) (old : SharedDocument) (e : PlainEntry) (later : List PlainEntry) (c : Client) (b : Bool) → drop (old.clients other).version old.log ≡ e ∷ later
    → after_entry other e (old.clients other) ≡ Some c → bytes_eq other source ≡ b → EditsAreMoved source (process_entry other ∷ []) old (with_changed_client old other c)
moved_entry_processed source other old e later c false is k differs =
    moved_nothing source (process_entry other) old (with_changed_client old other c) refl
    (subst (HasSameEdits source old) (sym (unchanged_client old.clients other source c differs)) (same_edits source old)) refl
moved_entry_processed source other old e later c true is k own =
    let same = same_after_entry other old e later is c (is_sent_edit other (old.clients other).sent e) refl k in
    let from = same_source other source own in
    moved_nothing source (process_entry other) old (with_changed_client old other c) refl
    (subst (HasSameEdits source old) (sym (changed_client old.clients other source c own)) (subst (λ x. HasSameEdits x old c) from same)) refl

-- ---- steps and runs

moved_step : (source : List ℕ) (step : ClientStep) (old new : SharedDocument) → IsConsistent old → IsClientStep step old new → EditsAreMoved source (step ∷ []) old new
moved_step source (make_edit other op) old new h step =
    subst (EditsAreMoved source (make_edit other op ∷ []) old) (sym step) (moved_edit source other op old (bytes_eq other source) h refl)
moved_step source (send_edit other) old new h step =
    subst (EditsAreMoved source (send_edit other ∷ []) old) (sym step.new_is)
    (moved_send source other step.operation step.rest old (bytes_eq other source) h refl step.none_sent step.first)
moved_step source (decide_edit m via by now) old new h step =
    subst (EditsAreMoved source (decide_edit m via by now ∷ []) old) (sym step.1) (moved_decision source m via by now old h step.0)
moved_step source (process_entry other) old new h step =
    subst (EditsAreMoved source (process_entry other ∷ []) old) (sym step.new_is)
    (moved_entry_processed source other old step.entry step.later step.client (bytes_eq other source) step.entry_is step.client_is refl)

moved_none : (source : List ℕ) (old : SharedDocument) → EditsAreMoved source [] old old
moved_none source old = record {
  entries = [];
  log = sym (append_nil old.log);
  sent = 0;
  seqs = sym (append-nil (unstored_seqs old.log source (old.clients source).sent));
  next = omega arith;
  edits = omega arith;
}

moved_run : (source : List ℕ) (steps : List ClientStep) (old new : SharedDocument) → IsConsistent old → IsClientRun steps old new → EditsAreMoved source steps old new
moved_run source [] old new h run = subst (EditsAreMoved source [] old) (sym run) (moved_none source old)
moved_run source (step ∷ steps) old new h run =
    moved_then source step steps old run.0 new (moved_step source step old run.0 h run.1)
    (moved_run source steps run.0 new (consistent_step step old run.0 h run.1) run.2)

pub all_edits_are_stored : AllEditsAreStored
all_edits_are_stored steps start s source r =
    let m = moved_run source steps start s (consistent_start start r.starts) r.run in
    let n = r.starts.clients source in
    let edits = m.edits in
    let none_queued : length (queued_edits (start.clients source)) ≡ 0 =
    ap (λ o. length (queue_after o (start.clients source).pending)) n.sent ∙ ap length n.pending in
    record {
      entries = m.entries;
      log = m.log;
      sent = m.sent;
      seqs = m.seqs ∙ ap (λ o. unstored_seqs start.log source o ++ consecutive_seqs (start.clients source).next_seq m.sent) n.sent;
      edits = omega arith;
    }

-- ---- no entry is stored twice

new_identifier : (log : List PlainEntry) (e : PlainEntry) (o : Option ℕ) → stored_at e.arrived.src e.arrived.seq log ≡ o → (decide log e.arrived e.moment).log ≡ log ++ e ∷ [] → is_none (stored_at e.arrived.src e.arrived.seq log) ≡ true
new_identifier log e None is h = ap is_none is
new_identifier log e (Some i) is h = absurd (append_changes log e (sym (ap (λ d. d.log) (decides_repeat log e.arrived e.moment i is)) ∙ h))

pub identifiers_new : (before es : List PlainEntry) → IsMadeFrom before es → are_identifiers_new before es ≡ true
identifiers_new before [] h = refl
identifiers_new before (e ∷ es) h =
    and_from (is_none (stored_at e.arrived.src e.arrived.seq before)) (are_identifiers_new (before ++ e ∷ []) es)
    (new_identifier before e (stored_at e.arrived.src e.arrived.seq before) refl h.0) (identifiers_new (before ++ e ∷ []) es h.1)

pub none_stored_twice : NoneStoredTwice
none_stored_twice steps start s r = identifiers_new [] s.log (runs_are_consistent steps start s r).log_is_made
