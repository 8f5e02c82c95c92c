-- No entry is missing: what a client has received, and what its channel has, after each change of both.
use Rattle.std.proofs.Common.{◌≡◌, ℕ, zero, suc, ◌<◌, ◌≤◌, List, [], ◌∷◌, ◌++◌, map, length, slice_get, nat_eq, nat_lt, Bool, true, false, cond, Option, Some, None, All, Contains, ◌⊎◌, inl, inr, refl, sym, ap, ◌∙◌, subst, arith, eq-eqb, ltb-true, length-append}
use Rattle.std.proofs.lemmas.List.Elements.{Contains-append_left}
use Rattle.std.specs.Prelude.{⊤}
use Rattle.sdb_oplog.specs.Plain.{PlainEntry}
use Rattle.sdb_oplog.specs.Snap.{stored_at}
use Rattle.sdb_oplog.specs.Decide.{IsMade}
use Rattle.sdb_client_model.specs.Client.{SentEdit, Client, is_sent_edit}
use Rattle.sdb_client_model.specs.Messages.{ClientMessage, ServerMessage, op_message, caught_up, acknowledged, failed, ClientConnection, ReceivedEntries, with_early, with_ack, is_seq_of_sent, after_message, is_own_entry, with_answers}
use Rattle.sdb_client_model.specs.MessageMachine.{UnreadSubmission, MessageState, source_client}
use Rattle.sdb_client_model.specs.MessageLaws.{IsReceivedOrSent, is_early, is_acknowledged, is_entry_sent, is_acknowledgement_sent, IsOfLog, AreOfLog}
use Rattle.sdb_client_model.proofs.PendingLemmas.{same_some}
use Rattle.sdb_client_model.proofs.MessageClientSteps.{none_is_some, message_received}

-- ---- definitions

pub record IsComplete (source : List ℕ) (log : List PlainEntry) (c : Client) (r : ReceivedEntries)
    (k : ClientConnection) (position : ℕ) : Type 0 where
  pub reached : position ≤ length log
  -- each entry that the queue has read
  pub read : (i : ℕ) → c.version ≤ i → i < position → IsReceivedOrSent c r k i
  -- each own entry of the session, which the queue will leave out
  pub own : (i : ℕ) (e : PlainEntry) → slice_get log i ≡ Some e → c.version ≤ i
      → is_own_entry k.by source k.via e ≡ true → IsReceivedOrSent c r k i

abbrev pub IsCompleteAt : List ℕ → List PlainEntry → Client → ReceivedEntries → ClientConnection → Option ℕ → Type 0
IsCompleteAt source log c r k None = ⊤
IsCompleteAt source log c r k (Some position) = IsComplete source log c r k position

-- a submission of the source, from an ended connection, has an earlier pass number
abbrev pub IsFromEarlier : List ℕ → ℕ → UnreadSubmission → Type 0
IsFromEarlier source by m = m.edit.source ≡ source → m.by < by

pub record ConnectionIsComplete (source : List ℕ) (log : List PlainEntry) (unread : List UnreadSubmission)
    (next_pass : ℕ) (c : Client) (r : ReceivedEntries) (k : ClientConnection) : Type 0 where
  pub pass : k.by < next_pass
  pub earlier : All (IsFromEarlier source k.by) unread
  pub entries : IsCompleteAt source log c r k k.queue

abbrev pub OpenIsComplete : List ℕ → List PlainEntry → List UnreadSubmission → ℕ → Client → ReceivedEntries
    → Option ClientConnection → Type 0
OpenIsComplete source log unread next_pass c r None = ⊤
OpenIsComplete source log unread next_pass c r (Some k) = ConnectionIsComplete source log unread next_pass c r k

pub record AreComplete (s : MessageState) : Type 0 where
  pub clients :
      (source : List ℕ)
      → OpenIsComplete source s.shared.log s.unread s.next_pass (source_client s source) (s.received source)
      (s.connections source)
  pub passes : All (λ (m : UnreadSubmission). m.by < s.next_pass) s.unread

-- ---- elements

pub contains_first : {A : Type 0} (x y : A) (ys : List A) → Contains (y ∷ ys) x → (y ≡ x) ⊎ Contains ys x
contains_first x y ys (zero, below, is) = inl is
contains_first x y ys (suc k, below, is) = let less : k < length ys = omega arith in inr (k, less, is)

pub contains_map : {A B : Type 0} (f : A → B) (xs : List A) (x : A) → Contains xs x → Contains (map f xs) (f x)
contains_map f [] x (k, below, is) = absurd (omega arith)
contains_map f (y ∷ xs) x (zero, below, is) = (0, omega arith, ap f is)
contains_map f (y ∷ xs) x (suc k, below, is) =
    let less : k < length xs = omega arith in
    let r = contains_map f xs x (k, less, is) in
    let at = r.1 in
    (suc r.0, omega arith, r.2)

-- ---- what is kept

-- all are received or sent, after a change that keeps each of them
pub complete_after : (source : List ℕ) (log : List PlainEntry) (c d : Client) (r q : ReceivedEntries)
    (k l : ClientConnection) (o : Option ℕ) → c.version ≤ d.version → l.by ≡ k.by → l.via ≡ k.via
    → ((i : ℕ) → d.version ≤ i → IsReceivedOrSent c r k i → IsReceivedOrSent d q l i) → IsCompleteAt source log c r k o
    → IsCompleteAt source log d q l o
complete_after source log c d r q k l None later by via keep h = tt
complete_after source log c d r q k l (Some position) later by via keep h = record {
  reached = h.reached;
  read = λ i low below. keep i low (h.read i (omega arith) below);
  own = λ i e at low own.
      keep i low
      (h.own i e at (omega arith)
      (subst (λ a. is_own_entry a source k.via e ≡ true) by
      (subst (λ b. is_own_entry l.by source b e ≡ true) via own)));
}

-- the log is longer, and has no other own entry
pub complete_longer : (source : List ℕ) (log es : List PlainEntry) (c : Client) (r : ReceivedEntries)
    (k : ClientConnection) (o : Option ℕ)
    → ((i : ℕ) (e : PlainEntry) → slice_get (log ++ es) i ≡ Some e → is_own_entry k.by source k.via e ≡ true
    → (slice_get log i ≡ Some e) ⊎ IsReceivedOrSent c r k i)
    → IsCompleteAt source log c r k o → IsCompleteAt source (log ++ es) c r k o
complete_longer source log es c r k None old h = tt
complete_longer source log es c r k (Some position) old h =
    let reached = h.reached in
    record {
      reached = omega (arith, reached, length-append log es);
      read = h.read;
      own = λ i e at low own. own_at i e low own (old i e at own);
    }
  where
    own_at : (i : ℕ) (e : PlainEntry) → c.version ≤ i → is_own_entry k.by source k.via e ≡ true
        → (slice_get log i ≡ Some e) ⊎ IsReceivedOrSent c r k i → IsReceivedOrSent c r k i
    own_at i e low own (inl at) = h.own i e at low own
    own_at i e low own (inr done) = done

-- more messages to the client
pub more_sent : (c : Client) (r : ReceivedEntries) (k : ClientConnection) (rest : List ClientMessage) (queue : Option ℕ)
    (answers : List ServerMessage) (i : ℕ) → IsReceivedOrSent c r k i
    → IsReceivedOrSent c r (with_answers k rest queue answers) i
more_sent c r k rest queue answers i (is_early e is) = is_early e is
more_sent c r k rest queue answers i (is_acknowledged is) = is_acknowledged is
more_sent c r k rest queue answers i (is_entry_sent e has at) = is_entry_sent e
    (Contains-append_left k.to_client answers (op_message e) has) at
more_sent c r k rest queue answers i (is_acknowledgement_sent t is has) =
    is_acknowledgement_sent t is (Contains-append_left k.to_client answers (acknowledged t.seq i) has)

-- a message is received, at the version i or an earlier one
module _ (source : List ℕ) (log : List PlainEntry) (c : Client) (r : ReceivedEntries) (h : AreOfLog source log c.sent r)
    (i : ℕ) (low : c.version ≤ i) where
  early_kept : (b : Bool) (e f : PlainEntry) (o : Option PlainEntry) → o ≡ Some f → (g : PlainEntry)
      × (cond b (Some e) o ≡ Some g)
  early_kept true e f o is = (e, refl)
  early_kept false e f o is = (f, is)

  early_after : (m : ServerMessage) (f : PlainEntry) → r.early i ≡ Some f → (g : PlainEntry)
      × ((after_message source c m r).early i ≡ Some g)
  early_after (op_message e) f is = after_entry_at (nat_lt e.version c.version) (is_sent_edit source c.sent e)
    where
      after_entry_at : (old own : Bool) → (g : PlainEntry)
          × ((cond old r (cond own (with_ack (Some e.version) r) (with_early e.version (Some e) r))).early i ≡ Some g)
      after_entry_at true own = (f, is)
      after_entry_at false true = (f, is)
      after_entry_at false false = early_kept (nat_eq i e.version) e f (r.early i) is
  early_after caught_up f is = (f, is)
  early_after (acknowledged seq v) f is = after_acknowledgement_at (is_seq_of_sent c.sent seq)
    where
      after_acknowledgement_at : (b : Bool) → (g : PlainEntry) × ((cond b (with_ack (Some v) r) r).early i ≡ Some g)
      after_acknowledgement_at true = (f, is)
      after_acknowledgement_at false = (f, is)
  early_after (failed o) f is = (f, is)

  -- `ack` is the version of the sent edit, before and after the message
  module _ (made : IsMade log) (m : ServerMessage) (at_log : IsOfLog source log m) where
    abbrev new : ReceivedEntries
    new = after_message source c m r

    same_ack : (w : ℕ) (t u : SentEdit) → c.sent ≡ Some t → c.sent ≡ Some u → stored_at source t.seq log ≡ Some i
        → stored_at source u.seq log ≡ Some w → w ≡ i
    same_ack w t u is_t is_u at_t at_u =
        let same : u ≡ t = same_some u t (sym is_u ∙ is_t) in
        same_some w i (sym at_u ∙ ap (λ (x : SentEdit). stored_at source x.seq log) same ∙ at_t)

    ack_kept : (o : Option ℕ) → new.ack ≡ o → r.ack ≡ Some i → (o ≡ r.ack) ⊎ ((w : ℕ) × (o ≡ Some w)) → new.ack ≡ Some i
    ack_kept o is old (inl same) = is ∙ same ∙ old
    ack_kept o is old (inr some) =
        let a = h.ack i old in
        let b = (message_received source log made c r h m at_log).ack some.0 (is ∙ some.1) in
        is ∙ some.1 ∙ ap (λ v. Some v) (same_ack some.0 a.0 b.0 a.1 b.1 a.2 b.2)

  ack_cases : (m : ServerMessage) → ((after_message source c m r).ack ≡ r.ack)
      ⊎ ((w : ℕ) × ((after_message source c m r).ack ≡ Some w))
  ack_cases (op_message e) = after_entry_cases (nat_lt e.version c.version) (is_sent_edit source c.sent e)
    where
      after_entry_cases : (old own : Bool)
          → ((cond old r (cond own (with_ack (Some e.version) r) (with_early e.version (Some e) r))).ack ≡ r.ack)
          ⊎ ((w : ℕ) × ((cond old r (cond own (with_ack (Some e.version) r)
          (with_early e.version (Some e) r))).ack ≡ Some w))
      after_entry_cases true own = inl refl
      after_entry_cases false true = inr (e.version, refl)
      after_entry_cases false false = inl refl
  ack_cases caught_up = inl refl
  ack_cases (acknowledged seq v) = after_acknowledgement_cases (is_seq_of_sent c.sent seq)
    where
      after_acknowledgement_cases : (b : Bool) → ((cond b (with_ack (Some v) r) r).ack ≡ r.ack)
          ⊎ ((w : ℕ) × ((cond b (with_ack (Some v) r) r).ack ≡ Some w))
      after_acknowledgement_cases true = inr (v, refl)
      after_acknowledgement_cases false = inl refl
  ack_cases (failed o) = inl refl

  -- the entry of version i is received
  abbrev IsHeld : ReceivedEntries → Type 0
  IsHeld q = ((g : PlainEntry) × (q.early i ≡ Some g)) ⊎ (q.ack ≡ Some i)

  entry_held : (old own : Bool) (e : PlainEntry) → e.version ≡ i → nat_lt e.version c.version ≡ old
      → IsHeld (cond old r (cond own (with_ack (Some e.version) r) (with_early e.version (Some e) r)))
  entry_held true own e at is = absurd (let less = ltb-true e.version c.version is in omega arith)
  entry_held false true e at is = inr (ap (λ v. Some v) at)
  entry_held false false e at is = inl (e, ap (λ b. cond b (Some e) (r.early i)) (eq-eqb i e.version (sym at)))

  acknowledgement_held : (t : SentEdit) (o : Option SentEdit) → o ≡ Some t
      → IsHeld (cond (is_seq_of_sent o t.seq) (with_ack (Some i) r) r)
  acknowledgement_held t None is = none_is_some t is
  acknowledgement_held t (Some u) is =
      let same : nat_eq u.seq t.seq ≡ true = eq-eqb u.seq t.seq (ap (λ (x : SentEdit). x.seq) (same_some u t is)) in
      inr (ap (λ b. (cond b (with_ack (Some i) r) r).ack) same)

  module _ (k : ClientConnection) (m : ServerMessage) (rest : List ServerMessage) (first : k.to_client ≡ m ∷ rest)
      (is_caught_up : Bool) where
    abbrev read : ClientConnection
    read = record k { to_client = rest; is_caught_up = is_caught_up }

    held : (q : ReceivedEntries) → IsHeld q → IsReceivedOrSent c q read i
    held q (inl g) = is_early g.0 g.1
    held q (inr ack) = is_acknowledged ack

    entry_read : (e : PlainEntry) → e.version ≡ i → (m ≡ op_message e) ⊎ Contains rest (op_message e)
        → IsReceivedOrSent c (after_message source c m r) read i
    entry_read e at (inl this) =
        subst (λ x. IsReceivedOrSent c (after_message source c x r) read i) (sym this)
        (held (after_message source c (op_message e) r) (entry_held (nat_lt e.version c.version)
        (is_sent_edit source c.sent e) e at refl))
    entry_read e at (inr later) = is_entry_sent e later at

    acknowledgement_read : (t : SentEdit) → c.sent ≡ Some t → (m ≡ acknowledged t.seq i)
        ⊎ Contains rest (acknowledged t.seq i) → IsReceivedOrSent c (after_message source c m r) read i
    acknowledgement_read t is (inl this) =
        subst (λ x. IsReceivedOrSent c (after_message source c x r) read i) (sym this)
        (held (after_message source c (acknowledged t.seq i) r) (acknowledgement_held t c.sent is))
    acknowledgement_read t is (inr later) = is_acknowledgement_sent t is later

    pub message_read : IsMade log → IsOfLog source log m → IsReceivedOrSent c r k i
        → IsReceivedOrSent c (after_message source c m r) read i
    message_read made at_log (is_early e is) = let g = early_after m e is in is_early g.0 g.1
    message_read made at_log (is_acknowledged is) = is_acknowledged
        (ack_kept made m at_log (after_message source c m r).ack refl is (ack_cases m))
    message_read made at_log (is_entry_sent e has at) =
        entry_read e at (contains_first (op_message e) m rest (subst (λ l. Contains l (op_message e)) first has))
    message_read made at_log (is_acknowledgement_sent t is has) =
        acknowledgement_read t is (contains_first (acknowledged t.seq i) m rest
        (subst (λ l. Contains l (acknowledged t.seq i)) first has))
