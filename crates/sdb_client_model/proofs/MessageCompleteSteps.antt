-- Each step leaves no entry missing.
use Rattle.std.proofs.Common.{◌≡◌, ℕ, zero, suc, ◌+◌, ◌<◌, ◌≤◌, List, [], ◌∷◌, ◌++◌, map, drop, length, slice_get, nat_eq, ◌&&◌, ◌||◌, Bool, true, false, cond, Option, Some, None, All, Contains, ◌⊎◌, inl, inr, refl, sym, ap, ◌∙◌, subst, arith, bytes_eq, eqb-true, ne_eqb}
use Rattle.std.proofs.lemmas.Bool.{and_parts}
use Rattle.std.proofs.lemmas.List.Elements.{All-nil, All-cons, All-head, All-append, All-contains, All-weaker, Contains-append_left, Contains-append_right, Contains-push}
use Rattle.sdb_component.specs.Plain.{PlainComponent}
use Rattle.sdb_oplog.specs.Plain.{PlainContent, PlainSubmission, PlainEntry}
use Rattle.sdb_oplog.specs.Snap.{stored_at}
use Rattle.sdb_oplog.specs.Decide.{Decision, decide, stored, repeated, refused, missed_entries, new_entry}
use Rattle.sdb_client_model.specs.Client.{SentEdit, Client, after_edit, next_sent, after_send, after_acknowledgement, after_content}
use Rattle.sdb_client_model.specs.Machine.{SubmittedEdit, with_changed_client, after_sending, submission_of}
use Rattle.sdb_client_model.specs.Invariant.{IsConsistent}
use Rattle.sdb_client_model.specs.Messages.{ClientMessage, subscribe, submit, ServerMessage, op_message, caught_up, acknowledged, failed, ClientConnection, ReceivedEntries, with_early, with_ack, after_message, is_list_end, subscribe_answers, submit_answers, seq_of_message, is_own_entry, subscription_messages, new_connection, with_sent_message, with_answers}
use Rattle.sdb_client_model.specs.MessageMachine.{UnreadSubmission, MessageState, with_value, with_connection, with_received, with_shared, source_client, after_receiving, after_connecting, after_handling, after_refusing, after_handling_unread, unread_submissions, after_end}
use Rattle.sdb_client_model.specs.MessageLaws.{IsReceivedOrSent, is_early, is_acknowledged, is_entry_sent, is_acknowledgement_sent, IsOfLog}
use Rattle.sdb_client_model.proofs.PendingLemmas.{same_some}
use Rattle.sdb_client_model.proofs.AppendLemmas.{same_source, other_source}
use Rattle.sdb_client_model.proofs.DecisionLemmas.{sent_by_client}
use Rattle.sdb_client_model.proofs.MessageLogs.{slice_get_below, slice_get_of_below, DecisionCase, is_repeated, is_refused, is_stored, decision_case, version_of_entry, contains_later}
use Rattle.sdb_client_model.proofs.MessageInvariant.{IsFromClient, AreMessagesOfLog}
use Rattle.sdb_client_model.proofs.MessageClientSteps.{none_is_some, follows, AdvancesTo, advances_own, advances_early}
use Rattle.sdb_client_model.proofs.MessageCompleteness.{IsComplete, IsCompleteAt, IsFromEarlier, ConnectionIsComplete, OpenIsComplete, AreComplete, contains_map, complete_after, complete_longer, more_sent, message_read}

-- ---- values at one source and at the others

at_two_sources_by : {A B : Type 0} (P : List ℕ → A → B → Type 0) (source other : List ℕ) (b : Bool) (a x : A) (c y : B)
    → bytes_eq source other ≡ b → P source x y → ((source ≡ other → ⊥) → P other a c)
    → P other (cond b x a) (cond b y c)
at_two_sources_by P source other true a x c y is h k = subst (λ o. P o x y) (same_source source other is) h
at_two_sources_by P source other false a x c y is h k = k (other_source source other is)

at_two_sources : {A B : Type 0} (P : List ℕ → A → B → Type 0) (f : List ℕ → A) (g : List ℕ → B) (source : List ℕ)
    (x : A) (y : B) → P source x y
    → ((other : List ℕ) → (source ≡ other → ⊥) → P other (f other) (g other)) → (other : List ℕ)
    → P other (with_value f source x other) (with_value g source y other)
at_two_sources P f g source x y h k other = at_two_sources_by P source other (bytes_eq source other) (f other) x
    (g other) y refl h (k other)

at_sources : {A : Type 0} (P : List ℕ → A → Type 0) (f : List ℕ → A) (source : List ℕ) (x : A) → P source x
    → ((other : List ℕ) → (source ≡ other → ⊥) → P other (f other))
    → (other : List ℕ) → P other (with_value f source x other)
at_sources P f source x h k other = at_two_sources (λ o a b. P o a) f f source x x h k other

-- ---- lemmas

same_sent_kept : (c d : Client) (r : ReceivedEntries) (k : ClientConnection) (i : ℕ) → d.sent ≡ c.sent
    → IsReceivedOrSent c r k i → IsReceivedOrSent d r k i
same_sent_kept c d r k i same (is_early e is) = is_early e is
same_sent_kept c d r k i same (is_acknowledged is) = is_acknowledged is
same_sent_kept c d r k i same (is_entry_sent e has at) = is_entry_sent e has at
same_sent_kept c d r k i same (is_acknowledgement_sent t is has) = is_acknowledgement_sent t (same ∙ is) has

open_after : (source : List ℕ) (log : List PlainEntry) (unread : List UnreadSubmission) (next_pass : ℕ) (c d : Client)
    (r q : ReceivedEntries) (o : Option ClientConnection) → c.version ≤ d.version
    → ((k : ClientConnection) → o ≡ Some k → (i : ℕ) → d.version ≤ i → IsReceivedOrSent c r k i
    → IsReceivedOrSent d q k i) → OpenIsComplete source log unread next_pass c r o
    → OpenIsComplete source log unread next_pass d q o
open_after source log unread next_pass c d r q None later keep h = tt
open_after source log unread next_pass c d r q (Some k) later keep h = record {
  pass = h.pass;
  earlier = h.earlier;
  entries = complete_after source log c d r q k k k.queue later refl refl (keep k refl) h.entries;
}

own_parts : (by : ℕ) (source via : List ℕ) (e : PlainEntry) → is_own_entry by source via e ≡ true → (e.arrived.by ≡ by)
    × (e.arrived.src ≡ source)
own_parts by source via e own =
    let p = and_parts (nat_eq e.arrived.by by) (bytes_eq e.arrived.src source && bytes_eq e.arrived.via via) own in
    let q = and_parts (bytes_eq e.arrived.src source) (bytes_eq e.arrived.via via) p.1 in
    (eqb-true e.arrived.by by p.0, same_source e.arrived.src source q.0)

pub slice_get_new : (log : List PlainEntry) (e f : PlainEntry) (i : ℕ) → slice_get (log ++ e ∷ []) i ≡ Some f
    → (slice_get log i ≡ Some f) ⊎ ((i ≡ length log) × (e ≡ f))
slice_get_new [] e f zero is = inr (refl, same_some e f is)
slice_get_new [] e f (suc i) is = cc
slice_get_new (x ∷ log) e f zero is = inl is
slice_get_new (x ∷ log) e f (suc i) is = next_position (slice_get_new log e f i is)
  where
    next_position : (slice_get log i ≡ Some f) ⊎ ((i ≡ length log) × (e ≡ f)) → (slice_get log i ≡ Some f)
        ⊎ ((suc i ≡ length (x ∷ log)) × (e ≡ f))
    next_position (inl at) = inl at
    next_position (inr last) = let same = last.0 in inr (omega arith, last.1)

-- a new entry that isn't the connection's own
not_own_longer : (source : List ℕ) (log : List PlainEntry) (e : PlainEntry) (c : Client) (r : ReceivedEntries)
    (k : ClientConnection) (o : Option ℕ) → (is_own_entry k.by source k.via e ≡ true → ⊥)
    → IsCompleteAt source log c r k o → IsCompleteAt source (log ++ e ∷ []) c r k o
not_own_longer source log e c r k o other h = complete_longer source log (e ∷ []) c r k o
    (λ i f at own. old f own (slice_get_new log e f i at)) h
  where
    old : {i : ℕ} (f : PlainEntry) → is_own_entry k.by source k.via f ≡ true → (slice_get log i ≡ Some f)
        ⊎ ((i ≡ length log) × (e ≡ f)) → (slice_get log i ≡ Some f) ⊎ IsReceivedOrSent c r k i
    old f own (inl at) = inl at
    old f own (inr last) = absurd (other (subst (λ x. is_own_entry k.by source k.via x ≡ true) (sym last.1) own))

open_not_own : (source : List ℕ) (log : List PlainEntry) (unread : List UnreadSubmission) (next_pass : ℕ)
    (e : PlainEntry) (c : Client) (r : ReceivedEntries) (o : Option ClientConnection)
    → ((k : ClientConnection) → o ≡ Some k → is_own_entry k.by source k.via e ≡ true → ⊥)
    → OpenIsComplete source log unread next_pass c r o
    → OpenIsComplete source (log ++ e ∷ []) unread next_pass c r o
open_not_own source log unread next_pass e c r None other h = tt
open_not_own source log unread next_pass e c r (Some k) other h =
    record {
      pass = h.pass;
      earlier = h.earlier;
      entries = not_own_longer source log e c r k k.queue (other k refl)
          h.entries;
    }

-- a decision whose entry isn't the connection's own
open_decided : (source : List ℕ) (log : List PlainEntry) (unread : List UnreadSubmission) (next_pass : ℕ)
    (submission : PlainSubmission) (now : ℕ) (c : Client) (r : ReceivedEntries)
    (o : Option ClientConnection) → DecisionCase log submission now
    → ((k : ClientConnection) → o ≡ Some k → (submission.by ≡ k.by) × (submission.src ≡ source) → ⊥)
    → OpenIsComplete source log unread next_pass c r o
    → OpenIsComplete source (decide log submission now).log unread next_pass c r o
open_decided source log unread next_pass submission now c r o (is_repeated i at is) other h =
    subst (λ (d : Decision). OpenIsComplete source d.log unread next_pass c r o) (sym is) h
open_decided source log unread next_pass submission now c r o (is_refused code is) other h =
    subst (λ (d : Decision). OpenIsComplete source d.log unread next_pass c r o) (sym is) h
open_decided source log unread next_pass submission now c r o (is_stored m new is) other h =
    subst (λ (d : Decision). OpenIsComplete source d.log unread next_pass c r o) (sym is)
    (open_not_own source log unread next_pass (new_entry log submission now m) c r o
    (λ k at own. other k at (own_parts k.by source k.via (new_entry log submission now m) own)) h)

open_passes : (source : List ℕ) (log : List PlainEntry) (us vs : List UnreadSubmission) (n m : ℕ) (c : Client)
    (r : ReceivedEntries) (o : Option ClientConnection) → n ≤ m
    → ((k : ClientConnection) → All (IsFromEarlier source k.by) us → All (IsFromEarlier source k.by) vs)
    → OpenIsComplete source log us n c r o → OpenIsComplete source log vs m c r o
open_passes source log us vs n m c r None later more h = tt
open_passes source log us vs n m c r (Some k) later more h = let pass = h.pass in
    record { pass = omega arith; earlier = more k h.earlier; entries = h.entries }

-- ---- each step

module _ (s : MessageState) (consistent : IsConsistent s.shared) (of_log : AreMessagesOfLog s) (h : AreComplete s) where
  abbrev log : List PlainEntry
  log = s.shared.log

  abbrev IsCompleteHere : List ℕ → Client → ReceivedEntries → Option ClientConnection → Type 0
  IsCompleteHere x c r o = OpenIsComplete x log s.unread s.next_pass c r o

  -- a submission of an ended connection is decided
  pub complete_unread : (m : UnreadSubmission) (now : ℕ) → Contains s.unread m
      → AreComplete (after_handling_unread s m now)
  complete_unread m now has = record {
    clients = λ other.
        open_decided other log s.unread s.next_pass (submission_of m.edit m.via m.by) now (source_client s other)
        (s.received other) (s.connections other)
        (decision_case log (submission_of m.edit m.via m.by) now)
        (λ k is own.
        let before = subst (IsCompleteHere other (source_client s other) (s.received other)) is (h.clients other) in
        let less = All-contains (IsFromEarlier other k.by) s.unread m before.earlier has own.1 in
        let same = own.0 in
        omega arith)
        (h.clients other);
    passes = h.passes;
  }

  module _ (source : List ℕ) where
    abbrev old : Client
    old = source_client s source

    abbrev r : ReceivedEntries
    r = s.received source

    pub complete_edit : (op : List PlainComponent)
        → AreComplete (with_shared s (with_changed_client s.shared source (after_edit op old)))
    complete_edit op = record {
      clients =
          at_sources (λ x c. IsCompleteHere x c (s.received x) (s.connections x)) s.shared.clients source
          (after_edit op old)
          (open_after source log s.unread s.next_pass old (after_edit op old) r r (s.connections source) (omega arith)
          (λ k is i low kept. same_sent_kept old (after_edit op old) r k i refl kept) (h.clients source))
          (λ other ne. h.clients other);
      passes = h.passes;
    }

    -- ---- the client advances

    advance_complete : (c : Client) (q : ReceivedEntries) → old.version ≤ c.version
        → ((k : ClientConnection) → s.connections source ≡ Some k → (i : ℕ) → c.version ≤ i → IsReceivedOrSent old r k i
        → IsReceivedOrSent c q k i)
        → AreComplete (with_received (with_shared s (with_changed_client s.shared source c)) source q)
    advance_complete c q later keep = record {
      clients =
          at_two_sources (λ x d p. IsCompleteHere x d p (s.connections x)) s.shared.clients s.received source c q
          (open_after source log s.unread s.next_pass old c r q (s.connections source) later keep (h.clients source))
          (λ other ne. h.clients other);
      passes = h.passes;
    }

    own_advanced : (c : Client) → AdvancesTo old c None → r.ack ≡ Some old.version → (k : ClientConnection)
        → s.connections source ≡ Some k → (i : ℕ) → c.version ≤ i → IsReceivedOrSent old r k i
        → IsReceivedOrSent c (with_ack None r) k i
    own_advanced c a ack k is_open i low (is_early e is) = is_early e is
    own_advanced c a ack k is_open i low (is_acknowledged is) =
        let version = a.version_is in let same = same_some old.version i (sym ack ∙ is) in absurd (omega arith)
    own_advanced c a ack k is_open i low (is_entry_sent e has at) = is_entry_sent e has at
    own_advanced c a ack k is_open i low (is_acknowledgement_sent t is has) =
        let version = a.version_is in
        let at = All-contains (IsOfLog source log) k.to_client (acknowledged t.seq i)
        (follows s consistent of_log source k is_open).to_client has in
        let b = (of_log.clients source).received.ack old.version ack in
        let same_edit : b.0 ≡ t = same_some b.0 t (sym b.1 ∙ is) in
        let same = same_some old.version i (sym b.2 ∙ ap (λ (x : SentEdit). stored_at source x.seq log) same_edit ∙
        at) in
        absurd (omega arith)

    pub complete_own : (c : Client) → r.ack ≡ Some old.version → after_acknowledgement old old.pending ≡ Some c
        → AreComplete (with_received (with_shared s (with_changed_client s.shared source c)) source (with_ack None r))
    complete_own c ack is =
        let a = advances_own old c old.pending is in
        let version = a.version_is in
        advance_complete c (with_ack None r) (omega arith) (own_advanced c a ack)

    early_advanced : (c : Client) → AdvancesTo old c old.sent → (k : ClientConnection) → s.connections source ≡ Some k
        → (i : ℕ) → c.version ≤ i → IsReceivedOrSent old r k i
        → IsReceivedOrSent c (with_early old.version None r) k i
    early_advanced c a k is_open i low (is_early e is) =
        let version = a.version_is in
        let later : nat_eq i old.version ≡ false = ne_eqb i old.version (λ same. omega arith) in
        is_early e (ap (λ b. cond b None (r.early i)) later ∙ is)
    early_advanced c a k is_open i low (is_acknowledged is) = is_acknowledged is
    early_advanced c a k is_open i low (is_entry_sent e has at) = is_entry_sent e has at
    early_advanced c a k is_open i low (is_acknowledgement_sent t is has) = is_acknowledgement_sent t (a.sent_is ∙ is)
        has

    pub complete_early : (c : Client) (m : PlainContent) → after_content old m ≡ Some c
        → AreComplete (with_received (with_shared s (with_changed_client s.shared source c)) source
        (with_early old.version None r))
    complete_early c m is =
        let a = advances_early old c m is in
        let version = a.version_is in
        advance_complete c (with_early old.version None r) (omega arith) (early_advanced c a)

    -- ---- it connects

    pub complete_connect : (via : List ℕ) → AreComplete (after_connecting s source via)
    complete_connect via = record {
      clients =
          at_sources (λ x o. OpenIsComplete x log s.unread (s.next_pass + 1) (source_client s x) (s.received x) o)
          s.connections source (Some (new_connection s.next_pass via))
          (record {
            pass = omega arith;
            earlier = All-weaker (λ (m : UnreadSubmission). m.by < s.next_pass) (IsFromEarlier source s.next_pass)
                (λ m less same. less) s.unread h.passes;
            entries = tt;
          })
          (λ other ne.
          open_passes other log s.unread s.unread s.next_pass (s.next_pass + 1) (source_client s other)
          (s.received other)
          (s.connections other) (omega arith) (λ k all. all) (h.clients other));
      passes = All-weaker (λ (m : UnreadSubmission). m.by < s.next_pass)
          (λ (m : UnreadSubmission). m.by < s.next_pass + 1) (λ m less. omega arith) s.unread h.passes;
    }

    -- ---- its connection is open

    module _ (k : ClientConnection) (is_open : s.connections source ≡ Some k) where
      complete_here : ConnectionIsComplete source log s.unread s.next_pass old r k
      complete_here = subst (IsCompleteHere source old r) is_open (h.clients source)

      connection_complete : (l : ClientConnection) → l.by ≡ k.by → IsCompleteAt source log old r l l.queue
          → AreComplete (with_connection s source (Some l))
      connection_complete l by complete = record {
        clients =
            at_sources (λ x o. IsCompleteHere x (source_client s x) (s.received x) o) s.connections source (Some l)
            (record {
              pass = subst (λ n. n < s.next_pass) (sym by) complete_here.pass;
              earlier = subst (λ n. All (IsFromEarlier source n) s.unread) (sym by) complete_here.earlier;
              entries = complete;
            })
            (λ other ne. h.clients other);
        passes = h.passes;
      }

      sent_kept : (m : ClientMessage) (i : ℕ) → IsReceivedOrSent old r k i
          → IsReceivedOrSent old r (with_sent_message k m) i
      sent_kept m i (is_early e is) = is_early e is
      sent_kept m i (is_acknowledged is) = is_acknowledged is
      sent_kept m i (is_entry_sent e has at) = is_entry_sent e has at
      sent_kept m i (is_acknowledgement_sent t is has) = is_acknowledgement_sent t is has

      -- the client sends a message
      pub complete_message : (m : ClientMessage) → AreComplete (with_connection s source (Some (with_sent_message k m)))
      complete_message m =
          connection_complete (with_sent_message k m) refl
          (complete_after source log old old r r k (with_sent_message k m) k.queue (omega arith) refl refl
          (λ i low kept. sent_kept m i kept) complete_here.entries)

      next_kept : (op : List PlainComponent) → old.sent ≡ None → (i : ℕ) → IsReceivedOrSent old r k i
          → IsReceivedOrSent (after_send op old) r (with_sent_message k (submit (next_sent old op))) i
      next_kept op none i (is_early e is) = is_early e is
      next_kept op none i (is_acknowledged is) = is_acknowledged is
      next_kept op none i (is_entry_sent e has at) = is_entry_sent e has at
      next_kept op none i (is_acknowledgement_sent t is has) = none_is_some t (sym none ∙ is)

      pub complete_send : (op : List PlainComponent) → old.sent ≡ None
          → AreComplete (with_shared (with_connection s source (Some (with_sent_message k (submit (next_sent old op)))))
          (after_sending s.shared source op))
      complete_send op none = record {
        clients =
            at_two_sources (λ x c o. IsCompleteHere x c (s.received x) o) s.shared.clients s.connections source
            (after_send op old) (Some (with_sent_message k (submit (next_sent old op))))
            (record {
              pass = complete_here.pass;
              earlier = complete_here.earlier;
              entries =
                  complete_after source log old (after_send op old) r r k
                  (with_sent_message k (submit (next_sent old op))) k.queue (omega arith) refl refl
                  (λ i low kept. next_kept op none i kept) complete_here.entries;
            })
            (λ other ne. h.clients other);
        passes = h.passes;
      }

      -- ---- a message is received

      pub complete_receive : (m : ServerMessage) (rest : List ServerMessage) → k.to_client ≡ m ∷ rest
          → AreComplete (after_receiving s source k m rest)
      complete_receive m rest first =
          let read = record k { to_client = rest; is_caught_up = k.is_caught_up || is_list_end m } in
          let at_log : IsOfLog source log m = All-head (IsOfLog source log) m rest
          (subst (All (IsOfLog source log)) first (follows s consistent of_log source k is_open).to_client) in
          record {
            clients =
                at_two_sources (λ x p o. IsCompleteHere x (source_client s x) p o) s.received s.connections source
                (after_message source old m r) (Some read)
                (record {
                  pass = complete_here.pass;
                  earlier = complete_here.earlier;
                  entries =
                      complete_after source log old old r (after_message source old m r) k read k.queue (omega arith)
                      refl refl
                      (λ i low kept.
                      message_read source log old r (of_log.clients source).received i low k m rest first
                      (k.is_caught_up || is_list_end m) consistent.log_is_made at_log kept) complete_here.entries;
                })
                (λ other ne. h.clients other);
            passes = h.passes;
          }

      -- ---- the server handles a message, and pumps

      listed : (v i : ℕ) → v ≤ i → i < length log
          → IsReceivedOrSent old r (with_answers k [] None (subscribe_answers log v)) i
      listed v i low below =
          let e = slice_get_of_below log i below in
          is_entry_sent e.0
          (Contains-append_right k.to_client (subscribe_answers log v) (op_message e.0)
          (Contains-append_left (map op_message (drop v log)) (caught_up ∷ []) (op_message e.0)
          (contains_map op_message (drop v log) e.0 (contains_later log v i e.0 low e.1))))
          (version_of_entry log i e.0 consistent.log_is_made e.1)

      same_messages : (l n : ClientConnection) (i : ℕ) → n.to_client ≡ l.to_client → IsReceivedOrSent old r l i
          → IsReceivedOrSent old r n i
      same_messages l n i same (is_early e is) = is_early e is
      same_messages l n i same (is_acknowledged is) = is_acknowledged is
      same_messages l n i same (is_entry_sent e has at) = is_entry_sent e
          (subst (λ x. Contains x (op_message e)) (sym same) has) at
      same_messages l n i same (is_acknowledgement_sent t is has) = is_acknowledgement_sent t is
          (subst (λ x. Contains x (acknowledged t.seq i)) (sym same) has)

      pub complete_subscribe : (v : ℕ) (rest : List ClientMessage) (now : ℕ) → k.to_server ≡ subscribe v ∷ rest
          → AreComplete (after_handling s source k (subscribe v) rest now)
      complete_subscribe v rest now first =
          let l = with_answers k rest (Some (length log)) (subscribe_answers log v) in
          let low : v ≤ old.version = All-head (IsFromClient source s.shared.submitted old.version) (subscribe v) rest
          (subst (All (IsFromClient source s.shared.submitted old.version)) first
          (follows s consistent of_log source k is_open).to_server) in
          connection_complete l refl (record {
            reached = omega arith;
            read = λ i reached below. same_messages (with_answers k [] None (subscribe_answers log v)) l i refl
                (listed v i (omega arith) below);
            own = λ i e at reached own.
                same_messages (with_answers k [] None (subscribe_answers log v)) l i refl
                (listed v i (omega arith) (slice_get_below log i e at));
          })

      module _ (position : ℕ) (subscribed : k.queue ≡ Some position) (e : PlainEntry)
          (at : slice_get log position ≡ Some e) where
        abbrev pumped : ClientConnection
        pumped = with_answers k k.to_server (Some (position + 1)) (subscription_messages k.by source k.via e)

        complete_before : IsComplete source log old r k position
        complete_before = subst (IsCompleteAt source log old r k) subscribed complete_here.entries

        pump_kept : (i : ℕ) → IsReceivedOrSent old r k i → IsReceivedOrSent old r pumped i
        pump_kept i kept = more_sent old r k k.to_server (Some (position + 1))
            (subscription_messages k.by source k.via e) i kept

        pumped_now : (own : Bool) → is_own_entry k.by source k.via e ≡ own → old.version ≤ position
            → IsReceivedOrSent old r pumped position
        pumped_now true own low = pump_kept position (complete_before.own position e at low own)
        pumped_now false own low =
            let answers : subscription_messages k.by source k.via e ≡ op_message e ∷ [] = ap
            (λ b. cond b [] (op_message e ∷ []))
            own in
            is_entry_sent e
            (Contains-append_right k.to_client (subscription_messages k.by source k.via e) (op_message e)
            (subst (λ l. Contains l (op_message e)) (sym answers) (Contains-push [] (op_message e))))
            (version_of_entry log position e consistent.log_is_made at)

        read_next : (i : ℕ) → old.version ≤ i → i < position + 1 → (i < position) ⊎ (i ≡ position)
            → IsReceivedOrSent old r pumped i
        read_next i low below (inl before) = pump_kept i (complete_before.read i low before)
        read_next i low below (inr last) =
            subst (IsReceivedOrSent old r pumped) (sym last) (pumped_now (is_own_entry k.by source k.via e) refl
            (subst (λ n. old.version ≤ n) last low))

        pub complete_pump : AreComplete (with_connection s source (Some pumped))
        complete_pump =
            let below = slice_get_below log position e at in
            connection_complete pumped refl (record {
              reached = omega arith;
              read = λ i low less. read_next i low less (less_or_same i position less);
              own = λ i f is low own. pump_kept i (complete_before.own i f is low own);
            })
          where
            less_or_same : (i n : ℕ) → i < n + 1 → (i < n) ⊎ (i ≡ n)
            less_or_same zero zero h = inr refl
            less_or_same zero (suc n) h = inl (omega arith)
            less_or_same (suc i) zero h = absurd (omega arith)
            less_or_same (suc i) (suc n) h = elim (less_or_same i n (omega arith)) [
              | inl less ↦ inl (omega arith)
              | inr same ↦ inr (ap (λ m. suc m) same)
            ]

      -- ---- a submission is handled

      module _ (t : SentEdit) (rest : List ClientMessage) (now : ℕ) (first : k.to_server ≡ submit t ∷ rest) where
        abbrev edit_of_source : SubmittedEdit
        edit_of_source = record { source = source; sent = t }

        abbrev submission : PlainSubmission
        submission = submission_of edit_of_source k.via k.by

        has_been_sent : Contains s.shared.submitted edit_of_source
        has_been_sent =
            All-head (IsFromClient source s.shared.submitted old.version) (submit t) rest
            (subst (All (IsFromClient source s.shared.submitted old.version)) first
            (follows s consistent of_log source k is_open).to_server)

        abbrev answered : List ServerMessage → ClientConnection
        answered answers = with_answers k rest k.queue answers

        answered_entries : (answers : List ServerMessage) → IsCompleteAt source log old r (answered answers) k.queue
        answered_entries answers =
            complete_after source log old old r r k (answered answers) k.queue (omega arith) refl refl
            (λ i low kept. more_sent old r k rest k.queue answers i kept) complete_here.entries

        stored_entries : (m : PlainContent) → stored_at source t.seq log ≡ None
            → IsCompleteAt source (log ++ new_entry log submission now m ∷ []) old r
            (answered (submit_answers t.seq (stored (length log) (missed_entries log submission)))) k.queue
        stored_entries m new =
            complete_longer source log (new_entry log submission now m ∷ []) old r l k.queue
            (λ i f at own. own_known i f (slice_get_new log (new_entry log submission now m) f i at))
            (answered_entries (submit_answers t.seq (stored (length log) (missed_entries log submission))))
          where
            l : ClientConnection
            l = answered (submit_answers t.seq (stored (length log) (missed_entries log submission)))

            own_known : (i : ℕ) (f : PlainEntry) → (slice_get log i ≡ Some f)
                ⊎ ((i ≡ length log) × (new_entry log submission now m ≡ f)) → (slice_get log i ≡ Some f)
                ⊎ IsReceivedOrSent old r (answered (submit_answers t.seq (stored (length log) (missed_entries log
                submission)))) i
            own_known i f (inl at) = inl at
            own_known i f (inr last) =
                inr
                (subst (IsReceivedOrSent old r (answered (submit_answers t.seq (stored (length log) (missed_entries log
                submission))))) (sym last.0)
                (is_acknowledgement_sent t (sent_by_client s.shared consistent edit_of_source has_been_sent k.via k.by
                now new)
                (Contains-append_right k.to_client (submit_answers t.seq
                (stored (length log) (missed_entries log submission))) (acknowledged t.seq (length log))
                (Contains-push (map op_message (missed_entries log submission)) (acknowledged t.seq (length log))))))

        entries_after : (d : Decision) → DecisionCase log submission now → decide log submission now ≡ d
            → IsCompleteAt source d.log old r (answered (submit_answers t.seq d.reply)) k.queue
        entries_after d (is_repeated i at is) same =
            subst (λ (x : Decision). IsCompleteAt source x.log old r (answered (submit_answers t.seq x.reply)) k.queue)
            (sym is ∙ same) (answered_entries (submit_answers t.seq (repeated i)))
        entries_after d (is_refused code is) same =
            subst (λ (x : Decision). IsCompleteAt source x.log old r (answered (submit_answers t.seq x.reply)) k.queue)
            (sym is ∙ same) (answered_entries (submit_answers t.seq (refused code)))
        entries_after d (is_stored m new is) same =
            subst (λ (x : Decision). IsCompleteAt source x.log old r (answered (submit_answers t.seq x.reply)) k.queue)
            (sym is ∙ same) (stored_entries m new)

        pub complete_submit : AreComplete (after_handling s source k (submit t) rest now)
        complete_submit = record {
          clients =
              at_sources (λ x o. OpenIsComplete x (decide log submission now).log s.unread s.next_pass
              (source_client s x)
              (s.received x) o) s.connections source
              (Some (answered (submit_answers t.seq (decide log submission now).reply)))
              (record {
                pass = complete_here.pass;
                earlier = complete_here.earlier;
                entries = entries_after (decide log submission now) (decision_case log submission now) refl;
              })
              (λ other ne.
              open_decided other log s.unread s.next_pass submission now (source_client s other) (s.received other)
              (s.connections other) (decision_case log submission now) (λ l is own. ne own.1)
              (h.clients other));
          passes = h.passes;
        }

      pub complete_handle : (m : ClientMessage) (rest : List ClientMessage) (now : ℕ) → k.to_server ≡ m ∷ rest
          → AreComplete (after_handling s source k m rest now)
      complete_handle (subscribe v) rest now first = complete_subscribe v rest now first
      complete_handle (submit t) rest now first = complete_submit t rest now first

      pub complete_refuse : (m : ClientMessage) (rest : List ClientMessage)
          → AreComplete (after_refusing s source k m rest)
      complete_refuse m rest =
          let answers = failed (seq_of_message m) ∷ [] in
          let l = with_answers k rest k.queue answers in
          connection_complete l refl
          (complete_after source log old old r r k l k.queue (omega arith) refl refl
          (λ i low kept. more_sent old r k rest k.queue answers i kept) complete_here.entries)

      -- ---- the connection ends

      abbrev IsUnreadOf : UnreadSubmission → Type 0
      IsUnreadOf m = (source ≡ m.edit.source) × (m.by ≡ k.by)

      unread_of : (ms : List ClientMessage) → All IsUnreadOf (unread_submissions source k ms)
      unread_of [] = All-nil IsUnreadOf
      unread_of (subscribe v ∷ ms) = unread_of ms
      unread_of (submit t ∷ ms) = All-cons IsUnreadOf _ (unread_submissions source k ms) (refl, refl) (unread_of ms)

      pub complete_end : AreComplete (after_end s source k)
      complete_end =
          let ended = unread_submissions source k k.to_server in
          let pass = complete_here.pass in
          record {
            clients =
                at_sources (λ x o. OpenIsComplete x log (s.unread ++ ended) s.next_pass (source_client s x)
                (s.received x)
                o) s.connections source None tt
                (λ other ne.
                open_passes other log s.unread (s.unread ++ ended) s.next_pass s.next_pass (source_client s other)
                (s.received other) (s.connections other) (omega arith)
                (λ l all.
                All-append (IsFromEarlier other l.by) s.unread ended all
                (All-weaker IsUnreadOf (IsFromEarlier other l.by) (λ m is same. absurd (ne (is.0 ∙ same))) ended
                (unread_of k.to_server)))
                (h.clients other));
            passes =
                All-append (λ (m : UnreadSubmission). m.by < s.next_pass) s.unread ended h.passes
                (All-weaker IsUnreadOf (λ (m : UnreadSubmission). m.by < s.next_pass)
                (λ m is. let same = is.1 in omega arith) ended (unread_of k.to_server));
          }
