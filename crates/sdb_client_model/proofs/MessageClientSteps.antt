-- Each step of a client, and the end of a connection, keeps the messages those of the log.
use Rattle.std.proofs.Common.{◌≡◌, ℕ, zero, suc, ◌+◌, ◌-◌, ◌<◌, List, [], ◌∷◌, ◌++◌, slice_get, nat_eq, nat_lt, Bool, true, false, cond, ◌||◌, Option, Some, None, All, Contains, refl, sym, ap, ◌∙◌, subst, arith, eqb-true}
use Rattle.std.proofs.lemmas.List.Elements.{All-nil, All-cons, All-head, All-tail, All-push, All-append, Contains-append_left, Contains-push}
use Rattle.sdb_component.specs.Plain.{PlainComponent}
use Rattle.sdb_apply.specs.Apply.{apply}
use Rattle.sdb_transform.specs.Cross.{and_then}
use Rattle.sdb_oplog.specs.Plain.{PlainContent, create, delete, edit, PlainEntry}
use Rattle.sdb_oplog.specs.Snap.{stored_at}
use Rattle.sdb_oplog.specs.Decide.{IsMade}
use Rattle.sdb_client_model.specs.Client.{SentEdit, Client, cross_pending, is_sent_edit, after_edit, next_sent, after_send, after_acknowledgement, after_content}
use Rattle.sdb_client_model.specs.Machine.{SubmittedEdit, with_changed_client, after_sending}
use Rattle.sdb_client_model.specs.Invariant.{AreSeqsBelow, IsConsistent}
use Rattle.sdb_client_model.specs.Messages.{ClientMessage, subscribe, submit, ServerMessage, op_message, caught_up, acknowledged, failed, ClientConnection, ReceivedEntries, with_early, with_ack, is_seq_of_sent, after_message, is_list_end, new_connection, with_sent_message}
use Rattle.sdb_client_model.specs.MessageMachine.{UnreadSubmission, MessageState, with_connection, with_received, with_shared, source_client, after_receiving, after_connecting, unread_submissions, after_end}
use Rattle.sdb_client_model.specs.MessageLaws.{IsOfLog, AreOfLog}
use Rattle.sdb_client_model.proofs.PendingLemmas.{same_some, some_step, map_step}
use Rattle.sdb_client_model.proofs.AppendLemmas.{not_same_identifier}
use Rattle.sdb_client_model.proofs.MessageLogs.{stored_at_of_entry}
use Rattle.sdb_client_model.proofs.MessageInvariant.{IsFromClient, FollowsConnection, FollowsOpen, FollowsMessages, AreMessagesOfLog, messages_more, open_more, all_from_client, at_value, at_two_values}

pub none_is_some : {G A : Type 0} (x : A) → None ≡ Some x → G
none_is_some x h = cc

-- ---- what a client has received

module _ (source : List ℕ) (log : List PlainEntry) (sent : Option SentEdit) (r : ReceivedEntries)
    (h : AreOfLog source log sent r) where
  received_ack : (v : ℕ) (t : SentEdit) → sent ≡ Some t → stored_at source t.seq log ≡ Some v
      → AreOfLog source log sent (with_ack (Some v) r)
  received_ack v t is at = record {
    early = h.early;
    ack = λ w k. (t, is, at ∙ k);
  }

  early_at : (b : Bool) (v w : ℕ) (e f : PlainEntry) → slice_get log v ≡ Some e → is_sent_edit source sent e ≡ false
      → nat_eq w v ≡ b → cond b (Some e) (r.early w) ≡ Some f
      → (slice_get log w ≡ Some f) × (is_sent_edit source sent f ≡ false)
  early_at true v w e f at other is k = (
    ap (slice_get log) (eqb-true w v is) ∙ at
        ∙ k,
    subst (λ x. is_sent_edit source sent x ≡ false) (same_some e f k) other,
  )
  early_at false v w e f at other is k = h.early w f k

  received_early : (e : PlainEntry) → slice_get log e.version ≡ Some e → is_sent_edit source sent e ≡ false
      → AreOfLog source log sent (with_early e.version (Some e) r)
  received_early e at other = record {
    early = λ w f k. early_at (nat_eq w e.version) e.version w e f at other refl k;
    ack = h.ack;
  }

  early_left : (b : Bool) (w : ℕ) (f : PlainEntry) → cond b None (r.early w) ≡ Some f → (slice_get log w ≡ Some f)
      × (is_sent_edit source sent f ≡ false)
  early_left true w f k = none_is_some f k
  early_left false w f k = h.early w f k

  pub received_without : (v : ℕ) → AreOfLog source log sent (with_early v None r)
  received_without v = record { early = λ w f k. early_left (nat_eq w v) w f k; ack = h.ack }

-- the sent edit is acknowledged
pub received_own : (source : List ℕ) (log : List PlainEntry) (sent : Option SentEdit) (r : ReceivedEntries)
    → AreOfLog source log sent r → AreOfLog source log None (with_ack None r)
received_own source log sent r h = record {
  early = λ v e k. ((h.early v e k).0, refl);
  ack = λ v k. none_is_some v k;
}

-- a message is received
module _ (source : List ℕ) (log : List PlainEntry) (made : IsMade log) (c : Client) (r : ReceivedEntries)
    (h : AreOfLog source log c.sent r) where
  own_received : (o : Option SentEdit) (e : PlainEntry) → c.sent ≡ o → slice_get log e.version ≡ Some e
      → is_sent_edit source o e ≡ true → AreOfLog source log c.sent (with_ack (Some e.version) r)
  own_received None e is at own = cc
  own_received (Some t) e is at own = received_ack source log c.sent r h e.version t is
      (stored_at_of_entry log source t.seq e.version e made at own)

  entry_received : (old own : Bool) (e : PlainEntry) → slice_get log e.version ≡ Some e
      → is_sent_edit source c.sent e ≡ own
      → AreOfLog source log c.sent (cond old r (cond own (with_ack (Some e.version) r) (with_early e.version (Some e)
      r)))
  entry_received true own e at is = h
  entry_received false true e at is = own_received c.sent e refl at is
  entry_received false false e at is = received_early source log c.sent r h e at is

  acknowledgement_received : (o : Option SentEdit) (b : Bool) (seq v : ℕ) → c.sent ≡ o → is_seq_of_sent o seq ≡ b
      → stored_at source seq log ≡ Some v
      → AreOfLog source log c.sent (cond b (with_ack (Some v) r) r)
  acknowledgement_received o false seq v is same at = h
  acknowledgement_received None true seq v is same at = cc
  acknowledgement_received (Some t) true seq v is same at =
      received_ack source log c.sent r h v t is (ap (λ n. stored_at source n log) (eqb-true t.seq seq same) ∙ at)

  pub message_received : (m : ServerMessage) → IsOfLog source log m
      → AreOfLog source log c.sent (after_message source c m r)
  message_received (op_message e) at = entry_received (nat_lt e.version c.version) (is_sent_edit source c.sent e) e at
      refl
  message_received caught_up at = h
  message_received (acknowledged seq v) at = acknowledgement_received c.sent (is_seq_of_sent c.sent seq) seq v refl refl
      at
  message_received (failed o) at = h

-- ---- a client after an entry

pub record AdvancesTo (old c : Client) (sent : Option SentEdit) : Type 0 where
  pub sent_is : c.sent ≡ sent
  pub version_is : c.version ≡ old.version + 1

pub advances_own : (old c : Client) (ops : List (List PlainComponent)) → after_acknowledgement old ops ≡ Some c
    → AdvancesTo old c None
advances_own old c [] h = cc
advances_own old c (op ∷ ops) h =
    let d = map_step (apply op old.document) (λ d. record {
      version = old.version + 1;
      document = d;
      pending =
          ops;
      sent = None;
      next_seq = old.next_seq;
    }) c h in
    record { sent_is = ap (λ (x : Client). x.sent) (sym d.2); version_is = ap (λ (x : Client). x.version) (sym d.2) }

pub advances_early : (old c : Client) (m : PlainContent) → after_content old m ≡ Some c → AdvancesTo old c old.sent
advances_early old c (create v) h = cc
advances_early old c delete h = cc
advances_early old c (edit op) h =
    let d = some_step (apply op old.document) (λ d.
    and_then (cross_pending old.pending op) (λ x.
    Some (record {
      version = old.version + 1;
      document = d;
      pending = x.pending;
      sent = old.sent;
      next_seq =
          old.next_seq;
    }))) c h in
    let x = some_step (cross_pending old.pending op) (λ x. Some
    (record {
      version = old.version + 1;
      document = d.0;
      pending = x.pending;
      sent = old.sent;
      next_seq =
          old.next_seq;
    })) c d.2 in
    let same : record {
      version = old.version + 1;
      document = d.0;
      pending = x.0.pending;
      sent = old.sent;
      next_seq =
          old.next_seq;
    } ≡ c = same_some _ c x.2 in
    record { sent_is = ap (λ (y : Client). y.sent) (sym same); version_is = ap (λ (y : Client). y.version) (sym same) }

seq_of_entry : (log : List PlainEntry) (n : ℕ) (s : List ℕ) (v : ℕ) (e : PlainEntry) → AreSeqsBelow n s log
    → slice_get log v ≡ Some e → e.arrived.src ≡ s → e.arrived.seq < n
seq_of_entry [] n s v e h is = cc
seq_of_entry (x ∷ log) n s zero e h is = subst (λ (y : PlainEntry). y.arrived.src ≡ s → y.arrived.seq < n)
    (same_some x e is) h.0
seq_of_entry (x ∷ log) n s (suc v) e h is = seq_of_entry log n s v e h.1 is

unread_submitted : (source : List ℕ) (ms : List SubmittedEdit) (version : ℕ) (k : ClientConnection)
    (xs : List ClientMessage) → All (IsFromClient source ms version) xs
    → All (λ (m : UnreadSubmission). Contains ms m.edit) (unread_submissions source k xs)
unread_submitted source ms version k [] h = All-nil (λ (m : UnreadSubmission). Contains ms m.edit)
unread_submitted source ms version k (subscribe v ∷ xs) h = unread_submitted source ms version k xs
    (All-tail (IsFromClient source ms version) (subscribe v) xs h)
unread_submitted source ms version k (submit t ∷ xs) h =
    All-cons (λ (m : UnreadSubmission). Contains ms m.edit)
    (record { edit = record { source = source; sent = t }; via = k.via; by = k.by })
    (unread_submissions source k xs)
    (All-head (IsFromClient source ms version) (submit t) xs h)
    (unread_submitted source ms version k xs (All-tail (IsFromClient source ms version) (submit t) xs h))

-- ---- each step

module _ (s : MessageState) (consistent : IsConsistent s.shared) (h : AreMessagesOfLog s) (source : List ℕ) where
  abbrev log : List PlainEntry
  log = s.shared.log

  abbrev ms : List SubmittedEdit
  ms = s.shared.submitted

  abbrev old : Client
  old = source_client s source

  pub messages_edit : (op : List PlainComponent)
      → AreMessagesOfLog (with_shared s (with_changed_client s.shared source (after_edit op old)))
  messages_edit op = record {
    clients = λ other.
        at_value (λ x. FollowsMessages other log ms x (s.received other) (s.connections other)) s.shared.clients source
        other (after_edit op old) (h.clients other)
        (λ e. subst (λ x. FollowsMessages x log ms (after_edit op old) (s.received x) (s.connections x)) e
        (record { received = (h.clients source).received; connection = (h.clients source).connection }));
    unread = h.unread;
  }

  module _ (k : ClientConnection) (is_open : s.connections source ≡ Some k) where
    pub follows : FollowsConnection source log ms old.version k
    follows = subst (FollowsOpen source log ms old.version) is_open (h.clients source).connection

    -- ---- the client sends

    module _ (op : List PlainComponent) (none : old.sent ≡ None) where
      abbrev now_submitted : List SubmittedEdit
      now_submitted = ms ++ record { source = source; sent = next_sent old op } ∷ []

      more_submitted : (m : SubmittedEdit) → Contains ms m → Contains now_submitted m
      more_submitted m has = Contains-append_left ms (record { source = source; sent = next_sent old op } ∷ []) m has

      sent_messages : FollowsMessages source log now_submitted (after_send op old) (s.received source)
          (Some (with_sent_message k (submit (next_sent old op))))
      sent_messages =
          let r = (h.clients source).received in
          record {
            received = record {
              early = λ v e is.
                  let at = (r.early v e is).0 in (
                    at,
                    not_same_identifier source old.next_seq e (seq_of_entry log old.next_seq source v e
                        (consistent.clients source).seqs at),
                  );
              ack = λ v is. let a = r.ack v is in none_is_some a.0 (sym none ∙ a.1);
            };
            connection = record {
              to_client = follows.to_client;
              to_server =
                  All-push (IsFromClient source now_submitted old.version) k.to_server (submit (next_sent old op))
                  (all_from_client source ms now_submitted old.version old.version more_submitted (omega arith)
                  k.to_server follows.to_server)
                  (Contains-push ms (record { source = source; sent = next_sent old op }));
            };
          }

      pub messages_send : AreMessagesOfLog
          (with_shared (with_connection s source (Some (with_sent_message k (submit (next_sent old op)))))
          (after_sending s.shared source op))
      messages_send = record {
        clients = λ other.
            at_two_values (λ x y. FollowsMessages other log now_submitted x (s.received other) y) s.shared.clients
            s.connections source other (after_send op old)
            (Some (with_sent_message k (submit (next_sent old op))))
            (messages_more other log ms now_submitted (source_client s other) (s.received other) (s.connections other)
            more_submitted (h.clients other))
            (λ e. subst
            (λ x. FollowsMessages x log now_submitted (after_send op old) (s.received x)
            (Some (with_sent_message k (submit (next_sent old op))))) e sent_messages);
        unread = All-unread_more s.unread h.unread;
      }
        where
          All-unread_more : (us : List UnreadSubmission) → All (λ (m : UnreadSubmission). Contains ms m.edit) us
              → All (λ (m : UnreadSubmission). Contains now_submitted m.edit) us
          All-unread_more us a = λ i d below. more_submitted _ (a i d below)

    -- the connection is changed
    pub messages_with_connection : (o : Option ClientConnection) → FollowsOpen source log ms old.version o
        → AreMessagesOfLog (with_connection s source o)
    messages_with_connection o f = record {
      clients = λ other.
          at_value (λ y. FollowsMessages other log ms (source_client s other) (s.received other) y) s.connections source
          other o (h.clients other)
          (λ e. subst (λ x. FollowsMessages x log ms (source_client s x) (s.received x) o) e
          (record { received = (h.clients source).received; connection = f }));
      unread = h.unread;
    }

    pub messages_resend : (t : SentEdit) → old.sent ≡ Some t
        → AreMessagesOfLog (with_connection s source (Some (with_sent_message k (submit t))))
    messages_resend t is =
        messages_with_connection (Some (with_sent_message k (submit t))) (record {
          to_client = follows.to_client;
          to_server = All-push (IsFromClient source ms old.version) k.to_server (submit t) follows.to_server
              (consistent.network source t is);
        })

    pub messages_subscribes : AreMessagesOfLog
        (with_connection s source (Some (with_sent_message k (subscribe (old.version - 1)))))
    messages_subscribes =
        messages_with_connection (Some (with_sent_message k (subscribe (old.version - 1)))) (record {
          to_client = follows.to_client;
          to_server = All-push (IsFromClient source ms old.version) k.to_server (subscribe (old.version - 1))
              follows.to_server (omega arith);
        })

    -- ---- it receives

    module _ (m : ServerMessage) (rest : List ServerMessage) (first : k.to_client ≡ m ∷ rest) where
      abbrev new_received : ReceivedEntries
      new_received = after_message source old m (s.received source)

      abbrev read_connection : ClientConnection
      read_connection = record k { to_client = rest; is_caught_up = k.is_caught_up || is_list_end m }

      sent_to_client : All (IsOfLog source log) (m ∷ rest)
      sent_to_client = subst (All (IsOfLog source log)) first follows.to_client

      message_read : FollowsMessages source log ms old new_received (Some read_connection)
      message_read = record {
        received = message_received source log consistent.log_is_made old (s.received source)
            (h.clients source).received m (All-head (IsOfLog source log) m rest sent_to_client);
        connection = record {
          to_client = All-tail (IsOfLog source log) m rest sent_to_client;
          to_server =
              follows.to_server;
        };
      }

      pub messages_receive : AreMessagesOfLog (after_receiving s source k m rest)
      messages_receive = record {
        clients = λ other.
            at_two_values (λ x y. FollowsMessages other log ms (source_client s other) x y) s.received s.connections
            source
            other new_received (Some read_connection) (h.clients other)
            (λ e. subst (λ x. FollowsMessages x log ms (source_client s x) new_received (Some read_connection)) e
            message_read);
        unread = h.unread;
      }

    -- ---- its connection ends

    pub messages_end : AreMessagesOfLog (after_end s source k)
    messages_end =
        let ended = messages_with_connection None tt in
        record {
          clients = ended.clients;
          unread =
              All-append (λ (m : UnreadSubmission). Contains ms m.edit) s.unread
              (unread_submissions source k k.to_server) h.unread
              (unread_submitted source ms old.version k k.to_server follows.to_server);
        }

  -- ---- it advances

  pub messages_advance : (c : Client) (r : ReceivedEntries) → c.version ≡ old.version + 1 → AreOfLog source log c.sent r
      → AreMessagesOfLog (with_received (with_shared s (with_changed_client s.shared source c)) source r)
  messages_advance c r version f = record {
    clients = λ other.
        at_two_values (λ x y. FollowsMessages other log ms x y (s.connections other)) s.shared.clients s.received source
        other c r (h.clients other)
        (λ e. subst (λ x. FollowsMessages x log ms c r (s.connections x)) e
        (record {
          received = f;
          connection = open_more source log ms ms old.version c.version (s.connections source) (λ m has. has)
              (omega arith) (h.clients source).connection;
        }));
    unread = h.unread;
  }

  pub messages_own : (c : Client) → after_acknowledgement old old.pending ≡ Some c
      → AreMessagesOfLog (with_received (with_shared s (with_changed_client s.shared source c)) source
      (with_ack None (s.received source)))
  messages_own c is =
      let a = advances_own old c old.pending is in
      messages_advance c (with_ack None (s.received source)) a.version_is
      (subst (λ o. AreOfLog source log o (with_ack None (s.received source))) (sym a.sent_is)
      (received_own source log old.sent (s.received source) (h.clients source).received))

  pub messages_early : (c : Client) (m : PlainContent) → after_content old m ≡ Some c
      → AreMessagesOfLog (with_received (with_shared s (with_changed_client s.shared source c)) source
      (with_early old.version None (s.received source)))
  messages_early c m is =
      let a = advances_early old c m is in
      messages_advance c (with_early old.version None (s.received source)) a.version_is
      (subst (λ o. AreOfLog source log o (with_early old.version None (s.received source))) (sym a.sent_is)
      (received_without source log old.sent (s.received source) (h.clients source).received old.version))

  -- ---- it connects

  abbrev opened : List ℕ → ClientConnection
  opened via = new_connection s.next_pass via

  pub messages_connect : (via : List ℕ) → AreMessagesOfLog (after_connecting s source via)
  messages_connect via = record {
    clients = λ other.
        at_value (λ y. FollowsMessages other log ms (source_client s other) (s.received other) y) s.connections source
        other
        (Some (opened via)) (h.clients other)
        (λ e. subst (λ x. FollowsMessages x log ms (source_client s x) (s.received x) (Some (opened via))) e
        (record {
          received = (h.clients source).received;
          connection = record {
            to_client = All-nil (IsOfLog source log);
            to_server = All-nil (IsFromClient source ms old.version);
          };
        }));
    unread = h.unread;
  }
