-- Each step of the server keeps the messages those of the log.
use Rattle.std.proofs.Common.{◌≡◌, ℕ, ◌+◌, List, [], ◌∷◌, ◌++◌, map, drop, length, slice_get, nat_eq, Bool, true, false, cond, Some, None, All, refl, sym, ap, ◌∙◌, subst, bytes_eq, eq-eqb}
use Rattle.std.proofs.lemmas.List.Elements.{All-nil, All-cons, All-tail, All-append, All-map}
use Rattle.std.proofs.lemmas.Bool.{and_from}
use Rattle.std.proofs.lemmas.Slice.Eq.{bytes_eq-Decides}
use Rattle.sdb_oplog.specs.Plain.{PlainContent, PlainSubmission, PlainEntry}
use Rattle.sdb_oplog.specs.Snap.{stored_at, has_identifier}
use Rattle.sdb_oplog.specs.Decide.{Decision, decide, PlainReply, stored, repeated, refused, base_version, missed_entries, new_entry, IsMade}
use Rattle.sdb_oplog.specs.laws.LogLaws.{append_nil}
use Rattle.sdb_client_model.specs.Machine.{SubmittedEdit, submission_of}
use Rattle.sdb_client_model.specs.Invariant.{IsConsistent}
use Rattle.sdb_client_model.specs.Messages.{ClientMessage, subscribe, submit, ServerMessage, op_message, caught_up, acknowledged, failed, ClientConnection, subscribe_answers, submit_answers, seq_of_message, is_own_entry, subscription_messages, with_answers}
use Rattle.sdb_client_model.specs.MessageMachine.{UnreadSubmission, MessageState, with_connection, with_shared, source_client, after_handling, after_refusing, after_handling_unread}
use Rattle.sdb_client_model.specs.MessageLaws.{IsOfLog}
use Rattle.sdb_client_model.proofs.MessageLogs.{DecisionCase, is_repeated, is_refused, is_stored, decision_case, version_of_entry, stored_at_end, IsAtVersion, entries_at_version}
use Rattle.sdb_client_model.proofs.MessageInvariant.{IsFromClient, FollowsConnection, FollowsMessages, AreMessagesOfLog, all_of_log_append, messages_append, at_value}
use Rattle.sdb_client_model.proofs.MessageClientSteps.{follows, messages_with_connection}

pub same_bytes : (a : List ℕ) → bytes_eq a a ≡ true
same_bytes a = (bytes_eq-Decides a a).1 refl

pub own_identifier : (s : List ℕ) (n : ℕ) (e : PlainEntry) → e.arrived.src ≡ s → e.arrived.seq ≡ n
    → has_identifier s n e ≡ true
own_identifier s n e src seq =
    and_from (nat_eq e.arrived.seq n) (bytes_eq e.arrived.src s) (eq-eqb e.arrived.seq n seq)
    (ap (λ a. bytes_eq a s) src ∙ same_bytes s)

-- ---- answers

-- a list of entries, as messages
pub entries_of_log : (source : List ℕ) (log es : List PlainEntry) → All (IsAtVersion log) es
    → All (IsOfLog source log) (map op_message es)
entries_of_log source log es h = All-map (IsOfLog source log) op_message es h

one_of_log : (source : List ℕ) (log : List PlainEntry) (m : ServerMessage) → IsOfLog source log m
    → All (IsOfLog source log) (m ∷ [])
one_of_log source log m h = All-cons (IsOfLog source log) m [] h (All-nil (IsOfLog source log))

pub subscribe_answers_of_log : (source : List ℕ) (log : List PlainEntry) (v : ℕ) → IsMade log
    → All (IsOfLog source log) (subscribe_answers log v)
subscribe_answers_of_log source log v made =
    All-append (IsOfLog source log) (map op_message (drop v log)) (caught_up ∷ [])
    (entries_of_log source log (drop v log) (entries_at_version log v made))
    (one_of_log source log caught_up tt)

pub subscription_messages_of_log : (source : List ℕ) (log : List PlainEntry) (own : Bool) (e : PlainEntry)
    → slice_get log e.version ≡ Some e → All (IsOfLog source log) (cond own [] (op_message e ∷ []))
subscription_messages_of_log source log true e at = All-nil (IsOfLog source log)
subscription_messages_of_log source log false e at = one_of_log source log (op_message e) at

-- what a decision adds to the log, and its answers
pub record DecisionAnswers (source : List ℕ) (seq : ℕ) (log : List PlainEntry) (d : Decision) : Type 0 where
  pub entries : List PlainEntry
  pub log_is : d.log ≡ log ++ entries
  pub answers : All (IsOfLog source (log ++ entries)) (submit_answers seq d.reply)

module _ (log : List PlainEntry) (made : IsMade log) (s : PlainSubmission) (now : ℕ) where
  same_log : (reply : PlainReply) → All (IsOfLog s.src log) (submit_answers s.seq reply)
      → decide log s now ≡ record { reply = reply; log = log } → DecisionAnswers s.src s.seq log (decide log s now)
  same_log reply answers is =
      subst (DecisionAnswers s.src s.seq log) (sym is) (record {
        entries = [];
        log_is = sym (append_nil log);
        answers = subst (λ l. All (IsOfLog s.src l) (submit_answers s.seq reply)) (sym (append_nil log)) answers;
      })

  stored_answers : (m : PlainContent) → stored_at s.src s.seq log ≡ None
      → All (IsOfLog s.src (log ++ new_entry log s now m ∷ []))
      (submit_answers s.seq (stored (length log) (missed_entries log s)))
  stored_answers m new =
      let e = new_entry log s now m in
      let longer = log ++ e ∷ [] in
      All-append (IsOfLog s.src longer) (map op_message (missed_entries log s)) (acknowledged s.seq (length log) ∷ [])
      (all_of_log_append s.src log (e ∷ []) (map op_message (missed_entries log s))
      (entries_of_log s.src log (missed_entries log s) (entries_at_version log (base_version log s) made)))
      (one_of_log s.src longer (acknowledged s.seq (length log))
      (stored_at_end log e s.src s.seq new (own_identifier s.src s.seq e refl refl)))

  answers_of_case : DecisionCase log s now → DecisionAnswers s.src s.seq log (decide log s now)
  answers_of_case (is_repeated i at is) = same_log (repeated i) (one_of_log s.src log (acknowledged s.seq i) at) is
  answers_of_case (is_refused code is) = same_log (refused code) (one_of_log s.src log (failed (Some s.seq)) tt) is
  answers_of_case (is_stored m new is) =
      subst (DecisionAnswers s.src s.seq log) (sym is) (record {
        entries = new_entry log s now m ∷ [];
        log_is =
            refl;
        answers = stored_answers m new;
      })

  pub decision_answers : DecisionAnswers s.src s.seq log (decide log s now)
  decision_answers = answers_of_case (decision_case log s now)

-- ---- each step

module _ (s : MessageState) (consistent : IsConsistent s.shared) (h : AreMessagesOfLog s) where
  abbrev log : List PlainEntry
  log = s.shared.log

  abbrev ms : List SubmittedEdit
  ms = s.shared.submitted

  -- a decision whose answer is lost
  messages_longer : (new es : List PlainEntry) → new ≡ log ++ es
      → AreMessagesOfLog (with_shared s (record { log = new; clients = s.shared.clients; submitted = ms }))
  messages_longer new es is =
      subst (λ l. AreMessagesOfLog (with_shared s (record { log = l; clients = s.shared.clients; submitted = ms })))
      (sym is)
      (record {
        clients = λ other. messages_append other log es ms (source_client s other) (s.received other)
            (s.connections other)
            (h.clients other);
        unread = h.unread;
      })

  pub messages_unread : (m : UnreadSubmission) (now : ℕ) → AreMessagesOfLog (after_handling_unread s m now)
  messages_unread m now =
      let d = decision_answers log consistent.log_is_made (submission_of m.edit m.via m.by) now in
      messages_longer (decide log (submission_of m.edit m.via m.by) now).log d.entries d.log_is

  module _ (source : List ℕ) (k : ClientConnection) (is_open : s.connections source ≡ Some k) where
    abbrev at_source : FollowsConnection source log ms (source_client s source).version k
    at_source = follows s consistent h source k is_open

    -- the server has read a message
    pub read_rest : (m : ClientMessage) (rest : List ClientMessage) → k.to_server ≡ m ∷ rest
        → All (IsFromClient source ms (source_client s source).version) rest
    read_rest m rest first =
        All-tail (IsFromClient source ms (source_client s source).version) m rest
        (subst (All (IsFromClient source ms (source_client s source).version)) first at_source.to_server)

    messages_subscribe : (v : ℕ) (rest : List ClientMessage) (now : ℕ) → k.to_server ≡ subscribe v ∷ rest
        → AreMessagesOfLog (after_handling s source k (subscribe v) rest now)
    messages_subscribe v rest now first =
        messages_with_connection s consistent h source k is_open
        (Some (with_answers k rest (Some (length log)) (subscribe_answers log v)))
        (record {
          to_client =
              All-append (IsOfLog source log) k.to_client (subscribe_answers log v) at_source.to_client
              (subscribe_answers_of_log source log v consistent.log_is_made);
          to_server = read_rest (subscribe v) rest first;
        })

    messages_answered : (rest : List ClientMessage) (new es : List PlainEntry) (answers : List ServerMessage)
        → new ≡ log ++ es → All (IsOfLog source (log ++ es)) answers
        → All (IsFromClient source ms (source_client s source).version) rest
        → AreMessagesOfLog
        (with_shared (with_connection s source (Some (with_answers k rest k.queue answers)))
        (record { log = new; clients = s.shared.clients; submitted = ms }))
    messages_answered rest new es answers is sent left =
        subst
        (λ l. AreMessagesOfLog
        (with_shared (with_connection s source (Some (with_answers k rest k.queue answers)))
        (record { log = l; clients = s.shared.clients; submitted = ms }))) (sym is)
        (record {
          clients = λ other.
              let before = messages_append other log es ms (source_client s other) (s.received other)
              (s.connections other)
              (h.clients other) in
              at_value (λ y. FollowsMessages other (log ++ es) ms (source_client s other) (s.received other) y)
              s.connections source other (Some (with_answers k rest k.queue answers)) before
              (λ e. subst (λ x. FollowsMessages x (log ++ es) ms (source_client s x) (s.received x)
              (Some (with_answers k rest k.queue answers))) e
              (record {
                received = (messages_append source log es ms (source_client s source) (s.received source)
                    (s.connections source) (h.clients source)).received;
                connection = record {
                  to_client =
                      All-append (IsOfLog source (log ++ es)) k.to_client answers
                      (all_of_log_append source log es k.to_client at_source.to_client) sent;
                  to_server = left;
                };
              }));
          unread = h.unread;
        })

    pub messages_handle : (m : ClientMessage) (rest : List ClientMessage) (now : ℕ) → k.to_server ≡ m ∷ rest
        → AreMessagesOfLog (after_handling s source k m rest now)
    messages_handle (subscribe v) rest now first = messages_subscribe v rest now first
    messages_handle (submit t) rest now first =
        let submission = submission_of (record { source = source; sent = t }) k.via k.by in
        let d = decision_answers log consistent.log_is_made submission now in
        messages_answered rest (decide log submission now).log d.entries
        (submit_answers t.seq (decide log submission now).reply) d.log_is d.answers
        (read_rest (submit t) rest first)

    pub messages_refuse : (m : ClientMessage) (rest : List ClientMessage) → k.to_server ≡ m ∷ rest
        → AreMessagesOfLog (after_refusing s source k m rest)
    messages_refuse m rest first =
        messages_with_connection s consistent h source k is_open
        (Some (with_answers k rest k.queue (failed (seq_of_message m) ∷ [])))
        (record {
          to_client =
              All-append (IsOfLog source log) k.to_client (failed (seq_of_message m) ∷ []) at_source.to_client
              (one_of_log source log (failed (seq_of_message m)) tt);
          to_server = read_rest m rest first;
        })

    pub messages_pump : (position : ℕ) (e : PlainEntry) → slice_get log position ≡ Some e
        → AreMessagesOfLog
        (with_connection s source
        (Some (with_answers k k.to_server (Some (position + 1)) (subscription_messages k.by source k.via e))))
    messages_pump position e at =
        messages_with_connection s consistent h source k is_open
        (Some (with_answers k k.to_server (Some (position + 1)) (subscription_messages k.by source k.via e)))
        (record {
          to_client =
              All-append (IsOfLog source log) k.to_client (subscription_messages k.by source k.via e)
              at_source.to_client
              (subscription_messages_of_log source log (is_own_entry k.by source k.via e) e
              (ap (slice_get log) (version_of_entry log position e consistent.log_is_made at) ∙ at));
          to_server = at_source.to_server;
        })
