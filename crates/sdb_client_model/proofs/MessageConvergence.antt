-- From each state of a small run with messages, a run without edits leads to convergence.
use Rattle.std.proofs.Common.{◌≡◌, ℕ, zero, suc, ◌-◌, ◌≤◌, List, [], ◌∷◌, ◌++◌, map, drop, length, Bool, true, false, Option, Some, None, All, Contains, ◌⊎◌, inl, inr, refl, sym, ap, ◌∙◌, subst, arith, codes, bytes_eq}
use Rattle.std.proofs.lemmas.Bool.{cases_Bool}
use Rattle.std.proofs.lemmas.List.{take_all}
use Rattle.std.proofs.lemmas.List.Elements.{All-nil, All-cons, Contains-push}
use Rattle.sdb_component.specs.Plain.{PlainComponent}
use Rattle.sdb_oplog.specs.Plain.{PlainSubmission}
use Rattle.sdb_oplog.specs.Snap.{stored_at}
use Rattle.sdb_oplog.specs.Decide.{Decision, decide, new_entry}
use Rattle.sdb_client_model.specs.Client.{SentEdit, Client, queue_after, queued_edits, next_sent, after_send}
use Rattle.sdb_client_model.specs.Machine.{SubmittedEdit, submission_of, after_sending}
use Rattle.sdb_client_model.specs.Invariant.{IsSentEditOf, IsSentOrNone, IsConsistent}
use Rattle.sdb_client_model.specs.Messages.{subscribe, submit, op_message, caught_up, ClientConnection, subscribe_answers, submit_answers, new_connection, with_sent_message, with_answers}
use Rattle.sdb_client_model.specs.MessageMachine.{MessageState, source_client, with_connection, with_shared, client_sends, client_resends, server_handles, client_connects, client_subscribes, connection_ends, after_connecting, after_handling, after_end}
use Rattle.sdb_client_model.specs.SmallMessageRuns.{CanConverge, ClientsCanConverge}
use Rattle.sdb_client_model.proofs.AppendLemmas.{same_source, other_source}
use Rattle.sdb_client_model.proofs.MessageLogs.{DecisionCase, is_repeated, is_refused, is_stored, decision_case, stored_at_end}
use Rattle.sdb_client_model.proofs.MessageClientSteps.{none_is_some}
use Rattle.sdb_client_model.proofs.MessageServerSteps.{own_identifier}
use Rattle.sdb_client_model.proofs.ClientRuns.{clients_converge}
use Rattle.sdb_client_model.proofs.MessageContinuations.{value_at, value_at_other, IsSmallState, small_state, Continues, continues_none, continues_one, continues_then, known, next_not_refused}
use Rattle.sdb_client_model.proofs.MessageDeliveries.{IsReady, Delivers, Delivered, delivers_then, delivers_same, delivered_after, deliver}

-- ---- a new connection

module _ (start : MessageState) (source : List ℕ) where
  -- s, in a state that has no connection of the source
  record Disconnected (s : MessageState) : Type 0 where
    pub later : MessageState
    pub delivers : Delivers start source s later
    pub none : later.connections source ≡ None

  disconnect_by : (s : MessageState) → IsSmallState start s → (o : Option ClientConnection) → s.connections source ≡ o
      → Disconnected s
  disconnect_by s h None is = record {
    later = s;
    delivers = delivers_same start source s s refl
        (continues_none start s h);
    none = is;
  }
  disconnect_by s h (Some k) is =
      let later = after_end s source k in
      record {
        later = later;
        delivers =
            delivers_same start source s later refl
            (continues_one start s later h (connection_ends source) refl
            (record { connection = k; is_open = is; new_is = refl }));
        none = value_at s.connections source None;
      }

  -- the client connects, and the server handles its `s`
  module _ (s : MessageState) (h : IsSmallState start s) (none : s.connections source ≡ None) where
    abbrev version : ℕ
    version = (source_client s source).version - 1

    abbrev opened : ClientConnection
    opened = new_connection s.next_pass (codes "c")

    abbrev connected : MessageState
    connected = after_connecting s source (codes "c")

    abbrev subscribing : ClientConnection
    subscribing = with_sent_message opened (subscribe version)

    abbrev after_sending_s : MessageState
    after_sending_s = with_connection connected source (Some subscribing)

    abbrev subscribed : ClientConnection
    subscribed = with_answers subscribing [] (Some (length s.shared.log)) (subscribe_answers s.shared.log version)

    abbrev after_subscribing : MessageState
    after_subscribing = after_handling after_sending_s source subscribing (subscribe version) [] 0

    connect_delivers : Delivers start source s connected
    connect_delivers =
        delivers_same start source s connected refl (continues_one start s connected h
        (client_connects source (codes "c")) refl (none, refl))

    send_delivers : Delivers start source connected after_sending_s
    send_delivers =
        delivers_same start source connected after_sending_s refl
        (continues_one start connected after_sending_s connect_delivers.continues.small (client_subscribes source) refl
        (record { connection = opened; is_open = value_at s.connections source (Some opened); new_is = refl }))

    subscribe_delivers : Delivers start source after_sending_s after_subscribing
    subscribe_delivers =
        delivers_same start source after_sending_s after_subscribing refl
        (continues_one start after_sending_s after_subscribing send_delivers.continues.small (server_handles source 0)
        refl
        (record {
          connection = subscribing;
          is_open = value_at connected.connections source (Some subscribing);
          message = subscribe version;
          rest = [];
          first = refl;
          new_is = refl;
        }))

    subscribe_ready : IsReady source after_subscribing subscribed
    subscribe_ready = record {
      is_open = value_at after_sending_s.connections source (Some subscribed);
      position = length s.shared.log;
      subscribed = refl;
      none_unhandled = refl;
      listed = inr (Contains-push (map op_message (drop version s.shared.log)) caught_up);
    }

    connected_delivered : Delivered start source s
    connected_delivered =
        let sent = delivers_then start source s connected after_sending_s connect_delivers send_delivers in
        let d = delivers_then start source s after_sending_s after_subscribing sent subscribe_delivers in
        delivered_after start source s after_subscribing d
        (deliver start source after_subscribing d.continues.small subscribed subscribe_ready)

  -- the client processes all entries, over a new connection
  deliver_all : (s : MessageState) → IsSmallState start s → Delivered start source s
  deliver_all s h =
      let d = disconnect_by s h (s.connections source) refl in
      delivered_after start source s d.later d.delivers (connected_delivered d.later d.delivers.continues.small d.none)

-- ---- the sent edit is stored

-- a run without edits, which changes no other client
record Progresses (start : MessageState) (source : List ℕ) (s later : MessageState) : Type 0 where
  pub continues : Continues start s later
  pub others : (other : List ℕ) → (source ≡ other → ⊥) → source_client later other ≡ source_client s other

progresses_then : (start : MessageState) (source : List ℕ) (s mid later : MessageState) → Progresses start source s mid
    → Progresses start source mid later → Progresses start source s later
progresses_then start source s mid later a b = record {
  continues = continues_then start s mid later a.continues b.continues;
  others = λ other ne. b.others other ne ∙ a.others other ne;
}

-- the client is ready, has processed all entries, and has no sent edit
record Stored (start : MessageState) (source : List ℕ) (n : ℕ) (s : MessageState) : Type 0 where
  pub later : MessageState
  pub progresses : Progresses start source s later
  pub connection : ClientConnection
  pub ready : IsReady source later connection
  pub answered : connection.is_caught_up ≡ true
  pub none_sent : (source_client later source).sent ≡ None
  pub version : (source_client later source).version ≡ length later.shared.log
  pub queued : length (queued_edits (source_client later source)) ≤ n

module _ (start : MessageState) (source : List ℕ) (s : MessageState) (h : IsSmallState start s) (k : ClientConnection)
    (is_open : s.connections source ≡ Some k) (position : ℕ)
    (subscribed : k.queue ≡ Some position) (answered : k.is_caught_up ≡ true) (t : SentEdit)
    (only : k.to_server ≡ submit t ∷ []) (is_sent : (source_client s source).sent ≡ Some t) where
  abbrev edit_of_source : SubmittedEdit
  edit_of_source = record { source = source; sent = t }

  abbrev submission : PlainSubmission
  submission = submission_of edit_of_source k.via k.by

  abbrev decision : Decision
  decision = decide s.shared.log submission 0

  abbrev decided : ClientConnection
  decided = with_answers k [] k.queue (submit_answers t.seq decision.reply)

  abbrev after_decided : MessageState
  after_decided = after_handling s source k (submit t) [] 0

  has_been_sent : Contains s.shared.submitted edit_of_source
  has_been_sent = (known start s h).consistent.network source t is_sent

  stored_now : DecisionCase s.shared.log submission 0 → (v : ℕ) × (stored_at source t.seq decision.log ≡ Some v)
  stored_now (is_repeated i at is) = (i, ap (λ (d : Decision). stored_at source t.seq d.log) is ∙ at)
  stored_now (is_refused code is) = absurd (next_not_refused start s h edit_of_source k.via k.by 0 code has_been_sent
      (ap (λ (d : Decision). d.reply) is))
  stored_now (is_stored m new is) = (
    length s.shared.log,
    ap (λ (d : Decision). stored_at source t.seq d.log) is
        ∙ stored_at_end s.shared.log (new_entry s.shared.log submission 0 m) source t.seq new
        (own_identifier source t.seq (new_entry s.shared.log submission 0 m) refl refl),
  )

  decided_continues : Continues start s after_decided
  decided_continues =
      continues_one start s after_decided h (server_handles source 0) refl
      (record { connection = k; is_open = is_open; message = submit t; rest = []; first = only; new_is = refl })

  decided_ready : IsReady source after_decided decided
  decided_ready = record {
    is_open = value_at s.connections source (Some decided);
    position = position;
    subscribed = subscribed;
    none_unhandled = refl;
    listed = inl answered;
  }

  delivered : Delivered start source after_decided
  delivered = deliver start source after_decided decided_continues.small decided decided_ready

  -- an edit that is stored is processed
  not_sent : (later : MessageState) → IsConsistent later.shared
      → (source_client later source).version ≡ length later.shared.log → later.shared.log ≡ decision.log
      → (source_client later source).sent ≡ Some t → ⊥
  not_sent later consistent version log sent =
      let r : IsSentEditOf later.shared.log source (source_client later source) t =
      subst (IsSentOrNone later.shared.log source (source_client later source)) sent (consistent.clients source).sent in
      let stored = stored_now (decision_case s.shared.log submission 0) in
      none_is_some stored.0
      (sym r.not_processed
      ∙ ap (stored_at source t.seq) (take_all (source_client later source).version later.shared.log (omega arith))
      ∙ ap (stored_at source t.seq) log
      ∙ stored.1)

  none_sent_of : (o : Option SentEdit) → (o ≡ None) ⊎ (o ≡ Some t) → (o ≡ Some t → ⊥) → o ≡ None
  none_sent_of o (inl none) never = none
  none_sent_of o (inr is) never = absurd (never is)

  sent_or_none : (x y : Option SentEdit) → (y ≡ None) ⊎ (y ≡ x) → x ≡ Some t → (y ≡ None) ⊎ (y ≡ Some t)
  sent_or_none x y (inl none) is = inl none
  sent_or_none x y (inr same) is = inr (same ∙ is)

  store_sent : Stored start source (length (queued_edits (source_client s source))) s
  store_sent =
      let d = delivered in
      let queued = d.delivers.queued in
      record {
        later = d.later;
        progresses = record {
          continues = continues_then start s after_decided d.later decided_continues d.delivers.continues;
          others = d.delivers.others;
        };
        connection = d.connection;
        ready = d.ready;
        answered = d.answered;
        none_sent =
            none_sent_of (source_client d.later source).sent
            (sent_or_none (source_client s source).sent (source_client d.later source).sent d.delivers.sent is_sent)
            (not_sent d.later (known start d.later d.delivers.continues.small).consistent d.version d.delivers.log);
        version = d.version;
        queued = omega arith;
      }

-- ---- all pending edits are stored

module _ (start : MessageState) (source : List ℕ) where
  -- the client has no pending edit, and has processed all entries
  record Settled (s : MessageState) : Type 0 where
    pub later : MessageState
    pub progresses : Progresses start source s later
    pub none_pending : (source_client later source).pending ≡ []

  settled_after : (s mid : MessageState) → Progresses start source s mid → Settled mid → Settled s
  settled_after s mid a d =
      record {
        later = d.later;
        progresses = progresses_then start source s mid d.later a d.progresses;
        none_pending =
            d.none_pending;
      }

  -- from each state with a ready client without a sent edit, whose queue has at most n edits
  abbrev SettlesFrom : ℕ → Type 0
  SettlesFrom n =
      (s : MessageState) → IsSmallState start s → (k : ClientConnection) → IsReady source s k → k.is_caught_up ≡ true
      → (source_client s source).sent ≡ None → length (queued_edits (source_client s source)) ≤ n → Settled s

  module _ (s : MessageState) (h : IsSmallState start s) (k : ClientConnection) (ready : IsReady source s k)
      (answered : k.is_caught_up ≡ true) where
    abbrev c : Client
    c = source_client s source

    -- the client has sent an edit
    abbrev sent_message : SentEdit → ClientConnection
    sent_message t = with_sent_message k (submit t)

    only_message : (t : SentEdit) → (sent_message t).to_server ≡ submit t ∷ []
    only_message t = ap (λ l. l ++ submit t ∷ []) ready.none_unhandled

    -- the next edit of the queue
    module _ (op : List PlainComponent) (ops : List (List PlainComponent)) (none : c.sent ≡ None)
        (first : c.pending ≡ op ∷ ops) where
      abbrev after_next : MessageState
      after_next = with_shared (with_connection s source (Some (sent_message (next_sent c op))))
          (after_sending s.shared source op)

      next_client : source_client after_next source ≡ after_send op c
      next_client = value_at s.shared.clients source (after_send op c)

      next_continues : Continues start s after_next
      next_continues =
          continues_one start s after_next h (client_sends source) refl
          (record {
            connection = k;
            connected = record { is_open = ready.is_open; answered = answered };
            operation = op;
            queue = ops;
            none_sent = none;
            first = first;
            new_is = refl;
          })

      next_stored : Stored start source (length (queued_edits (source_client after_next source))) after_next
      next_stored =
          store_sent start source after_next next_continues.small (sent_message (next_sent c op))
          (value_at s.connections source (Some (sent_message (next_sent c op)))) ready.position ready.subscribed
          answered (next_sent c op) (only_message (next_sent c op)) (ap (λ (x : Client). x.sent) next_client)

      next_queued : length (queued_edits (source_client after_next source)) ≡ length ops
      next_queued = ap (λ (x : Client). length (queued_edits x)) next_client
          ∙ ap (λ l. length (queue_after (Some (next_sent c op)) l)) first

      queued_before : length (queued_edits c) ≡ suc (length ops)
      queued_before = ap (λ o. length (queue_after o c.pending)) none ∙ ap length first

      next_progresses : Progresses start source s after_next
      next_progresses = record {
        continues = next_continues;
        others = λ other ne. value_at_other s.shared.clients source
            other (after_send op c) ne;
      }

    settle_next : (n : ℕ) → SettlesFrom n → (op : List PlainComponent) (ops : List (List PlainComponent))
        → c.sent ≡ None → c.pending ≡ op ∷ ops → length (queued_edits c) ≤ suc n → Settled s
    settle_next n next op ops none first few =
        let d = next_stored op ops none first in
        let count = next_queued op ops none first in
        let before = queued_before op ops none first in
        let left = d.queued in
        settled_after s d.later (progresses_then start source s (after_next op ops none first) d.later
        (next_progresses op ops none first) d.progresses)
        (next d.later d.progresses.continues.small d.connection d.ready d.answered d.none_sent (omega arith))

    settled_here : c.pending ≡ [] → Settled s
    settled_here none =
        record {
          later = s;
          progresses = record {
            continues = continues_none start s h;
            others = λ other ne.
                refl;
          };
          none_pending = none;
        }

    settle_last : (ops : List (List PlainComponent)) → c.sent ≡ None → c.pending ≡ ops → length (queued_edits c) ≤ 0
        → Settled s
    settle_last [] none pending few = settled_here pending
    settle_last (op ∷ ops) none pending few = let count = queued_before op ops none pending in absurd (omega arith)

    settle_more : (n : ℕ) → SettlesFrom n → (ops : List (List PlainComponent)) → c.sent ≡ None → c.pending ≡ ops
        → length (queued_edits c) ≤ suc n → Settled s
    settle_more n next [] none pending few = settled_here pending
    settle_more n next (op ∷ ops) none pending few = settle_next n next op ops none pending few

  settle_within : (n : ℕ) → SettlesFrom n
  settle_within zero s h k ready answered none few = settle_last s h k ready answered (source_client s source).pending
      none
      refl few
  settle_within (suc n) s h k ready answered none few = settle_more s h k ready answered n (settle_within n)
      (source_client s source).pending none refl few

  settle_none : (s : MessageState) → IsSmallState start s → (k : ClientConnection) → IsReady source s k
      → k.is_caught_up ≡ true → (source_client s source).sent ≡ None → Settled s
  settle_none s h k ready answered none = settle_within (length (queued_edits (source_client s source))) s h k ready
      answered none (omega arith)

  -- its sent edit is sent once more
  settle_by : (s : MessageState) → IsSmallState start s → (k : ClientConnection) → IsReady source s k
      → k.is_caught_up ≡ true → (o : Option SentEdit) → (source_client s source).sent ≡ o → Settled s
  settle_by s h k ready answered None is = settle_none s h k ready answered is
  settle_by s h k ready answered (Some t) is =
      let l = with_sent_message k (submit t) in
      let mid = with_connection s source (Some l) in
      let again =
      continues_one start s mid h (client_resends source) refl
      (record {
        connection = k;
        connected = record { is_open = ready.is_open; answered = answered };
        edit = t;
        is_sent = is;
        new_is = refl;
      }) in
      let d =
      store_sent start source mid again.small l (value_at s.connections source (Some l)) ready.position ready.subscribed
      answered t
      (ap (λ ms. ms ++ submit t ∷ []) ready.none_unhandled) is in
      settled_after s d.later
      (progresses_then start source s mid d.later (record { continues = again; others = λ other ne. refl })
      d.progresses)
      (settle_none d.later d.progresses.continues.small d.connection d.ready d.answered d.none_sent)

  settle : (s : MessageState) → IsSmallState start s → Settled s
  settle s h =
      let d = deliver_all start source s h in
      settled_after s d.later (record { continues = d.delivers.continues; others = d.delivers.others })
      (settle_by d.later d.delivers.continues.small d.connection d.ready d.answered (source_client d.later source).sent
      refl)

-- ---- several clients

abbrev HasNonePending : MessageState → List ℕ → Type 0
HasNonePending s source = (source_client s source).pending ≡ []

abbrev IsAtEnd : MessageState → List ℕ → Type 0
IsAtEnd s source = (source_client s source).version ≡ length s.shared.log

-- the client of the source, or another one
changed_or_not : (P : List ℕ → Type 0) (source other : List ℕ) → P source → ((source ≡ other → ⊥) → P other) → P other
changed_or_not P source other here there = elim (cases_Bool (bytes_eq source other)) [
  | inl same ↦ subst P (same_source source other same) here
  | inr differs ↦ there (other_source source other differs)
]

module _ (start : MessageState) where
  -- each client of the sources has no pending edit
  record AllSettled (sources : List (List ℕ)) (s : MessageState) : Type 0 where
    pub later : MessageState
    pub continues : Continues start s later
    pub none_pending : All (HasNonePending later) sources
    pub kept : (other : List ℕ) → HasNonePending s other → HasNonePending later other

  settle_all : (sources : List (List ℕ)) (s : MessageState) → IsSmallState start s → AllSettled sources s
  settle_all [] s h = record {
    later = s;
    continues = continues_none start s h;
    none_pending = All-nil
        (HasNonePending s);
    kept = λ other none. none;
  }
  settle_all (source ∷ sources) s h =
      let d = settle start source s h in
      let rest = settle_all sources d.later d.progresses.continues.small in
      record {
        later = rest.later;
        continues = continues_then start s d.later rest.later d.progresses.continues rest.continues;
        none_pending = All-cons (HasNonePending rest.later) source sources (rest.kept source d.none_pending)
            rest.none_pending;
        kept = λ other none.
            rest.kept other
            (changed_or_not (HasNonePending d.later) source other d.none_pending
            (λ ne. ap (λ (x : Client). x.pending) (d.progresses.others other ne) ∙ none));
      }

  -- a client without a pending edit has none after deliveries
  empty_of_length : (ops : List (List PlainComponent)) → length ops ≡ 0 → ops ≡ []
  empty_of_length [] none = refl
  empty_of_length (op ∷ ops) none = absurd (omega arith)

  sent_of_none : (s : MessageState) (source : List ℕ) → IsConsistent s.shared → HasNonePending s source
      → (o : Option SentEdit) → (source_client s source).sent ≡ o → o ≡ None
  sent_of_none s source h none None is = refl
  sent_of_none s source h none (Some t) is =
      let r : IsSentEditOf s.shared.log source (source_client s source) t =
      subst (IsSentOrNone s.shared.log source (source_client s source)) is (h.clients source).sent in
      let bad : [] ≡ r.operation ∷ r.queue = sym none ∙ r.first in
      cc

  still_none : (x y : Option SentEdit) → (y ≡ None) ⊎ (y ≡ x) → x ≡ None → y ≡ None
  still_none x y (inl none) is = none
  still_none x y (inr same) is = same ∙ is

  none_after : (s : MessageState) (source : List ℕ) → IsSmallState start s → HasNonePending s source
      → (d : Delivered start source s) → HasNonePending d.later source
  none_after s source h none d =
      let sent = sent_of_none s source (known start s h).consistent none (source_client s source).sent refl in
      let later_sent = still_none (source_client s source).sent (source_client d.later source).sent d.delivers.sent
      sent in
      let before : length (queued_edits (source_client s source)) ≡ 0 = ap
      (λ o. length (queue_after o (source_client s source).pending)) sent ∙ ap length none in
      let after : length (queued_edits (source_client d.later source)) ≡ length (source_client d.later source).pending =
      ap (λ o. length (queue_after o (source_client d.later source).pending)) later_sent in
      let queued = d.delivers.queued in
      empty_of_length (source_client d.later source).pending (omega arith)

  -- each client of the sources has processed all entries
  record AllDelivered (sources : List (List ℕ)) (s : MessageState) : Type 0 where
    pub later : MessageState
    pub continues : Continues start s later
    pub log : later.shared.log ≡ s.shared.log
    pub at_end : All (IsAtEnd later) sources
    pub kept_at_end : (other : List ℕ) → IsAtEnd s other → IsAtEnd later other
    pub kept_none : (other : List ℕ) → HasNonePending s other → HasNonePending later other

  deliver_to_all : (sources : List (List ℕ)) (s : MessageState) → IsSmallState start s → AllDelivered sources s
  deliver_to_all [] s h = record {
    later = s;
    continues = continues_none start s h;
    log = refl;
    at_end = All-nil (IsAtEnd s);
    kept_at_end = λ other at. at;
    kept_none = λ other none. none;
  }
  deliver_to_all (source ∷ sources) s h =
      let d = deliver_all start source s h in
      let rest = deliver_to_all sources d.later d.delivers.continues.small in
      record {
        later = rest.later;
        continues = continues_then start s d.later rest.later d.delivers.continues rest.continues;
        log = rest.log ∙ d.delivers.log;
        at_end = All-cons (IsAtEnd rest.later) source sources (rest.kept_at_end source d.version) rest.at_end;
        kept_at_end = λ other at.
            rest.kept_at_end other
            (changed_or_not (IsAtEnd d.later) source other d.version
            (λ ne. ap (λ (x : Client). x.version) (d.delivers.others other ne) ∙ at ∙ ap length (sym d.delivers.log)));
        kept_none = λ other none.
            rest.kept_none other (none_at source other d none);
      }
    where
      none_at : (source other : List ℕ) (d : Delivered start source s) → HasNonePending s other
          → HasNonePending d.later other
      none_at source other d none =
          none_by source other (bytes_eq source other) refl d none
        where
          none_by : (source other : List ℕ) (b : Bool) → bytes_eq source other ≡ b → (d : Delivered start source s)
              → HasNonePending s other → HasNonePending d.later other
          none_by source other true is d none =
              let same = same_source source other is in
              subst (HasNonePending d.later) same (none_after s source h (subst (HasNonePending s) (sym same) none) d)
          none_by source other false is d none = ap (λ (x : Client). x.pending)
              (d.delivers.others other (other_source source other is)) ∙ none

pub can_converge : (start s : MessageState) (sources : List (List ℕ)) → IsSmallState start s → CanConverge sources s
can_converge start s sources h =
    let a = settle_all start sources s h in
    let b = deliver_to_all start sources a.later a.continues.small in
    let c = continues_then start s a.later b.later a.continues b.continues in
    let pending : All (HasNonePending b.later) sources =
    λ i d below. b.kept_none _ (a.none_pending i d below) in
    record {
      steps = c.steps;
      later = b.later;
      run = c.run;
      none_edited = c.none_edited;
      none_pending = pending;
      shown = λ i d below.
          clients_converge c.small.client_steps start.shared b.later.shared _ c.small.reached.reached
          (record { all_processed = b.at_end i d below; none_pending = pending i d below });
    }

pub clients_can_converge : ClientsCanConverge
clients_can_converge steps start s sources r = can_converge start s sources (small_state steps start s r)
