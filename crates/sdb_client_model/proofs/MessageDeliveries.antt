-- A client that is connected can receive and process all entries: each delivery leaves less to deliver.
use Rattle.std.proofs.Common.{◌≡◌, ℕ, zero, suc, ◌+◌, ◌-◌, ◌*◌, ◌≤◌, List, [], ◌∷◌, length, slice_get, nat_eq, nat_lt, ◌||◌, Bool, true, false, cond, Option, Some, None, Contains, ◌⊎◌, inl, inr, refl, sym, ap, ◌∙◌, subst, arith, eqb-true, eq-eqb, ltb-true, ltb-false, length-append}
use Rattle.std.proofs.lemmas.List.Elements.{Contains-append_left}
use Rattle.sdb_oplog.specs.Plain.{PlainEntry}
use Rattle.sdb_client_model.specs.Client.{SentEdit, Client, queued_edits, is_sent_edit, after_acknowledgement, after_content}
use Rattle.sdb_client_model.specs.Machine.{with_changed_client}
use Rattle.sdb_client_model.specs.Messages.{ServerMessage, op_message, caught_up, ClientConnection, ReceivedEntries, with_early, with_ack, is_list_end, is_own_entry, subscription_messages, with_answers}
use Rattle.sdb_client_model.specs.MessageMachine.{MessageState, source_client, with_connection, with_received, with_shared, client_receives, client_advances, server_pumps, after_receiving, IsMessageStep}
use Rattle.sdb_client_model.specs.MessageLaws.{HasReceivedAll}
use Rattle.sdb_client_model.proofs.StoredOnceLemmas.{HasSameEdits, same_after_entry}
use Rattle.sdb_client_model.proofs.MessageLogs.{slice_get_below, slice_get_of_below, drop_of_slice_get}
use Rattle.sdb_client_model.proofs.MessageClientSteps.{advances_own, advances_early}
use Rattle.sdb_client_model.proofs.MessageCompleteness.{contains_first, IsComplete}
use Rattle.sdb_client_model.proofs.MessageCompleteRuns.{complete_in, all_processed_in, none_contained}
use Rattle.sdb_client_model.proofs.MessageContinuations.{value_at, value_at_other, IsSmallState, Continues, continues_none, continues_one, continues_then, known, own_entry, processed_client}

-- ---- definitions

-- the client's connection is open, its server has handled all, and the end of the list is received or sent
pub record IsReady (source : List ℕ) (s : MessageState) (k : ClientConnection) : Type 0 where
  pub is_open : s.connections source ≡ Some k
  pub position : ℕ
  pub subscribed : k.queue ≡ Some position
  pub none_unhandled : k.to_server ≡ []
  pub listed : (k.is_caught_up ≡ true) ⊎ Contains k.to_client caught_up

-- a run without edits, which changes neither the log nor another client
pub record Delivers (start : MessageState) (source : List ℕ) (s later : MessageState) : Type 0 where
  pub continues : Continues start s later
  pub log : later.shared.log ≡ s.shared.log
  pub others : (other : List ℕ) → (source ≡ other → ⊥) → source_client later other ≡ source_client s other
  pub sent : ((source_client later source).sent ≡ None)
      ⊎ ((source_client later source).sent ≡ (source_client s source).sent)
  pub queued : length (queued_edits (source_client later source)) ≡ length (queued_edits (source_client s source))

pub record Delivered (start : MessageState) (source : List ℕ) (s : MessageState) : Type 0 where
  pub later : MessageState
  pub delivers : Delivers start source s later
  pub connection : ClientConnection
  pub ready : IsReady source later connection
  pub answered : connection.is_caught_up ≡ true
  pub version : (source_client later source).version ≡ length later.shared.log

-- how much is left to deliver
abbrev left_to_deliver : MessageState → List ℕ → ClientConnection → ℕ → ℕ
left_to_deliver s source k position =
    2 * (length s.shared.log - position) + length k.to_client + (length s.shared.log - (source_client s source).version)

sent_then : (x y z : Option SentEdit) → (y ≡ None) ⊎ (y ≡ x) → (z ≡ None) ⊎ (z ≡ y) → (z ≡ None) ⊎ (z ≡ x)
sent_then x y z a (inl none) = inl none
sent_then x y z (inl none) (inr same) = inl (same ∙ none)
sent_then x y z (inr first) (inr same) = inr (same ∙ first)

pub delivers_then : (start : MessageState) (source : List ℕ) (s mid later : MessageState) → Delivers start source s mid
    → Delivers start source mid later → Delivers start source s later
delivers_then start source s mid later a b = record {
  continues = continues_then start s mid later a.continues b.continues;
  log = b.log ∙ a.log;
  others = λ other ne. b.others other ne ∙ a.others other ne;
  sent = sent_then (source_client s source).sent (source_client mid source).sent (source_client later source).sent
      a.sent b.sent;
  queued = b.queued ∙ a.queued;
}

pub delivered_after : (start : MessageState) (source : List ℕ) (s mid : MessageState) → Delivers start source s mid
    → Delivered start source mid → Delivered start source s
delivered_after start source s mid a d = record {
  later = d.later;
  delivers = delivers_then start source s mid d.later a d.delivers;
  connection = d.connection;
  ready = d.ready;
  answered = d.answered;
  version = d.version;
}

-- a step that changes neither the log nor a client
pub delivers_same : (start : MessageState) (source : List ℕ) (s later : MessageState) → later.shared ≡ s.shared
    → Continues start s later → Delivers start source s later
delivers_same start source s later same c =
    let clients : (other : List ℕ) → source_client later other ≡ source_client s other = λ other. ap
    (λ x. x.clients other)
    same in
    record {
      continues = c;
      log = ap (λ x. x.log) same;
      others = λ other ne. clients other;
      sent = inr (ap (λ (x : Client). x.sent) (clients source));
      queued = ap (λ (x : Client). length (queued_edits x)) (clients source);
    }

-- ---- the next delivery

data NextDelivery (source : List ℕ) (s : MessageState) (k : ClientConnection) (position : ℕ) : Type 0 where
  can_receive : (m : ServerMessage) (rest : List ServerMessage) → k.to_client ≡ m ∷ rest
      → NextDelivery source s k position
  can_pump : (e : PlainEntry) → k.to_client ≡ [] → slice_get s.shared.log position ≡ Some e
      → NextDelivery source s k position
  can_process_own : (s.received source).ack ≡ Some (source_client s source).version → NextDelivery source s k position
  can_process_early : (e : PlainEntry) → (s.received source).early (source_client s source).version ≡ Some e
      → NextDelivery source s k position
  has_received_all :
      HasReceivedAll s.shared.log (source_client s source) (s.received source) k → NextDelivery source s k position

module _ (source : List ℕ) (s : MessageState) (k : ClientConnection) (position : ℕ)
    (subscribed : k.queue ≡ Some position) (reached : position ≤ length s.shared.log) where
  abbrev version : ℕ
  version = (source_client s source).version

  next_at_end : (o : Option ℕ) (p : Option PlainEntry) → k.to_client ≡ [] → length s.shared.log ≤ position
      → (s.received source).ack ≡ o → (o ≡ Some version → ⊥)
      → (s.received source).early version ≡ p → NextDelivery source s k position
  next_at_end o (Some e) empty end ack other early = can_process_early e early
  next_at_end o None empty end ack other early =
      let same : position ≡ length s.shared.log = omega arith in
      has_received_all (record {
        all_read = subscribed ∙ ap (λ n. Some n) same;
        none_in_channel = empty;
        none_early = early;
        none_acknowledged = λ is. other (sym ack ∙ is);
      })

  next_by_ack : (v : ℕ) (b : Bool) → k.to_client ≡ [] → length s.shared.log ≤ position
      → (s.received source).ack ≡ Some v → nat_eq v version ≡ b → NextDelivery source s k position
  next_by_ack v true empty end ack is = can_process_own (ack ∙ ap (λ n. Some n) (eqb-true v version is))
  next_by_ack v false empty end ack is =
      next_at_end (Some v) ((s.received source).early version) empty end ack
      (λ same. let here : v ≡ version = cc in let bad : false ≡ true = sym is ∙ eq-eqb v version here in cc) refl

  next_by_received : (o : Option ℕ) → k.to_client ≡ [] → length s.shared.log ≤ position → (s.received source).ack ≡ o
      → NextDelivery source s k position
  next_by_received (Some v) empty end ack = next_by_ack v (nat_eq v version) empty end ack refl
  next_by_received None empty end ack = next_at_end None ((s.received source).early version) empty end ack (λ is. cc)
      refl

  next_by_queue : (b : Bool) → k.to_client ≡ [] → nat_lt position (length s.shared.log) ≡ b
      → NextDelivery source s k position
  next_by_queue true empty is =
      let e = slice_get_of_below s.shared.log position (ltb-true position (length s.shared.log) is) in can_pump e.0
      empty e.1
  next_by_queue false empty is = next_by_received (s.received source).ack empty
      (ltb-false position (length s.shared.log) is) refl

  next_by_channel : (ms : List ServerMessage) → k.to_client ≡ ms → NextDelivery source s k position
  next_by_channel (m ∷ rest) is = can_receive m rest is
  next_by_channel [] is = next_by_queue (nat_lt position (length s.shared.log)) is refl

-- ---- each delivery

module _ (start : MessageState) (source : List ℕ) (s : MessageState) (h : IsSmallState start s) (k : ClientConnection)
    (ready : IsReady source s k) where
  abbrev c : Client
  c = source_client s source

  abbrev log : List PlainEntry
  log = s.shared.log

  complete_here : IsComplete source log c (s.received source) k ready.position
  complete_here = complete_in s source k ready.position h.holds ready.is_open ready.subscribed

  -- a message is received
  module _ (m : ServerMessage) (rest : List ServerMessage) (first : k.to_client ≡ m ∷ rest) where
    abbrev read : ClientConnection
    read = record k { to_client = rest; is_caught_up = k.is_caught_up || is_list_end m }

    abbrev after_read : MessageState
    after_read = after_receiving s source k m rest

    read_delivers : Delivers start source s after_read
    read_delivers =
        delivers_same start source s after_read refl
        (continues_one start s after_read h (client_receives source) refl
        (record { connection = k; is_open = ready.is_open; message = m; rest = rest; first = first; new_is = refl }))

    still_caught_up : (b : Bool) → k.is_caught_up ≡ true → (k.is_caught_up || b) ≡ true
    still_caught_up b is = ap (λ a. a || b) is

    now_caught_up : (a : Bool) → m ≡ caught_up → (a || is_list_end m) ≡ true
    now_caught_up true is = refl
    now_caught_up false is = ap is_list_end is

    read_end : (m ≡ caught_up) ⊎ Contains rest caught_up → (read.is_caught_up ≡ true) ⊎ Contains rest caught_up
    read_end (inl is) = inl (now_caught_up k.is_caught_up is)
    read_end (inr later) = inr later

    read_listed : (k.is_caught_up ≡ true) ⊎ Contains k.to_client caught_up → (read.is_caught_up ≡ true)
        ⊎ Contains rest caught_up
    read_listed (inl is) = inl (still_caught_up (is_list_end m) is)
    read_listed (inr has) = read_end (contains_first caught_up m rest (subst (λ l. Contains l caught_up) first has))

    abbrev read_ready : IsReady source after_read read
    read_ready = record {
      is_open = value_at s.connections source (Some read);
      position = ready.position;
      subscribed = ready.subscribed;
      none_unhandled = ready.none_unhandled;
      listed = read_listed ready.listed;
    }

  -- an entry is pumped
  module _ (e : PlainEntry) (at : slice_get log ready.position ≡ Some e) where
    abbrev answers : List ServerMessage
    answers = subscription_messages k.by source k.via e

    abbrev pumped : ClientConnection
    pumped = with_answers k k.to_server (Some (ready.position + 1)) answers

    abbrev after_pump : MessageState
    after_pump = with_connection s source (Some pumped)

    pump_delivers : Delivers start source s after_pump
    pump_delivers =
        delivers_same start source s after_pump refl
        (continues_one start s after_pump h (server_pumps source) refl
        (record {
          connection = k;
          is_open = ready.is_open;
          position = ready.position;
          subscribed = ready.subscribed;
          entry = e;
          entry_is = at;
          new_is = refl;
        }))

    pump_listed : (k.is_caught_up ≡ true) ⊎ Contains k.to_client caught_up → (k.is_caught_up ≡ true)
        ⊎ Contains pumped.to_client caught_up
    pump_listed (inl is) = inl is
    pump_listed (inr has) = inr (Contains-append_left k.to_client answers caught_up has)

    abbrev pump_ready : IsReady source after_pump pumped
    pump_ready = record {
      is_open = value_at s.connections source (Some pumped);
      position = ready.position + 1;
      subscribed = refl;
      none_unhandled = ready.none_unhandled;
      listed = pump_listed ready.listed;
    }

    few_answers : (own : Bool) → length (cond own [] (op_message e ∷ [])) ≤ 1
    few_answers true = omega arith
    few_answers false = omega arith

  -- the client advances
  module _ (client : Client) (q : ReceivedEntries) (e : PlainEntry) (own : Bool) (at : slice_get log c.version ≡ Some e)
      (is_own : is_sent_edit source c.sent e ≡ own)
      (client_is : cond own (after_acknowledgement c c.pending) (after_content c e.content) ≡ Some client) where
    abbrev after_advance : MessageState
    after_advance = with_received (with_shared s (with_changed_client s.shared source client)) source q

    advanced_client : source_client after_advance source ≡ client
    advanced_client = value_at s.shared.clients source client

    advance_delivers : Continues start s after_advance → ((client.sent ≡ None) ⊎ (client.sent ≡ c.sent))
        → Delivers start source s after_advance
    advance_delivers continues sent =
        let same : HasSameEdits source s.shared client = same_after_entry source s.shared e _
        (drop_of_slice_get log c.version e at) client own is_own client_is in
        record {
          continues = continues;
          log = refl;
          others = λ other ne. value_at_other s.shared.clients source other client ne;
          sent = subst (λ (x : Client). (x.sent ≡ None) ⊎ (x.sent ≡ c.sent)) (sym advanced_client) sent;
          queued = ap (λ (x : Client). length (queued_edits x)) advanced_client ∙ same.2;
        }

    abbrev advance_ready : IsReady source after_advance k
    advance_ready = record {
      is_open = ready.is_open;
      position = ready.position;
      subscribed = ready.subscribed;
      none_unhandled = ready.none_unhandled;
      listed = ready.listed;
    }

  -- ---- all are received

  answered_at_end : k.to_client ≡ [] → (k.is_caught_up ≡ true) ⊎ Contains k.to_client caught_up → k.is_caught_up ≡ true
  answered_at_end empty (inl is) = is
  answered_at_end empty (inr has) = none_contained caught_up (subst (λ l. Contains l caught_up) empty has)

  delivered_here : HasReceivedAll log c (s.received source) k → Delivered start source s
  delivered_here all = record {
    later = s;
    delivers = delivers_same start source s s refl (continues_none start s h);
    connection = k;
    ready = ready;
    answered = answered_at_end all.none_in_channel ready.listed;
    version = all_processed_in s source k h.holds ready.is_open all;
  }

-- ---- all deliveries

module _ (start : MessageState) (source : List ℕ) where
  -- from each small state with at most n left to deliver
  abbrev DeliversFrom : ℕ → Type 0
  DeliversFrom n =
      (s : MessageState) → IsSmallState start s → (k : ClientConnection) → (ready : IsReady source s k)
      → left_to_deliver s source k ready.position ≤ n → Delivered start source s

  module _ (s : MessageState) (h : IsSmallState start s) (k : ClientConnection) (ready : IsReady source s k) where
    abbrev NextHere : Type 0
    NextHere = NextDelivery source s k ready.position

    -- the client advances by one entry, and less is left
    module _ (n : ℕ) (next : DeliversFrom n) (few : left_to_deliver s source k ready.position ≤ suc n) where
      after_advancing : (client : Client) (q : ReceivedEntries) (e : PlainEntry) (own : Bool)
          → slice_get s.shared.log (source_client s source).version ≡ Some e
          → is_sent_edit source (source_client s source).sent e ≡ own
          → cond own (after_acknowledgement (source_client s source) (source_client s source).pending)
          (after_content (source_client s source) e.content) ≡ Some client
          → client.version ≡ (source_client s source).version + 1
          → ((client.sent ≡ None) ⊎ (client.sent ≡ (source_client s source).sent))
          → IsMessageStep (client_advances source) s (with_received
          (with_shared s (with_changed_client s.shared source client)) source q)
          → Delivered start source s
      after_advancing client q e own at is_own client_is more sent step =
          let later = with_received (with_shared s (with_changed_client s.shared source client)) source q in
          let d = advance_delivers start source s h k ready client q e own at is_own client_is
          (continues_one start s later h (client_advances source) refl step) sent in
          let here = advanced_client start source s h k ready client q e own at is_own client_is in
          let new_version : (source_client later source).version ≡ (source_client s source).version + 1 = ap
          (λ (x : Client). x.version) here ∙ more in
          let below = slice_get_below s.shared.log (source_client s source).version e at in
          let left : 2 * (length s.shared.log - ready.position) + length
          k.to_client + (length s.shared.log - (source_client later source).version) ≤ n = omega arith in
          delivered_after start source s later d (next later d.continues.small k
          (advance_ready start source s h k ready client q e own at is_own client_is) left)

      deliver_next : NextHere → Delivered start source s
      deliver_next (can_receive m rest first) =
          let d = read_delivers start source s h k ready m rest first in
          let less : length k.to_client ≡ suc (length rest) = ap length first in
          let left : 2 * (length s.shared.log - ready.position) + length
          rest + (length s.shared.log - (source_client s source).version) ≤ n = omega arith in
          delivered_after start source s (after_receiving s source k m rest) d
          (next (after_receiving s source k m rest) d.continues.small (read start source s h k ready m rest first)
          (read_ready start source s h k ready m rest first) left)
      deliver_next (can_pump e empty at) =
          let d = pump_delivers start source s h k ready e at in
          let l = pumped start source s h k ready e at in
          let new = subscription_messages k.by source k.via e in
          let below = slice_get_below s.shared.log ready.position e at in
          let sum : length l.to_client ≡ length k.to_client + length new = length-append k.to_client new in
          let few_new : length new ≤ 1 = few_answers start source s h k ready e at (is_own_entry k.by source k.via e) in
          let left : 2 * (length s.shared.log - (ready.position + 1)) + length
          l.to_client + (length s.shared.log - (source_client s source).version) ≤ n = omega arith in
          delivered_after start source s (with_connection s source (Some l)) d
          (next (with_connection s source (Some l)) d.continues.small l (pump_ready start source s h k ready e at) left)
      deliver_next (can_process_own ack) =
          let e = own_entry start s h source ack in
          let x = processed_client start s h source e.0 true e.1 e.2 in
          let a = advances_own (source_client s source) x.0 (source_client s source).pending x.1 in
          after_advancing x.0 (with_ack None (s.received source)) e.0 true e.1 e.2 x.1 a.version_is (inl a.sent_is)
          (inl (record { ack_is = ack; client = x.0; client_is = x.1; new_is = refl }))
      deliver_next (can_process_early e is) =
          let at = ((known start s h).of_log.clients source).received.early (source_client s source).version e is in
          let x = processed_client start s h source e false at.0 at.1 in
          let a = advances_early (source_client s source) x.0 e.content x.1 in
          after_advancing x.0 (with_early (source_client s source).version None (s.received source)) e false at.0 at.1
          x.1
          a.version_is (inr a.sent_is)
          (inr (record { entry = e; entry_is = is; client = x.0; client_is = x.1; new_is = refl }))
      deliver_next (has_received_all all) = delivered_here start source s h k ready all

    -- nothing is left
    deliver_none : left_to_deliver s source k ready.position ≤ 0 → NextHere → Delivered start source s
    deliver_none few (can_receive m rest first) = let less : length k.to_client ≡ suc (length rest) = ap length first in
        absurd (omega arith)
    deliver_none few (can_pump e empty at) = let below = slice_get_below s.shared.log ready.position e at in absurd
        (omega arith)
    deliver_none few (can_process_own ack) =
        let e = own_entry start s h source ack in let below = slice_get_below s.shared.log
        (source_client s source).version e.0 e.1 in
        absurd
        (omega arith)
    deliver_none few (can_process_early e is) =
        let at = ((known start s h).of_log.clients source).received.early (source_client s source).version e is in
        let below = slice_get_below s.shared.log (source_client s source).version e at.0 in
        absurd (omega arith)
    deliver_none few (has_received_all all) = delivered_here start source s h k ready all

    next_here : NextHere
    next_here = next_by_channel source s k ready.position ready.subscribed
        (complete_here start source s h k ready).reached k.to_client refl

  deliver_within : (n : ℕ) → DeliversFrom n
  deliver_within zero s h k ready few = deliver_none s h k ready few (next_here s h k ready)
  deliver_within (suc n) s h k ready few = deliver_next s h k ready n (deliver_within n) few (next_here s h k ready)

  pub deliver : (s : MessageState) → IsSmallState start s → (k : ClientConnection) → IsReady source s k
      → Delivered start source s
  deliver s h k ready = deliver_within (left_to_deliver s source k ready.position) s h k ready (omega arith)
