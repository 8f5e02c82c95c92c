-- What each step leaves of the messages that the sessions hold.
use Rattle.std.proofs.Common.{◌≡◌, ℕ, ◌+◌, List, [], ◌∷◌, ◌++◌, map, length, Bool, true, false, cond, Option, Some, None, All, ◌⊎◌, inl, inr, refl, sym, ap, ◌∙◌, subst, bytes_eq}
use lib.Seq.{drop-append_seam}
use Rattle.std.proofs.lemmas.List.Elements.{All-nil, All-tail, All-append, All-drop}
use Rattle.sdb_oplog.specs.Plain.{PlainEntry}
use Rattle.sdb_client_model.specs.Machine.{SharedDocument}
use Rattle.sdb_client_model.specs.Messages.{ClientMessage, subscribe, submit, ServerMessage, failed, ClientConnection, seq_of_message, subscription_messages, with_answers}
use Rattle.sdb_client_model.specs.MessageMachine.{MessageState, MessageStep, client_edits, client_sends, client_resends, client_receives, client_advances, server_handles, server_refuses, server_handles_unread, server_pumps, client_connects, client_subscribes, connection_ends, with_value, with_connection, source_client, ProcessesOwn, ProcessesEarly}
use Rattle.sdb_client_model.specs.MessageLaws.{IsOfLog}
use Rattle.sdb_client_model.specs.SavingMachine.{HeldMessage, held_message, SavingState, with_current, after_writing, after_held_answers, LosesHeld, IsHoldingStep, SendsHeld}
use Rattle.sdb_client_model.specs.SavingLaws.{with_held}
use Rattle.sdb_client_model.proofs.MessageInvariant.{FollowsOpen, AreMessagesOfLog, at_value}
use Rattle.sdb_client_model.proofs.MessageClientSteps.{none_is_some}
use Rattle.sdb_client_model.proofs.MessageContinuations.{value_at}
use Rattle.sdb_client_model.proofs.SavedDecisions.{LogGrowth}
use Rattle.sdb_client_model.proofs.SentViews.{connections_with_held, sent_view, view_written, HoldsForOpen}
use Rattle.sdb_client_model.proofs.SavingInvariant.{IsHeldOf, HoldsWithFile, all_held_append, all_held_now}

pub record KeepsHeld (s : SavingState) : Type 0 where
  pub held : (source : List ℕ) → All (IsHeldOf source s.current.shared.log) (s.held source)
  pub none_held : HoldsForOpen s

-- ---- open connections

none_after : (b : Bool) (l : ClientConnection) (o : Option ClientConnection) (hs gs : List HeldMessage)
    → (o ≡ None → hs ≡ []) → cond b (Some l) o ≡ None → cond b gs hs ≡ []
none_after true l o hs gs k none = none_is_some l (sym none)
none_after false l o hs gs k none = k none

none_ended : (b : Bool) (o : Option ClientConnection) (hs : List HeldMessage) → (o ≡ None → hs ≡ [])
    → cond b None o ≡ None → cond b [] hs ≡ []
none_ended true o hs k none = refl
none_ended false o hs k none = k none

-- a connection that isn't open now wasn't open before
abbrev StaysOpen : MessageState → MessageState → Type 0
StaysOpen old new = (x : List ℕ) → new.connections x ≡ None → old.connections x ≡ None

same_open : (old new mid : MessageState) → new ≡ mid → StaysOpen old mid → StaysOpen old new
same_open old new mid is stays x none = stays x (ap (λ (s : MessageState). s.connections x) (sym is) ∙ none)

opened : (old : MessageState) (source : List ℕ) (l : ClientConnection)
    → StaysOpen old (with_connection old source (Some l))
opened old source l x none = opened_by (bytes_eq source x) (old.connections x) none
  where
    opened_by : (b : Bool) (o : Option ClientConnection) → cond b (Some l) o ≡ None → o ≡ None
    opened_by true o h = none_is_some l (sym h)
    opened_by false o h = h

-- ---- what was written

answers_of_log : (s : MessageState) (source : List ℕ) (l : ClientConnection) (rest : List ClientMessage)
    (queue : Option ℕ) (ms : List ServerMessage) → AreMessagesOfLog s
    → s.connections source ≡ Some (with_answers l rest queue ms) → All (IsOfLog source s.shared.log) ms
answers_of_log s source l rest queue ms h is =
    let P : ServerMessage → Type 0 = IsOfLog source s.shared.log in
    let follows =
    subst (FollowsOpen source s.shared.log s.shared.submitted (source_client s source).version) is
    (h.clients source).connection in
    subst (All P) (drop-append_seam l.to_client ms)
    (All-drop P (length l.to_client) (l.to_client ++ ms) follows.to_client)

module _ (old new : SavingState) (h : HoldsWithFile old) where
  module _ (growth : LogGrowth old.current.shared new.current.shared) where
    -- the held messages are of the longer log
    held_longer : (source : List ℕ) → All (IsHeldOf source new.current.shared.log) (old.held source)
    held_longer source =
        subst (λ l. All (IsHeldOf source l) (old.held source)) (sym growth.log_is)
        (all_held_append source old.current.shared.log growth.entries (old.held source) (h.held source))

    module _ (state : MessageState) (new_is : new ≡ with_current old state) (stays : StaysOpen old.current state) where
      keeps_all : KeepsHeld new
      keeps_all = record {
        held = λ source.
            subst (All (IsHeldOf source new.current.shared.log)) (sym (ap (λ (s : SavingState). s.held source) new_is))
            (held_longer source);
        none_held = λ source none.
            ap (λ (s : SavingState). s.held source) new_is
            ∙ h.none_held source
            (stays source (ap (λ (s : SavingState). s.current.connections source) (sym new_is) ∙ none));
      }

    module _ (view_of_log : AreMessagesOfLog (sent_view new)) (source : List ℕ) (k : ClientConnection)
        (rest : List ClientMessage) (queue : Option ℕ) (ms : List ServerMessage) (shared : SharedDocument)
        (new_is : new ≡ after_writing old source k rest queue ms shared) where
      abbrev log : List PlainEntry
      log = new.current.shared.log

      abbrev l : ClientConnection
      l = with_held k (old.held source)

      same_log : shared.log ≡ log
      same_log = ap (λ (s : SavingState). s.current.shared.log) (sym new_is)

      written_of_log : All (IsOfLog source log) ms
      written_of_log =
          answers_of_log (sent_view new) source l rest queue ms view_of_log
          (ap (λ (s : SavingState). (sent_view s).connections source) new_is
          ∙ ap (λ (s : MessageState). s.connections source) (view_written old source k rest queue ms shared)
          ∙ value_at (connections_with_held old) source (Some (with_answers l rest queue ms)))

      abbrev now_held : List HeldMessage
      now_held = old.held source ++ map (held_message (length shared.log)) ms

      all_now_held : All (IsHeldOf source log) now_held
      all_now_held =
          All-append (IsHeldOf source log) (old.held source) (map (held_message (length shared.log)) ms)
          (held_longer source)
          (subst (λ n. All (IsHeldOf source log) (map (held_message n) ms)) (sym (ap length same_log))
          (all_held_now source log ms written_of_log))

      -- what is written is held after the other messages
      keeps_written : KeepsHeld new
      keeps_written = record {
        held = λ other.
            subst (All (IsHeldOf other log)) (sym (ap (λ (s : SavingState). s.held other) new_is))
            (at_value (All (IsHeldOf other log)) old.held source other now_held (held_longer other)
            (λ e. subst (λ x. All (IsHeldOf x log) now_held) e all_now_held));
        none_held = λ other none.
            ap (λ (s : SavingState). s.held other) new_is
            ∙ none_after (bytes_eq source other) (record k { to_server = rest; queue = queue })
            (old.current.connections other) (old.held other) now_held (h.none_held other)
            (ap (λ (s : SavingState). s.current.connections other) (sym new_is) ∙ none);
      }

    -- nothing is held for a connection that has ended
    keeps_ended : (source : List ℕ) → LosesHeld source old new → KeepsHeld new
    keeps_ended source p =
        let connection_is = ap (λ (s : SavingState). s.current) p.new_is ∙ p.ends.new_is in
        record {
          held = λ other.
              subst (All (IsHeldOf other new.current.shared.log))
              (sym (ap (λ (s : SavingState). s.held other) p.new_is))
              (at_value (All (IsHeldOf other new.current.shared.log)) old.held source other [] (held_longer other)
              (λ e. All-nil (IsHeldOf other new.current.shared.log)));
          none_held = λ other none.
              ap (λ (s : SavingState). s.held other) p.new_is
              ∙ none_ended (bytes_eq source other) (old.current.connections other) (old.held other)
              (h.none_held other) (ap (λ (s : MessageState). s.connections other) (sym connection_is) ∙ none);
        }

  -- the messages after the released one are held
  keeps_released : (source : List ℕ) → SendsHeld source old new → KeepsHeld new
  keeps_released source p =
      let log_is : old.current.shared.log ≡ new.current.shared.log =
      ap (λ (s : SavingState). s.current.shared.log) (sym p.new_is) in
      let l = record p.connection { to_client = p.connection.to_client ++ p.first.message ∷ [] } in
      let rest : All (IsHeldOf source old.current.shared.log) p.rest =
      All-tail (IsHeldOf source old.current.shared.log) p.first p.rest
      (subst (All (IsHeldOf source old.current.shared.log)) p.held_is (h.held source)) in
      record {
        held = λ other.
            subst (All (IsHeldOf other new.current.shared.log)) (sym (ap (λ (s : SavingState). s.held other) p.new_is))
            (subst (λ log. All (IsHeldOf other log) (with_value old.held source p.rest other)) log_is
            (at_value (All (IsHeldOf other old.current.shared.log)) old.held source other p.rest (h.held other)
            (λ e. subst (λ x. All (IsHeldOf x old.current.shared.log) p.rest) e rest)));
        none_held = λ other none.
            ap (λ (s : SavingState). s.held other) p.new_is
            ∙ none_after (bytes_eq source other) l (old.current.connections other) (old.held other) p.rest
            (h.none_held other) (ap (λ (s : SavingState). s.current.connections other) (sym p.new_is) ∙ none);
      }

-- ---- each step of a client, a session or the network

advanced_open : (source : List ℕ) (old new : MessageState) → ProcessesOwn source old new ⊎ ProcessesEarly source old new
    → StaysOpen old new
advanced_open source old new (inl p) = same_open old new _ p.new_is (λ x none. none)
advanced_open source old new (inr p) = same_open old new _ p.new_is (λ x none. none)

module _ (old new : SavingState) (h : HoldsWithFile old) (growth : LogGrowth old.current.shared new.current.shared)
    (view_of_log : AreMessagesOfLog (sent_view new)) where
  keeps_answers : (source : List ℕ) (k : ClientConnection) (m : ClientMessage) (rest : List ClientMessage) (now : ℕ)
      → new ≡ after_held_answers old source k m rest now → KeepsHeld new
  keeps_answers source k (subscribe v) rest now is =
      keeps_written old new h growth view_of_log source k rest _ _ old.current.shared is
  keeps_answers source k (submit t) rest now is = keeps_written old new h growth view_of_log source k rest _ _ _ is

  -- each step, by what it writes
  pub held_step : (step : MessageStep) → IsHoldingStep step old new → KeepsHeld new
  held_step (client_edits source op) p =
      keeps_all old new h growth p.state p.new_is (same_open old.current p.state _ p.changes (λ x none. none))
  held_step (client_sends source) p =
      keeps_all old new h growth p.state p.new_is
      (same_open old.current p.state _ p.changes.new_is (opened old.current source _))
  held_step (client_resends source) p =
      keeps_all old new h growth p.state p.new_is
      (same_open old.current p.state _ p.changes.new_is (opened old.current source _))
  held_step (client_receives source) p =
      keeps_all old new h growth p.state p.new_is
      (same_open old.current p.state _ p.changes.new_is (opened old.current source _))
  held_step (client_advances source) p =
      keeps_all old new h growth p.state p.new_is (advanced_open source old.current p.state p.changes)
  held_step (server_handles source now) p = keeps_answers source p.connection p.message p.rest now p.new_is
  held_step (server_refuses source) p =
      keeps_written old new h growth view_of_log source p.connection p.rest p.connection.queue
      (failed (seq_of_message p.message) ∷ []) old.current.shared p.new_is
  held_step (server_handles_unread m now) p =
      keeps_all old new h growth p.state p.new_is (same_open old.current p.state _ p.changes.1 (λ x none. none))
  held_step (server_pumps source) p =
      let k = p.connection in
      keeps_written old new h growth view_of_log source k k.to_server (Some (p.position + 1))
      (subscription_messages k.by source k.via p.entry) old.current.shared p.new_is
  held_step (client_connects source via) p =
      keeps_all old new h growth p.state p.new_is
      (same_open old.current p.state _ p.changes.1 (opened old.current source _))
  held_step (client_subscribes source) p =
      keeps_all old new h growth p.state p.new_is
      (same_open old.current p.state _ p.changes.new_is (opened old.current source _))
  held_step (connection_ends source) p = keeps_ended old new h growth source p

pub held_release : (source : List ℕ) (old new : SavingState) → HoldsWithFile old → SendsHeld source old new
    → KeepsHeld new
held_release source old new h p = keeps_released old new h source p
