-- A server with a file, viewed as one whose log has the saved entries only. A step of a client is then a step of the
-- machine without a file, and a step of a session changes neither the log nor what clients are sent.
use Rattle.std.proofs.Common.{◌≡◌, ℕ, List, [], ◌∷◌, Option, Some, ◌⊎◌, inl, inr, refl, sym, ap, ◌∙◌, subst}
use Rattle.sdb_client_model.specs.Machine.{ClientStep, IsClientRun}
use Rattle.sdb_client_model.specs.Invariant.{IsConsistent}
use Rattle.sdb_client_model.specs.Messages.{ClientMessage, subscribe, submit, ClientConnection}
use Rattle.sdb_client_model.specs.MessageMachine.{MessageState, MessageStep, client_edits, client_sends, client_resends, client_receives, client_advances, server_handles, server_refuses, server_handles_unread, server_pumps, client_connects, client_subscribes, connection_ends, with_connection, source_client, SendsNext, SendsAgain, ReceivesMessage, ProcessesOwn, ProcessesEarly, Subscribes, EndsConnection, IsMessageStep}
use Rattle.sdb_client_model.specs.MessageLaws.{edit_steps, edit_steps_of}
use Rattle.sdb_client_model.specs.SavingMachine.{SavingState, saved_document, with_current, after_held_answers, LosesHeld, IsHoldingStep}
use Rattle.sdb_client_model.proofs.MessageInvariant.{FollowsConnection, AreMessagesOfLog}
use Rattle.sdb_client_model.proofs.MessageClientSteps.{follows, messages_with_connection}
use Rattle.sdb_client_model.proofs.MessageServerSteps.{read_rest}
use Rattle.sdb_client_model.proofs.MessageRuns.{step_is_refined, step_of_log}
use Rattle.sdb_client_model.proofs.SavingInvariant.{saved_view}

-- the steps of the clients' machine, and what holds of what was sent
pub record KeepsSaved (step : MessageStep) (old new : SavingState) : Type 0 where
  pub client_steps : List ClientStep
  pub run : IsClientRun client_steps (saved_document old) (saved_document new)
  pub edits : edit_steps client_steps ≡ edit_steps_of (step ∷ [])
  pub of_log : AreMessagesOfLog (saved_view new)

module _ (old new : SavingState) (consistent : IsConsistent (saved_document old))
    (h : AreMessagesOfLog (saved_view old)) where
  of_step : (step : MessageStep) → IsMessageStep step (saved_view old) (saved_view new) → KeepsSaved step old new
  of_step step is =
      let r = step_is_refined step (saved_view old) (saved_view new) consistent h is in
      record {
        client_steps = r.client_steps;
        run = r.run;
        edits = r.edits;
        of_log = step_of_log step (saved_view old) (saved_view new) consistent h is;
      }

  same_view : (step : MessageStep) → edit_steps_of (step ∷ []) ≡ [] → saved_view new ≡ saved_view old
      → KeepsSaved step old new
  same_view step none is = record {
    client_steps = [];
    run = ap (λ (s : MessageState). s.shared) is;
    edits = sym none;
    of_log = subst AreMessagesOfLog (sym is) h;
  }

  module _ (source : List ℕ) where
    abbrev version : ℕ
    version = (source_client old.current source).version

    -- ---- a session has read a message, or its queue an entry

    module _ (step : MessageStep) (none : edit_steps_of (step ∷ []) ≡ []) (k : ClientConnection)
        (is_open : old.current.connections source ≡ Some k) where
      abbrev reading : List ClientMessage → Option ℕ → ClientConnection
      reading rest queue = record k { to_server = rest; queue = queue }

      of_reading : (l : ClientConnection)
          → FollowsConnection source old.file old.current.shared.submitted version l
          → saved_view new ≡ with_connection (saved_view old) source (Some l) → KeepsSaved step old new
      of_reading l f is = record {
        client_steps = [];
        run = ap (λ (s : MessageState). s.shared) is;
        edits = sym none;
        of_log =
            subst AreMessagesOfLog (sym is)
            (messages_with_connection (saved_view old) consistent h source k is_open (Some l) f);
      }

      follows_reading : (m : ClientMessage) (rest : List ClientMessage) (queue : Option ℕ) → k.to_server ≡ m ∷ rest
          → FollowsConnection source old.file old.current.shared.submitted version (reading rest queue)
      follows_reading m rest queue first = record {
        to_client = (follows (saved_view old) consistent h source k is_open).to_client;
        to_server = read_rest (saved_view old) consistent h source k is_open m rest first;
      }

      pub of_queue : (queue : Option ℕ)
          → saved_view new ≡ with_connection (saved_view old) source (Some (reading k.to_server queue))
          → KeepsSaved step old new
      of_queue queue is =
          let f = follows (saved_view old) consistent h source k is_open in
          of_reading (reading k.to_server queue) (record { to_client = f.to_client; to_server = f.to_server }) is

      pub of_message : (m : ClientMessage) (rest : List ClientMessage) (queue : Option ℕ) → k.to_server ≡ m ∷ rest
          → saved_view new ≡ with_connection (saved_view old) source (Some (reading rest queue))
          → KeepsSaved step old new
      of_message m rest queue first is = of_reading (reading rest queue) (follows_reading m rest queue first) is

    saved_handles : (now : ℕ) (k : ClientConnection) → old.current.connections source ≡ Some k
        → (m : ClientMessage) (rest : List ClientMessage) → k.to_server ≡ m ∷ rest
        → new ≡ after_held_answers old source k m rest now → KeepsSaved (server_handles source now) old new
    saved_handles now k is_open (subscribe v) rest first is =
        of_message (server_handles source now) refl k is_open (subscribe v) rest _ first (ap saved_view is)
    saved_handles now k is_open (submit t) rest first is =
        of_message (server_handles source now) refl k is_open (submit t) rest _ first (ap saved_view is)

    -- ---- a client's step

    module _ (state : MessageState) (new_is : new ≡ with_current old state) where
      view_is : (x : MessageState) → state ≡ x → saved_view new ≡ saved_view (with_current old x)
      view_is x is = ap saved_view new_is ∙ ap (λ y. saved_view (with_current old y)) is

      saved_sends : SendsNext source old.current state → SendsNext source (saved_view old) (saved_view new)
      saved_sends p = record {
        connection = p.connection;
        connected = record { is_open = p.connected.is_open; answered = p.connected.answered };
        operation = p.operation;
        queue = p.queue;
        none_sent = p.none_sent;
        first = p.first;
        new_is = view_is _ p.new_is;
      }

      saved_resends : SendsAgain source old.current state → SendsAgain source (saved_view old) (saved_view new)
      saved_resends p = record {
        connection = p.connection;
        connected = record { is_open = p.connected.is_open; answered = p.connected.answered };
        edit = p.edit;
        is_sent = p.is_sent;
        new_is = view_is _ p.new_is;
      }

      saved_receives : ReceivesMessage source old.current state
          → ReceivesMessage source (saved_view old) (saved_view new)
      saved_receives p = record {
        connection = p.connection;
        is_open = p.is_open;
        message = p.message;
        rest = p.rest;
        first = p.first;
        new_is = view_is _ p.new_is;
      }

      saved_advances : ProcessesOwn source old.current state ⊎ ProcessesEarly source old.current state
          → ProcessesOwn source (saved_view old) (saved_view new)
          ⊎ ProcessesEarly source (saved_view old) (saved_view new)
      saved_advances (inl p) = inl
          (record { ack_is = p.ack_is; client = p.client; client_is = p.client_is; new_is = view_is _ p.new_is })
      saved_advances (inr p) = inr
          (record {
            entry = p.entry;
            entry_is = p.entry_is;
            client = p.client;
            client_is = p.client_is;
            new_is = view_is _ p.new_is;
          })

      saved_subscribes : Subscribes source old.current state → Subscribes source (saved_view old) (saved_view new)
      saved_subscribes p = record {
        connection = p.connection;
        is_open = p.is_open;
        new_is = view_is _ p.new_is;
      }

    saved_ends : LosesHeld source old new → EndsConnection source (saved_view old) (saved_view new)
    saved_ends p = record {
      connection = p.ends.connection;
      is_open = p.ends.is_open;
      new_is = ap saved_view p.new_is ∙ ap (λ x. saved_view (with_current old x)) p.ends.new_is;
    }

-- each step, by what it changes of the saved view
pub saved_step : (step : MessageStep) (old new : SavingState) → IsConsistent (saved_document old)
    → AreMessagesOfLog (saved_view old) → IsHoldingStep step old new → KeepsSaved step old new
saved_step (client_edits source op) old new c h p =
    of_step old new c h (client_edits source op) (view_is old new c h source p.state p.new_is _ p.changes)
saved_step (client_sends source) old new c h p =
    of_step old new c h (client_sends source) (saved_sends old new c h source p.state p.new_is p.changes)
saved_step (client_resends source) old new c h p =
    of_step old new c h (client_resends source) (saved_resends old new c h source p.state p.new_is p.changes)
saved_step (client_receives source) old new c h p =
    of_step old new c h (client_receives source) (saved_receives old new c h source p.state p.new_is p.changes)
saved_step (client_advances source) old new c h p =
    of_step old new c h (client_advances source) (saved_advances old new c h source p.state p.new_is p.changes)
saved_step (server_handles source now) old new c h p =
    saved_handles old new c h source now p.connection p.is_open p.message p.rest p.first p.new_is
saved_step (server_refuses source) old new c h p =
    of_message old new c h source (server_refuses source) refl p.connection p.is_open p.message p.rest _ p.first
    (ap saved_view p.new_is)
saved_step (server_handles_unread m now) old new c h p =
    same_view old new c h (server_handles_unread m now) refl
    (view_is old new c h m.edit.source p.state p.new_is _ p.changes.1)
saved_step (server_pumps source) old new c h p =
    of_queue old new c h source (server_pumps source) refl p.connection p.is_open _ (ap saved_view p.new_is)
saved_step (client_connects source via) old new c h p =
    of_step old new c h (client_connects source via)
    (p.changes.0, view_is old new c h source p.state p.new_is _ p.changes.1)
saved_step (client_subscribes source) old new c h p =
    of_step old new c h (client_subscribes source) (saved_subscribes old new c h source p.state p.new_is p.changes)
saved_step (connection_ends source) old new c h p =
    of_step old new c h (connection_ends source) (saved_ends old new c h source p)
