-- An example: a run of two clients with messages. Both insert an item at the same time. The connection of the first one
-- ends while its edit is unread, so the edit is sent twice. The acknowledgement of the duplicate arrives before the
-- other client's edit, which has a smaller version.
use Rattle.std.specs.Prelude.{◌≡◌, ℕ, List, [], ◌∷◌, ◌++◌, true, false, Some, None, codes, refl}
use Rattle.std.specs.Option.{option_map_or}
use Rattle.std.proofs.Common.{arith, Contains, unwrap_or, cond, bytes_eq, inl, take, drop}
use Rattle.sdb_value.specs.Value.{Value, truth, list, no_items, item}
use Rattle.sdb_component.specs.Plain.{PlainComponent}
use Rattle.sdb_transform.specs.OperationConvergence.{AreMadeFor}
use Rattle.sdb_transform.specs.Cross.{cross, cross_in}
use Rattle.sdb_oplog.specs.Plain.{edit, PlainEntry}
use Rattle.sdb_oplog.specs.Snap.{document_of}
use Rattle.sdb_client_model.specs.Client.{shown_document}
use Rattle.sdb_client_model.specs.Messages.{ServerMessage, op_message, acknowledged, ClientConnection, new_connection}
use Rattle.sdb_client_model.specs.MessageMachine.{UnreadSubmission, MessageState, source_client, MessageStep, client_edits, client_sends, client_resends, client_receives, client_advances, server_handles, server_handles_unread, server_pumps, client_connects, client_subscribes, connection_ends, after_handling_unread}
use Rattle.sdb_client_model.specs.MessageLaws.{IsMessageStart, HasReceivedAll}
use Rattle.sdb_client_model.specs.SmallMessageRuns.{IsReachedBySmallMessageRun}
use Rattle.sdb_client_model.proofs.ExampleRun.{start as shared_start, row_start as row_shared_start, a, b, first_of_a, first_of_b, insert_made}
use Rattle.sdb_client_model.proofs.MessageContinuations.{MadeMessageRun, made_append}
use Rattle.sdb_client_model.proofs.MessageExecution.{state_after_all, AreEditsMadeAlong, run_of_state_after}

abbrev pub start : MessageState
start = record {
  shared = shared_start;
  received = λ source. record { early = λ v. None; ack = None };
  connections = λ source. None;
  unread = [];
  next_pass = 1;
}

pub row_start : IsMessageStart start
row_start = record {
  shared = row_shared_start;
  none_early = λ source v. refl;
  none_acknowledged = λ source. refl;
  none_connected = λ source. refl;
  none_unread = refl;
}

-- a client connects, and receives the list: the entry before its version, which it drops, and the list's end
abbrev opens : List ℕ → List MessageStep
opens source =
    client_connects source (codes "c")
    ∷ client_subscribes source
    ∷ server_handles source 0
    ∷ client_receives source
    ∷ client_receives source
    ∷ []

-- both send an edit; a's connection ends, and it sends its edit once more over a new one
abbrev first_steps : List MessageStep
first_steps =
    opens a
    ++ opens b
    ++ client_edits a first_of_a
    ∷ client_sends a
    ∷ client_edits b first_of_b
    ∷ client_sends b
    ∷ connection_ends a
    ∷ opens a
    ++ client_resends a
    ∷ server_handles b 0
    ∷ []

abbrev unread_edit : UnreadSubmission
unread_edit = record {
  edit = record { source = a; sent = record { seq = 2; base = 1; operation = first_of_a } };
  via = codes "c";
  by = 1;
}

-- a's edit is a duplicate on its new connection; its queue reads b's entry only then, and its own, which is that of
-- another pass. b's queue leaves out b's own entry.
abbrev server_steps : List MessageStep
server_steps =
    server_handles a 0
    ∷ server_pumps a
    ∷ server_pumps a
    ∷ server_pumps b
    ∷ server_pumps b
    ∷ []

-- a receives the acknowledgement and keeps it, until it has processed b's entry
abbrev client_steps : List MessageStep
client_steps =
    client_receives a
    ∷ client_receives a
    ∷ client_advances a
    ∷ client_advances a
    ∷ client_receives a
    ∷ client_receives b
    ∷ client_advances b
    ∷ client_receives b
    ∷ client_advances b
    ∷ []

abbrev state_before : MessageState
state_before = unwrap_or (state_after_all first_steps start) start

abbrev state_decided : MessageState
state_decided = after_handling_unread state_before unread_edit 0

abbrev state_sent : MessageState
state_sent = unwrap_or (state_after_all server_steps state_decided) start

abbrev last_state : MessageState
last_state = unwrap_or (state_after_all client_steps state_sent) start

row_before : state_after_all first_steps start ≡ Some state_before
unfolding cross cross_in
row_before = refl

row_sent : state_after_all server_steps state_decided ≡ Some state_sent
unfolding cross cross_in
row_sent = refl

row_last : state_after_all client_steps state_sent ≡ Some last_state
unfolding cross cross_in
row_last = refl

-- ---- the run

-- a's insertion, and b's, into the list without items
pub made_by_a : AreMadeFor first_of_a (list no_items)
made_by_a = insert_made 0 (truth true) no_items (item (truth true) no_items) tt refl

pub made_by_b : AreMadeFor first_of_b (list no_items)
made_by_b = insert_made 0 (truth false) no_items (item (truth false) no_items) tt refl

-- the state after b's edit
abbrev sent_state : MessageState
sent_state = unwrap_or (state_after_all (take 13 first_steps) start) start

row_first_made : AreEditsMadeAlong first_steps start
unfolding cross cross_in
row_first_made =
    let sent : AreEditsMadeAlong (drop 13 first_steps) sent_state =
    (tt, (tt, (tt, (tt, (tt, (tt, (tt, (tt, (tt, tt))))))))) in
    (tt, (tt, (tt, (tt, (tt, (tt, (tt, (tt, (tt, (tt, (made_by_a, (tt, (made_by_b, sent)))))))))))))

row_server_made : AreEditsMadeAlong server_steps state_decided
unfolding cross cross_in
row_server_made = (tt, (tt, (tt, (tt, (tt, tt)))))

row_client_made : AreEditsMadeAlong client_steps state_sent
unfolding cross cross_in
row_client_made = (tt, (tt, (tt, (tt, (tt, (tt, (tt, (tt, (tt, tt)))))))))

abbrev steps : List MessageStep
steps = first_steps ++ server_handles_unread unread_edit 0 ∷ server_steps ++ client_steps

row_unread : Contains state_before.unread unread_edit
unfolding cross cross_in
row_unread = (0, omega arith, refl)

row_later_steps : MadeMessageRun (server_handles_unread unread_edit 0 ∷ server_steps ++ client_steps) state_before
    last_state
row_later_steps =
    let rest =
    made_append server_steps client_steps state_decided state_sent last_state
    (run_of_state_after server_steps state_decided state_sent row_sent row_server_made)
    (run_of_state_after client_steps state_sent last_state row_last row_client_made) in
    record { run = (state_decided, (row_unread, refl), rest.run); made = (tt, rest.made) }

row_steps : MadeMessageRun steps start last_state
row_steps =
    made_append first_steps (server_handles_unread unread_edit 0 ∷ server_steps ++ client_steps) start state_before
    last_state
    (run_of_state_after first_steps start state_before row_before row_first_made) row_later_steps

-- the run is small: its edits add nothing, the list is empty at the start, and they insert two items
pub row_small_run : IsReachedBySmallMessageRun steps start last_state
row_small_run = record {
  reached = record { starts = row_start; run = row_steps.run };
  well_formed = tt;
  made = row_steps.made;
  small = record { amounts = inl refl; texts = omega arith; entries = omega arith };
}

-- ---- what is sent, and what both clients have at the end

abbrev stored : ℕ → List ℕ → List PlainComponent → PlainEntry
stored v source op = record {
  version = v;
  moment = 0;
  content = edit op;
  arrived = record {
    src = source;
    seq = 2;
    version = Some 1;
    content = edit op;
    via = codes "c";
    by = cond
        (bytes_eq source a) 1 2;
  };
}

abbrev channel_to : List ℕ → MessageState → List ServerMessage
channel_to source s = option_map_or (λ (k : ClientConnection). k.to_client) (s.connections source) []

-- the acknowledgement of a's duplicate is before both entries
pub row_channel_to_a : channel_to a state_sent ≡ acknowledged 2 2 ∷ op_message (stored 1 b first_of_b) ∷ op_message
    (stored 2 a first_of_a) ∷ []
unfolding cross cross_in
row_channel_to_a = refl

-- b doesn't receive its own entry
pub row_channel_to_b : channel_to b state_sent ≡ acknowledged 2 1 ∷ op_message (stored 2 a first_of_a) ∷ []
unfolding cross cross_in
row_channel_to_b = refl

abbrev last_connection : List ℕ → ClientConnection
last_connection source = unwrap_or (last_state.connections source) (new_connection 0 [])

pub row_connected : last_state.connections a ≡ Some (last_connection a)
unfolding cross cross_in
row_connected = refl

pub row_received : HasReceivedAll last_state.shared.log (source_client last_state a) (last_state.received a)
    (last_connection a)
unfolding cross cross_in
row_received = record { all_read = refl; none_in_channel = refl; none_early = refl; none_acknowledged = λ h. cc }

abbrev last_document : Value
last_document = list (item (truth true) (item (truth false) no_items))

pub row_shown_by_a : shown_document (source_client last_state a) ≡ Some last_document
unfolding cross cross_in
row_shown_by_a = refl

pub row_shown_by_b : shown_document (source_client last_state b) ≡ Some last_document
unfolding cross cross_in
row_shown_by_b = refl

pub row_log : document_of last_state.shared.log ≡ Some last_document
unfolding cross cross_in
row_log = refl
