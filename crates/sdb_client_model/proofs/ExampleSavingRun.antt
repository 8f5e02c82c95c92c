-- An example: a run of two clients and a server with a file. The server stores the edit of the first client, and holds
-- its acknowledgement and the entry for the second one. It is killed before it saves. The second client's edit is then
-- stored at the lost version. The first one connects again and sends its edit once more.
use Rattle.std.specs.Prelude.{◌≡◌, ℕ, zero, suc, List, [], ◌∷◌, ◌++◌, true, false, Some, None, codes, refl}
use Rattle.std.specs.Option.{option_map_or}
use Rattle.std.proofs.Common.{unwrap_or, take, drop, inl, arith}
use Rattle.sdb_value.specs.Value.{Value, truth, list, no_items, item}
use Rattle.sdb_component.specs.Plain.{PlainComponent}
use Rattle.sdb_transform.specs.Cross.{cross, cross_in}
use Rattle.sdb_oplog.specs.Plain.{edit, PlainEntry}
use Rattle.sdb_oplog.specs.Snap.{document_of}
use Rattle.sdb_client_model.specs.Client.{shown_document}
use Rattle.sdb_client_model.specs.Messages.{ServerMessage, op_message, acknowledged, ClientConnection}
use Rattle.sdb_client_model.specs.MessageMachine.{source_client, client_edits, client_sends, client_resends, client_receives, client_advances, server_handles, server_pumps, client_connects, client_subscribes}
use Rattle.sdb_client_model.specs.SavingMachine.{held_message, SavingState, SavingStep, message_step, server_saves, server_releases, server_restarts}
use Rattle.sdb_client_model.specs.SavingLaws.{IsSavingStart}
use Rattle.sdb_client_model.specs.SmallSavingRuns.{IsReachedBySmallSavingRun}
use Rattle.sdb_client_model.proofs.ExampleRun.{a, b, first_of_a, first_of_b}
use Rattle.sdb_client_model.proofs.ExampleMessageRun.{start as message_start, row_start as row_message_start, made_by_a, made_by_b}
use Rattle.sdb_client_model.proofs.SavingExecution.{state_after_saving, state_after_all_saving, AreSavingEditsMade, MadeSavingRun, run_of_saving, made_saving_append}

abbrev start : SavingState
start = record { current = message_start; file = message_start.shared.log; held = λ source. [] }

row_start : IsSavingStart start
row_start = record { current = row_message_start; all_saved = refl; none_held = λ source. refl }

-- ---- the steps

-- so many messages are sent and received
abbrev receives : ℕ → List ℕ → List SavingStep
receives zero source = []
receives (suc n) source = server_releases source ∷ message_step (client_receives source) ∷ receives n source

-- a client connects, and receives the list of so many messages
abbrev opens : ℕ → List ℕ → List SavingStep
opens n source =
    message_step (client_connects source (codes "c"))
    ∷ message_step (client_subscribes source)
    ∷ message_step (server_handles source 0)
    ∷ receives n source

-- a's edit is stored, and no client is sent anything of it
abbrev unsaved_steps : List SavingStep
unsaved_steps =
    opens 2 a
    ++ opens 2 b
    ++ message_step (client_edits a first_of_a)
    ∷ message_step (client_sends a)
    ∷ message_step (server_handles a 0)
    ∷ message_step (server_pumps b)
    ∷ []

-- the server restarts, and stores and saves an edit of b at that version
abbrev restart_steps : List SavingStep
restart_steps =
    server_restarts
    ∷ opens 2 b
    ++ message_step (client_edits b first_of_b)
    ∷ message_step (client_sends b)
    ∷ message_step (server_handles b 0)
    ∷ server_saves 1
    ∷ receives 1 b
    ++ message_step (client_advances b)
    ∷ []

-- a receives b's entry, sends its edit again, and b receives that
abbrev last_steps : List SavingStep
last_steps =
    opens 3 a
    ++ message_step (client_advances a)
    ∷ message_step (client_resends a)
    ∷ message_step (server_handles a 0)
    ∷ server_saves 1
    ∷ receives 2 a
    ++ message_step (client_advances a)
    ∷ message_step (server_pumps b)
    ∷ message_step (server_pumps b)
    ∷ receives 1 b
    ++ message_step (client_advances b)
    ∷ []

-- the states before both edits, and in the last steps
abbrev first_state : SavingState
first_state = unwrap_or (state_after_all_saving (take 14 unsaved_steps) start) start

abbrev unsaved_state : SavingState
unsaved_state = unwrap_or (state_after_all_saving unsaved_steps start) start

abbrev second_state : SavingState
second_state = unwrap_or (state_after_all_saving (take 8 restart_steps) unsaved_state) start

abbrev saved_state : SavingState
saved_state = unwrap_or (state_after_all_saving restart_steps unsaved_state) start

abbrev third_state : SavingState
third_state = unwrap_or (state_after_all_saving (take 12 last_steps) saved_state) start

abbrev last_state : SavingState
last_state = unwrap_or (state_after_all_saving last_steps saved_state) start

row_unsaved : state_after_all_saving unsaved_steps start ≡ Some unsaved_state
unfolding cross cross_in
row_unsaved = refl

row_saved : state_after_all_saving restart_steps unsaved_state ≡ Some saved_state
unfolding cross cross_in
row_saved = refl

row_last : state_after_all_saving last_steps saved_state ≡ Some last_state
unfolding cross cross_in
row_last = refl

row_unsaved_made : AreSavingEditsMade unsaved_steps start
unfolding cross cross_in
row_unsaved_made =
    let rest : AreSavingEditsMade (drop 14 unsaved_steps) first_state = (made_by_a, (tt, (tt, (tt, tt)))) in
    (tt, (tt, (tt, (tt, (tt, (tt, (tt, (tt, (tt, (tt, (tt, (tt, (tt, (tt, rest))))))))))))))

row_restart_made : AreSavingEditsMade restart_steps unsaved_state
unfolding cross cross_in
row_restart_made =
    let rest : AreSavingEditsMade (drop 8 restart_steps) second_state =
    (made_by_b, (tt, (tt, (tt, (tt, (tt, (tt, tt))))))) in
    (tt, (tt, (tt, (tt, (tt, (tt, (tt, (tt, rest))))))))

row_last_made : AreSavingEditsMade last_steps saved_state
unfolding cross cross_in
row_last_made =
    let rest : AreSavingEditsMade (drop 12 last_steps) third_state =
    (tt, (tt, (tt, (tt, (tt, (tt, (tt, (tt, (tt, (tt, (tt, tt))))))))))) in
    (tt, (tt, (tt, (tt, (tt, (tt, (tt, (tt, (tt, (tt, (tt, (tt, rest))))))))))))

abbrev steps : List SavingStep
steps = unsaved_steps ++ restart_steps ++ last_steps

row_steps : MadeSavingRun steps start last_state
row_steps =
    made_saving_append unsaved_steps (restart_steps ++ last_steps) start unsaved_state last_state
    (run_of_saving unsaved_steps start unsaved_state row_unsaved row_unsaved_made)
    (made_saving_append restart_steps last_steps unsaved_state saved_state last_state
    (run_of_saving restart_steps unsaved_state saved_state row_saved row_restart_made)
    (run_of_saving last_steps saved_state last_state row_last row_last_made))

-- the run is small: its edits add nothing, the list is empty at the start, and they insert two items
pub row_small_run : IsReachedBySmallSavingRun steps start last_state
row_small_run = record {
  reached = record { starts = row_start; run = row_steps.run };
  well_formed = tt;
  made = row_steps.made;
  small = record { amounts = inl refl; texts = omega arith; entries = omega arith };
}

-- ---- what is held, lost and shown

-- an entry of both clients, by its version, source, pass and operation
abbrev stored : ℕ → List ℕ → ℕ → List PlainComponent → PlainEntry
stored v source by op = record {
  version = v;
  moment = 0;
  content = edit op;
  arrived = record {
    src = source;
    seq = 2;
    version = Some 1;
    content = edit op;
    via = codes "c";
    by = by;
  };
}

abbrev channel_to : List ℕ → SavingState → List ServerMessage
channel_to source s = option_map_or (λ (k : ClientConnection). k.to_client) (s.current.connections source) []

pub row_held_for_a : unsaved_state.held a ≡ held_message 2 (acknowledged 2 1) ∷ []
unfolding cross cross_in
row_held_for_a = refl

pub row_held_for_b : unsaved_state.held b ≡ held_message 2 (op_message (stored 1 a 1 first_of_a)) ∷ []
unfolding cross cross_in
row_held_for_b = refl

pub row_channel_to_b : channel_to b unsaved_state ≡ []
unfolding cross cross_in
row_channel_to_b = refl

pub row_not_released : state_after_saving (server_releases b) unsaved_state ≡ None
unfolding cross cross_in
row_not_released = refl

-- b's edit has the version that a's edit had, and a's has the next one
pub row_file : last_state.file
    ≡ message_start.shared.log ++ stored 1 b 3 first_of_b ∷ stored 2 a 4 first_of_a ∷ []
unfolding cross cross_in
row_file = refl

abbrev last_document : Value
last_document = list (item (truth true) (item (truth false) no_items))

pub row_shown_by_a : shown_document (source_client last_state.current a) ≡ Some last_document
unfolding cross cross_in
row_shown_by_a = refl

pub row_shown_by_b : shown_document (source_client last_state.current b) ≡ Some last_document
unfolding cross cross_in
row_shown_by_b = refl

pub row_log : document_of last_state.current.shared.log ≡ Some last_document
unfolding cross cross_in
row_log = refl
