-- The outcome of a command and of a line.
use Rattle.std.specs.Prelude.{◌≡◌, ℕ, List, Option, Some, None, Result, Ok, Err, true, option_map, ⊤}
use Rattle.std.specs.Option.{is_some}
use Rattle.sdb_oplog.specs.declared.codes.Code.{Code}
use Rattle.sdb_client_model.specs.Client.{Client, after_entry}
use Rattle.sdb_client.specs.Fault.{IsProcessFault}
use Rattle.sdb_client.specs.declared.fault.SendFault.{SendFault}
use Rattle.sdb_client.specs.declared.fault.SendFault.TheVariants.{SeqLimit, OutOfMemory}
use Rattle.sdb_client_main.specs.Answers.{answer_line, badly_formed_data, outcome_data}
use Rattle.sdb_client_main.specs.Commands.{SourcedClient, ClientCommand, start, make_edit, send_edit, process_entry, entry_at_client, client_after_command}
use Rattle.sdb_client_main.specs.Reading.{reading_command}
use Rattle.sdb_client_main.specs.declared.fault.CommandFault.{CommandFault}
use Rattle.sdb_client_main.specs.declared.fault.CommandFault.TheVariants.{NoClient, Send, Process}

abbrev pub IsSendFault : SendFault → Client → Type 0
IsSendFault SeqLimit c = c.next_seq ≡ 18446744073709551615
IsSendFault OutOfMemory c = ⊤

-- a client isn't there, has no seq left, or can't process the entry
abbrev pub IsCommandFault : CommandFault → ClientCommand → Option SourcedClient → Type 0
IsCommandFault NoClient command x = (x ≡ None) × (client_after_command command x ≡ None)
IsCommandFault (Send fault) send_edit (Some x) = IsSendFault fault x.client
IsCommandFault (Process fault) (process_entry source seq content) (Some x) =
    IsProcessFault fault x.client (after_entry x.source (entry_at_client x.client source seq content) x.client)
IsCommandFault _ _ _ = ⊥

-- from client x to client y: the command is executed, or not for this reason, and the client is unchanged
abbrev pub IsOutcome : ClientCommand → Option SourcedClient → Option CommandFault → Option SourcedClient → Type 0
IsOutcome command x None y = (client_after_command command x ≡ y) × (is_some y ≡ true)
IsOutcome command x (Some fault) y = IsCommandFault fault command x × (y ≡ x)

abbrev pub client_part : Option SourcedClient → Option Client
client_part x = option_map (λ s. s.client) x

-- the command is answered with these bytes
abbrev pub ExecutesCommand : ClientCommand → Option SourcedClient → List ℕ → Option SourcedClient → Type 0
ExecutesCommand command x bytes y =
    (fault : Option CommandFault) × IsOutcome command x fault y × (bytes ≡ answer_line (outcome_data fault (client_part y)))

-- a line that is no command is answered with these bytes
abbrev pub RefusesLine : Option SourcedClient → List ℕ → Option SourcedClient → Type 0
RefusesLine x bytes y = (bytes ≡ answer_line badly_formed_data) × (y ≡ x)

abbrev pub HandlesReading : Result ClientCommand Code → Option SourcedClient → List ℕ → Option SourcedClient → Type 0
HandlesReading (Ok command) x bytes y = ExecutesCommand command x bytes y
HandlesReading (Err code) x bytes y = RefusesLine x bytes y

-- the line executes its command, or it is no command and the client is unchanged
abbrev pub HandlesCommandLine : Option SourcedClient → Option (List ℕ) → List ℕ → Option SourcedClient → Type 0
HandlesCommandLine x line bytes y = HandlesReading (reading_command line) x bytes y
