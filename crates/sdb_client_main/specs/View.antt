-- The views of commands and of the client.
use Rattle.std.specs.Prelude.{string_bytes}
use Rattle.sdb_value.specs.View.{value_of}
use Rattle.sdb_client.specs.View.{client_of, source_of}
use Rattle.sdb_client.specs.declared.client.ReferenceClient.{ReferenceClient}
use Rattle.sdb_client_main.specs.Commands as plain
use Rattle.sdb_client_main.specs.Commands.{SourcedClient}
use Rattle.sdb_client_main.specs.declared.command.ClientCommand.{ClientCommand}
use Rattle.sdb_client_main.specs.declared.command.ClientCommand.TheVariants.{Start, Edit, Send, Process}

abbrev pub plain_command : ClientCommand → plain.ClientCommand
plain_command (Start source version seq document) =
    plain.start (string_bytes source) version seq (value_of document)
plain_command (Edit op) = plain.make_edit op
plain_command Send = plain.send_edit
plain_command (Process source seq content) = plain.process_entry (string_bytes source) seq content

abbrev pub sourced_client : ReferenceClient → SourcedClient
sourced_client c = record { source = source_of c; client = client_of c }
