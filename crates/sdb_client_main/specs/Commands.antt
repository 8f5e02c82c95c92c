-- The commands, and the client after each of them.
use Rattle.std.specs.Prelude.{ℕ, List, [], Option, Some, None, option_map}
use Rattle.sdb_value.specs.Value.{Value}
use Rattle.sdb_component.specs.Plain.{PlainComponent}
use Rattle.sdb_oplog.specs.Plain.{PlainContent, PlainEntry}
use Rattle.sdb_client_model.specs.Client.{Client, after_edit, after_entry}
use Rattle.sdb_client.specs.Send.{client_after_send}
use Rattle.sdb_client.specs.View.{new_client}

-- a client of the model, and the source of its submissions
pub record SourcedClient : Type 0 where
  pub source : List ℕ
  pub client : Client

pub data ClientCommand : Type 0 where
  -- a new client starts: its source, its version, the seq that it gives next, and its document
  start : List ℕ → ℕ → ℕ → Value → ClientCommand
  -- the client makes an edit
  make_edit : List PlainComponent → ClientCommand
  -- it sends the first pending edit, if no edit is sent
  send_edit : ClientCommand
  -- it processes an entry at its version, with this source, seq and content
  process_entry : List ℕ → ℕ → PlainContent → ClientCommand

-- the entry at a version, of a submission without base version that is stored as it arrived
abbrev pub entry_at_version : ℕ → List ℕ → ℕ → PlainContent → PlainEntry
entry_at_version version source seq content =
    record {
      version = version;
      moment = 0;
      content = content;
      arrived = record { src = source; seq = seq; version = None; content = content; via = []; by = 0 };
    }

-- the entry of the command, at the client's version
abbrev pub entry_at_client : Client → List ℕ → ℕ → PlainContent → PlainEntry
entry_at_client c source seq content = entry_at_version c.version source seq content

-- the same source with another client
abbrev pub with_client_state : SourcedClient → Client → SourcedClient
with_client_state x c = record { source = x.source; client = c }

-- the client after the command; none if the command needs a client and there is none, or the entry isn't processed
abbrev pub client_after_command : ClientCommand → Option SourcedClient → Option SourcedClient
client_after_command (start source version seq document) x =
    Some (record { source = source; client = new_client version document seq })
client_after_command (make_edit op) None = None
client_after_command (make_edit op) (Some x) = Some (with_client_state x (after_edit op x.client))
client_after_command send_edit None = None
client_after_command send_edit (Some x) = Some (with_client_state x (client_after_send x.client))
client_after_command (process_entry source seq content) None = None
client_after_command (process_entry source seq content) (Some x) =
    option_map (with_client_state x) (after_entry x.source (entry_at_client x.client source seq content) x.client)
