-- The view of a reference client: a client of the model.
use Rattle.std.specs.Prelude.{ℕ, List, [], None, string_bytes}
use Rattle.sdb_value.specs.Value.{Value}
use Rattle.sdb_value.specs.View.{value_of}
use Rattle.sdb_client_model.specs.Client.{Client}
use Rattle.sdb_client.specs.declared.client.ReferenceClient.{ReferenceClient}

abbrev pub client_of : ReferenceClient → Client
client_of c =
    record {
      version = c.version;
      document = value_of c.document;
      pending = c.pending.items;
      sent = c.sent;
      next_seq = c.next_seq;
    }

-- the source of its submissions
abbrev pub source_of : ReferenceClient → List ℕ
source_of c = string_bytes c.source

-- a client without an edit
abbrev pub new_client : ℕ → Value → ℕ → Client
new_client version document next_seq =
    record {
      version = version;
      document = document;
      pending = [];
      sent = None;
      next_seq = next_seq;
    }
