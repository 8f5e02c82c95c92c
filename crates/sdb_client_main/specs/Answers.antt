-- The answers: compact JSON with members in byte order, and a line feed.
use Rattle.std.specs.Prelude.{ℕ, List, [], ◌∷◌, ◌++◌, Option, Some, None, codes}
use Rattle.serde_json.specs.Data.{Data, null, number, unsigned, string, array, object, Items, no_items, item, no_members, member}
use Rattle.serde_json.specs.Written.{compact_text}
use Rattle.sdb_value.specs.Value.{Value}
use Rattle.sdb_value.specs.FromJson.{data_of_value}
use Rattle.sdb_component.specs.Plain.{PlainComponent}
use Rattle.sdb_component.specs.ToJson.{op_data}
use Rattle.sdb_client_model.specs.Client.{SentEdit, Client, shown_document}
use Rattle.sdb_client.specs.declared.fault.ProcessFault.{ProcessFault}
use Rattle.sdb_client.specs.declared.fault.ProcessFault.TheVariants as process
use Rattle.sdb_client.specs.declared.fault.SendFault.{SendFault}
use Rattle.sdb_client.specs.declared.fault.SendFault.TheVariants as send
use Rattle.sdb_client_main.specs.declared.fault.CommandFault.{CommandFault}
use Rattle.sdb_client_main.specs.declared.fault.CommandFault.TheVariants.{NoClient, Send, Process}

-- ---- the client

abbrev pub operation_items : List (List PlainComponent) → Items
operation_items [] = no_items
operation_items (op ∷ ops) = item (op_data op) (operation_items ops)

abbrev pub operations_data : List (List PlainComponent) → Data
operations_data ops = array (operation_items ops)

abbrev pub sent_edit_data : SentEdit → Data
sent_edit_data t = object (
    member (codes "op") (op_data t.operation)
    (member (codes "seq") (number (unsigned t.seq))
    (member (codes "v") (number (unsigned t.base)) no_members)))

abbrev pub sent_data : Option SentEdit → Data
sent_data None = null
sent_data (Some t) = sent_edit_data t

-- null if a pending edit doesn't apply
abbrev pub shown_data : Option Value → Data
shown_data None = null
shown_data (Some d) = data_of_value d

-- the client: its document, its pending operations, its next seq, its sent edit, what it shows, and its version
abbrev pub client_data : Client → Data
client_data c = object (
    member (codes "data") (data_of_value c.document)
    (member (codes "pending") (operations_data c.pending)
    (member (codes "seq") (number (unsigned c.next_seq))
    (member (codes "sent") (sent_data c.sent)
    (member (codes "shown") (shown_data (shown_document c))
    (member (codes "v") (number (unsigned c.version)) no_members))))))

-- ---- refusals

abbrev pub send_fault_text : SendFault → List ℕ
send_fault_text send.SeqLimit = codes "too many edits"
send_fault_text send.OutOfMemory = codes "out of memory"

abbrev pub process_fault_text : ProcessFault → List ℕ
process_fault_text process.NotProcessed = codes "entry can not be processed"
process_fault_text process.VersionLimit = codes "too many entries"
process_fault_text process.OutOfMemory = codes "out of memory"

abbrev pub fault_text : CommandFault → List ℕ
fault_text NoClient = codes "no client"
fault_text (Send fault) = send_fault_text fault
fault_text (Process fault) = process_fault_text fault

abbrev pub refusal_data : List ℕ → Data
refusal_data text = object (member (codes "error") (string text) no_members)

-- the answer to a line that is no command
abbrev pub badly_formed_data : Data
badly_formed_data = refusal_data (codes "badly formed")

-- the answer to a command: the client after it, or why it isn't executed
abbrev pub outcome_data : Option CommandFault → Option Client → Data
outcome_data (Some fault) c = refusal_data (fault_text fault)
outcome_data None None = refusal_data (fault_text NoClient)
outcome_data None (Some c) = client_data c

abbrev pub answer_line : Data → List ℕ
answer_line d = compact_text d ++ 10 ∷ []
