-- The views of the types.
use Rattle.std.specs.Prelude.{◌≡◌, ℕ, Option, Result, Ok, Err, option_map, string_bytes}
use Rattle.std.specs.Option.{option_map_or}
use Rattle.std.specs.declared.alloc.Global.{Global}
use Rattle.serde_json.specs.Data.{Data}
use Rattle.sdb_json.specs.TreeData.{tree_data}
use Rattle.json.specs.declared.value.Value.{Value}
use Rattle.sdb_value.specs.Value.{Value as PlainValue}
use Rattle.sdb_value.specs.View.{value_of}
use Rattle.sdb_oplog.specs.Keys.{plain_key}
use Rattle.sdb_oplog.specs.declared.codes.Code.{Code}
use Rattle.sdb_oplog.specs.declared.codes.Code.TheVariants.{E10}
use Rattle.sdb_wire.specs.Wire.{PlainRequest, hello, fetch, subscribe, unsubscribe, submit, snapshot as asks_snapshot, snapshot_at_time as asks_at_time, PlainEcho, echo_members, empty_echo, PlainEchoValue, text, count, PlainBadMessage, with_echo, request_of, PlainMessage}
use Rattle.sdb_wire.specs.Answers.{PlainAnswer, init, hello_ack, fetched, list_end, subscribed, caught_up, unsubscribed, snapshot, snapshot_at_time, op_message, with_content, acknowledged, failed}
use Rattle.sdb_wire.specs.declared.message.EchoValue.{EchoValue}
use Rattle.sdb_wire.specs.declared.message.EchoValue.TheVariants.{Text, Count}
use Rattle.sdb_wire.specs.declared.message.Echo.{Echo}
use Rattle.sdb_wire.specs.declared.message.BadMessage.{BadMessage}
use Rattle.sdb_wire.specs.declared.message.Request.{Request}
use Rattle.sdb_wire.specs.declared.message.Request.TheVariants.{Hello, Fetch, Subscribe, Unsubscribe, Submit, Snapshot, SnapshotAtTime}
use Rattle.sdb_wire.specs.declared.message.Message.{Message}
use Rattle.sdb_wire.specs.declared.message.Answer.{Answer}
use Rattle.sdb_wire.specs.declared.message.Answer.TheVariants.{Init, HelloAck, Document, ListEnd, Subscribed, CaughtUp, Unsubscribed, OpMessage, Acknowledged, Failed}
use Rattle.sdb_wire.specs.declared.message.DocumentRequest.{DocumentRequest}
use Rattle.sdb_wire.specs.declared.message.DocumentRequest.TheVariants as of

abbrev pub plain_echo_value : EchoValue → PlainEchoValue
plain_echo_value (Text s) = text (string_bytes s)
plain_echo_value (Count n) = count n

abbrev pub plain_echo : Echo → PlainEcho
plain_echo e = record {
  a = option_map plain_echo_value e.a;
  c = option_map plain_echo_value e.c;
  d = option_map plain_echo_value e.d;
  id = option_map plain_echo_value e.id;
  seq = option_map plain_echo_value e.seq;
  src = option_map plain_echo_value e.src;
}

abbrev pub plain_request : Request → PlainRequest
plain_request (Hello s) = hello (option_map string_bytes s)
plain_request (Fetch k v) = fetch (plain_key k) v
plain_request (Subscribe k v) = subscribe (plain_key k) v
plain_request (Unsubscribe k) = unsubscribe (plain_key k)
plain_request (Submit k v n s m) = submit (plain_key k) v n (option_map string_bytes s) m
plain_request (Snapshot k v n) = asks_snapshot (plain_key k) v n
plain_request (SnapshotAtTime k t n) = asks_at_time (plain_key k) t n

abbrev pub request_view : Result Request Code → Result PlainRequest Code
request_view (Ok r) = Ok (plain_request r)
request_view (Err c) = Err c

-- the echo of a message, which is empty if it isn't JSON
abbrev pub echo_or_empty : Option (Value Global) → PlainEcho
echo_or_empty m = option_map_or (λ v. echo_members (tree_data v)) m empty_echo

abbrev pub plain_message : Message → PlainMessage
plain_message m = record { echo = echo_or_empty m.json; request = request_view m.request }

-- a document as the answer to its request
abbrev pub document_answer : DocumentRequest → ℕ → Option PlainValue → PlainAnswer
document_answer (of.Fetch k) v d = fetched (plain_key k.now) v d
document_answer (of.Snapshot n) v d = snapshot n v d
document_answer (of.SnapshotAtTime n) v d = snapshot_at_time n v d

abbrev pub plain_answer : Answer → PlainAnswer
plain_answer (Init src) = init src.now
plain_answer (HelloAck src) = hello_ack src.now
plain_answer (Document r v d) = document_answer r v (option_map (λ j. value_of j.now) d)
plain_answer (ListEnd k) = list_end (plain_key k.now)
plain_answer (Subscribed k v d) = subscribed (plain_key k.now) v (option_map (λ j. value_of j.now) d)
plain_answer (CaughtUp k) = caught_up (plain_key k.now)
plain_answer (Unsubscribed k) = unsubscribed (plain_key k.now)
plain_answer (OpMessage k e c) = op_message (plain_key k.now) (with_content e.now c.now)
plain_answer (Acknowledged k src seq v) = acknowledged (plain_key k.now) src.now seq v
plain_answer (Failed echo code) = failed (plain_echo echo.now) code

-- the fault is that of the refused result, or an allocation failed
abbrev pub IsMessageFault : BadMessage → Result PlainRequest PlainBadMessage → Type 0
IsMessageFault b r = (b.code ≡ E10 → ⊥) → r ≡ Err (record { echo = plain_echo b.echo; code = b.code })

abbrev pub IsMessageFaultOf : BadMessage → Data → Type 0
IsMessageFaultOf b d = IsMessageFault b (with_echo (echo_members d) (request_of d))
