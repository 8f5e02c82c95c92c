-- The text of an answer, `answer_text`. It is compact JSON (RFC 8259) with members in byte order, in this project's
-- profile of ShareDB protocol 1.
use Rattle.std.specs.Prelude.{ℕ, List, true, Option, Some, None, codes}
use Rattle.json.specs.Token.{Token}
use Rattle.serde_json.specs.Data.{Data, null, boolean, number, unsigned, string, object, Members, no_members, member}
use Rattle.serde_json.specs.Written.{compact_text}
use Rattle.sdb_value.specs.Value.{Value}
use Rattle.sdb_value.specs.ToJson.{data_tokens}
use Rattle.sdb_value.specs.FromJson.{data_of_value}
use Rattle.sdb_component.specs.ToJson.{op_data}
use Rattle.sdb_oplog.specs.Keys.{PlainKey}
use Rattle.sdb_oplog.specs.Plain.{PlainContent, create, delete, edit, PlainEntry}
use Rattle.sdb_oplog.specs.declared.codes.Code.{Code}
use Rattle.sdb_oplog.specs.declared.codes.Code.TheVariants.{E1, E2, E3, E4, E5, E6, E7, E8, E9, E10, E11}
use Rattle.sdb_wire.specs.Wire.{PlainEcho, PlainEchoValue, text, count}

pub data PlainAnswer : Type 0 where
  -- the session's source
  init : List ℕ → PlainAnswer
  -- the session's source, in reply to a hello
  hello_ack : List ℕ → PlainAnswer
  -- the current version and document
  fetched : PlainKey → ℕ → Option Value → PlainAnswer
  -- the end of a listing of entries
  list_end : PlainKey → PlainAnswer
  -- the current version and document, for a subscriber
  subscribed : PlainKey → ℕ → Option Value → PlainAnswer
  -- the end of the listing of entries, for a subscriber
  caught_up : PlainKey → PlainAnswer
  unsubscribed : PlainKey → PlainAnswer
  -- the number of the request, a version and the document at it
  snapshot : ℕ → ℕ → Option Value → PlainAnswer
  -- the number of the request, the version at a moment and the document at it
  snapshot_at_time : ℕ → ℕ → Option Value → PlainAnswer
  -- an operation message
  op_message : PlainKey → PlainEntry → PlainAnswer
  -- a submission with this source and seq is stored at this version
  acknowledged : PlainKey → List ℕ → ℕ → ℕ → PlainAnswer
  failed : PlainEcho → Code → PlainAnswer

abbrev pub code_name : Code → List ℕ
code_name E1 = codes "ERR_MESSAGE_BADLY_FORMED"
code_name E2 = codes "ERR_DOC_TYPE_NOT_RECOGNIZED"
code_name E3 = codes "ERR_OT_OP_BADLY_FORMED"
code_name E4 = codes "ERR_OP_VERSION_NEWER_THAN_CURRENT_SNAPSHOT"
code_name E5 = codes "ERR_DOC_WAS_DELETED"
code_name E6 = codes "ERR_DOC_ALREADY_CREATED"
code_name E7 = codes "ERR_DOC_DOES_NOT_EXIST"
code_name E8 = codes "ERR_OT_OP_NOT_APPLIED"
code_name E9 = codes "ERR_OP_NOT_ALLOWED_IN_PROJECTION"
code_name E10 = codes "ERR_OUT_OF_MEMORY"
code_name E11 = codes "ERR_LIMIT"

abbrev pub code_text : Code → List ℕ
code_text E1 = codes "message is badly formed"
code_text E2 = codes "document type is not recognized"
code_text E3 = codes "operation is badly formed"
code_text E4 = codes "version is newer than the current snapshot"
code_text E5 = codes "document was deleted"
code_text E6 = codes "document was already created"
code_text E7 = codes "document does not exist"
code_text E8 = codes "operation can not be applied"
code_text E9 = codes "operation is not allowed in the projection"
code_text E10 = codes "out of memory"
code_text E11 = codes "limit reached"

abbrev pub snapshot_data : ℕ → Option Value → Data
snapshot_data v None = object (
    member (codes "type") null
    (member (codes "v") (number (unsigned v)) no_members))
snapshot_data v (Some d) = object (
    member (codes "data") (data_of_value d)
    (member (codes "v") (number (unsigned v)) no_members))

abbrev pub echo_value_data : PlainEchoValue → Data
echo_value_data (text s) = string s
echo_value_data (count n) = number (unsigned n)

-- a member before the others, if it is present
abbrev pub push_member : List ℕ → Option PlainEchoValue → Members → Members
push_member k None ms = ms
push_member k (Some w) ms = member k (echo_value_data w) ms

abbrev pub error_data : Code → Data
error_data e = object (
    member (codes "code") (string (code_name e))
    (member (codes "message") (string (code_text e)) no_members))

abbrev pub type_data : Data
type_data = string (codes "http://sharejs.org/types/JSONv0")

-- ---- entries

abbrev pub create_data : Value → Data
create_data v = object (member (codes "data") (data_of_value v) (member (codes "type") type_data no_members))

-- the members after the content
abbrev pub op_tail : PlainEntry → Members
op_tail e =
    member (codes "seq") (number (unsigned e.arrived.seq))
    (member (codes "src") (string e.arrived.src)
    (member (codes "v") (number (unsigned e.version)) no_members))

-- the key and the content, before the other members
abbrev pub content_members : PlainKey → PlainContent → Members → Members
content_members k (create v) ms =
    member (codes "c") (string k.collection)
    (member (codes "create") (create_data v)
    (member (codes "d") (string k.id) ms))
content_members k delete ms =
    member (codes "c") (string k.collection)
    (member (codes "d") (string k.id)
    (member (codes "del") (boolean true) ms))
content_members k (edit op) ms =
    member (codes "c") (string k.collection)
    (member (codes "d") (string k.id)
    (member (codes "op") (op_data op) ms))

-- an entry without `a` and the key
abbrev pub entry_members : PlainEntry → PlainContent → Members
entry_members e (create v) = member (codes "create") (create_data v) (op_tail e)
entry_members e delete = member (codes "del") (boolean true) (op_tail e)
entry_members e (edit op) = member (codes "op") (op_data op) (op_tail e)

abbrev pub entry_data : PlainEntry → Data
entry_data e = object (entry_members e e.content)

-- the entry with this content
abbrev pub with_content : PlainEntry → PlainContent → PlainEntry
with_content e m = record { version = e.version; moment = e.moment; content = m; arrived = e.arrived }

-- ---- answers that differ by their kind

abbrev pub hello_data : List ℕ → List ℕ → Data
hello_data a src = object (
    member (codes "a") (string a)
    (member (codes "id") (string src)
    (member (codes "protocol") (number (unsigned 1))
    (member (codes "protocolMinor") (number (unsigned 1))
    (member (codes "type") type_data no_members)))))

abbrev pub document_data : List ℕ → PlainKey → ℕ → Option Value → Data
document_data a k v d = object (
    member (codes "a") (string a)
    (member (codes "c") (string k.collection)
    (member (codes "d") (string k.id)
    (member (codes "data") (snapshot_data v d) no_members))))

abbrev pub key_data : List ℕ → PlainKey → Data
key_data a k = object (
    member (codes "a") (string a)
    (member (codes "c") (string k.collection)
    (member (codes "d") (string k.id) no_members)))

abbrev pub version_data : List ℕ → ℕ → ℕ → Option Value → Data
version_data a n v None = object (
    member (codes "a") (string a)
    (member (codes "id") (number (unsigned n))
    (member (codes "type") null
    (member (codes "v") (number (unsigned v)) no_members))))
version_data a n v (Some d) = object (
    member (codes "a") (string a)
    (member (codes "data") (data_of_value d)
    (member (codes "id") (number (unsigned n))
    (member (codes "type") type_data
    (member (codes "v") (number (unsigned v)) no_members)))))

-- ---- answers

abbrev pub answer_data : PlainAnswer → Data
answer_data (init src) = hello_data (codes "init") src
answer_data (hello_ack src) = hello_data (codes "hs") src
answer_data (fetched k v d) = document_data (codes "f") k v d
answer_data (list_end k) = key_data (codes "f") k
answer_data (subscribed k v d) = document_data (codes "s") k v d
answer_data (caught_up k) = key_data (codes "s") k
answer_data (unsubscribed k) = key_data (codes "u") k
answer_data (snapshot n v d) = version_data (codes "nf") n v d
answer_data (snapshot_at_time n v d) = version_data (codes "nt") n v d
answer_data (op_message k e) = object (
    member (codes "a") (string (codes "op"))
    (content_members k e.content (op_tail e)))
answer_data (acknowledged k src seq v) = object (
    member (codes "a") (string (codes "op"))
    (member (codes "c") (string k.collection)
    (member (codes "d") (string k.id)
    (member (codes "seq") (number (unsigned seq))
    (member (codes "src") (string src)
    (member (codes "v") (number (unsigned v)) no_members))))))
answer_data (failed s e) = object (
    push_member (codes "a") s.a
    (push_member (codes "c") s.c
    (push_member (codes "d") s.d
    (member (codes "error") (error_data e)
    (push_member (codes "id") s.id
    (push_member (codes "seq") s.seq
    (push_member (codes "src") s.src no_members)))))))

abbrev pub answer_text : PlainAnswer → List ℕ
answer_text a = compact_text (answer_data a)

abbrev pub answer_tokens : PlainAnswer → List Token
answer_tokens a = data_tokens (answer_data a)
