-- The request that a text denotes, by the members of its JSON value (RFC 8259): `wire`. The messages are this project's
-- profile of ShareDB protocol 1.
use Rattle.std.specs.Prelude.{ℕ, List, length, Bool, true, false, ◌&&◌, ◌||◌, if◌then◌else◌, nat_lt, bytes_eq, Option, Some, None, Result, Ok, Err, option_map, option_and_then, unwrap_or, codes}
use Rattle.std.specs.Option.{option_map_or, ok_or}
use Rattle.serde_json.specs.Data.{Data, null}
use Rattle.serde_json.specs.Find.{get, as_str, as_bool}
use Rattle.serde_json.specs.Read.{read}
use Rattle.sdb_value.specs.FromJson.{count_of, bounded_value_of_data}
use Rattle.sdb_component.specs.FromJson.{op_of}
use Rattle.sdb_oplog.specs.Keys.{PlainKey}
use Rattle.sdb_oplog.specs.Plain.{PlainContent, create, delete, edit}
use Rattle.sdb_oplog.specs.Refusal.{result_and_then}
use Rattle.sdb_oplog.specs.declared.codes.Code.{Code}
use Rattle.sdb_oplog.specs.declared.codes.Code.TheVariants.{E1, E2, E3}

-- ---- members

-- a name: a text of 1 to 200 bytes
abbrev pub name_value : Data → Option (List ℕ)
name_value d = option_and_then (λ s. if nat_lt 0 (length s) && nat_lt (length s) 201 then Some s else None) (as_str d)

abbrev pub count_member : List ℕ → Data → Option ℕ
count_member k d = option_and_then count_of (get k d)

abbrev pub name_member : List ℕ → Data → Option (List ℕ)
name_member k d = option_and_then name_value (get k d)

-- a member that is present and not null
abbrev pub not_null : Data → Option Data
not_null null = None
not_null d = Some d

abbrev pub present_member : List ℕ → Data → Option Data
present_member k d = option_and_then not_null (get k d)

-- a member that may be absent or null
abbrev pub read_optional : {A : Type 0} → (Data → Option A) → Option Data → Result (Option A) Code
read_optional f None = Ok None
read_optional f (Some d) = option_map_or (λ x. Ok (Some x)) (f d) (Err E1)

-- ---- the echo

pub data PlainEchoValue : Type 0 where
  text : List ℕ → PlainEchoValue
  count : ℕ → PlainEchoValue

abbrev pub echo_value : Data → Option PlainEchoValue
echo_value d = option_map_or (λ s. Some (text s)) (name_value d) (option_map count (count_of d))

abbrev pub echo_member : List ℕ → Data → Option PlainEchoValue
echo_member k d = option_and_then echo_value (get k d)

pub record PlainEcho : Type 0 where
  pub a : Option PlainEchoValue
  pub c : Option PlainEchoValue
  pub d : Option PlainEchoValue
  pub id : Option PlainEchoValue
  pub seq : Option PlainEchoValue
  pub src : Option PlainEchoValue

abbrev pub echo_members : Data → PlainEcho
echo_members m = record {
  a = echo_member (codes "a") m;
  c = echo_member (codes "c") m;
  d = echo_member (codes "d") m;
  id = echo_member (codes "id") m;
  seq = echo_member (codes "seq") m;
  src = echo_member (codes "src") m;
}

abbrev pub empty_echo : PlainEcho
empty_echo = record { a = None; c = None; d = None; id = None; seq = None; src = None }

-- ---- contents

abbrev pub is_type : List ℕ → Bool
is_type t = bytes_eq t (codes "http://sharejs.org/types/JSONv0") || bytes_eq t (codes "json0")

abbrev pub created_content : Data → Result PlainContent Code
created_content d = option_map_or (λ v. Ok (create v)) (bounded_value_of_data d) (Err E3)

-- absent data are null
abbrev pub create_content : Data → Result PlainContent Code
create_content c =
    option_map_or (λ t. if is_type t then created_content (unwrap_or (get (codes "data") c) null) else Err E2)
    (option_and_then as_str (get (codes "type") c)) (Err E1)

abbrev pub edit_content : Data → Result PlainContent Code
edit_content o = option_map_or (λ op. Ok (edit op)) (op_of o) (Err E3)

-- exactly one content: an operation, a create or a delete
abbrev pub content_from : Option Data → Option Data → Bool → Result PlainContent Code
content_from (Some o) None false = edit_content o
content_from None (Some c) false = create_content c
content_from None None true = Ok delete
content_from _ _ _ = Err E1

-- a `del` other than true counts as absent
abbrev pub is_delete : Data → Bool
is_delete d = unwrap_or (option_and_then as_bool (get (codes "del") d)) false

abbrev pub content_of : Data → Result PlainContent Code
content_of d = content_from (present_member (codes "op") d) (present_member (codes "create") d) (is_delete d)

-- ---- messages

pub data PlainRequest : Type 0 where
  -- the client's source, or none to keep the session's
  hello : Option (List ℕ) → PlainRequest
  -- the current document, or the entries from a version on
  fetch : PlainKey → Option ℕ → PlainRequest
  -- the current document or the entries from a version on, and then each entry stored later
  subscribe : PlainKey → Option ℕ → PlainRequest
  unsubscribe : PlainKey → PlainRequest
  -- an optional base version, a seq, an optional source and a content
  submit : PlainKey → Option ℕ → ℕ → Option (List ℕ) → PlainContent → PlainRequest
  -- the document at a version, or the current one, and the number that the answer repeats
  snapshot : PlainKey → Option ℕ → ℕ → PlainRequest
  -- the document at a moment, or the current one, and the number that the answer repeats
  snapshot_at_time : PlainKey → Option ℕ → ℕ → PlainRequest

abbrev pub key_of : Data → Result PlainKey Code
key_of d =
    result_and_then (λ c. result_and_then (λ i. Ok (record { collection = c; id = i }))
    (ok_or (name_member (codes "d") d) E1))
    (ok_or (name_member (codes "c") d) E1)

abbrev pub hello_request_of : Data → Result PlainRequest Code
hello_request_of d = result_and_then (λ s. Ok (hello s)) (read_optional name_value (present_member (codes "id") d))

abbrev pub fetch_request_of : Data → Result PlainRequest Code
fetch_request_of d = result_and_then (λ k. result_and_then (λ v. Ok (fetch k v)) (read_optional count_of (present_member (codes "v") d))) (key_of d)

abbrev pub subscribe_request_of : Data → Result PlainRequest Code
subscribe_request_of d =
    result_and_then (λ k. result_and_then (λ v. Ok (subscribe k v)) (read_optional count_of (present_member (codes "v") d))) (key_of d)

abbrev pub unsubscribe_request_of : Data → Result PlainRequest Code
unsubscribe_request_of d = result_and_then (λ k. Ok (unsubscribe k)) (key_of d)

abbrev pub submit_request_of : Data → Result PlainRequest Code
submit_request_of d =
    result_and_then (λ k. result_and_then (λ v. result_and_then (λ n. result_and_then (λ s. result_and_then (λ m. Ok (submit k v n s m))
    (content_of d))
    (read_optional name_value (present_member (codes "src") d)))
    (ok_or (count_member (codes "seq") d) E1))
    (read_optional count_of (present_member (codes "v") d)))
    (key_of d)

abbrev pub snapshot_request_of : Data → Result PlainRequest Code
snapshot_request_of d =
    result_and_then (λ k. result_and_then (λ v. result_and_then (λ n. Ok (snapshot k v n))
    (ok_or (count_member (codes "id") d) E1))
    (read_optional count_of (present_member (codes "v") d)))
    (key_of d)

abbrev pub snapshot_at_time_request_of : Data → Result PlainRequest Code
snapshot_at_time_request_of d =
    result_and_then (λ k. result_and_then (λ t. result_and_then (λ n. Ok (snapshot_at_time k t n))
    (ok_or (count_member (codes "id") d) E1))
    (read_optional count_of (present_member (codes "ts") d)))
    (key_of d)

abbrev pub request_of : Data → Result PlainRequest Code
request_of d =
    option_map_or
    (λ a. if bytes_eq a (codes "hs") then hello_request_of d
    else (if bytes_eq a (codes "f") then fetch_request_of d
    else (if bytes_eq a (codes "s") then subscribe_request_of d
    else (if bytes_eq a (codes "u") then unsubscribe_request_of d
    else (if bytes_eq a (codes "op") then submit_request_of d
    else (if bytes_eq a (codes "nf") then snapshot_request_of d
    else (if bytes_eq a (codes "nt") then snapshot_at_time_request_of d else Err E1)))))))
    (name_member (codes "a") d) (Err E1)

-- ---- texts

pub record PlainBadMessage : Type 0 where
  pub echo : PlainEcho
  pub code : Code

abbrev pub with_echo : {A : Type 0} → PlainEcho → Result A Code → Result A PlainBadMessage
with_echo e (Ok x) = Ok x
with_echo e (Err c) = Err (record { echo = e; code = c })

-- maximum length in bytes of a message
abbrev pub message_limit : ℕ
message_limit = 1048576

-- the JSON value of a message, unless it is too long or isn't JSON
abbrev pub parse_data : List ℕ → Option Data
parse_data line = if nat_lt message_limit (length line) then None else read line

-- the request, or the first code that applies with the echo of the message
abbrev pub wire : List ℕ → Result PlainRequest PlainBadMessage
wire line =
    option_map_or (λ d. with_echo (echo_members d) (request_of d)) (parse_data line)
    (Err (record { echo = empty_echo; code = E1 }))

-- the echo of a message
abbrev pub echo_of : List ℕ → PlainEcho
echo_of line = option_map_or echo_members (parse_data line) empty_echo

-- ---- the request together with the echo, which a refusal by the log repeats too

pub record PlainMessage : Type 0 where
  pub echo : PlainEcho
  pub request : Result PlainRequest Code

abbrev pub plain_message_of : Option Data → PlainMessage
plain_message_of None = record { echo = empty_echo; request = Err E1 }
plain_message_of (Some d) = record { echo = echo_members d; request = request_of d }

abbrev pub parse_message : List ℕ → PlainMessage
parse_message line = plain_message_of (parse_data line)
