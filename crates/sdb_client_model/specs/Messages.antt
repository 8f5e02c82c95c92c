-- The messages between a client of one document and the server, and the connection over which they are sent. It is two
-- channels that keep the order of their messages, and a session of the server.
use Rattle.std.specs.Prelude.{ℕ, List, [], ◌∷◌, ◌++◌, map, drop, Bool, true, false, ◌&&◌, if◌then◌else◌, cond, nat_eq, nat_lt, bytes_eq, Option, Some, None}
use Rattle.sdb_oplog.specs.Plain.{PlainEntry}
use Rattle.sdb_oplog.specs.Decide.{PlainReply, stored, repeated, refused}
use Rattle.sdb_client_model.specs.Client.{SentEdit, Client, is_sent_edit}

-- what a client sends
pub data ClientMessage : Type 0 where
  -- `s`: it subscribes from a version on
  subscribe : ℕ → ClientMessage
  -- `op`: it submits an edit
  submit : SentEdit → ClientMessage

-- what the server sends
pub data ServerMessage : Type 0 where
  -- an entry: one of the list that answers `s`, a missed one of a submission, or one of the subscription. A client
  -- reads its version, content, source and seq.
  op_message : PlainEntry → ServerMessage
  -- the end of that list
  caught_up : ServerMessage
  -- the submission with this seq is stored at this version
  acknowledged : ℕ → ℕ → ServerMessage
  -- the submission with this seq is refused, or the client's `s`
  failed : Option ℕ → ServerMessage

pub record ClientConnection : Type 0 where
  -- the session's pass number, and the collection name that the client uses for the document
  pub by : ℕ
  pub via : List ℕ
  -- the number of entries of the log that the session's queue has read, if it is subscribed
  pub queue : Option ℕ
  -- the channels: what was sent and isn't read yet
  pub to_server : List ClientMessage
  pub to_client : List ServerMessage
  -- whether the client has received the end of the list that answers its `s`
  pub is_caught_up : Bool

-- what a client has received and not processed yet
pub record ReceivedEntries : Type 0 where
  -- the entries of other clients, by version
  pub early : ℕ → Option PlainEntry
  -- the version at which the sent edit is stored, once it is known
  pub ack : Option ℕ

-- ---- the client

abbrev pub with_early : ℕ → Option PlainEntry → ReceivedEntries → ReceivedEntries
with_early v o r = record { early = λ i. cond (nat_eq i v) o (r.early i); ack = r.ack }

abbrev pub with_ack : Option ℕ → ReceivedEntries → ReceivedEntries
with_ack o r = record { early = r.early; ack = o }

-- an entry below the client's version is dropped, its sent edit sets `ack`, and another one's entry is kept
abbrev pub after_op_message : List ℕ → Client → PlainEntry → ReceivedEntries → ReceivedEntries
after_op_message source c e r =
    if nat_lt e.version c.version then r
    else (if is_sent_edit source c.sent e then with_ack (Some e.version) r
    else with_early e.version (Some e) r)

abbrev pub is_seq_of_sent : Option SentEdit → ℕ → Bool
is_seq_of_sent None seq = false
is_seq_of_sent (Some t) seq = nat_eq t.seq seq

-- an acknowledgement of the sent edit sets `ack`, whatever the client's version is
abbrev pub after_message : List ℕ → Client → ServerMessage → ReceivedEntries → ReceivedEntries
after_message source c (op_message e) r = after_op_message source c e r
after_message source c caught_up r = r
after_message source c (acknowledged seq v) r = if is_seq_of_sent c.sent seq then with_ack (Some v) r else r
after_message source c (failed o) r = r

abbrev pub is_list_end : ServerMessage → Bool
is_list_end (op_message e) = false
is_list_end caught_up = true
is_list_end (acknowledged seq v) = false
is_list_end (failed o) = false

-- ---- the server

-- the entries from a version on, and the end of this list; no client's version is above the log's length
abbrev pub subscribe_answers : List PlainEntry → ℕ → List ServerMessage
subscribe_answers log v = map op_message (drop v log) ++ caught_up ∷ []

-- a stored submission's missed entries come before its acknowledgement; a duplicate has the acknowledgement alone
abbrev pub submit_answers : ℕ → PlainReply → List ServerMessage
submit_answers seq (stored v missed) = map op_message missed ++ acknowledged seq v ∷ []
submit_answers seq (repeated v) = acknowledged seq v ∷ []
submit_answers seq (refused code) = failed (Some seq) ∷ []

-- a refusal repeats the seq of a submission
abbrev pub seq_of_message : ClientMessage → Option ℕ
seq_of_message (subscribe v) = None
seq_of_message (submit t) = Some t.seq

-- whether the session of this pass number and source submitted the entry through this collection name, as in a pump of
-- `sdb_session`
abbrev pub is_own_entry : ℕ → List ℕ → List ℕ → PlainEntry → Bool
is_own_entry by source via e = nat_eq e.arrived.by by && (bytes_eq e.arrived.src source && bytes_eq e.arrived.via via)

-- a subscription sends no own entry of its session
abbrev pub subscription_messages : ℕ → List ℕ → List ℕ → PlainEntry → List ServerMessage
subscription_messages by source via e = if is_own_entry by source via e then [] else op_message e ∷ []

-- ---- a connection

abbrev pub new_connection : ℕ → List ℕ → ClientConnection
new_connection by via =
    record { by = by; via = via; queue = None; to_server = []; to_client = []; is_caught_up = false }

abbrev pub with_sent_message : ClientConnection → ClientMessage → ClientConnection
with_sent_message k m = record k { to_server = k.to_server ++ m ∷ [] }

-- the server has read a message of which `rest` is left, and has answered it
abbrev pub with_answers : ClientConnection → List ClientMessage → Option ℕ → List ServerMessage → ClientConnection
with_answers k rest queue answers =
    record k { to_server = rest; queue = queue; to_client = k.to_client ++ answers }
