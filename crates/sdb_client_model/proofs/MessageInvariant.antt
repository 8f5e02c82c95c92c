-- What holds of the messages of each state: what is sent and received is of the log.
use Rattle.std.proofs.Common.{◌≡◌, ℕ, ◌≤◌, List, ◌++◌, Bool, true, false, cond, Option, Some, None, All, Contains, refl, arith, bytes_eq}
use Rattle.std.proofs.lemmas.List.Elements.{All-weaker}
use Rattle.std.specs.Prelude.{⊤}
use Rattle.sdb_oplog.specs.Plain.{PlainEntry}
use Rattle.sdb_client_model.specs.Client.{SentEdit, Client}
use Rattle.sdb_client_model.specs.Machine.{SubmittedEdit}
use Rattle.sdb_client_model.specs.Messages.{ClientMessage, subscribe, submit, ServerMessage, op_message, caught_up, acknowledged, failed, ClientConnection, ReceivedEntries}
use Rattle.sdb_client_model.specs.MessageMachine.{UnreadSubmission, MessageState, source_client, with_value}
use Rattle.sdb_client_model.specs.MessageLaws.{AreOfLog, IsOfLog}
use Rattle.sdb_client_model.proofs.AppendLemmas.{same_source}
use Rattle.sdb_client_model.proofs.MessageLogs.{slice_get_append, stored_at_append}

-- ---- one message

-- a client subscribes from a version that it has reached
abbrev pub IsFromClient : List ℕ → List SubmittedEdit → ℕ → ClientMessage → Type 0
IsFromClient source ms version (subscribe v) = v ≤ version
IsFromClient source ms version (submit t) = Contains ms (record { source = source; sent = t })

-- ---- one client

pub record FollowsConnection (source : List ℕ) (log : List PlainEntry) (ms : List SubmittedEdit) (version : ℕ)
    (k : ClientConnection) : Type 0 where
  pub to_client : All (IsOfLog source log) k.to_client
  pub to_server : All (IsFromClient source ms version) k.to_server

abbrev pub FollowsOpen : List ℕ → List PlainEntry → List SubmittedEdit → ℕ → Option ClientConnection → Type 0
FollowsOpen source log ms version None = ⊤
FollowsOpen source log ms version (Some k) = FollowsConnection source log ms version k

pub record FollowsMessages (source : List ℕ) (log : List PlainEntry) (ms : List SubmittedEdit) (c : Client)
    (r : ReceivedEntries) (o : Option ClientConnection) : Type 0 where
  pub received : AreOfLog source log c.sent r
  pub connection : FollowsOpen source log ms c.version o

-- ---- all clients

pub record AreMessagesOfLog (s : MessageState) : Type 0 where
  pub clients :
      (source : List ℕ)
      → FollowsMessages source s.shared.log s.shared.submitted (source_client s source) (s.received source)
      (s.connections source)
  pub unread : All (λ (m : UnreadSubmission). Contains s.shared.submitted m.edit) s.unread

-- ---- more entries, and more submitted edits

pub of_log_append : (source : List ℕ) (log es : List PlainEntry) (m : ServerMessage) → IsOfLog source log m
    → IsOfLog source (log ++ es) m
of_log_append source log es (op_message e) h = slice_get_append log es e.version e h
of_log_append source log es caught_up h = tt
of_log_append source log es (acknowledged seq v) h = stored_at_append log es source seq v h
of_log_append source log es (failed o) h = tt

pub all_of_log_append : (source : List ℕ) (log es : List PlainEntry) (ms : List ServerMessage)
    → All (IsOfLog source log) ms → All (IsOfLog source (log ++ es)) ms
all_of_log_append source log es ms h = All-weaker (IsOfLog source log) (IsOfLog source (log ++ es))
    (of_log_append source log es) ms h

pub received_append : (source : List ℕ) (log es : List PlainEntry) (sent : Option SentEdit) (r : ReceivedEntries)
    → AreOfLog source log sent r → AreOfLog source (log ++ es) sent r
received_append source log es sent r h = record {
  early = λ v e is. (slice_get_append log es v e (h.early v e is).0, (h.early v e is).1);
  ack = λ v is. let a = h.ack v is in (a.0, a.1, stored_at_append log es source a.0.seq v a.2);
}

open_append : (source : List ℕ) (log es : List PlainEntry) (ms : List SubmittedEdit) (version : ℕ)
    (o : Option ClientConnection) → FollowsOpen source log ms version o → FollowsOpen source (log ++ es) ms version o
open_append source log es ms version None h = tt
open_append source log es ms version (Some k) h = record {
  to_client = all_of_log_append source log es k.to_client
      h.to_client;
  to_server = h.to_server;
}

pub messages_append : (source : List ℕ) (log es : List PlainEntry) (ms : List SubmittedEdit) (c : Client)
    (r : ReceivedEntries) (o : Option ClientConnection) → FollowsMessages source log ms c r o
    → FollowsMessages source (log ++ es) ms c r o
messages_append source log es ms c r o h = record {
  received = received_append source log es c.sent r h.received;
  connection = open_append source log es ms c.version o h.connection;
}

from_client_more : (source : List ℕ) (ms ns : List SubmittedEdit) (v w : ℕ)
    → ((m : SubmittedEdit) → Contains ms m → Contains ns m) → v ≤ w → (m : ClientMessage) → IsFromClient source ms v m
    → IsFromClient source ns w m
from_client_more source ms ns v w more reached (subscribe i) h = omega arith
from_client_more source ms ns v w more reached (submit t) h = more (record { source = source; sent = t }) h

-- with more submitted edits, at a later version of the client
pub all_from_client : (source : List ℕ) (ms ns : List SubmittedEdit) (v w : ℕ)
    → ((m : SubmittedEdit) → Contains ms m → Contains ns m) → v ≤ w → (xs : List ClientMessage)
    → All (IsFromClient source ms v) xs → All (IsFromClient source ns w) xs
all_from_client source ms ns v w more reached xs h = All-weaker (IsFromClient source ms v) (IsFromClient source ns w)
    (from_client_more source ms ns v w more reached) xs h

pub open_more : (source : List ℕ) (log : List PlainEntry) (ms ns : List SubmittedEdit) (v w : ℕ)
    (o : Option ClientConnection) → ((m : SubmittedEdit) → Contains ms m → Contains ns m) → v ≤ w
    → FollowsOpen source log ms v o → FollowsOpen source log ns w o
open_more source log ms ns v w None more reached h = tt
open_more source log ms ns v w (Some k) more reached h =
    record {
      to_client = h.to_client;
      to_server = all_from_client source ms ns v w more reached k.to_server
          h.to_server;
    }

pub messages_more : (source : List ℕ) (log : List PlainEntry) (ms ns : List SubmittedEdit) (c : Client)
    (r : ReceivedEntries) (o : Option ClientConnection) → ((m : SubmittedEdit) → Contains ms m → Contains ns m)
    → FollowsMessages source log ms c r o → FollowsMessages source log ns c r o
messages_more source log ms ns c r o more h =
    record {
      received = h.received;
      connection = open_more source log ms ns c.version c.version o more (omega arith)
          h.connection;
    }

-- ---- values at one source

two_values : {A B : Type 0} (P : A → B → Type 0) (b : Bool) (a x : A) (c y : B) → P a c → (b ≡ true → P x y)
    → P (cond b x a) (cond b y c)
two_values P true a x c y h k = k refl
two_values P false a x c y h k = h

pub at_two_values : {A B : Type 0} (P : A → B → Type 0) (f : List ℕ → A) (g : List ℕ → B) (source other : List ℕ)
    (x : A) (y : B) → P (f other) (g other) → (source ≡ other → P x y)
    → P (with_value f source x other) (with_value g source y other)
at_two_values P f g source other x y h k = two_values P (bytes_eq source other) (f other) x (g other) y h
    (λ e. k (same_source source other e))

pub at_value : {A : Type 0} (P : A → Type 0) (f : List ℕ → A) (source other : List ℕ) (x : A) → P (f other)
    → (source ≡ other → P x) → P (with_value f source x other)
at_value P f source other x h k = at_two_values (λ a b. P a) f f source other x x h k
