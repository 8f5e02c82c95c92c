-- A server with one document and its clients, as a reference machine.
--
-- The network is the weakest one: each submission that was ever sent may arrive at any time, any number of times or
-- never, and a client may process the entry at its version at any time. So a run also stands for channels that lose
-- messages, for a submission that is sent again, for a lost connection after which a client fetches the entries from
-- its version on, and for acknowledgements and operations that arrive before the client's version reaches them. The
-- client keeps those, and `process_entry` is the moment when it processes one. `MessageMachine.antt` has these messages.
-- A client that starts later has made no edit yet.
use Rattle.std.specs.Prelude.{◌≡◌, ℕ, List, [], ◌∷◌, ◌++◌, drop, cond, Some, None, bytes_eq, Contains}
use Rattle.sdb_component.specs.Plain.{PlainComponent}
use Rattle.sdb_oplog.specs.Plain.{edit, PlainSubmission, PlainEntry}
use Rattle.sdb_oplog.specs.Decide.{decide}
use Rattle.sdb_client_model.specs.Client.{SentEdit, Client, after_edit, next_sent, after_send, after_entry}

-- an edit that the client of a source has sent
pub record SubmittedEdit : Type 0 where
  pub source : List ℕ
  pub sent : SentEdit

pub record SharedDocument : Type 0 where
  pub log : List PlainEntry
  -- the client of each source
  pub clients : List ℕ → Client
  -- each edit that was ever sent
  pub submitted : List SubmittedEdit

pub data ClientStep : Type 0 where
  -- the client of a source makes an edit
  make_edit : List ℕ → List PlainComponent → ClientStep
  -- it sends the first edit of its queue
  send_edit : List ℕ → ClientStep
  -- the server decides a submitted edit, which arrives through a collection name and a pass at a moment
  decide_edit : SubmittedEdit → List ℕ → ℕ → ℕ → ClientStep
  -- a client processes the entry at its version
  process_entry : List ℕ → ClientStep

-- ---- steps

abbrev pub with_client : (List ℕ → Client) → List ℕ → Client → List ℕ → Client
with_client clients source c other = cond (bytes_eq source other) c (clients other)

abbrev pub with_changed_client : SharedDocument → List ℕ → Client → SharedDocument
with_changed_client s source c =
    record { log = s.log; clients = with_client s.clients source c; submitted = s.submitted }

-- the submission, as it arrives through a collection name and a pass
abbrev pub submission_of : SubmittedEdit → List ℕ → ℕ → PlainSubmission
submission_of m via by =
    record {
      src = m.source;
      seq = m.sent.seq;
      version = Some m.sent.base;
      content = edit m.sent.operation;
      via = via;
      by = by;
    }

abbrev pub after_sending : SharedDocument → List ℕ → List PlainComponent → SharedDocument
after_sending s source op =
    record {
      log = s.log;
      clients = with_client s.clients source (after_send op (s.clients source));
      submitted = s.submitted ++ record { source = source; sent = next_sent (s.clients source) op } ∷ [];
    }

-- no edit is sent, and the first pending one is sent now
pub record SendsEdit (source : List ℕ) (old new : SharedDocument) : Type 0 where
  pub operation : List PlainComponent
  pub rest : List (List PlainComponent)
  pub none_sent : (old.clients source).sent ≡ None
  pub first : (old.clients source).pending ≡ operation ∷ rest
  pub new_is : new ≡ after_sending old source operation

-- the client processes the entry at its version
pub record ProcessesEntry (source : List ℕ) (old new : SharedDocument) : Type 0 where
  pub entry : PlainEntry
  pub later : List PlainEntry
  pub entry_is : drop (old.clients source).version old.log ≡ entry ∷ later
  pub client : Client
  pub client_is : after_entry source entry (old.clients source) ≡ Some client
  pub new_is : new ≡ with_changed_client old source client

-- the server decides the submission
abbrev pub after_decision : SharedDocument → PlainSubmission → ℕ → SharedDocument
after_decision s submission now =
    record { log = (decide s.log submission now).log; clients = s.clients; submitted = s.submitted }

abbrev pub IsClientStep : ClientStep → SharedDocument → SharedDocument → Type 0
IsClientStep (make_edit source op) old new = new ≡ with_changed_client old source (after_edit op (old.clients source))
IsClientStep (send_edit source) old new = SendsEdit source old new
IsClientStep (decide_edit m via by now) old new =
    Contains old.submitted m × (new ≡ after_decision old (submission_of m via by) now)
IsClientStep (process_entry source) old new = ProcessesEntry source old new

-- the steps lead from old to new
abbrev pub IsClientRun : List ClientStep → SharedDocument → SharedDocument → Type 0
IsClientRun [] old new = new ≡ old
IsClientRun (step ∷ steps) old new = (mid : SharedDocument) × IsClientStep step old mid × IsClientRun steps mid new
