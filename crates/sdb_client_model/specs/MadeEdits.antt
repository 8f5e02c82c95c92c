-- Edits that are made for what their clients show: they stay made, none is refused, and each entry can be processed.
use Rattle.std.specs.Prelude.{◌≡◌, ℕ, ◌≤◌, List, [], ◌∷◌, ◌++◌, length, take, drop, true, false, Option, Some, None, option_and_then, Contains, ◌⊎◌, ⊤}
use Rattle.sdb_value.specs.Value.{Value}
use Rattle.sdb_component.specs.Plain.{PlainComponent}
use Rattle.sdb_apply.specs.Apply.{apply}
use Rattle.sdb_transform.specs.OperationConvergence.{AreMadeFor}
use Rattle.sdb_oplog.specs.Plain.{edit, PlainEntry}
use Rattle.sdb_oplog.specs.Snap.{document_of, stored_at}
use Rattle.sdb_oplog.specs.Decide.{refused, decide}
use Rattle.sdb_oplog.specs.RebasedContents.{IsContentMadeFor, AreEntriesMadeFor, IsWellFormedDocument}
use Rattle.sdb_oplog.specs.declared.codes.Code.{Code}
use Rattle.sdb_client_model.specs.Client.{SentEdit, Client, shown_document, PendingCrossing, cross_pending, is_sent_edit, after_entry}
use Rattle.sdb_client_model.specs.Machine.{SubmittedEdit, SharedDocument, ClientStep, decide_edit, process_entry, submission_of}
use Rattle.sdb_client_model.specs.RunPremises.{IsStepInRange, AreStepsInRange}
use Rattle.sdb_client_model.specs.Convergence.{IsReached, IsQuiet}

-- ---- made edits

-- each operation is made for the result of those before it
abbrev pub ArePendingMade : List (List PlainComponent) → Value → Type 0
ArePendingMade [] d = ⊤
ArePendingMade (op ∷ ops) d = AreMadeFor op d × (e : Value) × (apply op d ≡ Some e) × ArePendingMade ops e

-- what was sent is made for the document at its base version, which isn't before version n
abbrev pub IsSentMade : ℕ → List PlainEntry → Option SentEdit → Type 0
IsSentMade n log None = ⊤
IsSentMade n log (Some t) = (n ≤ t.base) × IsContentMadeFor (edit t.operation) (document_of (take t.base log))

-- the edits of a client are made, whose version isn't before n
pub record AreOwnEditsMade (n : ℕ) (log : List PlainEntry) (c : Client) : Type 0 where
  pub start_reached : n ≤ c.version
  -- what is pending is made for its document, so it shows a document
  pub pending : ArePendingMade c.pending c.document
  pub sent : IsSentMade n log c.sent

-- the edits of all clients are made, and the entries that are stored since the start
pub record AreEditsMade (start s : SharedDocument) : Type 0 where
  pub entries : List PlainEntry
  pub log : s.log ≡ start.log ++ entries
  pub made : AreEntriesMadeFor entries (document_of start.log)
  pub clients : (source : List ℕ) → AreOwnEditsMade (length start.log) s.log (s.clients source)

-- ---- runs

-- s is reached by steps in range from a well-formed document
pub record IsReachedInRange (steps : List ClientStep) (start s : SharedDocument) : Type 0 where
  pub reached : IsReached steps start s
  pub well_formed : IsWellFormedDocument (document_of start.log)
  pub steps_in_range : AreStepsInRange steps start s reached.run

-- ---- laws of these runs

-- each edit stays made
abbrev pub EditsStayMade : Type 0
EditsStayMade =
    (steps : List ClientStep) (start s : SharedDocument) → IsReachedInRange steps start s → AreEditsMade start s

-- each client shows a document
abbrev pub ClientsShowDocuments : Type 0
ClientsShowDocuments =
    (steps : List ClientStep) (start s : SharedDocument) (source : List ℕ) → IsReachedInRange steps start s
    → (d : Value) × (shown_document (s.clients source) ≡ Some d)

-- the step that a client that isn't quiet waits for
pub data AwaitsStep (s : SharedDocument) (source : List ℕ) : Type 0 where
  -- it can process the entry at its version
  awaits_entry :
      (e : PlainEntry) (later : List PlainEntry) → drop (s.clients source).version s.log ≡ e ∷ later
      → AwaitsStep s source
  -- it can send the first edit of its queue
  awaits_send :
      (op : List PlainComponent) (rest : List (List PlainComponent)) → (s.clients source).sent ≡ None
      → (s.clients source).pending ≡ op ∷ rest → AwaitsStep s source
  -- the server can decide its sent edit, which isn't stored
  awaits_decision :
      (t : SentEdit) → (s.clients source).sent ≡ Some t → Contains s.submitted (record { source = source; sent = t })
      → stored_at source t.seq s.log ≡ None → AwaitsStep s source

-- no client is stuck: it is quiet, or a step for it is possible
abbrev pub NoneIsStuck : Type 0
NoneIsStuck =
    (steps : List ClientStep) (start s : SharedDocument) (source : List ℕ) → IsReachedInRange steps start s
    → IsQuiet s.log (s.clients source) ⊎ AwaitsStep s source

-- the server refuses no edit: it stores it, or it is a duplicate
abbrev pub NoneRefused : Type 0
NoneRefused =
    (steps : List ClientStep) (start s : SharedDocument) (m : SubmittedEdit) (via : List ℕ) (by now : ℕ) (code : Code)
    → IsReachedInRange steps start s → Contains s.submitted m → IsStepInRange (decide_edit m via by now) s
    → (decide s.log (submission_of m via by) now).reply ≡ refused code → ⊥

-- ---- what a client shows after an entry

-- another one's edit, transformed against the pending edits, is applied to what the client shows
pub record AppliesReceived (op : List PlainComponent) (old new : Client) : Type 0 where
  pub crossing : PendingCrossing
  pub crossed : cross_pending old.pending op ≡ Some crossing
  pub shown : shown_document new ≡ option_and_then (apply crossing.received) (shown_document old)

pub record IsProcessed (source : List ℕ) (e : PlainEntry) (old : Client) : Type 0 where
  pub client : Client
  pub client_is : after_entry source e old ≡ Some client
  -- an acknowledgement doesn't change what the client shows
  pub acknowledged : is_sent_edit source old.sent e ≡ true → shown_document client ≡ shown_document old
  pub received :
      (op : List PlainComponent) → is_sent_edit source old.sent e ≡ false → e.content ≡ edit op
      → AppliesReceived op old client

-- a client can process the entry at its version
abbrev pub EntriesAreProcessed : Type 0
EntriesAreProcessed =
    (steps : List ClientStep) (start s : SharedDocument) (source : List ℕ) (e : PlainEntry) (later : List PlainEntry)
    → IsReachedInRange steps start s → drop (s.clients source).version s.log ≡ e ∷ later
    → IsStepInRange (process_entry source) s → IsProcessed source e (s.clients source)
