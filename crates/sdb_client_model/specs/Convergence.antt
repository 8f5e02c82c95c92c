-- Convergence of the clients of a shared document.
use Rattle.std.specs.Prelude.{◌≡◌, ℕ, List, [], length, Some, None}
use Rattle.sdb_oplog.specs.Plain.{PlainEntry}
use Rattle.sdb_oplog.specs.Snap.{document_of}
use Rattle.sdb_oplog.specs.Decide.{IsMade}
use Rattle.sdb_client_model.specs.Client.{Client, shown_document}
use Rattle.sdb_client_model.specs.Machine.{SharedDocument, ClientStep, IsClientRun}
use Rattle.sdb_client_model.specs.Invariant.{AreSeqsBelow, IsConsistent}

-- ---- the start of a run

-- the client has the document of the whole log, and no edit; its next seq is a new one
pub record IsNewClient (log : List PlainEntry) (source : List ℕ) (c : Client) : Type 0 where
  pub version : c.version ≡ length log
  pub document : document_of log ≡ Some c.document
  pub pending : c.pending ≡ []
  pub sent : c.sent ≡ None
  pub seqs : AreSeqsBelow c.next_seq source log

-- the log has a document, and each client has that
pub record IsStart (s : SharedDocument) : Type 0 where
  pub log_is_made : IsMade s.log
  pub clients : (source : List ℕ) → IsNewClient s.log source (s.clients source)
  pub submitted : s.submitted ≡ []

-- s is reached from such a start by a run
pub record IsReached (steps : List ClientStep) (start s : SharedDocument) : Type 0 where
  pub starts : IsStart start
  pub run : IsClientRun steps start s

-- ---- laws of each run

-- the invariant holds after each run
abbrev pub RunsAreConsistent : Type 0
RunsAreConsistent = (steps : List ClientStep) (start s : SharedDocument) → IsReached steps start s → IsConsistent s

-- the client has processed all entries, and each of its edits is acknowledged
pub record IsQuiet (log : List PlainEntry) (c : Client) : Type 0 where
  pub all_processed : c.version ≡ length log
  pub none_pending : c.pending ≡ []

-- a quiet client shows the server's document
abbrev pub ClientsConverge : Type 0
ClientsConverge =
    (steps : List ClientStep) (start s : SharedDocument) (source : List ℕ) → IsReached steps start s
    → IsQuiet s.log (s.clients source) → shown_document (s.clients source) ≡ document_of s.log

-- two clients without a pending edit show the same document, if they have processed equally many entries
abbrev pub ClientsAgree : Type 0
ClientsAgree =
    (steps : List ClientStep) (start s : SharedDocument) (source other : List ℕ) → IsReached steps start s
    → (s.clients source).pending ≡ [] → (s.clients other).pending ≡ []
    → (s.clients source).version ≡ (s.clients other).version
    → shown_document (s.clients source) ≡ shown_document (s.clients other)
