-- What holds of a shared document and its clients after each step.
use Rattle.std.specs.Prelude.{◌≡◌, ℕ, ◌<◌, ◌≤◌, length, List, [], ◌∷◌, take, drop, true, Option, Some, None, Ok, Contains, ◌⊎◌, ⊤}
use Rattle.std.specs.Option.{is_some}
use Rattle.sdb_component.specs.Plain.{PlainComponent}
use Rattle.sdb_oplog.specs.Plain.{PlainContent, create, delete, edit, PlainEntry}
use Rattle.sdb_oplog.specs.Rebase.{rebase}
use Rattle.sdb_oplog.specs.Snap.{snap, stored_at}
use Rattle.sdb_oplog.specs.Decide.{IsMade}
use Rattle.sdb_client_model.specs.Client.{SentEdit, Client}
use Rattle.sdb_client_model.specs.Machine.{SubmittedEdit, SharedDocument}

-- ---- entries

abbrev pub IsEdit : PlainContent → Type 0
IsEdit (create v) = ⊥
IsEdit delete = ⊥
IsEdit (edit op) = ⊤

abbrev pub AreEdits : List PlainEntry → Type 0
AreEdits [] = ⊤
AreEdits (e ∷ es) = IsEdit e.content × AreEdits es

-- the entries of the source have seqs below n
abbrev pub AreSeqsBelow : ℕ → List ℕ → List PlainEntry → Type 0
AreSeqsBelow n source [] = ⊤
AreSeqsBelow n source (e ∷ es) = (e.arrived.src ≡ source → e.arrived.seq < n) × AreSeqsBelow n source es

-- the entry's submission is the edit as it was sent
pub record StoresSentEdit (t : SentEdit) (e : PlainEntry) : Type 0 where
  pub base : e.arrived.version ≡ Some t.base
  pub operation : e.arrived.content ≡ edit t.operation

-- each entry with the source and seq of the sent edit stores it
abbrev pub AreEntriesOfSentEdit : List ℕ → SentEdit → List PlainEntry → Type 0
AreEntriesOfSentEdit source t [] = ⊤
AreEntriesOfSentEdit source t (e ∷ es) =
    (e.arrived.src ≡ source → e.arrived.seq ≡ t.seq → StoresSentEdit t e) × AreEntriesOfSentEdit source t es

-- ---- one client

-- t is the sent edit of the client
pub record IsSentEditOf (log : List PlainEntry) (source : List ℕ) (c : Client) (t : SentEdit) : Type 0 where
  pub operation : List PlainComponent
  pub queue : List (List PlainComponent)
  pub first : c.pending ≡ operation ∷ queue
  -- what is pending is what was sent, rebased on the entries from its base version to the client's version
  pub base_reached : t.base ≤ c.version
  pub rebased : rebase (edit t.operation) (drop t.base (take c.version log)) ≡ Ok (edit operation)
  pub edits : AreEdits (drop t.base log)
  -- its entry is stored at the client's version or after it, or not yet
  pub not_processed : stored_at source t.seq (take c.version log) ≡ None
  pub entry : AreEntriesOfSentEdit source t log
  pub seq_is_used : t.seq < c.next_seq

abbrev pub IsSentOrNone : List PlainEntry → List ℕ → Client → Option SentEdit → Type 0
IsSentOrNone log source c None = ⊤
IsSentOrNone log source c (Some t) = IsSentEditOf log source c t

-- a client of the log
pub record FollowsLog (log : List PlainEntry) (source : List ℕ) (c : Client) : Type 0 where
  pub version_reached : c.version ≤ length log
  -- its document is the log's document at its version
  pub document : snap (take c.version log) ≡ Some (Some c.document)
  pub edits : AreEdits (drop c.version log)
  pub sent : IsSentOrNone log source c c.sent
  pub seqs : AreSeqsBelow c.next_seq source log

-- ---- the network, and all together

-- an edit that was ever sent is stored, or its client's sent edit
pub record IsStoredOrSent (log : List PlainEntry) (c : Client) (m : SubmittedEdit) : Type 0 where
  pub seq_is_used : m.sent.seq < c.next_seq
  pub stored_or_sent : (is_some (stored_at m.source m.sent.seq log) ≡ true) ⊎ (c.sent ≡ Some m.sent)
  pub same : (t : SentEdit) → c.sent ≡ Some t → t.seq ≡ m.sent.seq → t ≡ m.sent

pub record IsConsistent (s : SharedDocument) : Type 0 where
  pub log_is_made : IsMade s.log
  pub clients : (source : List ℕ) → FollowsLog s.log source (s.clients source)
  pub submitted : (m : SubmittedEdit) → Contains s.submitted m → IsStoredOrSent s.log (s.clients m.source) m
  -- a client's sent edit is in the network
  pub network :
      (source : List ℕ) (t : SentEdit) → (s.clients source).sent ≡ Some t
      → Contains s.submitted (record { source = source; sent = t })
