-- Each edit of a client is stored once, in the order in which it was made.
use Rattle.std.specs.Prelude.{◌≡◌, ℕ, ◌+◌, zero, suc, List, [], ◌∷◌, ◌++◌, length, cond, true, Option, Some, None, bytes_eq}
use Rattle.std.specs.Option.{is_some}
use Rattle.sdb_oplog.specs.Plain.{PlainEntry}
use Rattle.sdb_oplog.specs.Snap.{stored_at, are_identifiers_new}
use Rattle.sdb_client_model.specs.Client.{SentEdit, queued_edits}
use Rattle.sdb_client_model.specs.Machine.{SharedDocument, ClientStep, make_edit, send_edit, decide_edit, process_entry}
use Rattle.sdb_client_model.specs.Convergence.{IsReached}

-- the seqs of the entries of a source, in the order of the log
abbrev pub seqs_of : List ℕ → List PlainEntry → List ℕ
seqs_of source [] = []
seqs_of source (e ∷ es) = cond (bytes_eq e.arrived.src source) (e.arrived.seq ∷ seqs_of source es) (seqs_of source es)

-- the seq of the sent edit, if it isn't stored
abbrev pub unstored_seqs : List PlainEntry → List ℕ → Option SentEdit → List ℕ
unstored_seqs log source None = []
unstored_seqs log source (Some t) = cond (is_some (stored_at source t.seq log)) [] (t.seq ∷ [])

-- n, n + 1, .., n + k - 1
abbrev pub consecutive_seqs : ℕ → ℕ → List ℕ
consecutive_seqs n zero = []
consecutive_seqs n (suc k) = n ∷ consecutive_seqs (n + 1) k

-- how many edits the steps make at the client of a source
abbrev pub count_edits : List ℕ → List ClientStep → ℕ
count_edits source [] = 0
count_edits source (make_edit other op ∷ steps) =
    cond (bytes_eq other source) (suc (count_edits source steps)) (count_edits source steps)
count_edits source (send_edit other ∷ steps) = count_edits source steps
count_edits source (decide_edit m via by now ∷ steps) = count_edits source steps
count_edits source (process_entry other ∷ steps) = count_edits source steps

-- where the edits of a client are that a run has made: in its entries, in the network, or in its queue. A client sends
-- its edits in the order in which it made them, so the k-th one has the k-th seq.
pub record EditsAreStored (source : List ℕ) (steps : List ClientStep) (start s : SharedDocument) : Type 0 where
  -- the entries that the run has stored
  pub entries : List PlainEntry
  pub log : s.log ≡ start.log ++ entries
  -- how many edits the client has sent
  pub sent : ℕ
  -- those of its entries, in order, and the sent one that isn't stored have consecutive seqs
  pub seqs :
      seqs_of source entries ++ unstored_seqs s.log source (s.clients source).sent
      ≡ consecutive_seqs (start.clients source).next_seq sent
  -- each edit is one of these, or in the queue
  pub edits : sent + length (queued_edits (s.clients source)) ≡ count_edits source steps

abbrev pub AllEditsAreStored : Type 0
AllEditsAreStored =
    (steps : List ClientStep) (start s : SharedDocument) (source : List ℕ) → IsReached steps start s
    → EditsAreStored source steps start s

-- no two entries have the same source and seq
abbrev pub NoneStoredTwice : Type 0
NoneStoredTwice =
    (steps : List ClientStep) (start s : SharedDocument) → IsReached steps start s → are_identifiers_new [] s.log ≡ true
