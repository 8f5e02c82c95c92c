-- Premises of a run: each edit is made for what its client shows, and no position and no sum leaves the range.
use Rattle.std.specs.Prelude.{◌≡◌, ℕ, List, [], ◌∷◌, drop, false, Option, Some, None, ⊤}
use Rattle.sdb_value.specs.Value.{Value}
use Rattle.sdb_component.specs.Plain.{PlainComponent}
use Rattle.sdb_apply.specs.Apply.{apply}
use Rattle.sdb_transform.specs.Cross.{Crossing, cross_ops}
use Rattle.sdb_transform.specs.OperationConvergence.{AreMadeFor, SomeSumLeavesRange, AllStayInRange}
use Rattle.sdb_oplog.specs.Plain.{edit, PlainSubmission, PlainEntry}
use Rattle.sdb_oplog.specs.Snap.{stored_at}
use Rattle.sdb_oplog.specs.Decide.{missed_entries, is_log_full}
use Rattle.sdb_oplog.specs.RebasedContents.{base_document, RebasedSumLeavesRange, PositionLeavesRangeAmong}
use Rattle.sdb_client_model.specs.Client.{Client, shown_document, is_sent_edit}
use Rattle.sdb_client_model.specs.Machine.{SharedDocument, ClientStep, make_edit, send_edit, decide_edit, process_entry, submission_of, IsClientRun}

-- the edit is made for what the client shows
abbrev pub IsMadeForShown : List PlainComponent → Option Value → Type 0
IsMadeForShown op None = ⊥
IsMadeForShown op (Some d) = AreMadeFor op d

-- while the operations, made for d, are transformed against each other, no position leaves the range, which is the one
-- cause for which they can't be transformed (`crossing_exists`), and no sum of the results does
pub record CrossesInRange (op received : List PlainComponent) (d : Value) : Type 0 where
  pub positions :
      cross_ops op received ≡ None → (AllStayInRange op received → AllStayInRange received op → ⊥) → ⊥
  pub left_sums :
      (x : Crossing PlainComponent) (e : Value) → cross_ops op received ≡ Some x → apply received d ≡ Some e
      → SomeSumLeavesRange x.left e → ⊥
  pub right_sums :
      (x : Crossing PlainComponent) (e : Value) → cross_ops op received ≡ Some x → apply op d ≡ Some e
      → SomeSumLeavesRange x.right e → ⊥

-- the same for each of the pending operations, and the received one transformed against those before it
abbrev pub PendingCrossesInRange : List (List PlainComponent) → List PlainComponent → Value → Type 0
PendingCrossesInRange [] received d = ⊤
PendingCrossesInRange (op ∷ ops) received d =
    CrossesInRange op received d
    × ((x : Crossing PlainComponent) (e : Value) → cross_ops op received ≡ Some x → apply op d ≡ Some e
    → PendingCrossesInRange ops x.right e)

-- the log isn't full, and no position and no sum leaves the range while the submission is rebased
pub record IsRebasedInRange (log : List PlainEntry) (submission : PlainSubmission) : Type 0 where
  pub room : is_log_full log ≡ false
  pub positions :
      PositionLeavesRangeAmong submission.content (base_document log submission) (missed_entries log submission) → ⊥
  pub sums : RebasedSumLeavesRange submission.content (base_document log submission) (missed_entries log submission) → ⊥

-- the entry at the client's version, if it isn't the sent edit
abbrev pub ProcessesInRange : List ℕ → Client → List PlainEntry → Type 0
ProcessesInRange source c [] = ⊤
ProcessesInRange source c (e ∷ later) =
    (op : List PlainComponent) → is_sent_edit source c.sent e ≡ false → e.content ≡ edit op
    → PendingCrossesInRange c.pending op c.document

abbrev pub IsStepInRange : ClientStep → SharedDocument → Type 0
IsStepInRange (make_edit source op) s = IsMadeForShown op (shown_document (s.clients source))
IsStepInRange (send_edit source) s = ⊤
IsStepInRange (decide_edit m via by now) s =
    stored_at m.source m.sent.seq s.log ≡ None → IsRebasedInRange s.log (submission_of m via by)
IsStepInRange (process_entry source) s =
    ProcessesInRange source (s.clients source) (drop (s.clients source).version s.log)

-- each step of the run is in range
abbrev pub AreStepsInRange : (steps : List ClientStep) (old new : SharedDocument) → IsClientRun steps old new → Type 0
AreStepsInRange [] old new run = ⊤
AreStepsInRange (step ∷ steps) old new run = IsStepInRange step old × AreStepsInRange steps run.0 new run.2
