-- Premises about the edits and the start of a run, from which no position and no sum leaves the range in its states.
use Rattle.std.specs.Prelude.{◌≡◌, ℕ, ◌+◌, max, List, [], ◌∷◌, ◌++◌, length, Contains, ◌⊎◌, ⊤, unsigned_abs}
use Rattle.std.specs.Option.{option_map_or}
use Rattle.sdb_rope.specs.Utf16.{units}
use Rattle.sdb_value.specs.Value.{Value, null, truth, whole, text, list, object, Items, no_items, item, Members, no_members, member, item_count}
use Rattle.sdb_component.specs.Plain.{PlainAct, na, li, lr, oi, or, PlainComponent}
use Rattle.sdb_transform.specs.Convergence.{IsSafeInteger}
use Rattle.sdb_transform.specs.OperationConvergence.{total_inserted_size}
use Rattle.sdb_oplog.specs.Snap.{document_of}
use Rattle.sdb_oplog.specs.RebasedContents.{IsWellFormedDocument}
use Rattle.sdb_client_model.specs.Client.{shown_document}
use Rattle.sdb_client_model.specs.Machine.{SubmittedEdit, SharedDocument, ClientStep, make_edit, send_edit, decide_edit, process_entry, IsClientRun}
use Rattle.sdb_client_model.specs.Convergence.{IsReached}
use Rattle.sdb_client_model.specs.RunPremises.{IsMadeForShown, IsStepInRange}
use Rattle.sdb_client_model.specs.MadeEdits.{IsReachedInRange}

-- ---- numbers

-- the largest absolute value of a number in the value
abbrev mutual
  pub largest_number : Value → ℕ
  largest_number null = 0
  largest_number (truth b) = 0
  largest_number (whole z) = unsigned_abs z
  largest_number (text s) = 0
  largest_number (list ds) = largest_in_items ds
  largest_number (object ms) = largest_in_members ms

  pub largest_in_items : Items → ℕ
  largest_in_items no_items = 0
  largest_in_items (item d ds) = max (largest_number d) (largest_in_items ds)

  pub largest_in_members : Members → ℕ
  largest_in_members no_members = 0
  largest_in_members (member k d ms) = max (largest_number d) (largest_in_members ms)

-- ---- lengths

-- the length of the longest text, in UTF-16 units, or list in the value
abbrev mutual
  pub longest_part : Value → ℕ
  longest_part null = 0
  longest_part (truth b) = 0
  longest_part (whole z) = 0
  longest_part (text s) = units s
  longest_part (list ds) = max (item_count ds) (longest_in_items ds)
  longest_part (object ms) = longest_in_members ms

  pub longest_in_items : Items → ℕ
  longest_in_items no_items = 0
  longest_in_items (item d ds) = max (longest_part d) (longest_in_items ds)

  pub longest_in_members : Members → ℕ
  longest_in_members no_members = 0
  longest_in_members (member k d ms) = max (longest_part d) (longest_in_members ms)

-- ---- edits

-- a measure of the value that the act inserts
abbrev pub inserted_measure : (Value → ℕ) → PlainAct → ℕ
inserted_measure f (li i v) = f v
inserted_measure f (lr i x y) = f y
inserted_measure f (oi k v) = f v
inserted_measure f (or k x y) = f y
inserted_measure f _ = 0

abbrev pub largest_inserted : (Value → ℕ) → List PlainComponent → ℕ
largest_inserted f [] = 0
largest_inserted f (c ∷ cs) = max (inserted_measure f c.act) (largest_inserted f cs)

-- by how much the act may change a number
abbrev pub added_amount : PlainAct → ℕ
added_amount (na x) = unsigned_abs x
added_amount _ = 0

abbrev pub total_added_amount : List PlainComponent → ℕ
total_added_amount [] = 0
total_added_amount (c ∷ cs) = added_amount c.act + total_added_amount cs

-- ---- the edits of a run

-- the components of all edits that the steps make
abbrev pub made_components : List ClientStep → List PlainComponent
made_components [] = []
made_components (make_edit source op ∷ steps) = op ++ made_components steps
made_components (send_edit source ∷ steps) = made_components steps
made_components (decide_edit m via by now ∷ steps) = made_components steps
made_components (process_entry source ∷ steps) = made_components steps

-- how many edits the steps make
abbrev pub count_made : List ClientStep → ℕ
count_made [] = 0
count_made (make_edit source op ∷ steps) = 1 + count_made steps
count_made (send_edit source ∷ steps) = count_made steps
count_made (decide_edit m via by now ∷ steps) = count_made steps
count_made (process_entry source ∷ steps) = count_made steps

-- the largest measure of the start's document and of the values that the edits of the steps insert
abbrev pub largest_held : (Value → ℕ) → List ClientStep → SharedDocument → ℕ
largest_held f steps start =
    max (option_map_or f (document_of start.log) 0) (largest_inserted f (made_components steps))

-- the edits add nothing, or the largest number of the start's document and of the inserted values, and the sum of all
-- amounts that the edits add, stay in range together
abbrev pub HasSmallAmounts : List ClientStep → SharedDocument → Type 0
HasSmallAmounts steps start =
    (total_added_amount (made_components steps) ≡ 0)
    ⊎ IsSafeInteger (largest_held largest_number steps start + total_added_amount (made_components steps))

-- the length of the longest text or list of the start's document and of the inserted values, and the sum of all that
-- the edits insert into texts and lists, stay in range together
abbrev pub HasSmallTexts : List ClientStep → SharedDocument → Type 0
HasSmallTexts steps start =
    IsSafeInteger (largest_held longest_part steps start + total_inserted_size (made_components steps))

-- the run's edits, and what the start holds, keep the ranges
pub record IsSmallRun (steps : List ClientStep) (start : SharedDocument) : Type 0 where
  pub amounts : HasSmallAmounts steps start
  pub texts : HasSmallTexts steps start
  -- the entries of the start and one for each edit: the log doesn't become full
  pub entries : IsSafeInteger (length start.log + count_made steps)

-- ---- runs of made edits

-- an edit is made for what its client shows
abbrev pub IsStepMade : ClientStep → SharedDocument → Type 0
IsStepMade (make_edit source op) s = IsMadeForShown op (shown_document (s.clients source))
IsStepMade _ s = ⊤

-- each step of the run is so
abbrev pub AreStepsMade : (steps : List ClientStep) (old new : SharedDocument) → IsClientRun steps old new → Type 0
AreStepsMade [] old new run = ⊤
AreStepsMade (step ∷ steps) old new run = IsStepMade step old × AreStepsMade steps run.0 new run.2

-- s is reached from a well-formed document by a small run, whose edits are made for what their clients show
pub record IsReachedBySmallRun (steps : List ClientStep) (start s : SharedDocument) : Type 0 where
  pub reached : IsReached steps start s
  pub well_formed : IsWellFormedDocument (document_of start.log)
  pub made : AreStepsMade steps start s reached.run
  pub small : IsSmallRun steps start

-- ---- laws of these runs

-- each step of the run is in range
abbrev pub SmallRunsAreInRange : Type 0
SmallRunsAreInRange =
    (steps : List ClientStep) (start s : SharedDocument) → IsReachedBySmallRun steps start s
    → IsReachedInRange steps start s

-- so is the decision of any edit that was sent, after the run
abbrev pub NextDecisionsAreInRange : Type 0
NextDecisionsAreInRange =
    (steps : List ClientStep) (start s : SharedDocument) (m : SubmittedEdit) (via : List ℕ) (by now : ℕ)
    → IsReachedBySmallRun steps start s → Contains s.submitted m → IsStepInRange (decide_edit m via by now) s

-- and the next entry of each client
abbrev pub NextEntriesAreInRange : Type 0
NextEntriesAreInRange =
    (steps : List ClientStep) (start s : SharedDocument) (source : List ℕ) → IsReachedBySmallRun steps start s
    → IsStepInRange (process_entry source) s
