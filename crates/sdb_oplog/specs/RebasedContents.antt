-- Contents that are made for a document: an edit made for the document at its base version is rebased to one that is
-- made for the current document, and the causes for which `decide` refuses it.
use Rattle.std.specs.Prelude.{◌≡◌, ℕ, List, [], ◌∷◌, ◌++◌, take, true, Option, Some, None, Ok, ◌⊎◌, ⊤}
use Rattle.sdb_value.specs.Value.{Value}
use Rattle.sdb_value.specs.WellFormed.{IsWellFormed}
use Rattle.sdb_component.specs.Plain.{PlainComponent}
use Rattle.sdb_transform.specs.Cross.{cross_ops}
use Rattle.sdb_transform.specs.OperationConvergence.{AreMadeFor, SomeSumLeavesRange, AllStayInRange}
use Rattle.sdb_oplog.specs.Plain.{PlainContent, create, delete, edit, PlainSubmission, PlainEntry}
use Rattle.sdb_oplog.specs.Rebase.{rebase}
use Rattle.sdb_oplog.specs.Snap.{apply_content, snap_from, document_of}
use Rattle.sdb_oplog.specs.Decide.{refused, decide, missed_entries, base_version, is_log_full, is_version_too_new, IsMade}
use Rattle.sdb_oplog.specs.declared.codes.Code.{Code}
use Rattle.sdb_oplog.specs.declared.codes.Code.TheVariants.{E4, E5, E8, E11}

-- ---- contents made for a document

-- an edit needs a document, and its operation is made for it; the value of a create is well formed
abbrev pub IsContentMadeFor : PlainContent → Option Value → Type 0
IsContentMadeFor (create v) d = IsWellFormed v
IsContentMadeFor delete d = ⊤
IsContentMadeFor (edit op) None = ⊥
IsContentMadeFor (edit op) (Some d) = AreMadeFor op d

-- each entry's content is made for the document before it, and applies; the document before the first one is d
--
-- `IsMade` states that each entry applies, but not that it is made: a log also stores an Oi of a present key. So a law
-- has this relation as a premise about the missed entries, or `AreMadeAtBase`, from which it follows.
abbrev pub AreEntriesMadeFor : List PlainEntry → Option Value → Type 0
AreEntriesMadeFor [] d = ⊤
AreEntriesMadeFor (e ∷ es) d =
    IsContentMadeFor e.content d × (n : Option Value) × (apply_content e.content d ≡ Ok n) × AreEntriesMadeFor es n

-- the document is absent or well formed
abbrev pub IsWellFormedDocument : Option Value → Type 0
IsWellFormedDocument None = ⊤
IsWellFormedDocument (Some d) = IsWellFormed d

-- ---- rebased contents

-- the content is an edit that adds to a number of the document, and the sum leaves the range
abbrev pub EditSumLeavesRange : PlainContent → Option Value → Type 0
EditSumLeavesRange (edit op) (Some d) = SomeSumLeavesRange op d
EditSumLeavesRange m d = ⊥

-- the content is made for the document, or its sum leaves the range there
abbrev pub IsMadeOrSumLeavesRange : PlainContent → Option Value → Type 0
IsMadeOrSumLeavesRange m d = IsContentMadeFor m d ⊎ EditSumLeavesRange m d

-- a content made for d, rebased on made entries, is made for the document after them, or its sum leaves the range there
abbrev pub RebasedContentsAreMade : Type 0
RebasedContentsAreMade =
    (es : List PlainEntry) (m rebased : PlainContent) (d after : Option Value) → IsWellFormedDocument d
    → IsContentMadeFor m d → AreEntriesMadeFor es d → rebase m es ≡ Ok rebased → snap_from d es ≡ Some after
    → IsMadeOrSumLeavesRange rebased after

-- the document at the submission's base version
abbrev pub base_document : List PlainEntry → PlainSubmission → Option Value
base_document log s = document_of (take (base_version log s) log)

-- the submission's content is made for the document at its base version
abbrev pub IsMadeAtBase : List PlainEntry → PlainSubmission → Type 0
IsMadeAtBase log s = IsContentMadeFor s.content (base_document log s)

-- each missed entry is made for the document before it
abbrev pub AreMissedEntriesMade : List PlainEntry → PlainSubmission → Type 0
AreMissedEntriesMade log s = AreEntriesMadeFor (missed_entries log s) (base_document log s)

-- the same for a submission to a made log, whose rebased content is to be applied to the current document
abbrev pub RebasedSubmissionsAreMade : Type 0
RebasedSubmissionsAreMade =
    (log : List PlainEntry) (s : PlainSubmission) (rebased : PlainContent) → IsMade log
    → IsWellFormedDocument (base_document log s) → AreMissedEntriesMade log s → IsMadeAtBase log s
    → rebase s.content (missed_entries log s) ≡ Ok rebased → IsMadeOrSumLeavesRange rebased (document_of log)

-- ---- logs of made submissions

-- each submission of the entries was made for the document at its base version
abbrev pub AreMadeAtBaseFrom : List PlainEntry → List PlainEntry → Type 0
AreMadeAtBaseFrom before [] = ⊤
AreMadeAtBaseFrom before (e ∷ es) = IsMadeAtBase before e.arrived × AreMadeAtBaseFrom (before ++ e ∷ []) es

-- of all entries of a log
abbrev pub AreMadeAtBase : List PlainEntry → Type 0
AreMadeAtBase = AreMadeAtBaseFrom []

-- if each submission of a made log was made at its base version, each entry is made
abbrev pub StoredEntriesAreMade : Type 0
StoredEntriesAreMade = (log : List PlainEntry) → IsMade log → AreMadeAtBase log → AreEntriesMadeFor log None

-- the rebased content of a submission to such a log, if it was made at its base version, too
abbrev pub RebasedAreMadeIfAllMade : Type 0
RebasedAreMadeIfAllMade =
    (log : List PlainEntry) (s : PlainSubmission) (rebased : PlainContent) → IsMade log → AreMadeAtBase log
    → IsMadeAtBase log s → rebase s.content (missed_entries log s) ≡ Ok rebased
    → IsMadeOrSumLeavesRange rebased (document_of log)

-- ---- causes of refusals

-- an edit rebased on the entries, and the document after them if d is the one before
pub record RebasedEdit (m : PlainContent) (d : Option Value) (es : List PlainEntry) : Type 0 where
  pub operation : List PlainComponent
  pub document : Value
  pub rebased : rebase m es ≡ Ok (edit operation)
  pub replayed : snap_from d es ≡ Some (Some document)

-- rebased on the entries, the edit adds to a number of the document after them, and the sum leaves the range
pub record RebasedSumLeavesRange (m : PlainContent) (d : Option Value) (es : List PlainEntry) : Type 0 where
  pub after : RebasedEdit m d es
  pub sum : SomeSumLeavesRange after.operation after.document

-- rebased on the first of the entries, the edit can't be transformed against the next one, and a position may leave the
-- range
pub record PositionLeavesRangeAmong (m : PlainContent) (d : Option Value) (es : List PlainEntry) : Type 0 where
  pub first : List PlainEntry
  pub next : PlainEntry
  pub rest : List PlainEntry
  pub other : List PlainComponent
  pub parts : es ≡ first ++ next ∷ rest
  pub edits : next.content ≡ edit other
  pub after_first : RebasedEdit m d first
  pub no_crossing : cross_ops after_first.operation other ≡ None
  pub not_in_range : AllStayInRange after_first.operation other → AllStayInRange other after_first.operation → ⊥

-- a delete is among the entries
pub record IsDeleteAmong (es : List PlainEntry) : Type 0 where
  pub first : List PlainEntry
  pub next : PlainEntry
  pub rest : List PlainEntry
  pub parts : es ≡ first ++ next ∷ rest
  pub deletes : next.content ≡ delete

-- the causes for which an edit that is made at its base version is refused, each with its code
pub data RefusalCause (log : List PlainEntry) (s : PlainSubmission) (code : Code) : Type 0 where
  -- no version number is left
  log_full : code ≡ E11 → is_log_full log ≡ true → RefusalCause log s code
  -- the base version is above the log's length
  version_too_new : code ≡ E4 → is_version_too_new log s ≡ true → RefusalCause log s code
  -- a delete is among the missed entries; a create among them is one after a delete
  document_deleted : code ≡ E5 → IsDeleteAmong (missed_entries log s) → RefusalCause log s code
  position_leaves_range :
      code ≡ E8 → PositionLeavesRangeAmong s.content (base_document log s) (missed_entries log s)
      → RefusalCause log s code
  sum_leaves_range :
      code ≡ E8 → RebasedSumLeavesRange s.content (base_document log s) (missed_entries log s) → RefusalCause log s code

-- the submission is an edit, made at its base version
pub record IsEditMadeAtBase (log : List PlainEntry) (s : PlainSubmission) : Type 0 where
  pub operation : List PlainComponent
  pub edits : s.content ≡ edit operation
  pub made : IsMadeAtBase log s

-- of a made log whose missed entries are made, a made edit is refused only for one of the causes
abbrev pub RefusalsHaveCauses : Type 0
RefusalsHaveCauses =
    (log : List PlainEntry) (s : PlainSubmission) (now : ℕ) (code : Code) → IsMade log
    → IsWellFormedDocument (base_document log s) → AreMissedEntriesMade log s → IsEditMadeAtBase log s
    → (decide log s now).reply ≡ refused code → RefusalCause log s code

-- the same if each submission of the log was made at its base version
abbrev pub RefusalsHaveCausesIfAllMade : Type 0
RefusalsHaveCausesIfAllMade =
    (log : List PlainEntry) (s : PlainSubmission) (now : ℕ) (code : Code) → IsMade log → AreMadeAtBase log
    → IsEditMadeAtBase log s → (decide log s now).reply ≡ refused code → RefusalCause log s code
