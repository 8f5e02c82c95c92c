-- Submissions, listings and first reads of a queue as chains of calls of a desk.
use Rattle.std.specs.Prelude.{◌≡◌, ◌≢◌, ℕ, true, zero, suc, ◌+◌, ◌<◌, ◌≤◌, ◌⊎◌, List, [], ◌∷◌, ◌++◌, Option, Some, None, Result, Ok, Err}
use Rattle.sdb_oplog.specs.Plain.{PlainEntry, PlainSubmission}
use Rattle.sdb_oplog.specs.declared.codes.Code.{Code}
use Rattle.sdb_oplog.specs.Decide.{PlainReply, refused}
use Rattle.sdb_oplog.specs.declared.codes.Code.TheVariants.{E4, E10}
use Rattle.sdb_desk.specs.Machine.{PlainLook, decided, moved, work_allocates}
use Rattle.sdb_submit.specs.Calls.{PlainCall, look, commit, commit_now, current_version, ops_between, take_next, CallAnswer}

-- how each call relates the state before it, its answer and the state after it
abbrev pub CallRelation : Type 0 → Type 1
CallRelation P = (c : PlainCall) → P → CallAnswer c → P → Type 0

-- n tries from this look: each computes the work and commits, and a try that finds a longer log continues with its new
-- look; with no try left, or if an allocation fails for the work or for the commit, `commit_now` decides
unfoldable pub SubmitRetries : {P : Type 0} → CallRelation P → PlainSubmission → ℕ → ℕ → PlainLook → P → PlainReply → P → Type 0
SubmitRetries acts s now zero l p r q = acts (commit_now s now) p r q
SubmitRetries acts s now (suc n) l p r q =
    ((work_allocates (record { submission = s; look = l }) ≡ true) × acts (commit_now s now) p r q)
    ⊎ ((acts (commit (record { submission = s; look = l }) now) p (decided r) q × (r ≢ refused E10))
    ⊎ (((o : _) × (acts (commit (record { submission = s; look = l }) now) p (decided (refused E10)) o
    × acts (commit_now s now) o r q))
    ⊎ ((m : PlainLook)
    × ((o : _) × (acts (commit (record { submission = s; look = l }) now) p (moved m) o × SubmitRetries acts s now n m o r q)))))

-- a submission at one moment: a look and eight tries from it, or `commit_now` if the look fails to allocate
abbrev pub SubmitRelation : {P : Type 0} → CallRelation P → PlainSubmission → ℕ → P → PlainReply → P → Type 0
SubmitRelation acts s now p r q =
    ((o : _) × (acts (look s) p None o × acts (commit_now s now) o r q))
    ⊎ ((l : PlainLook) × ((o : _) × (acts (look s) p (Some l) o × SubmitRetries acts s now 8 l o r q)))

-- ---- entries in batches

-- a batch: the number of entries requested, and the entries returned
pub record PlainBatch : Type 0 where
  pub size : ℕ
  pub entries : List PlainEntry

abbrev pub total_size : List PlainBatch → ℕ
total_size [] = 0
total_size (x ∷ xs) = x.size + total_size xs

abbrev pub entries_of : List PlainBatch → List PlainEntry
entries_of [] = []
entries_of (x ∷ xs) = x.entries ++ entries_of xs

-- the entries from a version on are read in these consecutive batches
unfoldable pub ReadsBatches : {P : Type 0} → CallRelation P → ℕ → List PlainBatch → P → P → Type 0
ReadsBatches acts v [] p q = q ≡ p
ReadsBatches acts v (x ∷ xs) p q =
    (o : _) × (acts (ops_between v (v + x.size)) p (Some x.entries) o × ReadsBatches acts (v + x.size) xs o q)

-- the entries of a take, none if the queue is unknown; `None` means that an allocation failed
abbrev pub taken_or_empty : Option (Option (List PlainEntry)) → Option (List PlainEntry)
taken_or_empty (Some (Some es)) = Some es
taken_or_empty (Some None) = Some []
taken_or_empty None = None

-- the next entries of a queue are read in these consecutive batches
unfoldable pub TakesBatches : {P : Type 0} → CallRelation P → ℕ → List PlainBatch → P → P → Type 0
TakesBatches acts n [] p q = q ≡ p
TakesBatches acts n (x ∷ xs) p q =
    (a : Option (Option (List PlainEntry)))
    × ((o : _) × (acts (take_next n x.size) p a o × (taken_or_empty a ≡ Some x.entries) × TakesBatches acts n xs o q))

-- some of the batches were read, and perhaps the next one failed to allocate
abbrev pub TakesBatchPrefix : {P : Type 0} → CallRelation P → ℕ → P → P → Type 0
TakesBatchPrefix acts n p q =
    (xs : List PlainBatch)
    × ((o : _) × (TakesBatches acts n xs p o × ((q ≡ o) ⊎ ((i : ℕ) × acts (take_next n i) o None q))))

-- the entries from a version on are listed up to the first current version; E4 if that is below the version, E10 if the
-- first batch fails to allocate
abbrev pub ListsAll : {P : Type 0} → CallRelation P → ℕ → P → Result (List PlainEntry) Code → P → Type 0
ListsAll acts v p (Ok es) q =
    (xs : List PlainBatch)
    × ((o : _) × (acts current_version p (v + total_size xs) o × ReadsBatches acts v xs o q × (es ≡ entries_of xs)))
ListsAll acts v p (Err code) q =
    ((last : ℕ) × (acts current_version p last q × (last < v) × (code ≡ E4)))
    ⊎ ((last : ℕ)
    × ((n : ℕ)
    × ((o : _) × (acts current_version p last o × acts (ops_between v n) o None q × (n ≤ last) × (code ≡ E10)))))

-- some of the batches were read, and perhaps the next one failed to allocate
abbrev pub ListsPrefix : {P : Type 0} → CallRelation P → ℕ → P → P → Type 0
ListsPrefix acts v p q =
    (last : ℕ)
    × ((xs : List PlainBatch)
    × ((m : _)
    × ((o : _) × (acts current_version p last m × ReadsBatches acts v xs m o
    × ((q ≡ o) ⊎ ((n : ℕ) × acts (ops_between (v + total_size xs) n) o None q))))))
