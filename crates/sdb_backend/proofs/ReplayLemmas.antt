-- A snapshot by version: its base copied at one history, replayed, and answered at a later one.
use Rattle.std.proofs.Common.{◌≡◌, ℕ, ◌+◌, ◌<◌, ◌≤◌, inl, inr, Bool, true, false, cond, List, [], ◌++◌, take, drop, length, nat_lt, min, Option, Some, Result, Ok, Err, refl, sym, ap, ◌∙◌, subst, arith, length-append}
use Rattle.std.proofs.lemmas.Bool.{le-ltb, lt-ltb}
use Rattle.std.proofs.lemmas.List.{take-append-le}
use Rattle.std.specs.Option.{is_some, option_map_or}
use Rattle.std.specs.Result.{result_ok}
use Rattle.sdb_value.specs.Value.{Value}
use Rattle.sdb_oplog.specs.Plain.{PlainEntry}
use Rattle.sdb_oplog.specs.Keys.{PlainKey}
use Rattle.sdb_oplog.specs.Decide.{IsMade}
use Rattle.sdb_oplog.specs.laws.LogLaws.{made_moments_ordered, version_at_append, version_at_within}
use Rattle.sdb_oplog.specs.Moments.{MomentsOrderedFrom, version_at}
use Rattle.sdb_oplog.specs.Snap.{document_of, snap_from}
use Rattle.sdb_oplog.specs.declared.codes.Code.{Code}
use Rattle.sdb_oplog.specs.declared.codes.Code.TheVariants.{E4, E10}
use Rattle.sdb_snapcache.specs.CacheModel.{Snapshot}
use Rattle.sdb_desk.specs.Machine.{Machine, PlainFetchResult, IsUnchanged, ReadOrOutOfMemory, read_has_version, snapshot_at, fetch_at_moment}
use Rattle.sdb_desk.specs.Reads.{PlainReplayBase, IsReplayBase, IsReplayBaseUpTo, IsCachedReplayBase}
use Rattle.sdb_desk.proofs.ReplayLemmas.{no_entries_after}
use Rattle.sdb_submit.specs.Calls.{snapshot, snapshot_at_time, MachineStep}
use Rattle.sdb_backend.specs.HistoryOrder.{IsExtension}
use Rattle.sdb_backend.specs.ReplayBases.{IsDocumentAt}

-- ---- the replay base

-- it gives a document
pub base_leads_to_version : (log : List PlainEntry) (v : ℕ) (l : PlainReplayBase) → IsReplayBase log v l → is_some (snap_from l.snapshot l.entries) ≡ true
base_leads_to_version log v l h = ap is_some h.2

some_is : {A : Type 0} (x y : A) → Some x ≡ Some y → x ≡ y
some_is x y e = cc

-- the document is that of the version
pub borrowed_at : (log : List PlainEntry) (v : ℕ) (l : PlainReplayBase) (d : Option Value) → IsReplayBase log v l → snap_from l.snapshot l.entries ≡ Some d → IsDocumentAt log v d
borrowed_at log v l d h is = (h.0, some_is (document_of (take v log)) d (sym h.2 ∙ is))

-- the document at a version is unchanged in an extension
pub at_later : (log new : List PlainEntry) (v : ℕ) (d : Option Value) → IsExtension new log → IsDocumentAt log v d → IsDocumentAt new v d
at_later log new v d h at =
    let w = at.0 in
    let n = length-append log h.0 in
    let longer : v ≤ length (log ++ h.0) = omega (arith, w, n) in
    subst (λ l. IsDocumentAt l v d) (sym h.1) (longer, ap document_of (take-append-le v log h.0 at.0) ∙ at.1)

-- a base whose snapshot is at the version has no entries, and is the document
pub base_at_version : (log : List PlainEntry) (v max : ℕ) (l : PlainReplayBase) → IsReplayBaseUpTo log v max l → l.version ≡ v → IsDocumentAt log v l.snapshot
base_at_version log v max l h is =
    let reached : min (l.version + max) v ≡ v = grind (arith, is) in
    let base : IsReplayBase log v l = subst (λ n. IsReplayBase log n l) reached h.base in
    let none : l.entries ≡ [] = base.1 ∙ ap (λ w. drop w (take v log)) is ∙ no_entries_after v log in
    borrowed_at log v l l.snapshot base (ap (snap_from l.snapshot) none)

-- the base of the current version is at it
pub current_base : (log : List PlainEntry) (kept : List Snapshot) (v : ℕ) (l : PlainReplayBase) → IsCachedReplayBase log kept v l → v ≡ length log → l.version ≡ v
current_base log kept v l (inl h) is = h.1
current_base log kept v l (inr h) is = let w = h.0 in absurd (omega (arith, w, is))

-- ---- the answer

due_or : (b : Bool) (log : List PlainEntry) (v : ℕ) → nat_lt (length log) v ≡ b → v ≤ length log
    → cond {A = Result PlainFetchResult Code} b (Err E4) (Ok (record { version = v; snapshot = document_of (take v log) })) ≡ Ok (record { version = v; snapshot = document_of (take v log) })
due_or true log v is within = let no : nat_lt (length log) v ≡ false = le-ltb (length log) v within in cc
due_or false log v is within = refl

snapshot_at_in_range : (log : List PlainEntry) (v : ℕ) → v ≤ length log → snapshot_at log (Some v) ≡ Ok (record { version = v; snapshot = document_of (take v log) })
snapshot_at_in_range log v within = due_or (nat_lt (length log) v) log v refl within

pub read_at : (by : ℕ) (m new : Machine) (k : PlainKey) (v : ℕ) (d : Option Value) → IsDocumentAt (m.logs k) v d → IsUnchanged m new
    → MachineStep by m k (snapshot (Some v)) (Ok (record { version = v; snapshot = d })) new
read_at by m new k v d at same =
    (inr (sym (snapshot_at_in_range (m.logs k) v at.0 ∙ ap (λ x. Ok (record { version = v; snapshot = x })) at.1)), same)

-- an allocation failure at a version above 0
pub out_of_memory_read : (by : ℕ) (m new : Machine) (k : PlainKey) (v : ℕ) → v ≤ length (m.logs k) → 0 < v → IsUnchanged m new
    → MachineStep by m k (snapshot (Some v)) (Err E10) new
out_of_memory_read by m new k v within some same =
    let above : nat_lt 0 v ≡ true = lt-ltb 0 v some in
    (inl (refl, ap (λ r. option_map_or read_has_version (result_ok r) false) (snapshot_at_in_range (m.logs k) v within) ∙ above), same)

-- ---- a document at a moment

-- an allocation failure for the replay base
pub out_of_memory_then : (log : List PlainEntry) (v t : ℕ) (code : Code) → v ≡ version_at log t → v ≤ length log
    → ReadOrOutOfMemory read_has_version (Err code) (snapshot_at log (Some v)) → ReadOrOutOfMemory read_has_version (Err code) (Ok (fetch_at_moment log (Some t)))
out_of_memory_then log v t code is within (inl h) =
    let some : nat_lt 0 v ≡ true = sym (ap (λ r. option_map_or read_has_version (result_ok r) false) (snapshot_at_in_range log v within)) ∙ h.1 in
    inl (h.0, ap (nat_lt 0) (sym is) ∙ some)
out_of_memory_then log v t code is within (inr h) = let no : Err code ≡ Ok _ = h ∙ snapshot_at_in_range log v within in cc

-- the base for a moment, or its replay, is the document at it
pub read_then : (by : ℕ) (m new : Machine) (k : PlainKey) (v t : ℕ) (d : Option Value) → v ≡ version_at (m.logs k) t → IsDocumentAt (m.logs k) v d
    → IsUnchanged m new → MachineStep by m k (snapshot_at_time (Some t)) (Ok (record { version = v; snapshot = d })) new
read_then by m new k v t d is at same =
    let log = m.logs k in
    let there : document_of (take (version_at log t) log) ≡ d = ap (λ n. document_of (take n log)) (sym is) ∙ at.1 in
    (inr (ap Ok (λ i. record { version = is i; snapshot = sym there i })), same)

-- the version at a moment is unchanged in an extension if it isn't the current one
pub then_later : (log new : List PlainEntry) (v t : ℕ) → IsExtension new log → IsMade new → v ≡ version_at log t → v < length log → v ≡ version_at new t
then_later log new v t h made is below =
    let time : MomentsOrderedFrom 0 (log ++ h.0) = subst (MomentsOrderedFrom 0) h.1 (made_moments_ordered new made) in
    is ∙ sym (version_at_append 0 log h.0 t time (omega (arith, is, below))) ∙ ap (λ l. version_at l t) (sym h.1)

-- an allocation failure for the base of a moment
pub out_of_memory_borrowed : (log : List PlainEntry) (v t : ℕ) (code : Code) → v ≡ version_at log t
    → ReadOrOutOfMemory read_has_version (Err code) (snapshot_at log (Some v)) → ReadOrOutOfMemory read_has_version (Err code) (Ok (fetch_at_moment log (Some t)))
out_of_memory_borrowed log v t code is h =
    let n = version_at_within log t in
    out_of_memory_then log v t code is (omega (arith, is, n)) h

-- an allocation failure at a moment whose version is above 0
pub out_of_memory_replayed : (by : ℕ) (m new : Machine) (k : PlainKey) (v t : ℕ) → v ≡ version_at (m.logs k) t → v ≤ length (m.logs k) → 0 < v → IsUnchanged m new
    → MachineStep by m k (snapshot_at_time (Some t)) (Err E10) new
out_of_memory_replayed by m new k v t is within some same =
    (out_of_memory_then (m.logs k) v t E10 is within (out_of_memory_read by m new k v within some same).0, same)
