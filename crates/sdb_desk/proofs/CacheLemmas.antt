-- A document's cache has snapshots of its log.
use Rattle.std.proofs.Common.{◌≡◌, ◌≢◌, ℕ, zero, suc, ◌<◌, ◌≤◌, length, true, inr, List, [], ◌∷◌, ◌++◌, take, Option, Some, None, Result, OnOk, OnErr, Ok, Err, sym, ap, ◌∙◌, subst, arith, refl}
use Rattle.std.specs.Prelude.{⊤}
use Rattle.std.specs.Option.{is_some}
use Rattle.sdb_value.specs.Value.{Value}
use Rattle.sdb_oplog.specs.Plain.{PlainEntry, PlainSubmission}
use Rattle.sdb_oplog.specs.Decide.{PlainReply, decide, IsMade}
use Rattle.sdb_oplog.specs.Snap.{snap, document_of}
use Rattle.sdb_oplog.specs.laws.LogLaws.{decide_extends, made_of_decide}
use Rattle.sdb_snapcache.specs.CacheModel.{Snapshot, nearest, promote_nearest, insert_front}
use Rattle.sdb_snapcache.specs.SnapInvariant.{IsSnapOf, AreSnapsOf}
use Rattle.sdb_snapcache.specs.laws.CacheLaws.{snap_of_nearest, nearest_not_above, snaps_of_promoted_nearest, snaps_of_inserted, snaps_of_extension}
use Rattle.sdb_desk.specs.Reads.{CacheAfterOffer}
use Rattle.sdb_desk.specs.DocumentModel.{IsDocument, IsReplayStart}

-- with another cache of snapshots
pub with_unchanged : (log : List PlainEntry) (kept other : List Snapshot) → AreSnapsOf log other → IsDocument log kept → IsDocument log other
with_unchanged log kept other snaps d = record { is_made = d.is_made; not_empty = d.not_empty; cache_is_snaps = snaps }

pub with_used : (log : List PlainEntry) (kept other : List Snapshot) (v : ℕ) → other ≡ promote_nearest v kept → IsDocument log kept → IsDocument log other
with_used log kept other v is d = with_unchanged log kept other (subst (AreSnapsOf log) (sym is) (snaps_of_promoted_nearest log v kept d.cache_is_snaps)) d

-- the version at which a replay starts
pub begins_up_to : (v w : ℕ) (o : Option Snapshot) (kept : List Snapshot) (d : Option Value) → nearest v kept ≡ o → IsReplayStart o w d → w ≤ v
begins_up_to v w None kept d e h = let z = h.0 in omega (arith, z)
begins_up_to v w (Some s) kept d e h = let z = h.0 in let n = nearest_not_above v kept s e in omega (arith, z, n)

-- the start of a replay is the document of its version
pub begins_snap : (log : List PlainEntry) (v w : ℕ) (o : Option Snapshot) (kept : List Snapshot) (d : Option Value) → AreSnapsOf log kept → nearest v kept ≡ o → IsReplayStart o w d → snap (take w log) ≡ Some d
begins_snap log v w None kept d snaps e h = ap (λ n. snap (take n log)) h.0 ∙ ap Some (sym h.1)
begins_snap log v w (Some s) kept d snaps e h = ap (λ n. snap (take n log)) h.0 ∙ (snap_of_nearest log v kept s snaps e).is ∙ ap Some (sym h.1)

-- a decision preserves the snapshots
pub decided_snaps : (log : List PlainEntry) (s : PlainSubmission) (now : ℕ) (kept : List Snapshot) → AreSnapsOf log kept → AreSnapsOf (decide log s now).log kept
decided_snaps log s now kept snaps = let g = decide_extends log s now in subst (λ l. AreSnapsOf l kept) (sym g.1) (snaps_of_extension log g.0 kept snaps)

-- the cache after an offer whose allocation may have failed
pub offered_or : {E : Type 0} (log : List PlainEntry) (v : ℕ) (d : Value) (kept other : List Snapshot) (r : Result ⊤ E) → IsSnapOf log (record { version = v; value = d }) → AreSnapsOf log kept
    → OnOk r (other ≡ insert_front v d kept) → OnErr r (other ≡ kept) → AreSnapsOf log other
offered_or log v d kept other (Ok u) is snaps ok err = subst (AreSnapsOf log) (sym ok) (snaps_of_inserted log v d kept is snaps)
offered_or log v d kept other (Err e) is snaps ok err = subst (AreSnapsOf log) (sym err) snaps

none_of_more : (log rest : List PlainEntry) → log ++ rest ≡ [] → log ≡ []
none_of_more [] rest e = refl
none_of_more (x ∷ log) rest e = cc

decided_filled : (log : List PlainEntry) (s : PlainSubmission) (now : ℕ) → log ≢ [] → (decide log s now).log ≢ []
decided_filled log s now filled none = let g = decide_extends log s now in filled (none_of_more log g.0 (sym g.1 ∙ none))

-- a document after a decision
pub decided_document : (log new : List PlainEntry) (s : PlainSubmission) (now : ℕ) (kept : List Snapshot) → new ≡ (decide log s now).log → IsDocument log kept → IsDocument new kept
decided_document log new s now kept is d = record {
  is_made = subst IsMade (sym is) (made_of_decide log s now d.is_made);
  not_empty = subst (λ l. l ≢ []) (sym is) (decided_filled log s now d.not_empty);
  cache_is_snaps = subst (λ l. AreSnapsOf l kept) (sym is) (decided_snaps log s now kept d.cache_is_snaps);
}

-- a document whose append may have failed
pub document_after_append : {A E : Type 0} (log new : List PlainEntry) (s : PlainSubmission) (now : ℕ) (kept : List Snapshot) (reply : PlainReply) (r : Result A E)
    → OnOk r (decide log s now ≡ record { reply = reply; log = new }) → OnErr r (new ≡ log) → IsDocument log kept → IsDocument new kept
document_after_append log new s now kept reply (Ok x) ok err d = decided_document log new s now kept (sym (ap (λ e. e.log) ok)) d
document_after_append log new s now kept reply (Err e) ok err d = subst (λ l. IsDocument l kept) (sym err) d

nothing_at_zero : (log : List PlainEntry) (d : Value) → snap (take 0 log) ≡ Some (Some d) → 0 < 0
nothing_at_zero [] d e = cc
nothing_at_zero (x ∷ log) d e = cc

pub offers_none : (o : Option Value) (v : ℕ) (kept new : List Snapshot) → new ≡ kept → CacheAfterOffer v o kept new
offers_none None v kept new e = e
offers_none (Some d) v kept new e = inr e

-- no snapshot is cached at version 0
pub above_zero : (log : List PlainEntry) (v : ℕ) (kept : List Snapshot) (o : Option Snapshot) → AreSnapsOf log kept → nearest v kept ≡ o → is_some o ≡ true → 0 < v
above_zero log v kept None snaps e some = cc
above_zero log (suc v) kept (Some s) snaps e some = omega arith
above_zero log zero kept (Some s) snaps e some =
    let n = nearest_not_above 0 kept s e in
    let z : s.version ≡ 0 = omega (arith, n) in
    let at : snap (take 0 log) ≡ Some (Some s.value) = ap (λ k. snap (take k log)) (sym z) ∙ (snap_of_nearest log 0 kept s snaps e).is in
    nothing_at_zero log s.value at
