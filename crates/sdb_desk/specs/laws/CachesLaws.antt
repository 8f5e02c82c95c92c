-- Laws of caches: each cached snapshot stays one of its log.
use Rattle.std.proofs.Common.{◌≡◌, ℕ, ◌≤◌, List, [], ◌++◌, length, take, Bool, true, false, cond, Option, Some, None, unwrap_or, Result, Ok, Err, inl, inr, refl, sym, ap, subst, arith}
use Rattle.sdb_value.specs.Value.{Value}
use Rattle.sdb_oplog.specs.Plain.{PlainEntry}
use Rattle.sdb_oplog.specs.Keys.{PlainKey, Logs, keys_equal, with_value_at_key}
use Rattle.sdb_oplog.specs.Snap.{snap, document_of}
use Rattle.sdb_snapcache.specs.CacheModel.{Snapshot, promote_nearest}
use Rattle.sdb_snapcache.specs.SnapInvariant.{AreSnapsOf}
use Rattle.sdb_snapcache.specs.laws.CacheLaws.{snaps_of_promoted_nearest, snaps_of_inserted, snaps_of_extension}
use Rattle.sdb_desk.specs.Reads.{CacheAfterOffer, CacheAfterUse, CacheAfterRead}
use Rattle.sdb_desk.specs.ShardState.{CachesByKey, AreCachesOf}
use Rattle.sdb_desk.specs.laws.KeyLaws.{eq_of_keys_equal}

-- ---- one cache

snapped : (o : Option (Option Value)) (d : Value) → unwrap_or o None ≡ Some d → o ≡ Some (Some d)
snapped None d h = cc
snapped (Some x) d h = ap Some h

snaps_after_offer : (log : List PlainEntry) (v : ℕ) (o : Option Value) (kept new : List Snapshot) → v ≤ length log → document_of (take v log) ≡ o → AreSnapsOf log kept → CacheAfterOffer v o kept new → AreSnapsOf log new
snaps_after_offer log v None kept new within is snaps h = subst (AreSnapsOf log) (sym h) snaps
snaps_after_offer log v (Some d) kept new within is snaps (inl h) =
    subst (AreSnapsOf log) (sym h) (snaps_of_inserted log v d kept (record { within = within; is = snapped (snap (take v log)) d is }) snaps)
snaps_after_offer log v (Some d) kept new within is snaps (inr h) = subst (AreSnapsOf log) (sym h) snaps

snaps_after_use : (log : List PlainEntry) (v : ℕ) (kept new : List Snapshot) → AreSnapsOf log kept → CacheAfterUse log v kept new → AreSnapsOf log new
snaps_after_use log v kept new snaps (inl h) = subst (AreSnapsOf log) (sym h.1) snaps
snaps_after_use log v kept new snaps (inr h) = subst (AreSnapsOf log) (sym h.1) (snaps_of_promoted_nearest log v kept snaps)

pub snaps_after_read : {A E : Type 0} (log : List PlainEntry) (v : ℕ) (r : Result A E) (kept new : List Snapshot) → AreSnapsOf log kept → CacheAfterRead log v r kept new → AreSnapsOf log new
snaps_after_read log v (Err e) kept new snaps h = snaps_after_use log v kept new snaps h
snaps_after_read log v (Ok a) kept new snaps (inl h) = subst (AreSnapsOf log) (sym h.1) snaps
snaps_after_read log v (Ok a) kept new snaps (inr h) =
    let below = h.0 in
    snaps_after_offer log v (document_of (take v log)) (promote_nearest v kept) new (omega (arith, below)) refl (snaps_of_promoted_nearest log v kept snaps) h.1

-- ---- all caches

snaps_of_cache_update : (b : Bool) (logs : Logs) (j k : PlainKey) (w : List Snapshot) (caches : CachesByKey) → keys_equal j k ≡ b → AreSnapsOf (logs j) w → AreSnapsOf (logs k) (caches k) → AreSnapsOf (logs k) (cond b w (caches k))
snaps_of_cache_update true logs j k w caches is h g = subst (λ (q : PlainKey). AreSnapsOf (logs q) w) (eq_of_keys_equal j k is) h
snaps_of_cache_update false logs j k w caches is h g = g

-- one cache changes
pub changed_cache : (logs : Logs) (j : PlainKey) (w : List Snapshot) (old new : CachesByKey) → AreCachesOf logs old → AreSnapsOf (logs j) w → new ≡ with_value_at_key old j w → AreCachesOf logs new
changed_cache logs j w old new all h is = subst (AreCachesOf logs) (sym is) (λ k. snaps_of_cache_update (keys_equal j k) logs j k w old refl h (all k))

-- the logs grow
pub extended_caches : (logs new : Logs) (caches : CachesByKey)
    → ((k : PlainKey) → (more : List PlainEntry) × (new k ≡ logs k ++ more)) → AreCachesOf logs caches → AreCachesOf new caches
extended_caches logs new caches grown all k =
    let g = grown k in
    subst (λ (l : List PlainEntry). AreSnapsOf l (caches k)) (sym g.1) (snaps_of_extension (logs k) g.0 (caches k) (all k))

pub no_caches : (logs : Logs) (caches : CachesByKey) → caches ≡ (λ k. []) → AreCachesOf logs caches
no_caches logs caches is = subst (AreCachesOf logs) (sym is) (λ k. tt)
