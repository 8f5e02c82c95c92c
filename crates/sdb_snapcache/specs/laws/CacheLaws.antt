-- Laws of the snapshot cache: which snapshot is found, and that all are snapshots of the log.
use Rattle.std.proofs.Common.{◌≡◌, ℕ, zero, suc, ◌≤◌, ◌<◌, Bool, true, false, cond, ◌&&◌, List, [], ◌∷◌, ◌++◌, take, length, Option, Some, None, nat_eq, nat_le, refl, sym, ap, ◌∙◌, subst, arith, length-append}
use Rattle.std.specs.List.{AllByRecursion}
use Rattle.std.specs.Option.{option_map_or}
use Rattle.std.proofs.lemmas.Bool.{eq-eqb, eqb-true, leb-true, leb-false}
use Rattle.sdb_value.specs.Value.{Value}
use Rattle.std.proofs.lemmas.List.{take-append-le, length-take}
use Rattle.sdb_oplog.specs.Plain.{PlainEntry}
use Rattle.sdb_oplog.specs.Snap.{snap}
use Rattle.sdb_snapcache.specs.SnapInvariant.{IsSnapOf, AreSnapsOf}
use Rattle.sdb_snapcache.specs.CacheModel.{Snapshot, nearer_of, nearest, snapshot_at_version, without_version, promote_version, promote_nearest, insert_front}

-- ---- the snapshot that is found

-- s has the greatest version up to v, and is the first of it
pub record IsNearest (v : ℕ) (cached : List Snapshot) (s : Snapshot) : Type 0 where
  pub not_above : s.version ≤ v
  pub first_of_version : snapshot_at_version s.version cached ≡ Some s
  pub greatest_below : AllByRecursion (λ t. t.version ≤ v → t.version ≤ s.version) cached

all_map : (P Q : Snapshot → Type 0) → ((s : Snapshot) → P s → Q s) → (cached : List Snapshot) → AllByRecursion P cached
    → AllByRecursion Q cached
all_map P Q f [] h = h
all_map P Q f (s ∷ cached) h = (f s h.0, all_map P Q f cached h.1)

some_of_cond : (c : Bool) (s t : Snapshot) → cond c (Some s) (Some t) ≡ None → (⊥)
some_of_cond true s t h = cc
some_of_cond false s t h = cc

nearer_none : (b : Bool) (v : ℕ) (s : Snapshot) (o : Option Snapshot) → nat_le s.version v ≡ b → nearer_of v s o ≡ None
    → (v < s.version) × (o ≡ None)
nearer_none true v s None is h = let k : cond true (Some s) None ≡ None = ap (λ b. cond b (Some s) None) (sym is) ∙ h in cc
nearer_none false v s None is h = (leb-false s.version v is, refl)
nearer_none true v s (Some t) is h =
    absurd (some_of_cond (nat_le t.version s.version) s t
    (ap (λ b. cond (b && nat_le t.version s.version) (Some s) (Some t)) (sym is) ∙ h))
nearer_none false v s (Some t) is h =
    let k : Some t ≡ None = ap (λ b. cond (b && nat_le t.version s.version) (Some s) (Some t)) (sym is) ∙ h in cc

-- if none is found, each version is above v
pub none_of_nearest : (v : ℕ) (cached : List Snapshot) → nearest v cached ≡ None → AllByRecursion (λ t. v < t.version) cached
none_of_nearest v [] h = tt
none_of_nearest v (s ∷ cached) h =
    let k = nearer_none (nat_le s.version v) v s (nearest v cached) refl h in (k.0, none_of_nearest v cached k.1)

snapshot_at_other : (b : Bool) (n : ℕ) (s : Snapshot) (o : Option Snapshot) → nat_eq n s.version ≡ b → (n ≡ s.version → ⊥)
    → cond b (Some s) o ≡ o
snapshot_at_other true n s o is apart = absurd (apart (eqb-true n s.version is))
snapshot_at_other false n s o is apart = refl

-- s comes before f and is above v or less than f
nearest_skip : (v : ℕ) (s f : Snapshot) (cached : List Snapshot) → (s.version ≤ v → s.version < f.version) → IsNearest v cached f
    → IsNearest v (s ∷ cached) f
nearest_skip v s f cached apart n = let up = n.not_above in record {
  not_above = n.not_above;
  first_of_version = snapshot_at_other (nat_eq f.version s.version) f.version s (snapshot_at_version f.version cached) refl
      (λ e. let a : s.version ≤ v = omega (arith, e, up) in let h = apart a in omega (arith, e, h)) ∙ n.first_of_version;
  greatest_below = (λ a. let h = apart a in omega (arith, h), n.greatest_below);
}

-- s has the greatest version up to v
nearest_is : (v : ℕ) (s : Snapshot) (cached : List Snapshot) → s.version ≤ v
    → AllByRecursion (λ t. t.version ≤ v → t.version ≤ s.version) cached → IsNearest v (s ∷ cached) s
nearest_is v s cached up rest = record {
  not_above = up;
  first_of_version = ap (λ b. cond b (Some s) (snapshot_at_version s.version cached)) (eq-eqb s.version s.version refl);
  greatest_below = (λ a. omega arith, rest);
}

nearest_of_single : (b : Bool) (v : ℕ) (s f : Snapshot) (cached : List Snapshot) → nat_le s.version v ≡ b
    → nearest v cached ≡ None → cond b (Some s) None ≡ Some f → IsNearest v (s ∷ cached) f
nearest_of_single true v s f cached is none h =
    let e : s ≡ f = cc in
    subst (IsNearest v (s ∷ cached)) e
    (nearest_is v s cached (leb-true s.version v is)
    (all_map (λ t. v < t.version) (λ t. t.version ≤ v → t.version ≤ s.version)
    (λ t above up. absurd (omega (arith, above, up))) cached (none_of_nearest v cached none)))
nearest_of_single false v s f cached is none h = cc

nearest_of_two : (b c : Bool) (v : ℕ) (s t f : Snapshot) (cached : List Snapshot) → nat_le s.version v ≡ b
    → nat_le t.version s.version ≡ c → cond (b && c) (Some s) (Some t) ≡ Some f → IsNearest v cached t
    → IsNearest v (s ∷ cached) f
nearest_of_two true true v s t f cached is less h n =
    let e : s ≡ f = cc in
    let l = leb-true t.version s.version less in
    subst (IsNearest v (s ∷ cached)) e
    (nearest_is v s cached (leb-true s.version v is)
    (all_map (λ x. x.version ≤ v → x.version ≤ t.version) (λ x. x.version ≤ v → x.version ≤ s.version)
    (λ x below up. let k = below up in omega (arith, k, l)) cached n.greatest_below))
nearest_of_two true false v s t f cached is less h n =
    let e : t ≡ f = cc in
    subst (IsNearest v (s ∷ cached)) e (nearest_skip v s t cached (λ a. leb-false t.version s.version less) n)
nearest_of_two false c v s t f cached is less h n =
    let e : t ≡ f =
    cc in let above =
    leb-false s.version v is in
    subst (IsNearest v (s ∷ cached)) e (nearest_skip v s t cached (λ a. absurd (omega (arith, above, a))) n)

nearest_of_cons : (v : ℕ) (s f : Snapshot) (cached : List Snapshot) (o : Option Snapshot) → nearest v cached ≡ o
    → nearer_of v s o ≡ Some f → ((t : Snapshot) → nearest v cached ≡ Some t → IsNearest v cached t) → IsNearest v (s ∷ cached) f
nearest_of_cons v s f cached None e h below = nearest_of_single (nat_le s.version v) v s f cached refl e h
nearest_of_cons v s f cached (Some t) e h below =
    nearest_of_two (nat_le s.version v) (nat_le t.version s.version) v s t f cached refl refl h (below t e)

-- the snapshot that is found is the nearest
pub nearest_spec : (v : ℕ) (cached : List Snapshot) (s : Snapshot) → nearest v cached ≡ Some s → IsNearest v cached s
nearest_spec v [] s h = cc
nearest_spec v (x ∷ cached) s h = nearest_of_cons v x s cached (nearest v cached) refl h (nearest_spec v cached)

version_of_cond : (b : Bool) (n : ℕ) (x s : Snapshot) (o : Option Snapshot) → nat_eq n x.version ≡ b
    → cond b (Some x) o ≡ Some s → (o ≡ Some s → n ≡ s.version) → n ≡ s.version
version_of_cond true n x s o is h below = let e : x ≡ s = cc in eqb-true n x.version is ∙ ap (λ y. y.version) e
version_of_cond false n x s o is h below = below h

-- the snapshot found for a version has this version
pub version_of_snapshot_at : (n : ℕ) (cached : List Snapshot) (s : Snapshot) → snapshot_at_version n cached ≡ Some s → n ≡ s.version
version_of_snapshot_at n [] s h = cc
version_of_snapshot_at n (x ∷ cached) s h = version_of_cond (nat_eq n x.version) n x s (snapshot_at_version n cached) refl h (version_of_snapshot_at n cached s)

-- ---- cached snapshots are snapshots of the log

all_of_without : (P : Snapshot → Type 0) (n : ℕ) (cached : List Snapshot) → AllByRecursion P cached
    → AllByRecursion P (without_version n cached)
all_of_without P n [] h = tt
all_of_without P n (s ∷ cached) h = elim (nat_eq n s.version) as (λ b. AllByRecursion P (cond b cached (s ∷ without_version n cached))) [
  | true ↦ h.1
  | false ↦ (h.0, all_of_without P n cached h.1)
]

all_of_take : (P : Snapshot → Type 0) (n : ℕ) (cached : List Snapshot) → AllByRecursion P cached
    → AllByRecursion P (take n cached)
all_of_take P zero cached h = tt
all_of_take P (suc n) [] h = tt
all_of_take P (suc n) (s ∷ cached) h = (h.0, all_of_take P n cached h.1)

some_or : (P : Snapshot → Type 0) (b : Bool) (x s : Snapshot) (o : Option Snapshot) → cond b (Some x) o ≡ Some s → P x
    → (o ≡ Some s → P s) → P s
some_or P true x s o h here below = let e : x ≡ s = cc in subst P e here
some_or P false x s o h here below = below h

all_of_snapshot_at : (P : Snapshot → Type 0) (n : ℕ) (cached : List Snapshot) (s : Snapshot) → AllByRecursion P cached
    → snapshot_at_version n cached ≡ Some s → P s
all_of_snapshot_at P n [] s all h = cc
all_of_snapshot_at P n (x ∷ cached) s all h = some_or P (nat_eq n x.version) x s (snapshot_at_version n cached) h all.0 (all_of_snapshot_at P n cached s all.1)

pub snap_of_snapshot_at : (log : List PlainEntry) (n : ℕ) (cached : List Snapshot) (s : Snapshot) → AreSnapsOf log cached
    → snapshot_at_version n cached ≡ Some s → IsSnapOf log s
snap_of_snapshot_at log n cached s = all_of_snapshot_at (IsSnapOf log) n cached s

-- the snapshot that is found is a snapshot of the log
pub snap_of_nearest : (log : List PlainEntry) (v : ℕ) (cached : List Snapshot) (s : Snapshot) → AreSnapsOf log cached
    → nearest v cached ≡ Some s → IsSnapOf log s
snap_of_nearest log v cached s all h = snap_of_snapshot_at log s.version cached s all (nearest_spec v cached s h).first_of_version

pub nearest_not_above : (v : ℕ) (cached : List Snapshot) (s : Snapshot) → nearest v cached ≡ Some s → s.version ≤ v
nearest_not_above v cached s h = (nearest_spec v cached s h).not_above

used_at : (log : List PlainEntry) (n : ℕ) (cached : List Snapshot) (o : Option Snapshot) → snapshot_at_version n cached ≡ o
    → AreSnapsOf log cached → AreSnapsOf log (option_map_or (λ s. s ∷ without_version n cached) o cached)
used_at log n cached None h all = all
used_at log n cached (Some s) h all = (snap_of_snapshot_at log n cached s all h, all_of_without (IsSnapOf log) n cached all)

pub snaps_of_promoted : (log : List PlainEntry) (n : ℕ) (cached : List Snapshot) → AreSnapsOf log cached
    → AreSnapsOf log (promote_version n cached)
snaps_of_promoted log n cached all = used_at log n cached (snapshot_at_version n cached) refl all

used_for_at : (log : List PlainEntry) (cached : List Snapshot) (o : Option Snapshot) → AreSnapsOf log cached
    → AreSnapsOf log (option_map_or (λ s. promote_version s.version cached) o cached)
used_for_at log cached None all = all
used_for_at log cached (Some s) all = snaps_of_promoted log s.version cached all

pub snaps_of_promoted_nearest : (log : List PlainEntry) (v : ℕ) (cached : List Snapshot) → AreSnapsOf log cached
    → AreSnapsOf log (promote_nearest v cached)
snaps_of_promoted_nearest log v cached all = used_for_at log cached (nearest v cached) all

-- after an insert of a snapshot of the log, all are
pub snaps_of_inserted : (log : List PlainEntry) (v : ℕ) (d : Value) (cached : List Snapshot)
    → IsSnapOf log (record { version = v; value = d }) → AreSnapsOf log cached → AreSnapsOf log (insert_front v d cached)
snaps_of_inserted log v d cached is all =
    all_of_take (IsSnapOf log) 8 (record { version = v; value = d } ∷ without_version v cached)
    (is, all_of_without (IsSnapOf log) v cached all)

snap_of_extension : (log more : List PlainEntry) (s : Snapshot) → IsSnapOf log s → IsSnapOf (log ++ more) s
snap_of_extension log more s h = let w = h.within in record {
  within = omega (arith, w, length-append log more);
  is = ap snap (take-append-le s.version log more w) ∙ h.is;
}

-- snapshots of a log are snapshots of each extension
pub snaps_of_extension : (log more : List PlainEntry) (cached : List Snapshot) → AreSnapsOf log cached
    → AreSnapsOf (log ++ more) cached
snaps_of_extension log more cached all = all_map (IsSnapOf log) (IsSnapOf (log ++ more)) (snap_of_extension log more) cached all

-- ---- at most eight

pub length_of_inserted : (v : ℕ) (d : Value) (cached : List Snapshot) → length (insert_front v d cached) ≤ 8
length_of_inserted v d cached = let n = length-take 8 (record { version = v; value = d } ∷ without_version v cached) in omega (arith, n)
