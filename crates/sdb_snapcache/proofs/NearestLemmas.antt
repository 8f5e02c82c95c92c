-- The nearest snapshot.
use Rattle.std.proofs.Common.{◌≡◌, ℕ, ◌≤◌, ◌<◌, max, Bool, true, false, cond, ◌&&◌, List, ◌∷◌, Option, Some, None, nat_le, option_map, option_copied, refl, sym, ap, ◌∙◌, arith}
use Rattle.std.specs.Option.{option_map_or}
use Rattle.std.proofs.lemmas.Bool.{eq-eqb, leb-true, leb-false}
use denote.Ref.{Bor}
use Rattle.sdb_value.specs.View.{value_of}
use Rattle.sdb_value.specs.Value.{Value}
use Rattle.sdb_value.specs.declared.value.Json.{Json}
use Rattle.sdb_snapcache.specs.CacheModel.{Snapshot, nearer_of, nearest, snapshot_at_version, without_version, promote_version, promote_nearest, max_version}
use Rattle.sdb_snapcache.specs.laws.CacheLaws.{nearest_spec, version_of_snapshot_at}

abbrev pub version_of_snapshot : Snapshot → ℕ
version_of_snapshot s = s.version

abbrev pub version_for : ℕ → List Snapshot → Option ℕ
version_for v cached = option_map version_of_snapshot (nearest v cached)

-- ---- the loop

pub greatest_all : (o : Option ℕ) → max_version None o ≡ o
greatest_all None = refl
greatest_all (Some w) = refl

abbrev up_to : ℕ → ℕ → Option ℕ
up_to v n = cond (nat_le n v) (Some n) None

nearer_or : (a b : Bool) (s t : Snapshot) → nat_le t.version s.version ≡ b → option_map version_of_snapshot (cond (a && b) (Some s) (Some t)) ≡ max_version (cond a (Some s.version) None) (Some t.version)
nearer_or false b s t is = refl
nearer_or true true s t is = let h : t.version ≤ s.version = leb-true t.version s.version is in let m : s.version ≡ max s.version t.version = omega (arith, h) in ap Some m
nearer_or true false s t is = let h : s.version < t.version = leb-false t.version s.version is in let m : t.version ≡ max s.version t.version = omega (arith, h) in ap Some m

nearer_version : (v : ℕ) (s : Snapshot) (o : Option Snapshot) → option_map version_of_snapshot (nearer_of v s o) ≡ max_version (up_to v s.version) (option_map version_of_snapshot o)
nearer_version v s None = elim (nat_le s.version v) as (λ b. option_map version_of_snapshot (cond b (Some s) None) ≡ cond b (Some s.version) None) [ true ↦ refl | false ↦ refl ]
nearer_version v s (Some t) = nearer_or (nat_le s.version v) (nat_le t.version s.version) s t refl

greatest_joined : (o p q : Option ℕ) → max_version (max_version o p) q ≡ max_version o (max_version p q)
greatest_joined o p None = refl
greatest_joined o None (Some w) = refl
greatest_joined None (Some v) (Some w) = refl
greatest_joined (Some u) (Some v) (Some w) = let m : max (max u v) w ≡ max u (max v w) = omega arith in ap Some m

-- one more version is compared
pub one_nearer : (v : ℕ) (found : Option ℕ) (s : Snapshot) (cached : List Snapshot) → nat_le s.version v ≡ true → max_version (max_version found (Some s.version)) (version_for v cached) ≡ max_version found (version_for v (s ∷ cached))
one_nearer v found s cached h = greatest_joined found (Some s.version) (version_for v cached) ∙ ap (max_version found) (ap (λ b. max_version (cond b (Some s.version) None) (version_for v cached)) (sym h) ∙ sym (nearer_version v s (nearest v cached)))

pub one_after : (v : ℕ) (found : Option ℕ) (s : Snapshot) (cached : List Snapshot) → nat_le s.version v ≡ false → max_version found (version_for v cached) ≡ max_version found (version_for v (s ∷ cached))
one_after v found s cached h = ap (max_version found) (sym (greatest_all (version_for v cached)) ∙ ap (λ b. max_version (cond b (Some s.version) None) (version_for v cached)) (sym h) ∙ sym (nearer_version v s (nearest v cached)))

-- ---- the used snapshot

used_or : (o : Option Snapshot) (n : ℕ) (cached : List Snapshot) → Some n ≡ option_map version_of_snapshot o → option_map_or (λ s. promote_version s.version cached) o cached ≡ promote_version n cached
used_or None n cached h = cc
used_or (Some s) n cached h = let e : n ≡ s.version = cc in ap (λ v. promote_version v cached) (sym e)

-- the one of the found version
pub used_version : (v n : ℕ) (cached : List Snapshot) → Some n ≡ version_for v cached → promote_nearest v cached ≡ promote_version n cached
used_version v n cached h = used_or (nearest v cached) n cached h

-- the lookup of the found version after its use
at_prefix : (n : ℕ) (cached : List Snapshot) (o : Option Snapshot) → snapshot_at_version n cached ≡ o → snapshot_at_version n (option_map_or (λ s. s ∷ without_version n cached) o cached) ≡ o
at_prefix n cached None h = h
at_prefix n cached (Some s) h = ap (λ b. cond b (Some s) (snapshot_at_version n (without_version n cached))) (eq-eqb n s.version (version_of_snapshot_at n cached s h))

shown_or : (v n : ℕ) (cached : List Snapshot) (o : Option Snapshot) → nearest v cached ≡ o → Some n ≡ option_map version_of_snapshot o → option_map (λ s. s.value) (snapshot_at_version n (promote_version n cached)) ≡ option_map (λ s. s.value) o
shown_or v n cached None is h = cc
shown_or v n cached (Some s) is h =
    let e : n ≡ s.version = cc in
    ap (option_map (λ x. x.value)) (at_prefix n cached (snapshot_at_version n cached) refl ∙ ap (λ k. snapshot_at_version k cached) e ∙ (nearest_spec v cached s is).first_of_version)

pub value_of_nearest : (v n : ℕ) (cached : List Snapshot) → Some n ≡ version_for v cached → option_map (λ s. s.value) (snapshot_at_version n (promote_nearest v cached)) ≡ option_map (λ s. s.value) (nearest v cached)
value_of_nearest v n cached h = ap (λ l. option_map (λ s. s.value) (snapshot_at_version n l)) (used_version v n cached h) ∙ shown_or v n cached (nearest v cached) refl h

both_or : (n : ℕ) (d : Value) (o : Option Snapshot) → Some n ≡ option_map version_of_snapshot o → Some d ≡ option_map (λ s. s.value) o → Some (record { version = n; value = d }) ≡ o
both_or n d None h k = cc
both_or n d (Some s) h k = let e : n ≡ s.version = cc in let f : d ≡ s.value = cc in λ i. Some (record { version = e i; value = f i })

-- version and value of the found snapshot
pub nearest_and_promoted : (v n : ℕ) (d : Value) (cached l : List Snapshot) → Some n ≡ version_for v cached → l ≡ promote_nearest v cached → Some d ≡ option_map (λ s. s.value) (snapshot_at_version n l) → Some (record { version = n; value = d }) ≡ nearest v cached
nearest_and_promoted v n d cached l h is k = both_or n d (nearest v cached) h (k ∙ ap (λ m. option_map (λ s. s.value) (snapshot_at_version n m)) is ∙ value_of_nearest v n cached h)

none_or : (n : ℕ) (o : Option Snapshot) → Some n ≡ option_map version_of_snapshot o → None ≡ option_map (λ s. s.value) o → ⊥
none_or n None h k = cc
none_or n (Some s) h k = cc

-- the found version is cached
pub never_none : (v n : ℕ) (cached l : List Snapshot) → Some n ≡ version_for v cached → l ≡ promote_nearest v cached → None ≡ option_map (λ s. s.value) (snapshot_at_version n l) → ⊥
never_none v n cached l h is k = none_or n (nearest v cached) h (k ∙ ap (λ m. option_map (λ s. s.value) (snapshot_at_version n m)) is ∙ value_of_nearest v n cached h)

pub view_of : (r : Option (Bor Json)) → option_map (λ d. value_of d.now) r ≡ option_map value_of (option_copied r)
view_of None = refl
view_of (Some d) = refl
