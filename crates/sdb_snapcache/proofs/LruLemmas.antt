-- The snapshots of a cache's entries.
use Rattle.std.proofs.Common.{◌≡◌, ℕ, ◌+◌, ◌-◌, ◌≤◌, min, Bool, true, false, cond, List, [], ◌∷◌, length, take, map, Option, Some, None, nat_eq, option_map, refl, sym, ap, ◌∙◌, subst, arith}
use Rattle.std.specs.Option.{option_map_or}
use Rattle.std.proofs.lemmas.List.{take-map, take_all, length-take, length-map}
use Rattle.std.proofs.lemmas.Bool.{eqb-true}
use Rattle.std.specs.List.{IsDistinct}
use Rattle.std.specs.Map.{keys_of, lookup, lookup_entry, remove_entry}
use Rattle.lru.specs.LruCache.{LruCache, promoted, put_entries}
use Rattle.sdb_value.specs.View.{value_of}
use Rattle.sdb_value.specs.declared.value.Json.{Json}
use Rattle.sdb_snapcache.specs.CacheModel.{Snapshot, snapshot_at_version, without_version, promote_version, insert_front}
use Rattle.sdb_snapcache.specs.View.{plain_snapshot, plain_snapshots, snapshots_of, HasCapacityEight, HasCapacityEightOrNone}

abbrev pub CacheEntry : Type 0
CacheEntry = ℕ × Json

pub at_entries : (v : ℕ) (es : List CacheEntry) → snapshot_at_version v (plain_snapshots es) ≡ option_map plain_snapshot (lookup_entry (nat_eq v) es)
at_entries v [] = refl
at_entries v (e ∷ es) = elim (nat_eq v e.0) as (λ b. cond b (Some (plain_snapshot e)) (snapshot_at_version v (plain_snapshots es)) ≡ option_map plain_snapshot (cond b (Some e) (lookup_entry (nat_eq v) es))) [
  | true ↦ refl
  | false ↦ at_entries v es
]

pub value_at_entries : (v : ℕ) (es : List CacheEntry) → option_map (λ s. s.value) (snapshot_at_version v (plain_snapshots es)) ≡ option_map value_of (lookup (nat_eq v) es)
value_at_entries v [] = refl
value_at_entries v (e ∷ es) = elim (nat_eq v e.0) as (λ b. option_map (λ s. s.value) (cond b (Some (plain_snapshot e)) (snapshot_at_version v (plain_snapshots es))) ≡ option_map value_of (cond b (Some e.1) (lookup (nat_eq v) es))) [
  | true ↦ refl
  | false ↦ value_at_entries v es
]

pub without_entries : (v : ℕ) (es : List CacheEntry) → without_version v (plain_snapshots es) ≡ plain_snapshots (remove_entry (nat_eq v) es)
without_entries v [] = refl
without_entries v (e ∷ es) = elim (nat_eq v e.0) as (λ b. cond b (plain_snapshots es) (plain_snapshot e ∷ without_version v (plain_snapshots es)) ≡ plain_snapshots (cond b es (e ∷ remove_entry (nat_eq v) es))) [
  | true ↦ refl
  | false ↦ ap (λ l. plain_snapshot e ∷ l) (without_entries v es)
]

used_entry : (v : ℕ) (es : List CacheEntry) (o : Option CacheEntry) → option_map_or (λ s. s ∷ without_version v (plain_snapshots es)) (option_map plain_snapshot o) (plain_snapshots es) ≡ plain_snapshots (option_map_or (λ e. e ∷ remove_entry (nat_eq v) es) o es)
used_entry v es None = refl
used_entry v es (Some e) = ap (λ l. plain_snapshot e ∷ l) (without_entries v es)

-- a used snapshot goes first
pub used_entries : (v : ℕ) (es : List CacheEntry) → promote_version v (plain_snapshots es) ≡ plain_snapshots (promoted (nat_eq v) es)
used_entries v es = ap (λ o. option_map_or (λ s. s ∷ without_version v (plain_snapshots es)) o (plain_snapshots es)) (at_entries v es) ∙ used_entry v es (lookup_entry (nat_eq v) es)

-- ---- lengths

record FoundEntry (v : ℕ) (es : List CacheEntry) (e : CacheEntry) : Type 0 where
  pub same : nat_eq v e.0 ≡ true
  pub less : length (remove_entry (nat_eq v) es) + 1 ≡ length es

found_or : (b : Bool) (v : ℕ) (x : CacheEntry) (es : List CacheEntry) (e : CacheEntry) → nat_eq v x.0 ≡ b → cond b (Some x) (lookup_entry (nat_eq v) es) ≡ Some e → (lookup_entry (nat_eq v) es ≡ Some e → FoundEntry v es e)
    → (nat_eq v e.0 ≡ true) × (length (cond b es (x ∷ remove_entry (nat_eq v) es)) + 1 ≡ length (x ∷ es))
found_or true v x es e is h below = let s : x ≡ e = cc in (ap (λ y. nat_eq v y.0) (sym s) ∙ is, omega arith)
found_or false v x es e is h below = let f = below h in let n = f.less in (f.same, omega (arith, n))

found_entry : (v : ℕ) (es : List CacheEntry) (e : CacheEntry) → lookup_entry (nat_eq v) es ≡ Some e → FoundEntry v es e
found_entry v [] e h = cc
found_entry v (x ∷ es) e h = let f = found_or (nat_eq v x.0) v x es e refl h (found_entry v es e) in record { same = f.0; less = f.1 }

none_or : (b : Bool) (x : CacheEntry) (es : List CacheEntry) (o : Option CacheEntry) (rest : List CacheEntry) → cond b (Some x) o ≡ None → (o ≡ None → rest ≡ es) → cond b es (x ∷ rest) ≡ x ∷ es
none_or true x es o rest h below = cc
none_or false x es o rest h below = ap (λ l. x ∷ l) (below h)

none_removed : (v : ℕ) (es : List CacheEntry) → lookup_entry (nat_eq v) es ≡ None → remove_entry (nat_eq v) es ≡ es
none_removed v [] h = refl
none_removed v (x ∷ es) h = none_or (nat_eq v x.0) x es (lookup_entry (nat_eq v) es) (remove_entry (nat_eq v) es) h (none_removed v es)

few_promoted : (v : ℕ) (es : List CacheEntry) (o : Option CacheEntry) → lookup_entry (nat_eq v) es ≡ o → length es ≤ 8 → length (option_map_or (λ e. e ∷ remove_entry (nat_eq v) es) o es) ≤ 8
few_promoted v es None h few = few
few_promoted v es (Some e) h few = let n = (found_entry v es e h).less in omega (arith, n, few)

-- a cache of capacity eight after a use
pub eight_used : (v : ℕ) (es fs : List CacheEntry) → fs ≡ promoted (nat_eq v) es → length es ≤ 8 → length fs ≤ 8
eight_used v es fs is few = let n = few_promoted v es (lookup_entry (nat_eq v) es) refl few in let m : length fs ≡ length (promoted (nat_eq v) es) = ap length is in omega (arith, n, m)

-- ---- inserts

put_at : (v : ℕ) (d : Json) (es : List CacheEntry) (o : Option CacheEntry) → lookup_entry (nat_eq v) es ≡ o → length es ≤ 8
    → plain_snapshots (option_map_or (λ e. (e.0, d) ∷ remove_entry (nat_eq v) es) o ((v, d) ∷ take 7 es)) ≡ insert_front v (value_of d) (plain_snapshots es)
put_at v d es None h few =
    let cached : without_version v (plain_snapshots es) ≡ plain_snapshots es = without_entries v es ∙ ap plain_snapshots (none_removed v es h) in
    ap (λ l. plain_snapshot (v, d) ∷ l) (sym (take-map plain_snapshot 7 es) ∙ ap (take 7) (sym cached))
put_at v d es (Some e) h few =
    let f = found_entry v es e h in
    let n = f.less in
    let rest = remove_entry (nat_eq v) es in
    let key : e.0 ≡ v = sym (eqb-true v e.0 f.same) in
    let all : take 7 (plain_snapshots rest) ≡ plain_snapshots rest = take_all 7 (plain_snapshots rest) (let m : length (plain_snapshots rest) ≡ length rest = length-map rest plain_snapshot in omega (arith, n, m, few)) in
    ap (λ k. plain_snapshot (k, d) ∷ plain_snapshots rest) key ∙ ap (λ l. plain_snapshot (v, d) ∷ l) (sym all ∙ ap (take 7) (sym (without_entries v es)))

-- a cache of capacity eight after an insert
pub put_made : (v : ℕ) (d : Json) (c : LruCache ℕ Json) → HasCapacityEight c → plain_snapshots (put_entries nat_eq c v d) ≡ insert_front v (value_of d) (plain_snapshots c.entries)
put_made v d c eight =
    ap (λ n. plain_snapshots (option_map_or (λ e. (e.0, d) ∷ remove_entry (nat_eq v) c.entries) (lookup_entry (nat_eq v) c.entries) ((v, d) ∷ take (n - 1) c.entries))) eight.0
    ∙ put_at v d c.entries (lookup_entry (nat_eq v) c.entries) refl eight.1

pub eight_put : (v : ℕ) (d : Json) (c n : LruCache ℕ Json) → HasCapacityEight c → n.cap ≡ c.cap → plain_snapshots n.entries ≡ insert_front v (value_of d) (plain_snapshots c.entries) → HasCapacityEight n
eight_put v d c n eight cap is =
    let few : length (insert_front v (value_of d) (plain_snapshots c.entries)) ≡ min 8 (length (record { version = v; value = value_of d } ∷ without_version v (plain_snapshots c.entries))) = length-take 8 (record { version = v; value = value_of d } ∷ without_version v (plain_snapshots c.entries)) in
    let long : length (plain_snapshots n.entries) ≡ length n.entries = length-map n.entries plain_snapshot in
    let same : length (plain_snapshots n.entries) ≡ length (insert_front v (value_of d) (plain_snapshots c.entries)) = ap length is in
    (cap ∙ eight.0, omega (arith, few, long, same))

-- ---- a cache that exists

pub eight_of : (o : Option (LruCache ℕ Json)) (k : LruCache ℕ Json) → Some k ≡ o → HasCapacityEightOrNone o → HasCapacityEight k
eight_of None k h eight = cc
eight_of (Some j) k h eight = let e : j ≡ k = cc in subst HasCapacityEight e eight

pub unchanged_of : (o : Option (LruCache ℕ Json)) (k : LruCache ℕ Json) → Some k ≡ o → plain_snapshots k.entries ≡ snapshots_of o
unchanged_of o k h = ap snapshots_of h

abbrev VersionsDistinct : List Snapshot → Type 0
VersionsDistinct cached = IsDistinct nat_eq (map (λ s. s.version) cached)

versions_of : (es : List CacheEntry) → map (λ s. s.version) (plain_snapshots es) ≡ keys_of es
versions_of [] = refl
versions_of (e ∷ es) = ap (λ l. e.0 ∷ l) (versions_of es)

pub apart_of : (o : Option (LruCache ℕ Json)) (k : LruCache ℕ Json) (cached : List Snapshot) → o ≡ Some k → snapshots_of o ≡ cached → IsDistinct nat_eq (keys_of k.entries) → IsDistinct nat_eq (map (λ s. s.version) cached)
apart_of o k cached is value_of apart = subst VersionsDistinct (ap snapshots_of (sym is) ∙ value_of) (subst (IsDistinct nat_eq) (sym (versions_of k.entries)) apart)

pub apart_none : (o : Option (LruCache ℕ Json)) (cached : List Snapshot) → o ≡ None → snapshots_of o ≡ cached → IsDistinct nat_eq (map (λ s. s.version) cached)
unfolding IsDistinct
apart_none o cached is value_of = subst VersionsDistinct (ap snapshots_of (sym is) ∙ value_of) tt
