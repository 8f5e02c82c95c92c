-- The keys of the shards' documents, collected in a set.
use Rattle.std.proofs.Common.{◌≡◌, ℕ, List, [], ◌∷◌, Bool, true, false, ◌&&◌, ◌||◌, Ordering, Less, Equal, Greater, is_eq, map, refl, sym, subst, ap, ◌∙◌, nat_eq, eq-eqb}
use Rattle.std.specs.Ordering.{match_ordering}
use Rattle.std.specs.BTreeSet.{insert_key}
use Rattle.std.specs.List.{AllByRecursion, list_any}
use Rattle.std.specs.List.Sorted.{IsStrictlySortedBy}
use Rattle.std.specs.Set.{is_member}
use Rattle.sdb_oplog.specs.Keys.{PlainKey, compare_keys, keys_equal, plain_key, shard_of}
use Rattle.sdb_oplog.specs.declared.keys.Key.{Key}
use Rattle.sdb_desk.specs.laws.KeyLaws.{eq_of_keys_equal}

abbrev pub by_key : Key → Key → Ordering
by_key a b = compare_keys (plain_key a) (plain_key b)

abbrev pub is_among : List Key → PlainKey → Bool
is_among ks k = is_member keys_equal (map plain_key ks) k

-- whether k is among the keys of this number
abbrev pub has_own : ℕ → List Key → PlainKey → Bool
has_own n ks k = list_any (λ x. keys_equal k (plain_key x) && nat_eq (shard_of (plain_key x)) n) ks

or_absorb : (a b : Bool) → (a || b) ≡ (a || (a || b))
or_absorb true b = refl
or_absorb false b = refl

or_swap : (a b c : Bool) → (a || (b || c)) ≡ (b || (a || c))
or_swap true true c = refl
or_swap true false c = refl
or_swap false b c = refl

inserted_or : (o : Ordering) (x y : Key) (ys : List Key) (k : PlainKey) → by_key x y ≡ o → is_among (insert_key by_key ys x) k ≡ (keys_equal k (plain_key x) || is_among ys k)
    → is_among (match_ordering o (x ∷ y ∷ ys) (y ∷ ys) (y ∷ insert_key by_key ys x)) k ≡ (keys_equal k (plain_key x) || is_among (y ∷ ys) k)
inserted_or Less x y ys k is rest = refl
inserted_or Equal x y ys k is rest =
    let same : plain_key x ≡ plain_key y = eq_of_keys_equal (plain_key x) (plain_key y) (ap is_eq is) in
    subst (λ q. is_among (y ∷ ys) k ≡ (keys_equal k q || is_among (y ∷ ys) k)) (sym same) (or_absorb (keys_equal k (plain_key y)) (is_among ys k))
inserted_or Greater x y ys k is rest =
    ap (λ b. keys_equal k (plain_key y) || b) rest ∙ or_swap (keys_equal k (plain_key y)) (keys_equal k (plain_key x)) (is_among ys k)

among_insert_key : (ks : List Key) (x : Key) (k : PlainKey) → is_among (insert_key by_key ks x) k ≡ (keys_equal k (plain_key x) || is_among ks k)
among_insert_key [] x k = refl
among_insert_key (y ∷ ys) x k = inserted_or (by_key x y) x y ys k refl (among_insert_key ys x k)

put_bits : (a m o : Bool) → ((a || m) || o) ≡ (m || ((a && true) || o))
put_bits true true o = refl
put_bits true false o = refl
put_bits false true o = refl
put_bits false false o = refl

-- a key of the number is inserted
pub gathered_of_put : (n : ℕ) (before after rest : List Key) (x : Key) (k : PlainKey) → shard_of (plain_key x) ≡ n → after ≡ insert_key by_key before x
    → (is_among after k || has_own n rest k) ≡ (is_among before k || has_own n (x ∷ rest) k)
gathered_of_put n before after rest x k own is =
    let e : nat_eq (shard_of (plain_key x)) n ≡ true = eq-eqb (shard_of (plain_key x)) n own in
    ap (λ ks. is_among ks k || has_own n rest k) is ∙ ap (λ b. b || has_own n rest k) (among_insert_key before x k)
    ∙ put_bits (keys_equal k (plain_key x)) (is_among before k) (has_own n rest k)
    ∙ ap (λ b. is_among before k || ((keys_equal k (plain_key x) && b) || has_own n rest k)) (sym e)

left_bits : (a m o : Bool) → (m || o) ≡ (m || ((a && false) || o))
left_bits true m o = refl
left_bits false m o = refl

-- a key of another number is skipped
pub gathered_of_skip : (n : ℕ) (all rest : List Key) (x : Key) (k : PlainKey) → nat_eq (shard_of (plain_key x)) n ≡ false
    → (is_among all k || has_own n rest k) ≡ (is_among all k || has_own n (x ∷ rest) k)
gathered_of_skip n all rest x k other =
    left_bits (keys_equal k (plain_key x)) (is_among all k) (has_own n rest k)
    ∙ ap (λ b. is_among all k || ((keys_equal k (plain_key x) && b) || has_own n rest k)) (sym other)

and_false : (b : Bool) → false ≡ (b && false)
and_false true = refl
and_false false = refl

or_and_absorb : (e m : Bool) → (e || (e && m)) ≡ (e && true)
or_and_absorb true m = refl
or_and_absorb false m = refl

own_or : (same : Bool) (n : ℕ) (x : Key) (xs : List Key) (k : PlainKey) → keys_equal k (plain_key x) ≡ same → has_own n xs k ≡ (nat_eq (shard_of k) n && is_among xs k)
    → ((same && nat_eq (shard_of (plain_key x)) n) || has_own n xs k) ≡ (nat_eq (shard_of k) n && (same || is_among xs k))
own_or true n x xs k is rest =
    subst (λ q. (nat_eq (shard_of q) n || has_own n xs k) ≡ (nat_eq (shard_of k) n && true)) (eq_of_keys_equal k (plain_key x) is)
    (ap (λ b. nat_eq (shard_of k) n || b) rest ∙ or_and_absorb (nat_eq (shard_of k) n) (is_among xs k))
own_or false n x xs k is rest = rest

-- membership among the number's keys is membership among all, for a key of the number
pub own_is : (n : ℕ) (ks : List Key) (k : PlainKey) → has_own n ks k ≡ (nat_eq (shard_of k) n && is_among ks k)
own_is n [] k = and_false (nat_eq (shard_of k) n)
own_is n (x ∷ xs) k = own_or (keys_equal k (plain_key x)) n x xs k refl (own_is n xs k)

all_less_above : (a : PlainKey) (ks : List Key) → AllByRecursion (λ y. compare_keys a (plain_key y) ≡ Less) ks → AllByRecursion (λ y. compare_keys a y ≡ Less) (map plain_key ks)
all_less_above a [] all = tt
all_less_above a (k ∷ ks) all = (all.0, all_less_above a ks all.1)

-- sorted keys as plain keys
pub in_order : (ks : List Key) → IsStrictlySortedBy by_key ks → IsStrictlySortedBy compare_keys (map plain_key ks)
unfolding IsStrictlySortedBy
in_order [] ordered = tt
in_order (k ∷ ks) ordered = (all_less_above (plain_key k) ks ordered.0, in_order ks ordered.1)

pub or_false : (b : Bool) → b ≡ (b || false)
or_false true = refl
or_false false = refl

pub true_and : (a b : Bool) → a ≡ true → (a && b) ≡ b
true_and true b is = refl
true_and false b is = cc
