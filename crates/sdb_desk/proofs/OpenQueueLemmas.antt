-- The open queues of all keys, from the entries of a map.
use Rattle.std.proofs.Common.{◌≡◌, ℕ, ◌+◌, nat_lt, List, [], ◌∷◌, Bool, true, false, ◌||◌, min, length, Less, is_eq, refl, sym, ap, ◌∙◌, arith}
use Rattle.std.specs.List.{AllByRecursion, IsDistinct, list_any}
use Rattle.std.specs.List.Sorted.{IsStrictlySortedBy}
use Rattle.std.specs.Map.{keys_of, values_of}
use Rattle.std.specs.Set.{is_member}
use Rattle.std.proofs.Math.Nat.{min-eq_left, min-eq_right, min-le_right}
use Rattle.std.proofs.lemmas.Bool.{ltb-true, ltb-false}
use Rattle.std.proofs.lemmas.Map.Keys.{IsDistinct-from_sorted}
use Rattle.sdb_oplog.specs.Keys.{PlainKey, compare_keys, keys_equal, plain_key}
use Rattle.sdb_oplog.specs.declared.keys.Key.{Key}
use Rattle.sdb_subscribe.specs.Ring.{without_rings}
use Rattle.sdb_desk.specs.laws.KeyLaws.{keys_equal_refl}
use Rattle.sdb_desk.specs.Machine.{QueuesByKey}
use Rattle.sdb_desk.specs.MapModel.{value_at_key}
use Rattle.sdb_desk.specs.laws.MapLaws.{keys_equal_comm}
use Rattle.sdb_desk.specs.OpenQueues.{open_count}
use Rattle.sdb_desk.specs.SlotModel.{PlainSlot, empty_slot}

-- the number of open queues of these slots
abbrev pub open_total : List PlainSlot → ℕ
open_total [] = 0
open_total (t ∷ ts) = length (without_rings t.queues).queues + open_total ts

abbrev pub plain_keys : List (Key × PlainSlot) → List PlainKey
plain_keys [] = []
plain_keys (e ∷ es) = plain_key e.0 ∷ plain_keys es

abbrev KeysAscend : List (Key × PlainSlot) → Type 0
KeysAscend es = IsStrictlySortedBy (λ a b. compare_keys (plain_key a) (plain_key b)) (keys_of es)

abbrev queues_of_entries : List (Key × PlainSlot) → QueuesByKey
queues_of_entries es k = without_rings (value_at_key empty_slot es k).queues

all_below_key : (a : PlainKey) (es : List (Key × PlainSlot)) → AllByRecursion (λ y. compare_keys a (plain_key y) ≡ Less) (keys_of es) → AllByRecursion (λ y. compare_keys a y ≡ Less) (plain_keys es)
all_below_key a [] all = tt
all_below_key a (e ∷ es) all = (all.0, all_below_key a es all.1)

in_order : (es : List (Key × PlainSlot)) → KeysAscend es → IsStrictlySortedBy compare_keys (plain_keys es)
unfolding IsStrictlySortedBy
in_order [] ordered = tt
in_order (e ∷ es) ordered = (all_below_key (plain_key e.0) es ordered.0, in_order es ordered.1)

-- the keys are distinct
pub keys_distinct : (es : List (Key × PlainSlot)) → KeysAscend es → IsDistinct keys_equal (plain_keys es)
keys_distinct es ordered = IsDistinct-from_sorted compare_keys (plain_keys es) (in_order es ordered)

or_false_elim : (a b : Bool) → (a || b) ≡ false → (a ≡ false) × (b ≡ false)
or_false_elim true b e = cc
or_false_elim false b e = (refl, e)

none_or : (same : Bool) (e : Key × PlainSlot) (es : List (Key × PlainSlot)) (k : PlainKey) → keys_equal k (plain_key e.0) ≡ same → list_any (keys_equal k) (plain_keys (e ∷ es)) ≡ false
    → (list_any (keys_equal k) (plain_keys es) ≡ false → (queues_of_entries es k).queues ≡ []) → (queues_of_entries (e ∷ es) k).queues ≡ []
none_or true e es k is none rest = let x : true ≡ false = sym is ∙ (or_false_elim (keys_equal k (plain_key e.0)) (list_any (keys_equal k) (plain_keys es)) none).0 in cc
none_or false e es k is none rest = rw is (rest ((or_false_elim (keys_equal k (plain_key e.0)) (list_any (keys_equal k) (plain_keys es)) none).1))

-- any other key has no queue
pub no_queue_of_other_key : (es : List (Key × PlainSlot)) (k : PlainKey) → is_member keys_equal (plain_keys es) k ≡ false → (queues_of_entries es k).queues ≡ []
no_queue_of_other_key [] k none = refl
no_queue_of_other_key (e ∷ es) k none = none_or (keys_equal k (plain_key e.0)) e es k refl none (no_queue_of_other_key es k)

-- an entry before these keys doesn't change their count
open_of_skip : (e : Key × PlainSlot) (es : List (Key × PlainSlot)) (ks : List PlainKey) → AllByRecursion (λ y. compare_keys (plain_key e.0) y ≡ Less) ks → open_count (queues_of_entries (e ∷ es)) ks ≡ open_count (queues_of_entries es) ks
open_of_skip e es [] all = refl
open_of_skip e es (k ∷ ks) all =
    let apart : keys_equal k (plain_key e.0) ≡ false = keys_equal_comm k (plain_key e.0) ∙ ap is_eq all.0 in
    rw (apart, open_of_skip e es ks all.1) refl

-- the count over slots is the count over their keys
pub open_of_total : (es : List (Key × PlainSlot)) → KeysAscend es → open_count (queues_of_entries es) (plain_keys es) ≡ open_total (values_of es)
unfolding IsStrictlySortedBy
open_of_total [] ordered = refl
open_of_total (e ∷ es) ordered =
    let rest : open_count (queues_of_entries (e ∷ es)) (plain_keys es) ≡ open_total (values_of es) =
    open_of_skip e es (plain_keys es) (all_below_key (plain_key e.0) es ordered.0) ∙ open_of_total es ordered.1 in
    rw (keys_equal_refl (plain_key e.0), rest) refl

-- a bounded count over the slots before the rest
pub record IsCountSoFar (all rest : List PlainSlot) (count : ℕ) : Type 0 where
  pub small : min count 18446744073709551615 ≡ count
  pub whole : min (count + open_total rest) 18446744073709551615 ≡ min (open_total all) 18446744073709551615

pub count_so_far_nil : (all : List PlainSlot) → IsCountSoFar all all 0
count_so_far_nil all =
    let plain : 0 + open_total all ≡ open_total all = omega arith in
    record { small = refl; whole = ap (λ n. min n 18446744073709551615) plain }

min_idem : (m x : ℕ) → min (min x m) m ≡ min x m
min_idem m x = min-eq_left (min-le_right x m)

bound_left : (b : Bool) (m x y : ℕ) → nat_lt m x ≡ b → min (min x m + y) m ≡ min (x + y) m
bound_left true m x y is =
    let lt = ltb-true m x is in
    let e : min x m ≡ m = min-eq_right (omega (arith, lt)) in
    ap (λ z. min (z + y) m) e ∙ min-eq_right (omega arith) ∙ sym (min-eq_right (omega (arith, lt)))
bound_left false m x y is =
    let le = ltb-false m x is in
    ap (λ z. min (z + y) m) (min-eq_left le)

pub count_so_far_cons : (all ts : List PlainSlot) (t : PlainSlot) (count new : ℕ) → IsCountSoFar all (t ∷ ts) count
    → new ≡ min (count + length (without_rings t.queues).queues) 18446744073709551615 → IsCountSoFar all ts new
count_so_far_cons all ts t count new so e =
    let a = length (without_rings t.queues).queues in
    let apart : count + a + open_total ts ≡ count + (a + open_total ts) = omega arith in
    record {
      small = rw e (min_idem 18446744073709551615 (count + a));
      whole =
          ap (λ n. min (n + open_total ts) 18446744073709551615) e
          ∙ bound_left (nat_lt 18446744073709551615 (count + a)) 18446744073709551615 (count + a) (open_total ts) refl
          ∙ ap (λ n. min n 18446744073709551615) apart ∙ so.whole;
    }

pub count_so_far_all : (all : List PlainSlot) (count : ℕ) → IsCountSoFar all [] count → count ≡ min (open_total all) 18446744073709551615
count_so_far_all all count so =
    let plain : count ≡ count + 0 = omega arith in
    sym so.small ∙ ap (λ n. min n 18446744073709551615) plain ∙ so.whole
