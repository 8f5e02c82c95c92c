-- How large the numbers of a document become: by an operation at most by what it adds and inserts.
use Rattle.std.proofs.Common.{◌≡◌, ℕ, zero, suc, ◌+◌, ◌≤◌, max, List, [], ◌∷◌, Option, Some, None, option_map, option_and_then, Bool, true, false, cond, Ordering, Less, Equal, Greater, ℤ, pos, negsuc, ◌+ℤ◌, int_lt, unsigned_abs, refl, sym, ap, ◌∙◌, arith}
use Rattle.std.proofs.lemmas.Int.{ints}
use Rattle.std.specs.Prelude.{if◌then◌else◌, nat_le, nat_lt}
use Rattle.std.specs.Option.{option_map_or}
use Rattle.std.specs.Ordering.{nat_cmp, match_ordering}
use Rattle.std.specs.Cmp.Lexicographic.{slice_cmp}
use Rattle.sdb_value.specs.Value.{Value, whole, text, list, object, Items, no_items, item, Members, no_members, member, PlainStep, key, index, item_at, member_at, set_item, set_member, texts_equal, put_member, without_member, child, with_child, value_at, with_value_at, item_count, take_items, drop_items, append_items, insert_item, remove_item, replace_item}
use Rattle.sdb_value.specs.FromJson.{checked_whole}
use Rattle.sdb_component.specs.Plain.{PlainAct, na, si, sd, li, ld, lr, oi, od, or, PlainComponent}
use Rattle.sdb_apply.specs.Apply.{apply_act, apply_one, apply}
use Rattle.sdb_transform.specs.Convergence.{IsSafeInteger}
use Rattle.sdb_transform.specs.OperationConvergence.{SomeSumLeavesRange}
use Rattle.sdb_client_model.specs.SmallRuns.{largest_number, largest_in_items, largest_in_members, inserted_measure, added_amount, largest_inserted, total_added_amount}
use Rattle.sdb_client_model.proofs.Reductions.{largest_append, amount_append}

then_step : {A B : Type 0} (o : Option A) (f : A → Option B) (b : B) → option_and_then f o ≡ Some b → (a : A) × (o ≡ Some a) × (f a ≡ Some b)
then_step None f b e = cc
then_step (Some a) f b e = (a, refl, e)

mapped : {A B : Type 0} (o : Option A) (f : A → B) (b : B) → option_map f o ≡ Some b → (a : A) × (o ≡ Some a) × (f a ≡ b)
mapped None f b e = cc
mapped (Some a) f b e = (a, refl, cc)

-- ---- items

take_largest : (i : ℕ) (ds : Items) → largest_in_items (take_items i ds) ≤ largest_in_items ds
take_largest zero ds = omega arith
take_largest (suc i) no_items = omega arith
take_largest (suc i) (item d ds) = omega (arith, take_largest i ds)

drop_largest : (i : ℕ) (ds : Items) → largest_in_items (drop_items i ds) ≤ largest_in_items ds
drop_largest zero ds = omega arith
drop_largest (suc i) no_items = omega arith
drop_largest (suc i) (item d ds) = omega (arith, drop_largest i ds)

append_largest : (ds es : Items) → largest_in_items (append_items ds es) ≡ max (largest_in_items ds) (largest_in_items es)
append_largest no_items es = omega arith
append_largest (item d ds) es = omega (arith, append_largest ds es)

item_largest : (i : ℕ) (ds : Items) (c : Value) → item_at i ds ≡ Some c → largest_number c ≤ largest_in_items ds
item_largest i no_items c e = cc
item_largest zero (item d ds) c e = let s : d ≡ c = cc in omega (arith, ap largest_number s)
item_largest (suc i) (item d ds) c e = omega (arith, item_largest i ds c e)

set_largest : (i : ℕ) (ds : Items) (u : Value) → largest_in_items (set_item i ds u) ≤ max (largest_in_items ds) (largest_number u)
set_largest i no_items u = omega arith
set_largest zero (item d ds) u = omega arith
set_largest (suc i) (item d ds) u = omega (arith, set_largest i ds u)

-- ---- members

member_first : (b : Bool) (d c : Value) (o : Option Value) (n : ℕ) → cond b (Some d) o ≡ Some c → (o ≡ Some c → largest_number c ≤ n) → largest_number c ≤ max (largest_number d) n
member_first true d c o n e below = let s : d ≡ c = cc in omega (arith, ap largest_number s)
member_first false d c o n e below = omega (arith, below e)

member_largest : (k : List ℕ) (ms : Members) (c : Value) → member_at k ms ≡ Some c → largest_number c ≤ largest_in_members ms
member_largest k no_members c e = cc
member_largest k (member l d ms) c e = member_first (texts_equal k l) d c (member_at k ms) (largest_in_members ms) e (member_largest k ms c)

cond_largest : (b : Bool) (x y : Members) (n : ℕ) → largest_in_members x ≤ n → largest_in_members y ≤ n → largest_in_members (cond b x y) ≤ n
cond_largest true x y n h k = h
cond_largest false x y n h k = k

member_set : (k : List ℕ) (ms : Members) (u : Value) → largest_in_members (set_member k ms u) ≤ max (largest_in_members ms) (largest_number u)
member_set k no_members u = omega arith
member_set k (member l d ms) u =
    cond_largest (texts_equal k l) (member l u ms) (member l d (set_member k ms u)) (max (largest_in_members (member l d ms)) (largest_number u)) (omega arith) (omega (arith, member_set k ms u))

order_largest : (o : Ordering) (x y z : Members) (n : ℕ) → largest_in_members x ≤ n → largest_in_members y ≤ n → largest_in_members z ≤ n → largest_in_members (match_ordering o x y z) ≤ n
order_largest Less x y z n a b c = a
order_largest Equal x y z n a b c = b
order_largest Greater x y z n a b c = c

put_largest : (k : List ℕ) (u : Value) (ms : Members) → largest_in_members (put_member k u ms) ≤ max (largest_in_members ms) (largest_number u)
put_largest k u no_members = omega arith
put_largest k u (member l d ms) =
    order_largest (slice_cmp nat_cmp k l) (member k u (member l d ms)) (member l u ms) (member l d (put_member k u ms)) (max (largest_in_members (member l d ms)) (largest_number u))
    (omega arith) (omega arith) (omega (arith, put_largest k u ms))

without_largest : (k : List ℕ) (ms : Members) → largest_in_members (without_member k ms) ≤ largest_in_members ms
without_largest k no_members = omega arith
without_largest k (member l d ms) =
    cond_largest (texts_equal k l) ms (member l d (without_member k ms)) (largest_in_members (member l d ms)) (omega arith) (omega (arith, without_largest k ms))

-- ---- paths

child_largest : (s : PlainStep) (d c : Value) → child s d ≡ Some c → largest_number c ≤ largest_number d
child_largest (index i) (list ds) c e = item_largest i ds c e
child_largest (key k) (object ms) c e = member_largest k ms c e
child_largest s d c e = cc

pub value_largest : (p : List PlainStep) (d u : Value) → value_at d p ≡ Some u → largest_number u ≤ largest_number d
value_largest [] d u e = let s : d ≡ u = cc in omega (arith, ap largest_number s)
value_largest (s ∷ p) d u e =
    let c = then_step (child s d) (λ c. value_at c p) u e in
    omega (arith, child_largest s d c.0 c.1, value_largest p c.0 u c.2)

with_child_largest : (s : PlainStep) (d u : Value) → largest_number (with_child s d u) ≤ max (largest_number d) (largest_number u)
with_child_largest (index i) (list ds) u = set_largest i ds u
with_child_largest (key k) (object ms) u = member_set k ms u
with_child_largest s d u = omega arith

with_step_largest : (o : Option Value) (s : PlainStep) (p : List PlainStep) (d u : Value) → child s d ≡ o → ((c : Value) → largest_number (with_value_at c p u) ≤ max (largest_number c) (largest_number u))
    → largest_number (option_map_or (λ c. with_child s d (with_value_at c p u)) o d) ≤ max (largest_number d) (largest_number u)
with_step_largest None s p d u e below = omega arith
with_step_largest (Some c) s p d u e below = omega (arith, with_child_largest s d (with_value_at c p u), below c, child_largest s d c e)

written_largest : (p : List PlainStep) (d u : Value) → largest_number (with_value_at d p u) ≤ max (largest_number d) (largest_number u)
written_largest [] d u = omega arith
written_largest (s ∷ p) d u = with_step_largest (child s d) s p d u refl (λ c. written_largest p c u)

-- ---- acts

sum_abs : (a b : ℤ) → unsigned_abs (a +ℤ b) ≤ unsigned_abs a + unsigned_abs b
sum_abs a b = grind (arith, ints)

checked_is : (b c : Bool) (z : ℤ) (y : ℤ) → (if b then None else (if c then None else Some z)) ≡ Some y → z ≡ y
checked_is true c z y e = cc
checked_is false true z y e = cc
checked_is false false z y e = cc

if_some : {A : Type 0} (b : Bool) (x y : A) → (if b then Some x else None) ≡ Some y → x ≡ y
if_some true x y e = cc
if_some false x y e = cc

act_largest : (a : PlainAct) (u v : Value) → apply_act a u ≡ Some v → largest_number v ≤ max (largest_number u) (inserted_measure largest_number a) + added_amount a
act_largest (na x) (whole n) v e =
    let m = mapped (checked_whole (n +ℤ x)) whole v e in
    let z = checked_is (int_lt (n +ℤ x) (negsuc 9007199254740990)) (int_lt (pos 9007199254740991) (n +ℤ x)) (n +ℤ x) m.0 m.1 in
    omega (arith, ap largest_number (sym m.2), ap unsigned_abs z, sum_abs n x)
act_largest (si p s) (text t) v e = let m = mapped _ text v e in omega (arith, ap largest_number (sym m.2))
act_largest (sd p s) (text t) v e = let m = mapped _ text v e in omega (arith, ap largest_number (sym m.2))
act_largest (li i x) (list ds) v e =
    let m = mapped (insert_item i x ds) list v e in
    let is = if_some (nat_le i (item_count ds)) (append_items (take_items i ds) (item x (drop_items i ds))) m.0 m.1 in
    omega (arith, ap largest_number (sym m.2), ap largest_in_items is, append_largest (take_items i ds) (item x (drop_items i ds)), take_largest i ds, drop_largest i ds)
act_largest (ld i x) (list ds) v e =
    let m = mapped (remove_item i ds) list v e in
    let is = if_some (nat_lt i (item_count ds)) (append_items (take_items i ds) (drop_items (suc i) ds)) m.0 m.1 in
    omega (arith, ap largest_number (sym m.2), ap largest_in_items is, append_largest (take_items i ds) (drop_items (suc i) ds), take_largest i ds, drop_largest (suc i) ds)
act_largest (lr i x y) (list ds) v e =
    let m = mapped (replace_item i y ds) list v e in
    let is = if_some (nat_lt i (item_count ds)) (append_items (take_items i ds) (item y (drop_items (suc i) ds))) m.0 m.1 in
    omega (arith, ap largest_number (sym m.2), ap largest_in_items is, append_largest (take_items i ds) (item y (drop_items (suc i) ds)), take_largest i ds, drop_largest (suc i) ds)
act_largest (oi k x) (object ms) v e = let is : object (put_member k x ms) ≡ v = cc in omega (arith, ap largest_number is, put_largest k x ms)
act_largest (od k x) (object ms) v e = let is : object (without_member k ms) ≡ v = cc in omega (arith, ap largest_number is, without_largest k ms)
act_largest (or k x y) (object ms) v e = let is : object (put_member k y ms) ≡ v = cc in omega (arith, ap largest_number is, put_largest k y ms)
act_largest a u v e = cc

-- ---- operations

one_largest : (c : PlainComponent) (d e : Value) → apply_one c d ≡ Some e → largest_number e ≤ max (largest_number d) (inserted_measure largest_number c.act) + added_amount c.act
one_largest c d e h =
    let u = then_step (value_at d c.path) (λ u. option_map (with_value_at d c.path) (apply_act c.act u)) e h in
    let v = mapped (apply_act c.act u.0) (with_value_at d c.path) e u.2 in
    omega (arith, ap largest_number (sym v.2), written_largest c.path d v.0, act_largest c.act u.0 v.0 v.1, value_largest c.path d u.0 u.1)

pub applied_largest : (cs : List PlainComponent) (d e : Value) → apply cs d ≡ Some e → largest_number e ≤ max (largest_number d) (largest_inserted largest_number cs) + total_added_amount cs
applied_largest [] d e h = let s : d ≡ e = cc in omega (arith, ap largest_number s)
applied_largest (c ∷ cs) d e h =
    let f = then_step (apply_one c d) (apply cs) e h in
    omega (arith, one_largest c d f.0 f.1, applied_largest cs f.0 e f.2)

not_below : (z : ℤ) → IsSafeInteger (unsigned_abs z) → int_lt z (negsuc 9007199254740990) ≡ false
not_below z h = grind (arith, ints)

not_above : (z : ℤ) → IsSafeInteger (unsigned_abs z) → int_lt (pos 9007199254740991) z ≡ false
not_above z h = grind (arith, ints)

checked_some : (b c : Bool) (z : ℤ) → b ≡ false → c ≡ false → (if b then None else (if c then None else Some z)) ≡ None → ⊥
checked_some true c z h k e = cc
checked_some false true z h k e = cc
checked_some false false z h k e = cc

added_of : (a : PlainAct) (x : ℤ) → a ≡ na x → added_amount a ≡ unsigned_abs x
added_of a x e = ap added_amount e

-- no sum leaves the range, if the largest number and all that is added stay in range together
pub sums_stay : (cs : List PlainComponent) (d : Value) → IsSafeInteger (max (largest_number d) (largest_inserted largest_number cs) + total_added_amount cs) → SomeSumLeavesRange cs d → ⊥
sums_stay cs d h s =
    let k = s.sum in
    let before = applied_largest s.prefix d s.before s.applied in
    let here = value_largest s.component.path s.before (whole k.number) k.found in
    let numbers = ap (largest_inserted largest_number) s.parts ∙ largest_append largest_number s.prefix (s.component ∷ s.rest) in
    let amounts = ap total_added_amount s.parts ∙ amount_append s.prefix (s.component ∷ s.rest) in
    let small : IsSafeInteger (unsigned_abs (k.number +ℤ k.x)) =
    omega (arith, h, before, here, numbers, amounts, sum_abs k.number k.x, added_of s.component.act k.x k.adds) in
    checked_some (int_lt (k.number +ℤ k.x) (negsuc 9007199254740990)) (int_lt (pos 9007199254740991) (k.number +ℤ k.x)) (k.number +ℤ k.x) (not_below (k.number +ℤ k.x) small) (not_above (k.number +ℤ k.x) small) k.leaves
