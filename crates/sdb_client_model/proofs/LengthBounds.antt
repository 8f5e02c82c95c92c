-- How long the texts and lists of a document become: by an operation at most by what it inserts. No position of an
-- operation that is made for the document is above that.
use Rattle.std.proofs.Common.{◌≡◌, ℕ, zero, suc, ◌+◌, ◌-◌, ◌≤◌, max, List, [], ◌∷◌, length, drop, Option, Some, None, option_map, option_and_then, Bool, true, false, cond, Ordering, Less, Equal, Greater, nat_eq, refl, sym, ap, arith}
use Rattle.std.proofs.lemmas.Bool.Decides.{nat_tests}
use Rattle.std.specs.Prelude.{if◌then◌else◌, nat_le, nat_lt}
use Rattle.std.specs.List.{insert_slice, remove_range, starts_with}
use Rattle.std.specs.Option.{option_map_or}
use Rattle.std.specs.Ordering.{nat_cmp, match_ordering}
use Rattle.std.specs.Cmp.Lexicographic.{slice_cmp}
use Rattle.sdb_rope.specs.Utf16.{units, cut_at, insert_text, remove_text, utf16_width}
use Rattle.sdb_rope.proofs.ChunkEdits.{units_put, units_removed}
use Rattle.sdb_value.specs.Value.{Value, whole, text, list, object, Items, no_items, item, Members, no_members, member, PlainStep, key, index, item_at, member_at, set_item, set_member, texts_equal, put_member, without_member, child, with_child, value_at, with_value_at, item_count, take_items, drop_items, append_items, insert_item, remove_item, replace_item}
use Rattle.sdb_component.specs.Plain.{PlainAct, na, si, sd, li, ld, lr, oi, od, or, PlainComponent}
use Rattle.sdb_apply.specs.Apply.{apply_act, apply_one, apply}
use Rattle.sdb_transform.specs.OperationConvergence.{step_position, act_position, highest_index, highest_position, inserted_size, total_inserted_size}
use Rattle.sdb_transform.proofs.ConvergeActs.{apply_unchecked}
use Rattle.sdb_transform.proofs.OperationRuns.{ComponentRun, OperationRun, unchecked_of}
use Rattle.sdb_client_model.specs.SmallRuns.{longest_part, longest_in_items, longest_in_members, inserted_measure, largest_inserted}

then_step : {A B : Type 0} (o : Option A) (f : A → Option B) (b : B) → option_and_then f o ≡ Some b → (a : A) × (o ≡ Some a) × (f a ≡ Some b)
then_step None f b e = cc
then_step (Some a) f b e = (a, refl, e)

mapped : {A B : Type 0} (o : Option A) (f : A → B) (b : B) → option_map f o ≡ Some b → (a : A) × (o ≡ Some a) × (f a ≡ b)
mapped None f b e = cc
mapped (Some a) f b e = (a, refl, cc)

if_some : {A : Type 0} (b : Bool) (x y : A) → (if b then Some x else None) ≡ Some y → (b ≡ true) × (x ≡ y)
if_some true x y e = (refl, cc)
if_some false x y e = cc

-- ---- items

take_longest : (i : ℕ) (ds : Items) → longest_in_items (take_items i ds) ≤ longest_in_items ds
take_longest zero ds = omega arith
take_longest (suc i) no_items = omega arith
take_longest (suc i) (item d ds) = omega (arith, take_longest i ds)

drop_longest : (i : ℕ) (ds : Items) → longest_in_items (drop_items i ds) ≤ longest_in_items ds
drop_longest zero ds = omega arith
drop_longest (suc i) no_items = omega arith
drop_longest (suc i) (item d ds) = omega (arith, drop_longest i ds)

append_longest : (ds es : Items) → longest_in_items (append_items ds es) ≡ max (longest_in_items ds) (longest_in_items es)
append_longest no_items es = omega arith
append_longest (item d ds) es = omega (arith, append_longest ds es)

append_count : (ds es : Items) → item_count (append_items ds es) ≡ item_count ds + item_count es
append_count no_items es = omega arith
append_count (item d ds) es = omega (arith, append_count ds es)

parts_count : (i : ℕ) (ds : Items) → item_count (take_items i ds) + item_count (drop_items i ds) ≡ item_count ds
parts_count zero ds = omega arith
parts_count (suc i) no_items = omega arith
parts_count (suc i) (item d ds) = omega (arith, parts_count i ds)

rest_count : (i : ℕ) (ds : Items) → item_count (drop_items (suc i) ds) ≤ item_count (drop_items i ds)
rest_count zero no_items = omega arith
rest_count zero (item d ds) = omega arith
rest_count (suc i) no_items = omega arith
rest_count (suc i) (item d ds) = rest_count i ds

item_longest : (i : ℕ) (ds : Items) (c : Value) → item_at i ds ≡ Some c → (longest_part c ≤ longest_in_items ds) × (i ≤ item_count ds)
item_longest i no_items c e = cc
item_longest zero (item d ds) c e = let s : d ≡ c = cc in (omega (arith, ap longest_part s), omega arith)
item_longest (suc i) (item d ds) c e = let r = item_longest i ds c e in (omega (arith, r.0), omega (arith, r.1))

set_longest : (i : ℕ) (ds : Items) (u : Value) → longest_in_items (set_item i ds u) ≤ max (longest_in_items ds) (longest_part u)
set_longest i no_items u = omega arith
set_longest zero (item d ds) u = omega arith
set_longest (suc i) (item d ds) u = omega (arith, set_longest i ds u)

set_count : (i : ℕ) (ds : Items) (u : Value) → item_count (set_item i ds u) ≡ item_count ds
set_count i no_items u = refl
set_count zero (item d ds) u = refl
set_count (suc i) (item d ds) u = ap suc (set_count i ds u)

-- ---- members

member_first : (b : Bool) (d c : Value) (o : Option Value) (n : ℕ) → cond b (Some d) o ≡ Some c → (o ≡ Some c → longest_part c ≤ n) → longest_part c ≤ max (longest_part d) n
member_first true d c o n e below = let s : d ≡ c = cc in omega (arith, ap longest_part s)
member_first false d c o n e below = omega (arith, below e)

member_longest : (k : List ℕ) (ms : Members) (c : Value) → member_at k ms ≡ Some c → longest_part c ≤ longest_in_members ms
member_longest k no_members c e = cc
member_longest k (member l d ms) c e = member_first (texts_equal k l) d c (member_at k ms) (longest_in_members ms) e (member_longest k ms c)

cond_longest : (b : Bool) (x y : Members) (n : ℕ) → longest_in_members x ≤ n → longest_in_members y ≤ n → longest_in_members (cond b x y) ≤ n
cond_longest true x y n h k = h
cond_longest false x y n h k = k

member_set : (k : List ℕ) (ms : Members) (u : Value) → longest_in_members (set_member k ms u) ≤ max (longest_in_members ms) (longest_part u)
member_set k no_members u = omega arith
member_set k (member l d ms) u =
    cond_longest (texts_equal k l) (member l u ms) (member l d (set_member k ms u)) (max (longest_in_members (member l d ms)) (longest_part u)) (omega arith) (omega (arith, member_set k ms u))

order_longest : (o : Ordering) (x y z : Members) (n : ℕ) → longest_in_members x ≤ n → longest_in_members y ≤ n → longest_in_members z ≤ n → longest_in_members (match_ordering o x y z) ≤ n
order_longest Less x y z n a b c = a
order_longest Equal x y z n a b c = b
order_longest Greater x y z n a b c = c

put_longest : (k : List ℕ) (u : Value) (ms : Members) → longest_in_members (put_member k u ms) ≤ max (longest_in_members ms) (longest_part u)
put_longest k u no_members = omega arith
put_longest k u (member l d ms) =
    order_longest (slice_cmp nat_cmp k l) (member k u (member l d ms)) (member l u ms) (member l d (put_member k u ms)) (max (longest_in_members (member l d ms)) (longest_part u))
    (omega arith) (omega arith) (omega (arith, put_longest k u ms))

without_longest : (k : List ℕ) (ms : Members) → longest_in_members (without_member k ms) ≤ longest_in_members ms
without_longest k no_members = omega arith
without_longest k (member l d ms) =
    cond_longest (texts_equal k l) ms (member l d (without_member k ms)) (longest_in_members (member l d ms)) (omega arith) (omega (arith, without_longest k ms))

-- ---- paths

child_longest : (s : PlainStep) (d c : Value) → child s d ≡ Some c → (longest_part c ≤ longest_part d) × (step_position s ≤ longest_part d)
child_longest (index i) (list ds) c e = let r = item_longest i ds c e in (omega (arith, r.0), omega (arith, r.1))
child_longest (key k) (object ms) c e = (member_longest k ms c e, omega arith)
child_longest s d c e = cc

value_longest : (p : List PlainStep) (d u : Value) → value_at d p ≡ Some u → (longest_part u ≤ longest_part d) × (highest_index p ≤ longest_part d)
value_longest [] d u e = let s : d ≡ u = cc in (omega (arith, ap longest_part s), omega arith)
value_longest (s ∷ p) d u e =
    let c = then_step (child s d) (λ c. value_at c p) u e in
    let here = child_longest s d c.0 c.1 in
    let below = value_longest p c.0 u c.2 in
    (omega (arith, here.0, below.0), omega (arith, here.0, here.1, below.1))

with_child_longest : (s : PlainStep) (d u : Value) → longest_part (with_child s d u) ≤ max (longest_part d) (longest_part u)
with_child_longest (index i) (list ds) u = omega (arith, set_longest i ds u, set_count i ds u)
with_child_longest (key k) (object ms) u = member_set k ms u
with_child_longest s d u = omega arith

with_step_longest : (o : Option Value) (s : PlainStep) (p : List PlainStep) (d u : Value) → child s d ≡ o → ((c : Value) → longest_part (with_value_at c p u) ≤ max (longest_part c) (longest_part u))
    → longest_part (option_map_or (λ c. with_child s d (with_value_at c p u)) o d) ≤ max (longest_part d) (longest_part u)
with_step_longest None s p d u e below = omega arith
with_step_longest (Some c) s p d u e below = omega (arith, with_child_longest s d (with_value_at c p u), below c, (child_longest s d c e).0)

written_longest : (p : List PlainStep) (d u : Value) → longest_part (with_value_at d p u) ≤ max (longest_part d) (longest_part u)
written_longest [] d u = omega arith
written_longest (s ∷ p) d u = with_step_longest (child s d) s p d u refl (λ c. written_longest p c u)

-- ---- acts

cut_within_at : (b c : Bool) (w p n i : ℕ) (o : Option ℕ) → nat_le w p ≡ b → nat_eq p 0 ≡ c → (if b then option_map suc o else (if c then Some 0 else None)) ≡ Some i
    → ((j : ℕ) → o ≡ Some j → p - w ≤ n) → p ≤ w + n
cut_within_at true c w p n i o h k e below = let j = mapped o suc i e in let r = below j.0 j.1 in omega (arith, r)
cut_within_at false true w p n i o h k e below = let z : p ≡ 0 = grind (arith, nat_tests) in omega (arith, z)
cut_within_at false false w p n i o h k e below = cc

cut_end : (c : Bool) (p i : ℕ) → nat_eq p 0 ≡ c → (if c then Some 0 else None) ≡ Some i → p ≤ 0
cut_end true p i k e = let z : p ≡ 0 = grind (arith, nat_tests) in omega (arith, z)
cut_end false p i k e = cc

cut_within : (t : List ℕ) (p i : ℕ) → cut_at t p ≡ Some i → p ≤ units t
cut_within [] p i e = cut_end (nat_eq p 0) p i refl e
cut_within (b ∷ bs) p i e =
    cut_within_at (nat_le (utf16_width b) p) (nat_eq p 0) (utf16_width b) p (units bs) i (cut_at bs (p - utf16_width b)) refl refl e (λ j h. cut_within bs (p - utf16_width b) j h)

le_of : (a b : ℕ) → nat_le a b ≡ true → a ≤ b
le_of a b h = grind (arith, nat_tests)

lt_of : (a b : ℕ) → nat_lt a b ≡ true → suc a ≤ b
lt_of a b h = grind (arith, nat_tests)

-- the value after the act, and the act's position
ActWithin : PlainAct → Value → Value → Type 0
ActWithin a u v = (longest_part v ≤ max (longest_part u) (inserted_measure longest_part a) + inserted_size a) × (act_position a ≤ longest_part u)

act_longest : (a : PlainAct) (u v : Value) → apply_unchecked a u ≡ Some v → ActWithin a u v
unfolding ActWithin
act_longest (na x) (whole n) v e = let m = mapped (Some _) whole v e in (omega (arith, ap longest_part (sym m.2)), omega arith)
act_longest (si p s) (text t) v e =
    let m = mapped (insert_text p s t) text v e in
    let i = mapped (cut_at t p) (λ i. insert_slice t i s) m.0 m.1 in
    (omega (arith, ap longest_part (sym m.2), ap units (sym i.2), units_put t s i.0), cut_within t p i.0 i.1)
act_longest (sd p s) (text t) v e =
    let m = mapped (remove_text p s t) text v e in
    let i = then_step (cut_at t p) (λ i. if starts_with nat_eq (drop i t) s then Some (remove_range t i (i + length s)) else None) m.0 m.1 in
    let r = if_some (starts_with nat_eq (drop i.0 t) s) (remove_range t i.0 (i.0 + length s)) m.0 i.2 in
    (omega (arith, ap longest_part (sym m.2), ap units (sym r.1), units_removed t i.0 (i.0 + length s) (omega arith)), cut_within t p i.0 i.1)
act_longest (li i x) (list ds) v e =
    let m = mapped (insert_item i x ds) list v e in
    let r = if_some (nat_le i (item_count ds)) (append_items (take_items i ds) (item x (drop_items i ds))) m.0 m.1 in
    let count = append_count (take_items i ds) (item x (drop_items i ds)) in
    (omega (arith, ap longest_part (sym m.2), ap longest_in_items r.1, ap item_count r.1, append_longest (take_items i ds) (item x (drop_items i ds)), count, parts_count i ds, take_longest i ds, drop_longest i ds), omega (arith, le_of i (item_count ds) r.0))
act_longest (ld i x) (list ds) v e =
    let m = mapped (remove_item i ds) list v e in
    let r = if_some (nat_lt i (item_count ds)) (append_items (take_items i ds) (drop_items (suc i) ds)) m.0 m.1 in
    let count = append_count (take_items i ds) (drop_items (suc i) ds) in
    (omega (arith, ap longest_part (sym m.2), ap longest_in_items r.1, ap item_count r.1, append_longest (take_items i ds) (drop_items (suc i) ds), count, parts_count i ds, rest_count i ds, take_longest i ds, drop_longest (suc i) ds), omega (arith, lt_of i (item_count ds) r.0))
act_longest (lr i x y) (list ds) v e =
    let m = mapped (replace_item i y ds) list v e in
    let r = if_some (nat_lt i (item_count ds)) (append_items (take_items i ds) (item y (drop_items (suc i) ds))) m.0 m.1 in
    let count = append_count (take_items i ds) (item y (drop_items (suc i) ds)) in
    (omega (arith, ap longest_part (sym m.2), ap longest_in_items r.1, ap item_count r.1, append_longest (take_items i ds) (item y (drop_items (suc i) ds)), count, parts_count i ds, rest_count i ds, take_longest i ds, drop_longest (suc i) ds), omega (arith, lt_of i (item_count ds) r.0))
act_longest (oi k x) (object ms) v e = let is : object (put_member k x ms) ≡ v = cc in (omega (arith, ap longest_part is, put_longest k x ms), omega arith)
act_longest (od k x) (object ms) v e = let is : object (without_member k ms) ≡ v = cc in (omega (arith, ap longest_part is, without_longest k ms), omega arith)
act_longest (or k x y) (object ms) v e = let is : object (put_member k y ms) ≡ v = cc in (omega (arith, ap longest_part is, put_longest k y ms), omega arith)
act_longest a u v e = cc

-- ---- operations

record ComponentWithin (c : PlainComponent) (d e : Value) : Type 0 where
  pub length : longest_part e ≤ max (longest_part d) (inserted_measure longest_part c.act) + inserted_size c.act
  pub index : highest_index c.path ≤ longest_part d
  pub position : act_position c.act ≤ longest_part d

component_longest : (c : PlainComponent) (d e : Value) → ComponentRun c d e → ComponentWithin c d e
unfolding ActWithin
component_longest c d e r =
    let path = value_longest c.path d r.before r.found in
    let act = act_longest c.act r.before r.after r.act.changed in
    record {
      length = omega (arith, ap longest_part (sym r.written), written_longest c.path d r.after, act.0, path.0);
      index = path.1;
      position = omega (arith, act.1, path.0);
    }

-- the value after an operation, and the operation's positions
pub record OperationWithin (cs : List PlainComponent) (d e : Value) : Type 0 where
  pub length : longest_part e ≤ max (longest_part d) (largest_inserted longest_part cs) + total_inserted_size cs
  pub position : highest_position cs ≤ max (longest_part d) (largest_inserted longest_part cs) + total_inserted_size cs

pub run_longest : (cs : List PlainComponent) (d e : Value) → OperationRun cs d e → OperationWithin cs d e
run_longest [] d e r = record { length = omega (arith, ap longest_part r); position = omega arith }
run_longest (c ∷ cs) d e r =
    let here = component_longest c d r.0 r.1 in
    let rest = run_longest cs r.0 e r.2 in
    record {
      length = omega (arith, here.length, rest.length);
      position = omega (arith, here.length, here.index, here.position, rest.position);
    }

one_longest : (c : PlainComponent) (d e : Value) → apply_one c d ≡ Some e → longest_part e ≤ max (longest_part d) (inserted_measure longest_part c.act) + inserted_size c.act
unfolding ActWithin
one_longest c d e h =
    let u = then_step (value_at d c.path) (λ u. option_map (with_value_at d c.path) (apply_act c.act u)) e h in
    let v = mapped (apply_act c.act u.0) (with_value_at d c.path) e u.2 in
    omega (arith, ap longest_part (sym v.2), written_longest c.path d v.0, (act_longest c.act u.0 v.0 (unchecked_of c.act u.0 v.0 v.1)).0, (value_longest c.path d u.0 u.1).0)

pub applied_longest : (cs : List PlainComponent) (d e : Value) → apply cs d ≡ Some e → longest_part e ≤ max (longest_part d) (largest_inserted longest_part cs) + total_inserted_size cs
applied_longest [] d e h = let s : d ≡ e = cc in omega (arith, ap longest_part s)
applied_longest (c ∷ cs) d e h =
    let f = then_step (apply_one c d) (apply cs) e h in
    omega (arith, one_longest c d f.0 f.1, applied_longest cs f.0 e f.2)
