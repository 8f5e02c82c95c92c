-- The result of an act is within the limits.
use Rattle.std.proofs.Common.{◌≡◌, ℕ, suc, ◌+◌, ◌-◌, ◌≤◌, ℤ, pos, negsuc, List, ◌++◌, length, take, drop, Bool, true, false, Option, Some, None, IsUtf8, refl, arith}
use Rattle.std.specs.Prelude.{if◌then◌else◌, nat_lt, nat_le, nat_eq, int_lt, ◌+ℤ◌, option_map, option_and_then}
use Rattle.std.specs.List.{insert_slice, remove_range, starts_with}
use Rattle.std.specs.Str.{IsCharBoundary}
use Rattle.std.specs.String.Boundary.{IsSplitPoint}
use Rattle.std.proofs.lemmas.Str.{IsUtf8-append, IsUtf8-take, IsUtf8-drop}
use Rattle.std.proofs.lemmas.Int.{ints}
use Rattle.sdb_value.specs.Value.{Value, whole, text, list, object, Items, item, item_count, take_items, drop_items, append_items, insert_item, remove_item, replace_item, Members, put_member, without_member, value_at, with_value_at}
use Rattle.sdb_rope.specs.Utf16.{cut_at, insert_text, remove_text}
use Rattle.sdb_value.specs.FromJson.{checked_whole}
use Rattle.sdb_value.specs.WellFormed.{IsInRange}
use Rattle.sdb_component.specs.Plain.{PlainAct, na, si, sd, li, ld, lr, oi, od, or, PlainComponent}
use Rattle.sdb_component.specs.ToJson.{last_step}
use Rattle.sdb_apply.specs.Apply.{apply_act, apply_one}
use Rattle.sdb_dump.specs.ValueLimits.{ValueInLimits, ActInLimits}
use Rattle.sdb_rope.proofs.BoundaryLemmas.{char_boundary, other_end}
use Rattle.sdb_rope.proofs.OffsetLemmas.{cut_split}
use Rattle.sdb_dump.proofs.HoldsLemmas.{IfSomeHolds, opt_then, opt_map, cond_holds}
use Rattle.sdb_dump.proofs.PathLimits.{ItemsInLimits, item_in_limits, take_in_limits, drop_in_limits, join_in_limits, MembersInLimits, put_in_limits, without_in_limits, value_at_in_limits, with_value_in_limits}

-- ---- numbers

range_tested : (z : ℤ) (a b : Bool) → int_lt z (negsuc 9007199254740990) ≡ a → int_lt (pos 9007199254740991) z ≡ b
    → IfSomeHolds IsInRange (if a then None else (if b then None else Some z))
range_tested z true b e f = tt
range_tested z false true e f = tt
range_tested z false false e f = (grind (arith, ints, e), grind (arith, ints, f))

range_fits : (z : ℤ) → IfSomeHolds IsInRange (checked_whole z)
range_fits z = range_tested z (int_lt z (negsuc 9007199254740990)) (int_lt (pos 9007199254740991) z) refl refl

-- ---- texts

-- a cut position of a text is a character boundary
pub cut_boundary : (d : List ℕ) (p i : ℕ) → IsUtf8 d → cut_at d p ≡ Some i → IsCharBoundary d i
cut_boundary d p i u e = char_boundary d i u (cut_split d p i e)

insert_text_utf8 : (p : ℕ) (s t : List ℕ) (o : Option ℕ) → cut_at t p ≡ o → IsUtf8 s → IsUtf8 t → IfSomeHolds IsUtf8 (option_map (λ i. insert_slice t i s) o)
insert_text_utf8 p s t None e u v = tt
insert_text_utf8 p s t (Some i) e u v =
    let b = cut_boundary t p i v e in
    IsUtf8-append (take i t ++ s) (drop i t) (IsUtf8-append (take i t) s (IsUtf8-take t i v b) u) (IsUtf8-drop t i v b)

without_old : (i : ℕ) (s t : List ℕ) (b : Bool) → starts_with nat_eq (drop i t) s ≡ b → IsUtf8 s → IsUtf8 t → IsSplitPoint t i
    → IfSomeHolds IsUtf8 (if b then Some (remove_range t i (i + length s)) else None)
without_old i s t false h u v there = tt
without_old i s t true h u v there =
    let first = IsUtf8-take t i v (char_boundary t i v there) in
    let last = IsUtf8-drop t (i + length s) v (char_boundary t (i + length s) v (other_end t s i v u there h)) in
    IsUtf8-append (take i t) (drop (i + length s) t) first last

remove_text_utf8 : (p : ℕ) (s t : List ℕ) (o : Option ℕ) → cut_at t p ≡ o → IsUtf8 s → IsUtf8 t
    → IfSomeHolds IsUtf8 (option_and_then (λ i. if starts_with nat_eq (drop i t) s then Some (remove_range t i (i + length s)) else None) o)
remove_text_utf8 p s t None e u v = tt
remove_text_utf8 p s t (Some i) e u v =
    without_old i s t (starts_with nat_eq (drop i t) s) refl u v (cut_split t p i e)

-- ---- acts

deeper : (n : ℕ) (v : Value) → 50 ≤ n → ValueInLimits 50 v → ValueInLimits n v
deeper n v l h = (h.0, omega (arith, h.1, l))

insert_in_limits : (n i : ℕ) (v : Value) (ds : Items) → ValueInLimits n v → ItemsInLimits n ds → IfSomeHolds (ItemsInLimits n) (insert_item i v ds)
insert_in_limits n i v ds h k =
    cond_holds (IfSomeHolds (ItemsInLimits n)) (nat_le i (item_count ds)) (Some (append_items (take_items i ds) (item v (drop_items i ds)))) None
    (join_in_limits n (take_items i ds) (item v (drop_items i ds)) (take_in_limits n i ds k) (item_in_limits n v (drop_items i ds) h (drop_in_limits n i ds k))) tt

replace_in_limits : (n i : ℕ) (v : Value) (ds : Items) → ValueInLimits n v → ItemsInLimits n ds → IfSomeHolds (ItemsInLimits n) (replace_item i v ds)
replace_in_limits n i v ds h k =
    cond_holds (IfSomeHolds (ItemsInLimits n)) (nat_lt i (item_count ds)) (Some (append_items (take_items i ds) (item v (drop_items (suc i) ds)))) None
    (join_in_limits n (take_items i ds) (item v (drop_items (suc i) ds)) (take_in_limits n i ds k) (item_in_limits n v (drop_items (suc i) ds) h (drop_in_limits n (suc i) ds k))) tt

remove_in_limits : (n i : ℕ) (ds : Items) → ItemsInLimits n ds → IfSomeHolds (ItemsInLimits n) (remove_item i ds)
remove_in_limits n i ds k =
    cond_holds (IfSomeHolds (ItemsInLimits n)) (nat_lt i (item_count ds)) (Some (append_items (take_items i ds) (drop_items (suc i) ds))) None
    (join_in_limits n (take_items i ds) (drop_items (suc i) ds) (take_in_limits n i ds k) (drop_in_limits n (suc i) ds k)) tt

list_in_limits : (n : ℕ) (ds : Items) (o : Option Items) → ValueInLimits n (list ds) → (ItemsInLimits (n - 1) ds → IfSomeHolds (ItemsInLimits (n - 1)) o) → IfSomeHolds (ValueInLimits n) (option_map list o)
list_in_limits n ds o h f = opt_map (ItemsInLimits (n - 1)) (ValueInLimits n) list o (f (h.0, omega (arith, h.1))) (λ es r. (r.0, omega (arith, h.1, r.1)))

object_in_limits : (n : ℕ) (ms ns : Members) → ValueInLimits n (object ms) → (MembersInLimits (n - 1) ms → MembersInLimits (n - 1) ns) → ValueInLimits n (object ns)
object_in_limits n ms ns h f = let r = f (h.0, omega (arith, h.1)) in (r.0, omega (arith, h.1, r.1))

-- the result of an act on a value that is at most n deep
effect_in_limits : (n : ℕ) (a : PlainAct) (u : Value) → 50 + length (last_step a) ≤ n → ActInLimits 100 a → ValueInLimits n u → IfSomeHolds (ValueInLimits n) (apply_act a u)
effect_in_limits n (na x) (whole z) l h k = opt_map IsInRange (ValueInLimits n) whole (checked_whole (z +ℤ x)) (range_fits (z +ℤ x)) (λ y r. (r, omega arith))
effect_in_limits n (na x) u l h k = tt
effect_in_limits n (si p s) (text t) l h k = opt_map IsUtf8 (ValueInLimits n) text (insert_text p s t) (insert_text_utf8 p s t (cut_at t p) refl h.1.0 k.0) (λ z r. (r, omega arith))
effect_in_limits n (si p s) u l h k = tt
effect_in_limits n (sd p s) (text t) l h k = opt_map IsUtf8 (ValueInLimits n) text (remove_text p s t) (remove_text_utf8 p s t (cut_at t p) refl h.1.0 k.0) (λ z r. (r, omega arith))
effect_in_limits n (sd p s) u l h k = tt
effect_in_limits n (li i v) (list ds) l h k = list_in_limits n ds (insert_item i v ds) k (insert_in_limits (n - 1) i v ds (deeper (n - 1) v (omega (arith, l)) h.1))
effect_in_limits n (li i v) u l h k = tt
effect_in_limits n (ld i x) (list ds) l h k = list_in_limits n ds (remove_item i ds) k (remove_in_limits (n - 1) i ds)
effect_in_limits n (ld i x) u l h k = tt
effect_in_limits n (lr i x y) (list ds) l h k = list_in_limits n ds (replace_item i y ds) k (replace_in_limits (n - 1) i y ds (deeper (n - 1) y (omega (arith, l)) h.2))
effect_in_limits n (lr i x y) u l h k = tt
effect_in_limits n (oi k v) (object ms) l h g = object_in_limits n ms (put_member k v ms) g (put_in_limits (n - 1) k v ms h.0 (deeper (n - 1) v (omega (arith, l)) h.1))
effect_in_limits n (oi k v) u l h g = tt
effect_in_limits n (od k x) (object ms) l h g = object_in_limits n ms (without_member k ms) g (without_in_limits (n - 1) k ms)
effect_in_limits n (od k x) u l h g = tt
effect_in_limits n (or k x y) (object ms) l h g = object_in_limits n ms (put_member k y ms) g (put_in_limits (n - 1) k y ms h.0 (deeper (n - 1) y (omega (arith, l)) h.2))
effect_in_limits n (or k x y) u l h g = tt

-- a value of depth 100 at most stays one
pub does_fits : (c : PlainComponent) (d : Value) → ActInLimits 100 c.act → length c.path + length (last_step c.act) ≤ 50 → ValueInLimits 100 d → IfSomeHolds (ValueInLimits 100) (apply_one c d)
does_fits c d h short k =
    let n = 100 - length c.path in
    opt_then (ValueInLimits n) (ValueInLimits 100) (λ u. option_map (with_value_at d c.path) (apply_act c.act u)) (value_at d c.path) (value_at_in_limits c.path 100 n d (omega arith) k) (λ u b.
    opt_map (ValueInLimits n) (ValueInLimits 100) (with_value_at d c.path) (apply_act c.act u) (effect_in_limits n c.act u (omega (arith, short)) h b) (λ e g.
    with_value_in_limits c.path 100 n d e (omega (arith, short)) k g))
