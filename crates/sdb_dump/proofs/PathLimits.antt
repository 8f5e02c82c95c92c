-- A value that is changed at one path stays within the limits.
use Rattle.std.proofs.Common.{◌≡◌, ℕ, zero, suc, ◌+◌, ◌-◌, ◌≤◌, List, [], ◌∷◌, length, Some, IsUtf8, Ordering, Less, Equal, Greater, nat_cmp, refl, ap, ◌∙◌, arith}
use Rattle.std.specs.Ordering.{match_ordering, ordering_reverse}
use Rattle.std.specs.Cmp.Lexicographic.{slice_cmp}
use Rattle.std.proofs.lemmas.Cmp.{nat_list_cmp_total}
use Rattle.sdb_value.specs.Value.{Value, list, object, Items, no_items, item, Members, no_members, member, PlainStep, key, index, item_at, member_at, set_item, set_member, texts_equal, put_member, without_member, take_items, drop_items, append_items, items_depth, members_depth, child, with_child, value_at, with_value_at}
use Rattle.sdb_value.specs.WellFormed.{IsKeyBelowAll, AreWellFormed, MembersWellFormed}
use Rattle.sdb_dump.specs.ValueLimits.{ValueInLimits}
use Rattle.sdb_dump.proofs.HoldsLemmas.{IfSomeHolds, opt_then, opt_or, cond_holds, ordering_holds}

-- ---- items

abbrev pub ItemsInLimits : ℕ → Items → Type 0
ItemsInLimits n ds = AreWellFormed ds × (items_depth ds ≤ n)

item_parts : (n : ℕ) (d : Value) (ds : Items) → ItemsInLimits n (item d ds) → ValueInLimits n d × ItemsInLimits n ds
item_parts n d ds h = ((h.0.0, omega (arith, h.1)), (h.0.1, omega (arith, h.1)))

pub item_in_limits : (n : ℕ) (d : Value) (ds : Items) → ValueInLimits n d → ItemsInLimits n ds → ItemsInLimits n (item d ds)
item_in_limits n d ds h k = ((h.0, k.0), omega (arith, h.1, k.1))

pub take_in_limits : (n i : ℕ) (ds : Items) → ItemsInLimits n ds → ItemsInLimits n (take_items i ds)
take_in_limits n zero ds h = (tt, omega arith)
take_in_limits n (suc i) no_items h = h
take_in_limits n (suc i) (item d ds) h = let p = item_parts n d ds h in item_in_limits n d (take_items i ds) p.0 (take_in_limits n i ds p.1)

pub drop_in_limits : (n i : ℕ) (ds : Items) → ItemsInLimits n ds → ItemsInLimits n (drop_items i ds)
drop_in_limits n zero ds h = h
drop_in_limits n (suc i) no_items h = h
drop_in_limits n (suc i) (item d ds) h = drop_in_limits n i ds (item_parts n d ds h).1

pub join_in_limits : (n : ℕ) (ds es : Items) → ItemsInLimits n ds → ItemsInLimits n es → ItemsInLimits n (append_items ds es)
join_in_limits n no_items es h k = k
join_in_limits n (item d ds) es h k = let p = item_parts n d ds h in item_in_limits n d (append_items ds es) p.0 (join_in_limits n ds es p.1 k)

set_item_in_limits : (n i : ℕ) (ds : Items) (u : Value) → ItemsInLimits n ds → ValueInLimits n u → ItemsInLimits n (set_item i ds u)
set_item_in_limits n i no_items u h k = h
set_item_in_limits n zero (item d ds) u h k = item_in_limits n u ds k (item_parts n d ds h).1
set_item_in_limits n (suc i) (item d ds) u h k = let p = item_parts n d ds h in item_in_limits n d (set_item i ds u) p.0 (set_item_in_limits n i ds u p.1 k)

item_at_in_limits : (n i : ℕ) (ds : Items) → ItemsInLimits n ds → IfSomeHolds (ValueInLimits n) (item_at i ds)
item_at_in_limits n i no_items h = tt
item_at_in_limits n zero (item d ds) h = (item_parts n d ds h).0
item_at_in_limits n (suc i) (item d ds) h = item_at_in_limits n i ds (item_parts n d ds h).1

-- ---- members

abbrev pub MembersInLimits : ℕ → Members → Type 0
MembersInLimits n ms = MembersWellFormed ms × (members_depth ms ≤ n)

record MemberParts (n : ℕ) (k : List ℕ) (d : Value) (ms : Members) : Type 0 where
  pub name : IsUtf8 k
  pub value : ValueInLimits n d
  pub below : IsKeyBelowAll k ms
  pub rest : MembersInLimits n ms

member_parts : (n : ℕ) (k : List ℕ) (d : Value) (ms : Members) → MembersInLimits n (member k d ms) → MemberParts n k d ms
member_parts n k d ms h = record { name = h.0.0; value = (h.0.1, omega (arith, h.1)); below = h.0.2; rest = (h.0.3, omega (arith, h.1)) }

member_in_limits : (n : ℕ) (k : List ℕ) (d : Value) (ms : Members) → IsUtf8 k → ValueInLimits n d → IsKeyBelowAll k ms → MembersInLimits n ms → MembersInLimits n (member k d ms)
member_in_limits n k d ms t h b g = ((t, h.0, b, g.0), omega (arith, h.1, g.1))

below_set : (k l : List ℕ) (ms : Members) (u : Value) → IsKeyBelowAll k ms → IsKeyBelowAll k (set_member l ms u)
below_set k l no_members u h = h
below_set k l (member j d ms) u h = cond_holds (IsKeyBelowAll k) (texts_equal l j) (member j u ms) (member j d (set_member l ms u)) (h.0, h.1) (h.0, below_set k l ms u h.1)

set_member_in_limits : (n : ℕ) (l : List ℕ) (ms : Members) (u : Value) → MembersInLimits n ms → ValueInLimits n u → MembersInLimits n (set_member l ms u)
set_member_in_limits n l no_members u h k = h
set_member_in_limits n l (member j d ms) u h k =
    let p = member_parts n j d ms h in
    cond_holds (MembersInLimits n) (texts_equal l j) (member j u ms) (member j d (set_member l ms u)) (member_in_limits n j u ms p.name k p.below p.rest)
    (member_in_limits n j d (set_member l ms u) p.name p.value (below_set j l ms u p.below) (set_member_in_limits n l ms u p.rest k))

member_at_in_limits : (n : ℕ) (k : List ℕ) (ms : Members) → MembersInLimits n ms → IfSomeHolds (ValueInLimits n) (member_at k ms)
member_at_in_limits n k no_members h = tt
member_at_in_limits n k (member l d ms) h =
    let p = member_parts n l d ms h in cond_holds (IfSomeHolds (ValueInLimits n)) (texts_equal k l) (Some d) (member_at k ms) p.value (member_at_in_limits n k ms p.rest)

below_less : (k l : List ℕ) (ms : Members) → slice_cmp nat_cmp k l ≡ Less → IsKeyBelowAll l ms → IsKeyBelowAll k ms
below_less k l no_members e h = tt
below_less k l (member j d ms) e h = (nat_list_cmp_total.trans k l j e h.0, below_less k l ms e h.1)

-- a key is inserted in order
below_put : (j k : List ℕ) (u : Value) (ms : Members) → slice_cmp nat_cmp j k ≡ Less → IsKeyBelowAll j ms → IsKeyBelowAll j (put_member k u ms)
below_put j k u no_members e h = (e, tt)
below_put j k u (member l d ms) e h =
    ordering_holds (IsKeyBelowAll j) (slice_cmp nat_cmp k l) (member k u (member l d ms)) (member l u ms) (member l d (put_member k u ms)) (e, h) h (h.0, below_put j k u ms e h.1)

put_at : (o : Ordering) (n : ℕ) (k l : List ℕ) (u d : Value) (ms : Members) → slice_cmp nat_cmp k l ≡ o → IsUtf8 k → ValueInLimits n u → MembersInLimits n (member l d ms)
    → MembersInLimits n (put_member k u ms) → MembersInLimits n (match_ordering o (member k u (member l d ms)) (member l u ms) (member l d (put_member k u ms)))
put_at Less n k l u d ms e t g h r = member_in_limits n k u (member l d ms) t g (e, below_less k l ms e (member_parts n l d ms h).below) h
put_at Equal n k l u d ms e t g h r = let p = member_parts n l d ms h in member_in_limits n l u ms p.name g p.below p.rest
put_at Greater n k l u d ms e t g h r =
    let p = member_parts n l d ms h in
    member_in_limits n l d (put_member k u ms) p.name p.value (below_put l k u ms (nat_list_cmp_total.antisymm l k ∙ ap ordering_reverse e) p.below) r

pub put_in_limits : (n : ℕ) (k : List ℕ) (u : Value) (ms : Members) → IsUtf8 k → ValueInLimits n u → MembersInLimits n ms → MembersInLimits n (put_member k u ms)
put_in_limits n k u no_members t g h = member_in_limits n k u no_members t g tt h
put_in_limits n k u (member l d ms) t g h = put_at (slice_cmp nat_cmp k l) n k l u d ms refl t g h (put_in_limits n k u ms t g (member_parts n l d ms h).rest)

below_without : (j k : List ℕ) (ms : Members) → IsKeyBelowAll j ms → IsKeyBelowAll j (without_member k ms)
below_without j k no_members h = tt
below_without j k (member l d ms) h = cond_holds (IsKeyBelowAll j) (texts_equal k l) ms (member l d (without_member k ms)) h.1 (h.0, below_without j k ms h.1)

pub without_in_limits : (n : ℕ) (k : List ℕ) (ms : Members) → MembersInLimits n ms → MembersInLimits n (without_member k ms)
without_in_limits n k no_members h = h
without_in_limits n k (member l d ms) h =
    let p = member_parts n l d ms h in
    cond_holds (MembersInLimits n) (texts_equal k l) ms (member l d (without_member k ms)) p.rest (member_in_limits n l d (without_member k ms) p.name p.value (below_without l k ms p.below) (without_in_limits n k ms p.rest))

-- ---- paths: each step is one level deeper

child_in_limits : (w : PlainStep) (n : ℕ) (d : Value) → ValueInLimits n d → IfSomeHolds (ValueInLimits (n - 1)) (child w d)
child_in_limits (index i) n (list ds) h = item_at_in_limits (n - 1) i ds (h.0, omega (arith, h.1))
child_in_limits (key k) n (object ms) h = member_at_in_limits (n - 1) k ms (h.0, omega (arith, h.1))
child_in_limits w n d h = tt

-- the value found at a path
pub value_at_in_limits : (p : List PlainStep) (n m : ℕ) (d : Value) → n ≤ length p + m → ValueInLimits n d → IfSomeHolds (ValueInLimits m) (value_at d p)
value_at_in_limits [] n m d l h = (h.0, omega (arith, h.1, l))
value_at_in_limits (w ∷ p) n m d l h =
    opt_then (ValueInLimits (n - 1)) (ValueInLimits m) (λ c. value_at c p) (child w d) (child_in_limits w n d h) (λ c g. value_at_in_limits p (n - 1) m c (omega (arith, l)) g)

with_child_in_limits : (w : PlainStep) (n : ℕ) (d u : Value) → ValueInLimits n d → ValueInLimits (n - 1) u → ValueInLimits n (with_child w d u)
with_child_in_limits (index i) n (list ds) u h k = let r = set_item_in_limits (n - 1) i ds u (h.0, omega (arith, h.1)) k in (r.0, omega (arith, h.1, r.1))
with_child_in_limits (key l) n (object ms) u h k = let r = set_member_in_limits (n - 1) l ms u (h.0, omega (arith, h.1)) k in (r.0, omega (arith, h.1, r.1))
with_child_in_limits w n d u h k = h

-- the value put at a path
pub with_value_in_limits : (p : List PlainStep) (n m : ℕ) (d u : Value) → length p + m ≤ n → ValueInLimits n d → ValueInLimits m u → ValueInLimits n (with_value_at d p u)
with_value_in_limits [] n m d u l h k = (k.0, omega (arith, k.1, l))
with_value_in_limits (w ∷ p) n m d u l h k =
    opt_or (ValueInLimits (n - 1)) (ValueInLimits n) (λ c. with_child w d (with_value_at c p u)) (child w d) d (child_in_limits w n d h) h (λ c g.
    with_child_in_limits w n d (with_value_at c p u) h (with_value_in_limits p (n - 1) m c u (omega (arith, l)) g k))
