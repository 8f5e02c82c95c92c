-- Values that are well formed apart from the range of their numbers. Acts keep them so.
use Rattle.std.proofs.Common.{◌≡◌, ℕ, zero, suc, ◌+◌, ◌+ℤ◌, List, [], ◌∷◌, ◌++◌, length, take, drop, Option, Some, None, option_map, option_and_then, Bool, true, false, cond, Ordering, Less, Equal, Greater, nat_eq, refl, sym, ◌∙◌, subst}
use Rattle.std.specs.Prelude.{if◌then◌else◌, ⊤}
use Rattle.std.specs.Option.{option_map_or}
use Rattle.std.specs.Ordering.{match_ordering}
use Rattle.std.specs.List.{insert_slice, remove_range, starts_with}
use Rattle.std.specs.Str.{IsUtf8, IsCharBoundary}
use Rattle.std.specs.String.Boundary.{IsSplitPoint}
use Rattle.std.proofs.lemmas.Str.{IsUtf8-append, IsUtf8-take, IsUtf8-drop}
use Rattle.sdb_value.specs.Value.{Value, null, truth, whole, text, list, object, Items, no_items, item, Members, no_members, member, PlainStep, key, index, item_at, member_at, set_item, set_member, texts_equal, put_member, without_member, child, with_child, value_at, with_value_at}
use Rattle.sdb_value.specs.WellFormed.{IsKeyBelowAll, IsWellFormed, AreWellFormed, MembersWellFormed}
use Rattle.sdb_rope.specs.Utf16.{cut_at}
use Rattle.sdb_rope.proofs.BoundaryLemmas.{char_boundary, other_end}
use Rattle.sdb_rope.proofs.OffsetLemmas.{cut_split}
use Rattle.sdb_component.specs.Plain.{PlainAct, na, si, sd, li, ld, lr, oi, od, or}
use Rattle.sdb_transform.specs.Convergence.{HasValidTexts}
use Rattle.sdb_transform.specs.OperationConvergence.{InsertsWellFormedValue}
use Rattle.sdb_transform.proofs.ConvergeActs.{apply_unchecked}
use Rattle.sdb_transform.proofs.ConvergeLists.{inserted_at, deleted_at, li_does, ld_does, lr_does, li_fits, ld_fits, lr_fits}
use Rattle.sdb_transform.proofs.ConvergeObjects.{compare_keys, order_back, below_all, HasSortedKeys}
use Rattle.sdb_transform.proofs.ConvergeBelow.{IsSortedHere}

abbrev mutual
  pub IsFormed : Value → Type 0
  IsFormed null = ⊤
  IsFormed (truth b) = ⊤
  IsFormed (whole z) = ⊤
  IsFormed (text s) = IsUtf8 s
  IsFormed (list ds) = AreFormed ds
  IsFormed (object ms) = MembersFormed ms

  pub AreFormed : Items → Type 0
  AreFormed no_items = ⊤
  AreFormed (item d ds) = IsFormed d × AreFormed ds

  pub MembersFormed : Members → Type 0
  MembersFormed no_members = ⊤
  MembersFormed (member k d ms) = IsFormed d × IsKeyBelowAll k ms × MembersFormed ms

mutual
  pub formed_of : (d : Value) → IsWellFormed d → IsFormed d
  formed_of null h = tt
  formed_of (truth b) h = tt
  formed_of (whole z) h = tt
  formed_of (text s) h = h
  formed_of (list ds) h = items_of ds h
  formed_of (object ms) h = members_of ms h

  items_of : (ds : Items) → AreWellFormed ds → AreFormed ds
  items_of no_items h = tt
  items_of (item d ds) h = (formed_of d h.0, items_of ds h.1)

  members_of : (ms : Members) → MembersWellFormed ms → MembersFormed ms
  members_of no_members h = tt
  members_of (member k d ms) h = (formed_of d h.1, h.2, members_of ms h.3)

sorted_of : (ms : Members) → MembersFormed ms → HasSortedKeys ms
sorted_of no_members h = tt
sorted_of (member k d ms) h = (h.1, sorted_of ms h.2)

pub sorted_of_value : (u : Value) → IsFormed u → IsSortedHere u
sorted_of_value (object ms) h = sorted_of ms h
sorted_of_value null h = tt
sorted_of_value (truth b) h = tt
sorted_of_value (whole n) h = tt
sorted_of_value (text t) h = tt
sorted_of_value (list ds) h = tt

-- ---- items

inserted_formed : (i : ℕ) (v : Value) (ds : Items) → IsFormed v → AreFormed ds → AreFormed (inserted_at i v ds)
inserted_formed zero v ds h k = (h, k)
inserted_formed (suc i) v no_items h k = tt
inserted_formed (suc i) v (item d ds) h k = (k.0, inserted_formed i v ds h k.1)

deleted_formed : (i : ℕ) (ds : Items) → AreFormed ds → AreFormed (deleted_at i ds)
deleted_formed i no_items k = tt
deleted_formed zero (item d ds) k = k.1
deleted_formed (suc i) (item d ds) k = (k.0, deleted_formed i ds k.1)

set_formed : (i : ℕ) (ds : Items) (v : Value) → IsFormed v → AreFormed ds → AreFormed (set_item i ds v)
set_formed i no_items v h k = tt
set_formed zero (item d ds) v h k = (h, k.1)
set_formed (suc i) (item d ds) v h k = (k.0, set_formed i ds v h k.1)

item_formed : (i : ℕ) (ds : Items) (c : Value) → AreFormed ds → item_at i ds ≡ Some c → IsFormed c
item_formed i no_items c w e = cc
item_formed zero (item d ds) c w e = let s : d ≡ c = cc in subst IsFormed s w.0
item_formed (suc i) (item d ds) c w e = item_formed i ds c w.1 e

-- ---- members

below_set : (b : Bool) (k l m : List ℕ) (d u : Value) (ms : Members) → IsKeyBelowAll k (member m d ms) → IsKeyBelowAll k (set_member l ms u)
    → IsKeyBelowAll k (cond b (member m u ms) (member m d (set_member l ms u)))
below_set true k l m d u ms h below = (h.0, h.1)
below_set false k l m d u ms h below = (h.0, below)

set_keeps_below : (k l : List ℕ) (ms : Members) (u : Value) → IsKeyBelowAll k ms → IsKeyBelowAll k (set_member l ms u)
set_keeps_below k l no_members u h = tt
set_keeps_below k l (member m d ms) u h = below_set (texts_equal l m) k l m d u ms h (set_keeps_below k l ms u h.1)

member_set_at : (b : Bool) (l m : List ℕ) (d u : Value) (ms : Members) → IsFormed u → MembersFormed (member m d ms) → MembersFormed (set_member l ms u)
    → MembersFormed (cond b (member m u ms) (member m d (set_member l ms u)))
member_set_at true l m d u ms f h below = (f, h.1, h.2)
member_set_at false l m d u ms f h below = (h.0, set_keeps_below m l ms u h.1, below)

member_set : (l : List ℕ) (ms : Members) (u : Value) → IsFormed u → MembersFormed ms → MembersFormed (set_member l ms u)
member_set l no_members u f h = tt
member_set l (member m d ms) u f h = member_set_at (texts_equal l m) l m d u ms f h (member_set l ms u f h.2)

below_put_at : (o : Ordering) (j k l : List ℕ) (u d : Value) (ms : Members) → compare_keys j k ≡ Less → IsKeyBelowAll j (member l d ms) → IsKeyBelowAll j (put_member k u ms)
    → IsKeyBelowAll j (match_ordering o (member k u (member l d ms)) (member l u ms) (member l d (put_member k u ms)))
below_put_at Less j k l u d ms e h below = (e, h)
below_put_at Equal j k l u d ms e h below = h
below_put_at Greater j k l u d ms e h below = (h.0, below)

below_put : (j k : List ℕ) (u : Value) (ms : Members) → compare_keys j k ≡ Less → IsKeyBelowAll j ms → IsKeyBelowAll j (put_member k u ms)
below_put j k u no_members e h = (e, tt)
below_put j k u (member l d ms) e h = below_put_at (compare_keys k l) j k l u d ms e h (below_put j k u ms e h.1)

put_at : (o : Ordering) (k l : List ℕ) (u d : Value) (ms : Members) → compare_keys k l ≡ o → IsFormed u → MembersFormed (member l d ms) → MembersFormed (put_member k u ms)
    → MembersFormed (match_ordering o (member k u (member l d ms)) (member l u ms) (member l d (put_member k u ms)))
put_at Less k l u d ms e f h below = (f, (e, below_all k l ms e h.1), h)
put_at Equal k l u d ms e f h below = (f, h.1, h.2)
put_at Greater k l u d ms e f h below = (h.0, below_put l k u ms (order_back k l Greater e) h.1, below)

put_formed : (k : List ℕ) (u : Value) (ms : Members) → IsFormed u → MembersFormed ms → MembersFormed (put_member k u ms)
put_formed k u no_members f h = (f, tt, tt)
put_formed k u (member l d ms) f h = put_at (compare_keys k l) k l u d ms refl f h (put_formed k u ms f h.2)

below_without_at : (b : Bool) (j k l : List ℕ) (d : Value) (ms : Members) → IsKeyBelowAll j (member l d ms) → IsKeyBelowAll j (without_member k ms)
    → IsKeyBelowAll j (cond b ms (member l d (without_member k ms)))
below_without_at true j k l d ms h below = h.1
below_without_at false j k l d ms h below = (h.0, below)

below_without : (j k : List ℕ) (ms : Members) → IsKeyBelowAll j ms → IsKeyBelowAll j (without_member k ms)
below_without j k no_members h = tt
below_without j k (member l d ms) h = below_without_at (texts_equal k l) j k l d ms h (below_without j k ms h.1)

without_at : (b : Bool) (k l : List ℕ) (d : Value) (ms : Members) → MembersFormed (member l d ms) → MembersFormed (without_member k ms)
    → MembersFormed (cond b ms (member l d (without_member k ms)))
without_at true k l d ms h below = h.2
without_at false k l d ms h below = (h.0, below_without l k ms h.1, below)

without_formed : (k : List ℕ) (ms : Members) → MembersFormed ms → MembersFormed (without_member k ms)
without_formed k no_members h = tt
without_formed k (member l d ms) h = without_at (texts_equal k l) k l d ms h (without_formed k ms h.2)

member_formed_at : (b : Bool) (d c : Value) (o : Option Value) → IsFormed d → cond b (Some d) o ≡ Some c → (o ≡ Some c → IsFormed c) → IsFormed c
member_formed_at true d c o w e below = let s : d ≡ c = cc in subst IsFormed s w
member_formed_at false d c o w e below = below e

member_formed : (k : List ℕ) (ms : Members) (c : Value) → MembersFormed ms → member_at k ms ≡ Some c → IsFormed c
member_formed k no_members c w e = cc
member_formed k (member l d ms) c w e = member_formed_at (texts_equal k l) d c (member_at k ms) w.0 e (member_formed k ms c w.2)

-- ---- paths

child_formed : (s : PlainStep) (d c : Value) → IsFormed d → child s d ≡ Some c → IsFormed c
child_formed (index i) (list ds) c w e = item_formed i ds c w e
child_formed (key k) (object ms) c w e = member_formed k ms c w e
child_formed s d c w e = cc

step_there : (o : Option Value) (q : List PlainStep) (u : Value) → option_and_then (λ c. value_at c q) o ≡ Some u → (c : Value) × (o ≡ Some c) × (value_at c q ≡ Some u)
step_there None q u e = cc
step_there (Some c) q u e = (c, refl, e)

pub value_formed : (p : List PlainStep) (d u : Value) → IsFormed d → value_at d p ≡ Some u → IsFormed u
value_formed [] d u w e = let s : d ≡ u = cc in subst IsFormed s w
value_formed (s ∷ p) d u w e = let c = step_there (child s d) p u e in value_formed p c.0 u (child_formed s d c.0 w c.1) c.2

with_child_formed : (s : PlainStep) (d u : Value) → IsFormed d → IsFormed u → IsFormed (with_child s d u)
with_child_formed (index i) (list ds) u w f = set_formed i ds u f w
with_child_formed (key k) (object ms) u w f = member_set k ms u f w
with_child_formed s d u w f = w

with_step_formed : (o : Option Value) (s : PlainStep) (p : List PlainStep) (d u : Value) → child s d ≡ o → IsFormed d → ((c : Value) → IsFormed c → IsFormed (with_value_at c p u))
    → IsFormed (option_map_or (λ c. with_child s d (with_value_at c p u)) o d)
with_step_formed None s p d u e w below = w
with_step_formed (Some c) s p d u e w below = with_child_formed s d (with_value_at c p u) w (below c (child_formed s d c w e))

pub written_formed : (p : List PlainStep) (d u : Value) → IsFormed d → IsFormed u → IsFormed (with_value_at d p u)
written_formed [] d u w f = f
written_formed (s ∷ p) d u w f = with_step_formed (child s d) s p d u refl w (λ c h. written_formed p c u h f)

-- ---- texts

pub cut_boundary : (d : List ℕ) (p i : ℕ) → IsUtf8 d → cut_at d p ≡ Some i → IsCharBoundary d i
cut_boundary d p i u e = char_boundary d i u (cut_split d p i e)

inserted_text : (p : ℕ) (s t : List ℕ) (o : Option ℕ) (v : Value) → cut_at t p ≡ o → IsUtf8 s → IsUtf8 t → option_map text (option_map (λ i. insert_slice t i s) o) ≡ Some v → IsFormed v
inserted_text p s t None v e f g h = cc
inserted_text p s t (Some i) v e f g h =
    let b = cut_boundary t p i g e in
    let is : text (insert_slice t i s) ≡ v = cc in
    subst IsFormed is (IsUtf8-append (take i t ++ s) (drop i t) (IsUtf8-append (take i t) s (IsUtf8-take t i g b) f) (IsUtf8-drop t i g b))

removed_rest : (i : ℕ) (s t : List ℕ) (b : Bool) (v : Value) → starts_with nat_eq (drop i t) s ≡ b → IsUtf8 s → IsUtf8 t → IsSplitPoint t i
    → option_map text (if b then Some (remove_range t i (i + length s)) else None) ≡ Some v → IsFormed v
removed_rest i s t false v e f g there h = cc
removed_rest i s t true v e f g there h =
    let first = IsUtf8-take t i g (char_boundary t i g there) in
    let last = IsUtf8-drop t (i + length s) g (char_boundary t (i + length s) g (other_end t s i g f there e)) in
    let is : text (remove_range t i (i + length s)) ≡ v = cc in
    subst IsFormed is (IsUtf8-append (take i t) (drop (i + length s) t) first last)

removed_text : (p : ℕ) (s t : List ℕ) (o : Option ℕ) (v : Value) → cut_at t p ≡ o → IsUtf8 s → IsUtf8 t
    → option_map text (option_and_then (λ i. if starts_with nat_eq (drop i t) s then Some (remove_range t i (i + length s)) else None) o) ≡ Some v → IsFormed v
removed_text p s t None v e f g h = cc
removed_text p s t (Some i) v e f g h = removed_rest i s t (starts_with nat_eq (drop i t) s) v refl f g (cut_split t p i e) h

-- ---- acts

same_value : (a b : Value) → Some a ≡ Some b → a ≡ b
same_value a b e = cc

pub applied_formed : (x : PlainAct) (u v : Value) → IsFormed u → HasValidTexts x → InsertsWellFormedValue x → apply_unchecked x u ≡ Some v → IsFormed v
applied_formed (na x) (whole n) v w t i e = subst IsFormed (same_value (whole (n +ℤ x)) v e) tt
applied_formed (si p s) (text t) v w f i e = inserted_text p s t (cut_at t p) v refl f w e
applied_formed (sd p s) (text t) v w f i e = removed_text p s t (cut_at t p) v refl f.0 w e
applied_formed (li i x) (list ds) v w t f e =
    let is = same_value (list (inserted_at i x ds)) v (sym (li_does i x ds (li_fits i x ds v e)) ∙ e) in
    subst IsFormed is (inserted_formed i x ds (formed_of x f) w)
applied_formed (ld i x) (list ds) v w t f e =
    let is = same_value (list (deleted_at i ds)) v (sym (ld_does i x ds (ld_fits i x ds v e)) ∙ e) in
    subst IsFormed is (deleted_formed i ds w)
applied_formed (lr i x y) (list ds) v w t f e =
    let is = same_value (list (set_item i ds y)) v (sym (lr_does i x y ds (lr_fits i x y ds v e)) ∙ e) in
    subst IsFormed is (set_formed i ds y (formed_of y f) w)
applied_formed (oi k x) (object ms) v w t f e = subst IsFormed (same_value (object (put_member k x ms)) v e) (put_formed k x ms (formed_of x f) w)
applied_formed (od k x) (object ms) v w t f e = subst IsFormed (same_value (object (without_member k ms)) v e) (without_formed k ms w)
applied_formed (or k x y) (object ms) v w t f e = subst IsFormed (same_value (object (put_member k y ms)) v e) (put_formed k y ms (formed_of y f) w)
applied_formed x u v w t i e = cc
