-- Disjoint paths.
use Rattle.std.proofs.Common.{◌≡◌, ℕ, zero, suc, List, [], ◌∷◌, Option, Some, None, Bool, true, false, eqb, is_eq, refl, sym, ap, ◌∙◌, arith, subst, true≢false}
use Rattle.std.specs.Option.{option_and_then, option_map_or}
use Rattle.std.proofs.lemmas.Bool.Decides.{nat_tests}
use Rattle.std.proofs.lemmas.Cmp.{nat_list_cmp_total, tied_itself}
use Rattle.std.proofs.lemmas.Map.Text.{is_eq-slice_cmp}
use Rattle.std.proofs.lemmas.Slice.Eq.{bytes_eq-Decides}
use Rattle.sdb_value.specs.Value.{Value, null, truth, whole, text, list, object, Items, no_items, item, Members, no_members, member, PlainStep, key, index, item_at, member_at, set_item, set_member, texts_equal, steps_equal, child, with_child, value_at, with_value_at}
use Rattle.sdb_value.specs.laws.PathLaws.{child_with_child, with_child_with_child}
use Rattle.sdb_value.specs.Disjoint.{AreDisjointPaths}

-- ---- steps

pub equal_texts : (k l : List ℕ) → texts_equal k l ≡ true → k ≡ l
equal_texts k l e = (bytes_eq-Decides k l).0 (sym (is_eq-slice_cmp k l) ∙ e)

pub same_itself : (k : List ℕ) → texts_equal k k ≡ true
same_itself k = ap is_eq (tied_itself nat_list_cmp_total k)

equal_numbers : (i j : ℕ) → eqb i j ≡ true → i ≡ j
equal_numbers i j e = grind (arith, nat_tests)

number_itself : (i : ℕ) → eqb i i ≡ true
number_itself i = grind (arith, nat_tests)

pub equal_steps : (s t : PlainStep) → steps_equal s t ≡ true → s ≡ t
equal_steps (key k) (key l) e = ap key (equal_texts k l e)
equal_steps (index i) (index j) e = ap index (equal_numbers i j e)
equal_steps (key k) (index j) e = cc
equal_steps (index i) (key l) e = cc

pub step_itself : (s : PlainStep) → steps_equal s s ≡ true
step_itself (key k) = same_itself k
step_itself (index i) = number_itself i

-- ---- two items of one list

pub item_other : (i j : ℕ) (ds : Items) (u : Value) → (i ≡ j → ⊥) → item_at j (set_item i ds u) ≡ item_at j ds
item_other i j no_items u h = refl
item_other zero zero (item d ds) u h = absurd (h refl)
item_other zero (suc j) (item d ds) u h = refl
item_other (suc i) zero (item d ds) u h = refl
item_other (suc i) (suc j) (item d ds) u h = item_other i j ds u (λ e. h (ap suc e))

pub item_exchange : (i j : ℕ) (ds : Items) (u v : Value) → (i ≡ j → ⊥) → set_item j (set_item i ds u) v ≡ set_item i (set_item j ds v) u
item_exchange i j no_items u v h = refl
item_exchange zero zero (item d ds) u v h = absurd (h refl)
item_exchange zero (suc j) (item d ds) u v h = refl
item_exchange (suc i) zero (item d ds) u v h = refl
item_exchange (suc i) (suc j) (item d ds) u v h = ap (item d) (item_exchange i j ds u v (λ e. h (ap suc e)))

-- ---- two members of one object

pub not_both : (k l m : List ℕ) → texts_equal k m ≡ true → texts_equal l m ≡ true → texts_equal k l ≡ true
not_both k l m e f = ap (texts_equal k) (equal_texts l m f) ∙ e

member_other_at : (b c : Bool) (k l m : List ℕ) (d u : Value) (ms : Members) → texts_equal k m ≡ b → texts_equal l m ≡ c
    → texts_equal k l ≡ false → member_at l (set_member k ms u) ≡ member_at l ms
    → member_at l (set_member k (member m d ms) u) ≡ member_at l (member m d ms)
member_other_at true true k l m d u ms e f h below = absurd (true≢false (sym (not_both k l m e f) ∙ h))
member_other_at true false k l m d u ms e f h below = simp (e, f)
member_other_at false true k l m d u ms e f h below = simp (e, f)
member_other_at false false k l m d u ms e f h below = simp (e, f) below

member_other : (k l : List ℕ) (ms : Members) (u : Value) → texts_equal k l ≡ false → member_at l (set_member k ms u) ≡ member_at l ms
member_other k l no_members u h = refl
member_other k l (member m d ms) u h = member_other_at (texts_equal k m) (texts_equal l m) k l m d u ms refl refl h (member_other k l ms u h)

member_exchange_at : (b c : Bool) (k l m : List ℕ) (d u v : Value) (ms : Members) → texts_equal k m ≡ b → texts_equal l m ≡ c
    → texts_equal k l ≡ false → set_member l (set_member k ms u) v ≡ set_member k (set_member l ms v) u
    → set_member l (set_member k (member m d ms) u) v ≡ set_member k (set_member l (member m d ms) v) u
member_exchange_at true true k l m d u v ms e f h below = absurd (true≢false (sym (not_both k l m e f) ∙ h))
member_exchange_at true false k l m d u v ms e f h below = simp (e, f)
member_exchange_at false true k l m d u v ms e f h below = simp (e, f)
member_exchange_at false false k l m d u v ms e f h below = simp (e, f) (ap (member m d) below)

member_exchange : (k l : List ℕ) (ms : Members) (u v : Value) → texts_equal k l ≡ false
    → set_member l (set_member k ms u) v ≡ set_member k (set_member l ms v) u
member_exchange k l no_members u v h = refl
member_exchange k l (member m d ms) u v h = member_exchange_at (texts_equal k m) (texts_equal l m) k l m d u v ms refl refl h (member_exchange k l ms u v h)

-- ---- one step

unequal_numbers : (i j : ℕ) → eqb i j ≡ false → i ≡ j → ⊥
unequal_numbers i j e f = grind (arith, nat_tests)

pub one_other : (s t : PlainStep) (d u : Value) → steps_equal s t ≡ false → child t (with_child s d u) ≡ child t d
one_other (index i) (index j) (list ds) u h = item_other i j ds u (unequal_numbers i j h)
one_other (key k) (key l) (object ms) u h = member_other k l ms u h
one_other (index i) (key l) (list ds) u h = refl
one_other (key k) (index j) (object ms) u h = refl
one_other (index i) t null u h = refl
one_other (index i) t (truth b) u h = refl
one_other (index i) t (whole n) u h = refl
one_other (index i) t (text x) u h = refl
one_other (index i) t (object ms) u h = refl
one_other (key k) t null u h = refl
one_other (key k) t (truth b) u h = refl
one_other (key k) t (whole n) u h = refl
one_other (key k) t (text x) u h = refl
one_other (key k) t (list ds) u h = refl

pub one_exchange : (s t : PlainStep) (d u v : Value) → steps_equal s t ≡ false → with_child t (with_child s d u) v ≡ with_child s (with_child t d v) u
one_exchange (index i) (index j) (list ds) u v h = ap list (item_exchange i j ds u v (unequal_numbers i j h))
one_exchange (key k) (key l) (object ms) u v h = ap object (member_exchange k l ms u v h)
one_exchange (index i) (index j) null u v h = refl
one_exchange (index i) (index j) (truth x) u v h = refl
one_exchange (index i) (index j) (whole x) u v h = refl
one_exchange (index i) (index j) (text x) u v h = refl
one_exchange (index i) (index j) (object x) u v h = refl
one_exchange (index i) (key l) null u v h = refl
one_exchange (index i) (key l) (truth x) u v h = refl
one_exchange (index i) (key l) (whole x) u v h = refl
one_exchange (index i) (key l) (text x) u v h = refl
one_exchange (index i) (key l) (list x) u v h = refl
one_exchange (index i) (key l) (object x) u v h = refl
one_exchange (key k) (index j) null u v h = refl
one_exchange (key k) (index j) (truth x) u v h = refl
one_exchange (key k) (index j) (whole x) u v h = refl
one_exchange (key k) (index j) (text x) u v h = refl
one_exchange (key k) (index j) (list x) u v h = refl
one_exchange (key k) (index j) (object x) u v h = refl
one_exchange (key k) (key l) null u v h = refl
one_exchange (key k) (key l) (truth x) u v h = refl
one_exchange (key k) (key l) (whole x) u v h = refl
one_exchange (key k) (key l) (text x) u v h = refl
one_exchange (key k) (key l) (list x) u v h = refl

-- ---- paths

pub at_step : (s : PlainStep) (p : List PlainStep) (d c : Value) → child s d ≡ Some c → value_at d (s ∷ p) ≡ value_at c p
at_step s p d c e = ap (option_and_then (λ c. value_at c p)) e

pub with_step : (s : PlainStep) (p : List PlainStep) (d c u : Value) → child s d ≡ Some c → with_value_at d (s ∷ p) u ≡ with_child s d (with_value_at c p u)
with_step s p d c u e = ap (λ o. option_map_or (λ c. with_child s d (with_value_at c p u)) o d) e

-- the value at the other path is unchanged, and both orders make one value
pub record WritesCommute (p q : List PlainStep) (d u v y : Value) : Type 0 where
  pub stays : value_at (with_value_at d p u) q ≡ Some y
  pub same : with_value_at (with_value_at d p u) q v ≡ with_value_at (with_value_at d q v) p u

-- both inside one step
stays_below : (s : PlainStep) (p q : List PlainStep) (d c u y : Value) → child s d ≡ Some c → value_at (with_value_at c p u) q ≡ Some y → value_at (with_value_at d (s ∷ p) u) (s ∷ q) ≡ Some y
stays_below s p q d c u y e h =
    ap (λ f. value_at f (s ∷ q)) (with_step s p d c u e)
    ∙ at_step s q (with_child s d (with_value_at c p u)) (with_value_at c p u) (child_with_child s d c (with_value_at c p u) e)
    ∙ h

pub twice_below : (s : PlainStep) (p q : List PlainStep) (d c u v : Value) → child s d ≡ Some c → with_value_at (with_value_at d (s ∷ p) u) (s ∷ q) v ≡ with_child s d (with_value_at (with_value_at c p u) q v)
twice_below s p q d c u v e =
    ap (λ f. with_value_at f (s ∷ q) v) (with_step s p d c u e)
    ∙ with_step s q (with_child s d (with_value_at c p u)) (with_value_at c p u) v (child_with_child s d c (with_value_at c p u) e)
    ∙ with_child_with_child s d (with_value_at c p u) (with_value_at (with_value_at c p u) q v)

exchange_same : (s : PlainStep) (p q : List PlainStep) (d c u v y : Value) → child s d ≡ Some c → WritesCommute p q c u v y → WritesCommute (s ∷ p) (s ∷ q) d u v y
exchange_same s p q d c u v y e h = record {
  stays = stays_below s p q d c u y e h.stays;
  same = twice_below s p q d c u v e ∙ ap (with_child s d) h.same ∙ sym (twice_below s q p d c v u e);
}

-- inside two steps
stays_disjoint : (s t : PlainStep) (p q : List PlainStep) (d c e u : Value) → steps_equal s t ≡ false → child s d ≡ Some c → child t d ≡ Some e → child t (with_value_at d (s ∷ p) u) ≡ Some e
stays_disjoint s t p q d c e u n f g = ap (child t) (with_step s p d c u f) ∙ one_other s t d (with_value_at c p u) n ∙ g

twice_disjoint : (s t : PlainStep) (p q : List PlainStep) (d c e u v : Value) → steps_equal s t ≡ false → child s d ≡ Some c → child t d ≡ Some e
    → with_value_at (with_value_at d (s ∷ p) u) (t ∷ q) v ≡ with_child t (with_child s d (with_value_at c p u)) (with_value_at e q v)
twice_disjoint s t p q d c e u v n f g =
    with_step t q (with_value_at d (s ∷ p) u) e v (stays_disjoint s t p q d c e u n f g)
    ∙ ap (λ x. with_child t x (with_value_at e q v)) (with_step s p d c u f)

exchange_disjoint : (s t : PlainStep) (p q : List PlainStep) (d c e u v y : Value) → steps_equal s t ≡ false → steps_equal t s ≡ false → child s d ≡ Some c → child t d ≡ Some e
    → value_at e q ≡ Some y → WritesCommute (s ∷ p) (t ∷ q) d u v y
exchange_disjoint s t p q d c e u v y n m f g h = record {
  stays = at_step t q (with_value_at d (s ∷ p) u) e (stays_disjoint s t p q d c e u n f g) ∙ h;
  same =
      twice_disjoint s t p q d c e u v n f g
      ∙ one_exchange s t d (with_value_at c p u) (with_value_at e q v) n
      ∙ sym (twice_disjoint t s q p d e c v u m g f);
}

false_turned : (s t : PlainStep) (b : Bool) → steps_equal t s ≡ b → steps_equal s t ≡ false → b ≡ false
false_turned s t false e h = refl
false_turned s t true e h =
    let st : t ≡ s = equal_steps t s e in
    absurd (true≢false (sym (step_itself s) ∙ ap (steps_equal s) (sym st) ∙ h))

pub apart_turned : (s t : PlainStep) → steps_equal s t ≡ false → steps_equal t s ≡ false
apart_turned s t h = false_turned s t (steps_equal t s) refl h

-- the rests of both paths after a common step
apart_below : (s t : PlainStep) (p q : List PlainStep) → s ≡ t → AreDisjointPaths (s ∷ p) (t ∷ q) → AreDisjointPaths p q
apart_below s t p q st h = record {
  not_prefix = λ r e. h.not_prefix r (ap (λ x. s ∷ x) e ∙ ap (λ w. w ∷ q) st);
  not_extension = λ r e. h.not_extension r (ap (λ x. t ∷ x) e ∙ ap (λ w. w ∷ p) (sym st));
}

exchange_at : (b : Bool) (o r : Option Value) (s t : PlainStep) (p q : List PlainStep) (d u v x y : Value) → steps_equal s t ≡ b → child s d ≡ o → child t d ≡ r
    → AreDisjointPaths (s ∷ p) (t ∷ q) → option_and_then (λ c. value_at c p) o ≡ Some x → option_and_then (λ c. value_at c q) r ≡ Some y
    → ((c : Value) → AreDisjointPaths p q → value_at c p ≡ Some x → value_at c q ≡ Some y → WritesCommute p q c u v y)
    → WritesCommute (s ∷ p) (t ∷ q) d u v y
exchange_at b None r s t p q d u v x y n f g h l m below = cc
exchange_at b (Some c) None s t p q d u v x y n f g h l m below = cc
exchange_at true (Some c) (Some e) s t p q d u v x y n f g h l m below =
    let st : s ≡ t = equal_steps s t n in
    let ce : Some c ≡ Some e = sym f ∙ ap (λ w. child w d) st ∙ g in
    let is : c ≡ e = cc in
    subst (λ w. WritesCommute (s ∷ p) (w ∷ q) d u v y) st
    (exchange_same s p q d c u v y f (below c (apart_below s t p q st h) l (ap (λ a. value_at a q) is ∙ m)))
exchange_at false (Some c) (Some e) s t p q d u v x y n f g h l m below =
    exchange_disjoint s t p q d c e u v y n (apart_turned s t n) f g m

pub writes_commute : (p q : List PlainStep) (d u v x y : Value) → AreDisjointPaths p q → value_at d p ≡ Some x → value_at d q ≡ Some y → WritesCommute p q d u v y
writes_commute [] q d u v x y h l m = absurd (h.not_prefix q refl)
writes_commute (s ∷ p) [] d u v x y h l m = absurd (h.not_extension (s ∷ p) refl)
writes_commute (s ∷ p) (t ∷ q) d u v x y h l m =
    exchange_at (steps_equal s t) (child s d) (child t d) s t p q d u v x y refl refl refl h l m (λ c. writes_commute p q c u v x y)

pub places_apart : (p q : List PlainStep) (d u v x y : Value) → AreDisjointPaths p q → value_at d p ≡ Some x → value_at d q ≡ Some y
    → (value_at (with_value_at d p u) q ≡ Some y) × (with_value_at (with_value_at d p u) q v ≡ with_value_at (with_value_at d q v) p u)
places_apart p q d u v x y h l m = let e = writes_commute p q d u v x y h l m in (e.stays, e.same)

pub steps_apart : (s t : PlainStep) (d u v : Value) → steps_equal s t ≡ false
    → (child t (with_child s d u) ≡ child t d) × (with_child t (with_child s d u) v ≡ with_child s (with_child t d v) u)
steps_apart s t d u v h = (one_other s t d u h, one_exchange s t d u v h)

pub texts_same : (k l : List ℕ) → (texts_equal k l ≡ true → k ≡ l) × (k ≡ l → texts_equal k l ≡ true)
texts_same k l = (equal_texts k l, λ e. ap (texts_equal k) (sym e) ∙ same_itself k)

pub steps_same : (s t : PlainStep) → (steps_equal s t ≡ true → s ≡ t) × (s ≡ t → steps_equal s t ≡ true)
steps_same s t = (equal_steps s t, λ e. ap (steps_equal s) (sym e) ∙ step_itself s)
