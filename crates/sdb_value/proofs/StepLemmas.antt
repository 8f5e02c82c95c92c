-- One step of a path, and a change inside it.
use Rattle.std.proofs.Common.{◌≡◌, ℕ, zero, suc, List, ◌∷◌, Option, Some, None, MatchOption, Result, Ok, Err, IfOk, Bool, true, false, true≢false, refl, sym, ap, ◌∙◌}
use Rattle.sdb_value.specs.Value.{Value, null, no_items, item, list, Items, PlainStep, index, item_at, set_item, as_list, child, with_child}
use Rattle.sdb_value.specs.Change.{ReplacedAt, AbsentAt}
use Rattle.sdb_value.specs.laws.ValueLaws.{eq_list_of_as_list, set_item_same}

-- a change inside a step is a change of the whole
step_down : {O : Type 0} (r : Option O) (R : O → Value → Value → Type 0) (d e : Value) (w : PlainStep) (p q : List PlainStep) (c c2 : Value)
    → q ≡ w ∷ p → child w d ≡ Some c → e ≡ with_child w d c2 → with_child w d c ≡ d
    → MatchOption r (AbsentAt c p c2) (λ o. ReplacedAt (R o) c p c2) → MatchOption r (AbsentAt d q e) (λ o. ReplacedAt (R o) d q e)
step_down None R d e w p q c c2 way found put stay h = record {
  absent = rw (way, found) h.absent;
  same = put ∙ ap (with_child w d) h.same ∙ stay;
}
step_down (Some o) R d e w p q c c2 way found put stay h = record {
  before = h.before;
  after = h.after;
  found = rw (way, found) h.found;
  related = h.related;
  placed = put ∙ rw (way, found) (ap (with_child w d) h.placed);
}

pub list_step : {O : Type 0} (r : Option O) (R : O → Value → Value → Type 0) (d e : Value) (ds es : Items) (i : ℕ) (p q : List PlainStep) (c c2 : Value)
    → q ≡ index i ∷ p → Some ds ≡ as_list d → e ≡ list es → Some c ≡ item_at i ds → es ≡ set_item i ds c2
    → MatchOption r (AbsentAt c p c2) (λ o. ReplacedAt (R o) c p c2) → MatchOption r (AbsentAt d q e) (λ o. ReplacedAt (R o) d q e)
list_step r R d e ds es i p q c c2 way kind put found set h =
    let is = eq_list_of_as_list d ds kind in
    step_down r R d e (index i) p q c c2 way (ap (child (index i)) is ∙ sym found) (put ∙ ap list set ∙ ap (λ x. with_child (index i) x c2) (sym is))
    (ap (λ x. with_child (index i) x c) is ∙ ap list (set_item_same i ds c found) ∙ sym is) h

-- ---- by the results of the calls

-- the change of equal values
pub told_of : {O E : Type 0} (r : Result (Option O) E) (R : O → Value → Value → Type 0) (d d2 e e2 : Value) (p p2 : List PlainStep)
    → d2 ≡ d → p2 ≡ p → e2 ≡ e
    → IfOk r (λ o. MatchOption o (AbsentAt d p e) (λ x. ReplacedAt (R x) d p e)) → IfOk r (λ o. MatchOption o (AbsentAt d2 p2 e2) (λ x. ReplacedAt (R x) d2 p2 e2))
told_of r R d d2 e e2 p p2 h k l done = rw (h, k, l) done

pub list_view : {O E : Type 0} (r : Result (Option O) E) (R : O → Value → Value → Type 0) (ds es : Items) (i : ℕ) (p : List PlainStep) (c c2 : Value)
    → Some c ≡ item_at i ds → es ≡ set_item i ds c2
    → IfOk r (λ o. MatchOption o (AbsentAt c p c2) (λ x. ReplacedAt (R x) c p c2))
    → IfOk r (λ o. MatchOption o (AbsentAt (list ds) (index i ∷ p) (list es)) (λ x. ReplacedAt (R x) (list ds) (index i ∷ p) (list es)))
list_view (Ok o) R ds es i p c c2 found set h = list_step o R (list ds) (list es) ds es i p (index i ∷ p) c c2 refl refl refl found set h
list_view (Err e) R ds es i p c c2 found set h = tt

pub set_again : (i : ℕ) (ds : Items) (u v : Value) → set_item i (set_item i ds u) v ≡ set_item i ds v
set_again i no_items u v = refl
set_again zero (item d ds) u v = refl
set_again (suc i) (item d ds) u v = ap (item d) (set_again i ds u v)

-- a value taken out and put back unchanged
pub put_same : (i : ℕ) (ds : Items) (c : Value) → Some c ≡ item_at i ds → set_item i (set_item i ds null) c ≡ ds
put_same i ds c h = set_again i ds null c ∙ set_item_same i ds c h

pub not_unique : (a b : Bool) → (a ≡ true → b ≡ true) → b ≡ false → a ≡ false
not_unique true b h e = absurd (true≢false (sym (h refl) ∙ e))
not_unique false b h e = refl
