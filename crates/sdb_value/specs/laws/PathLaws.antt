-- Laws of paths: a concatenated path, and two writes at one path.
use Rattle.std.specs.Prelude.{◌≡◌, ℕ, zero, suc, List, [], ◌∷◌, ◌++◌, Option, Some, None, Bool, true, false, cond, refl}
use Rattle.std.proofs.Common.{ap, ◌∙◌}
use Rattle.std.specs.Option.{option_and_then, option_map_or}
use Rattle.sdb_value.specs.Value.{Value, null, truth, whole, text, list, object, Items, no_items, item, Members, no_members, member, PlainStep, key, index, item_at, member_at, set_item, set_member, texts_equal, child, with_child, value_at, with_value_at}

-- ---- one step

item_at_set_item : (i : ℕ) (ds : Items) (c u : Value) → item_at i ds ≡ Some c → item_at i (set_item i ds u) ≡ Some u
item_at_set_item i no_items c u e = cc
item_at_set_item zero (item d ds) c u e = refl
item_at_set_item (suc i) (item d ds) c u e = item_at_set_item i ds c u e

pub set_item_set_item : (i : ℕ) (ds : Items) (u v : Value) → set_item i (set_item i ds u) v ≡ set_item i ds v
set_item_set_item i no_items u v = refl
set_item_set_item zero (item d ds) u v = refl
set_item_set_item (suc i) (item d ds) u v = ap (item d) (set_item_set_item i ds u v)

member_at_set_member_cond : (b : Bool) (k l : List ℕ) (c d u : Value) (ms : Members) → texts_equal k l ≡ b
    → cond b (Some d) (member_at k ms) ≡ Some c → (member_at k ms ≡ Some c → member_at k (set_member k ms u) ≡ Some u)
    → member_at k (cond b (member l u ms) (member l d (set_member k ms u))) ≡ Some u
member_at_set_member_cond true k l c d u ms is e below = ap (λ t. cond t (Some u) (member_at k ms)) is
member_at_set_member_cond false k l c d u ms is e below = ap (λ t. cond t (Some d) (member_at k (set_member k ms u))) is ∙ below e

member_at_set_member : (k : List ℕ) (ms : Members) (c u : Value) → member_at k ms ≡ Some c
    → member_at k (set_member k ms u) ≡ Some u
member_at_set_member k no_members c u e = cc
member_at_set_member k (member l d ms) c u e = member_at_set_member_cond (texts_equal k l) k l c d u ms refl e (member_at_set_member k ms c u)

set_member_set_member_cond : (b : Bool) (k l : List ℕ) (d u v : Value) (ms : Members) → texts_equal k l ≡ b
    → set_member k (set_member k ms u) v ≡ set_member k ms v
    → set_member k (cond b (member l u ms) (member l d (set_member k ms u))) v
    ≡ cond b (member l v ms) (member l d (set_member k ms v))
set_member_set_member_cond true k l d u v ms is below = ap (λ t. cond t (member l v ms) (member l u (set_member k ms v))) is
set_member_set_member_cond false k l d u v ms is below =
    ap (λ t. cond t (member l v (set_member k ms u)) (member l d (set_member k (set_member k ms u) v))) is
    ∙ ap (member l d) below

set_member_set_member : (k : List ℕ) (ms : Members) (u v : Value) → set_member k (set_member k ms u) v ≡ set_member k ms v
set_member_set_member k no_members u v = refl
set_member_set_member k (member l d ms) u v = set_member_set_member_cond (texts_equal k l) k l d u v ms refl (set_member_set_member k ms u v)

-- a written value is read back at its step
pub child_with_child : (w : PlainStep) (d c u : Value) → child w d ≡ Some c → child w (with_child w d u) ≡ Some u
child_with_child (index i) (list ds) c u e = item_at_set_item i ds c u e
child_with_child (key k) (object ms) c u e = member_at_set_member k ms c u e
child_with_child (index i) null c u e = cc
child_with_child (index i) (truth b) c u e = cc
child_with_child (index i) (whole n) c u e = cc
child_with_child (index i) (text s) c u e = cc
child_with_child (index i) (object ms) c u e = cc
child_with_child (key k) null c u e = cc
child_with_child (key k) (truth b) c u e = cc
child_with_child (key k) (whole n) c u e = cc
child_with_child (key k) (text s) c u e = cc
child_with_child (key k) (list ds) c u e = cc

-- the last of two writes at one step remains
pub with_child_with_child : (w : PlainStep) (d u v : Value) → with_child w (with_child w d u) v ≡ with_child w d v
with_child_with_child (index i) (list ds) u v = ap list (set_item_set_item i ds u v)
with_child_with_child (key k) (object ms) u v = ap object (set_member_set_member k ms u v)
with_child_with_child (index i) null u v = refl
with_child_with_child (index i) (truth b) u v = refl
with_child_with_child (index i) (whole n) u v = refl
with_child_with_child (index i) (text s) u v = refl
with_child_with_child (index i) (object ms) u v = refl
with_child_with_child (key k) null u v = refl
with_child_with_child (key k) (truth b) u v = refl
with_child_with_child (key k) (whole n) u v = refl
with_child_with_child (key k) (text s) u v = refl
with_child_with_child (key k) (list ds) u v = refl

-- ---- paths

at_append_step : (o : Option Value) (p q : List PlainStep)
    → ((c : Value) → value_at c (p ++ q) ≡ option_and_then (λ u. value_at u q) (value_at c p))
    → option_and_then (λ c. value_at c (p ++ q)) o ≡ option_and_then (λ u. value_at u q) (option_and_then (λ c. value_at c p) o)
at_append_step None p q below = refl
at_append_step (Some c) p q below = below c

-- the value at a concatenated path
pub at_append : (d : Value) (p q : List PlainStep) → value_at d (p ++ q) ≡ option_and_then (λ u. value_at u q) (value_at d p)
at_append d [] q = refl
at_append d (w ∷ p) q = at_append_step (child w d) p q (λ c. at_append c p q)

with_append_step : (o : Option Value) (w : PlainStep) (d u v : Value) (p q : List PlainStep)
    → option_and_then (λ c. value_at c p) o ≡ Some u
    → ((c : Value) → value_at c p ≡ Some u → with_value_at c (p ++ q) v ≡ with_value_at c p (with_value_at u q v))
    → option_map_or (λ c. with_child w d (with_value_at c (p ++ q) v)) o d
    ≡ option_map_or (λ c. with_child w d (with_value_at c p (with_value_at u q v))) o d
with_append_step None w d u v p q e below = refl
with_append_step (Some c) w d u v p q e below = ap (with_child w d) (below c e)

-- a write at a concatenated path
pub with_append : (d u v : Value) (p q : List PlainStep) → value_at d p ≡ Some u → with_value_at d (p ++ q) v ≡ with_value_at d p (with_value_at u q v)
with_append d u v [] q e = let s : d ≡ u = cc in ap (λ x. with_value_at x q v) s
with_append d u v (w ∷ p) q e = with_append_step (child w d) w d u v p q e (λ c h. with_append c u v p q h)

at_with_step : (o : Option Value) (w : PlainStep) (d u v : Value) (p : List PlainStep) → child w d ≡ o
    → option_and_then (λ c. value_at c p) o ≡ Some u → ((c : Value) → value_at c p ≡ Some u → value_at (with_value_at c p v) p ≡ Some v)
    → option_and_then (λ c. value_at c p) (child w (option_map_or (λ c. with_child w d (with_value_at c p v)) o d)) ≡ Some v
at_with_step None w d u v p is e below = cc
at_with_step (Some c) w d u v p is e below =
    ap (option_and_then (λ x. value_at x p)) (child_with_child w d c (with_value_at c p v) is) ∙ below c e

-- a written value is read back at its path
pub at_with : (d u v : Value) (p : List PlainStep) → value_at d p ≡ Some u → value_at (with_value_at d p v) p ≡ Some v
at_with d u v [] e = refl
at_with d u v (w ∷ p) e = at_with_step (child w d) w d u v p refl e (λ c h. at_with c u v p h)

with_with_step : (o : Option Value) (w : PlainStep) (d u v x : Value) (p : List PlainStep) → child w d ≡ o
    → option_and_then (λ c. value_at c p) o ≡ Some u → ((c : Value) → value_at c p ≡ Some u → with_value_at (with_value_at c p v) p x ≡ with_value_at c p x)
    → (let e = option_map_or (λ c. with_child w d (with_value_at c p v)) o d in
    option_map_or (λ c. with_child w e (with_value_at c p x)) (child w e) e) ≡ option_map_or (λ c. with_child w d (with_value_at c p x)) o d
with_with_step None w d u v x p is e below = cc
with_with_step (Some c) w d u v x p is e below =
    let f = with_child w d (with_value_at c p v) in
    ap (λ o. option_map_or (λ c. with_child w f (with_value_at c p x)) o f) (child_with_child w d c (with_value_at c p v) is)
    ∙ ap (with_child w f) (below c e)
    ∙ with_child_with_child w d (with_value_at c p v) (with_value_at c p x)

-- the last of two writes at one path remains
pub with_with : (d u v x : Value) (p : List PlainStep) → value_at d p ≡ Some u → with_value_at (with_value_at d p v) p x ≡ with_value_at d p x
with_with d u v x [] e = refl
with_with d u v x (w ∷ p) e = with_with_step (child w d) w d u v x p refl e (λ c h. with_with c u v x p h)
