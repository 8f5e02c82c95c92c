-- Laws of values and of paths in them.
use Rattle.std.specs.Prelude.{◌≡◌, ℕ, zero, suc, List, [], ◌∷◌, Option, Some, None, Bool, true, false, cond, refl}
use Rattle.std.specs.Option.{OnSome, option_and_then, option_map_or}
use Rattle.std.proofs.Common.{sym, ap, ◌∙◌, subst}
use Rattle.sdb_value.specs.Value.{Value, null, truth, whole, text, list, object, Items, no_items, item, Members, no_members, member}
use Rattle.sdb_value.specs.Value.{PlainStep, key, index, item_at, member_at, set_item, set_member, texts_equal, as_text, as_list, as_object, child, with_child, value_at, with_value_at}

-- a fact about a present option
pub of_some : {A P : Type 0} (r : Option A) (x : A) → r ≡ Some x → OnSome r P → P
of_some {A} {P} r x e h = let Q : Option A → Type 0 = λ o. OnSome o P in subst Q e h

-- the kind of a value, from its inside
pub eq_text_of_as_text : (d : Value) (t : List ℕ) → Some t ≡ as_text d → d ≡ text t
eq_text_of_as_text null t e = cc
eq_text_of_as_text (truth b) t e = cc
eq_text_of_as_text (whole n) t e = cc
eq_text_of_as_text (text s) t e = cc
eq_text_of_as_text (list es) t e = cc
eq_text_of_as_text (object ms) t e = cc

pub eq_list_of_as_list : (d : Value) (ds : Items) → Some ds ≡ as_list d → d ≡ list ds
eq_list_of_as_list null ds e = cc
eq_list_of_as_list (truth b) ds e = cc
eq_list_of_as_list (whole n) ds e = cc
eq_list_of_as_list (text s) ds e = cc
eq_list_of_as_list (list es) ds e = cc
eq_list_of_as_list (object ms) ds e = cc

pub eq_object_of_as_object : (d : Value) (ms : Members) → Some ms ≡ as_object d → d ≡ object ms
eq_object_of_as_object null ms e = cc
eq_object_of_as_object (truth b) ms e = cc
eq_object_of_as_object (whole n) ms e = cc
eq_object_of_as_object (text s) ms e = cc
eq_object_of_as_object (list es) ms e = cc
eq_object_of_as_object (object ns) ms e = cc

-- a write of the value that is there changes nothing
pub set_item_same : (i : ℕ) (ds : Items) (c : Value) → Some c ≡ item_at i ds → set_item i ds c ≡ ds
set_item_same i no_items c e = refl
set_item_same zero (item d ds) c e = let h : c ≡ d = cc in ap (λ v. item v ds) h
set_item_same (suc i) (item d ds) c e = ap (item d) (set_item_same i ds c e)

set_member_same_cond : (b : Bool) (l : List ℕ) (c d : Value) (ms ns : Members) (found : Option Value)
    → Some c ≡ cond b (Some d) found → (Some c ≡ found → ns ≡ ms)
    → cond b (member l c ms) (member l d ns) ≡ member l d ms
set_member_same_cond true l c d ms ns found e h = let g : c ≡ d = cc in ap (λ v. member l v ms) g
set_member_same_cond false l c d ms ns found e h = ap (member l d) (h e)

pub set_member_same : (k : List ℕ) (ms : Members) (c : Value) → Some c ≡ member_at k ms → set_member k ms c ≡ ms
set_member_same k no_members c e = refl
set_member_same k (member l d ms) c e =
    set_member_same_cond (texts_equal k l) l c d ms _ (member_at k ms) e (set_member_same k ms c)

-- the same for one step
with_child_same : (w : PlainStep) (d c : Value) → child w d ≡ Some c → with_child w d c ≡ d
with_child_same (index i) (list ds) c e = ap list (set_item_same i ds c (sym e))
with_child_same (key k) (object ms) c e = ap object (set_member_same k ms c (sym e))
with_child_same (index i) null c e = cc
with_child_same (index i) (truth b) c e = cc
with_child_same (index i) (whole n) c e = cc
with_child_same (index i) (text s) c e = cc
with_child_same (index i) (object ms) c e = cc
with_child_same (key k) null c e = cc
with_child_same (key k) (truth b) c e = cc
with_child_same (key k) (whole n) c e = cc
with_child_same (key k) (text s) c e = cc
with_child_same (key k) (list ds) c e = cc

with_same_at : (o : Option Value) (w : PlainStep) (p : List PlainStep) (d u : Value) → child w d ≡ o
    → option_and_then (λ c. value_at c p) o ≡ Some u
    → ((c : Value) → value_at c p ≡ Some u → with_value_at c p u ≡ c) → option_map_or (λ c. with_child w d (with_value_at c p u)) o d ≡ d
with_same_at None w p d u e h below = cc
with_same_at (Some c) w p d u e h below = ap (with_child w d) (below c h) ∙ with_child_same w d c e

-- for a path
pub with_same : (p : List PlainStep) (d u : Value) → value_at d p ≡ Some u → with_value_at d p u ≡ d
with_same [] d u e = let s : u ≡ d = cc in s
with_same (w ∷ p) d u e = with_same_at (child w d) w p d u refl e (λ c h. with_same p c u h)
