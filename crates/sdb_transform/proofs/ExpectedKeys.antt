-- Keys after a concurrent act are absent or present as the transformed act needs.
use Rattle.std.proofs.Common.{◌≡◌, ℕ, List, [], ◌∷◌, Option, Some, None, option_map, option_and_then, Bool, true, false, cond, Ordering, Less, Equal, Greater, IsSome, refl, sym, ap, ◌∙◌, subst}
use Rattle.std.specs.Prelude.{if◌then◌else◌, ⊤}
use Rattle.sdb_value.specs.Value.{Value, text, list, object, Items, Members, no_members, member, PlainStep, key, index, member_at, texts_equal, put_member, without_member, insert_item, remove_item, replace_item, set_item, set_member, with_child}
use Rattle.sdb_value.specs.WellFormed.{IsKeyBelowAll}
use Rattle.sdb_value.proofs.DisjointLemmas.{equal_texts, same_itself}
use Rattle.sdb_rope.specs.Utf16.{insert_text, remove_text}
use Rattle.sdb_component.specs.Plain.{PlainAct, si, sd, li, ld, lr, oi, od, or}
use Rattle.sdb_apply.specs.Apply.{apply_act}
use Rattle.sdb_transform.specs.declared.side.Side.{Side}
use Rattle.sdb_transform.specs.declared.side.Side.TheVariants.{Left, Right}
use Rattle.sdb_transform.specs.Transform.{ActTransform, one_act, no_acts, left_wins_or, transform_act, map_removed}
use Rattle.sdb_transform.specs.Convergence.{HasExpectedKey}
use Rattle.sdb_transform.proofs.ConvergeActs.{apply_acts}
use Rattle.sdb_transform.proofs.ConvergeObjects.{compare_keys, HasSortedKeys}
use Rattle.sdb_transform.proofs.ConvergeBelow.{at_put, at_without}
use Rattle.sdb_transform.proofs.ValidParts.{AllHaveValidParts}
use Rattle.sdb_transform.proofs.OperationRuns.{ActsRun, unchecked_of}

-- each act's key is absent or present as its shape needs, in the result of those before it
abbrev pub KeysAlong : List PlainAct → Value → Type 0
KeysAlong [] u = ⊤
KeysAlong (x ∷ xs) u = HasExpectedKey x u × ((v : Value) → apply_act x u ≡ Some v → KeysAlong xs v)

same_value : (a b : Value) → Some a ≡ Some b → a ≡ b
same_value a b e = cc

run_from : (o : Option Value) (x : PlainAct) (xs : List PlainAct) (u e : Value) → apply_act x u ≡ o → option_and_then (apply_acts xs) o ≡ Some e → AllHaveValidParts (x ∷ xs) → KeysAlong (x ∷ xs) u
    → ((v : Value) → apply_acts xs v ≡ Some e → KeysAlong xs v → ActsRun xs v e) → ActsRun (x ∷ xs) u e
run_from None x xs u e h g t k below = cc
run_from (Some v) x xs u e h g t k below =
    (v, record { changed = unchecked_of x u v h; key = k.0; texts = t.0.0; inserts = t.0.1 }, below v g (k.1 v h))

pub acts_run_of : (xs : List PlainAct) (u e : Value) → apply_acts xs u ≡ Some e → AllHaveValidParts xs → KeysAlong xs u → ActsRun xs u e
acts_run_of [] u e h t k = same_value u e h
acts_run_of (x ∷ xs) u e h t k = run_from (apply_act x u) x xs u e refl h t k (λ v g m. acts_run_of xs v e g t.1 m)

-- ---- texts and lists

mapped : {A : Type 0} (f : A → Value) (o : Option A) (v : Value) → option_map f o ≡ Some v → (a : A) × (f a ≡ v)
mapped f None v e = cc
mapped f (Some a) v e = (a, same_value (f a) v e)

keyless_text : (x : PlainAct) (t : List ℕ) → HasExpectedKey x (text t)
keyless_text (oi k v) t = tt
keyless_text (od k v) t = tt
keyless_text (or k v w) t = tt
keyless_text x t = tt

text_stays : (x : PlainAct) (t : List ℕ) (v : Value) → apply_act x (text t) ≡ Some v → (s : List ℕ) × (text s ≡ v)
text_stays (si p s) t v e = mapped text (insert_text p s t) v e
text_stays (sd p s) t v e = mapped text (remove_text p s t) v e
text_stays x t v e = cc

pub keys_at_text : (xs : List PlainAct) (t : List ℕ) → KeysAlong xs (text t)
keys_at_text [] t = tt
keys_at_text (x ∷ xs) t = (keyless_text x t, λ v e. let m = text_stays x t v e in subst (KeysAlong xs) m.1 (keys_at_text xs m.0))

keyless_list : (x : PlainAct) (ds : Items) → HasExpectedKey x (list ds)
keyless_list (oi k v) ds = tt
keyless_list (od k v) ds = tt
keyless_list (or k v w) ds = tt
keyless_list x ds = tt

list_stays : (x : PlainAct) (ds : Items) (v : Value) → apply_act x (list ds) ≡ Some v → (es : Items) × (list es ≡ v)
list_stays (li i x) ds v e = mapped list (insert_item i x ds) v e
list_stays (ld i x) ds v e = mapped list (remove_item i ds) v e
list_stays (lr i x y) ds v e = mapped list (replace_item i y ds) v e
list_stays x ds v e = cc

pub keys_at_list : (xs : List PlainAct) (ds : Items) → KeysAlong xs (list ds)
keys_at_list [] ds = tt
keys_at_list (x ∷ xs) ds = (keyless_list x ds, λ v e. let m = list_stays x ds v e in subst (KeysAlong xs) m.1 (keys_at_list xs m.0))

-- ---- members

at_put_same_at : (o : Ordering) (k l : List ℕ) (v d : Value) (ms : Members) → compare_keys k l ≡ o → member_at k (put_member k v ms) ≡ Some v → member_at k (put_member k v (member l d ms)) ≡ Some v
at_put_same_at Less k l v d ms e below = simp (e, same_itself k)
at_put_same_at Equal k l v d ms e below = simp e
at_put_same_at Greater k l v d ms e below = simp e below

at_put_same : (k : List ℕ) (v : Value) (ms : Members) → member_at k (put_member k v ms) ≡ Some v
at_put_same k v no_members = simp (same_itself k)
at_put_same k v (member l d ms) = at_put_same_at (compare_keys k l) k l v d ms refl (at_put_same k v ms)

absent_below : (k : List ℕ) (ms : Members) → IsKeyBelowAll k ms → member_at k ms ≡ None
absent_below k no_members h = refl
absent_below k (member l d ms) h = rw (h.0) (absent_below k ms h.1)

at_without_same_at : (b : Bool) (k l : List ℕ) (d : Value) (ms : Members) → texts_equal k l ≡ b → IsKeyBelowAll l ms → member_at k (without_member k ms) ≡ None → member_at k (without_member k (member l d ms)) ≡ None
at_without_same_at true k l d ms e h below = simp e (absent_below k ms (subst (λ x. IsKeyBelowAll x ms) (sym (equal_texts k l e)) h))
at_without_same_at false k l d ms e h below = simp e below

at_without_same : (k : List ℕ) (ms : Members) → HasSortedKeys ms → member_at k (without_member k ms) ≡ None
at_without_same k no_members h = refl
at_without_same k (member l d ms) h = at_without_same_at (texts_equal k l) k l d ms refl h.0 (at_without_same k ms h.1)

some_is : (o : Option Value) (v : Value) → o ≡ Some v → IsSome o
some_is None v e = cc
some_is (Some x) v e = refl

put_here : (k l : List ℕ) (z : Value) (ms : Members) → texts_equal l k ≡ true → IsSome (member_at k (put_member l z ms))
put_here k l z ms e = some_is (member_at k (put_member l z ms)) z (ap (λ x. member_at x (put_member l z ms)) (sym (equal_texts l k e)) ∙ at_put_same l z ms)

present_after_put : (b : Bool) (k l : List ℕ) (z : Value) (ms : Members) → texts_equal l k ≡ b → IsSome (member_at k ms) → IsSome (member_at k (put_member l z ms))
present_after_put true k l z ms e h = put_here k l z ms e
present_after_put false k l z ms e h = subst IsSome (sym (at_put l k z ms e)) h

absent_after_without : (b : Bool) (k l : List ℕ) (ms : Members) → texts_equal l k ≡ b → HasSortedKeys ms → member_at k ms ≡ None → member_at k (without_member l ms) ≡ None
absent_after_without true k l ms e s h = ap (λ x. member_at x (without_member l ms)) (sym (equal_texts l k e)) ∙ at_without_same l ms s
absent_after_without false k l ms e s h = at_without l k ms e ∙ h

present_after_without : (k l : List ℕ) (ms : Members) → texts_equal l k ≡ false → IsSome (member_at k ms) → IsSome (member_at k (without_member l ms))
present_after_without k l ms e h = subst IsSome (sym (at_without l k ms e)) h

-- ---- acts at one object

abbrev KeysIfSome : ActTransform → Value → Type 0
KeysIfSome None u = ⊤
KeysIfSome (Some xs) u = KeysAlong xs u

alone : (x : PlainAct) (u : Value) → HasExpectedKey x u → KeysAlong (x ∷ []) u
alone x u h = (h, λ v e. tt)

if_keys : (b : Bool) (x y : ActTransform) (u : Value) → (b ≡ true → KeysIfSome x u) → (b ≡ false → KeysIfSome y u) → KeysIfSome (if b then x else y) u
if_keys true x y u h k = h refl
if_keys false x y u h k = k refl

side_keys : (side : Side) (x : PlainAct) (u : Value) → HasExpectedKey x u → KeysIfSome (left_wins_or side (one_act x) no_acts) u
side_keys Left x u h = alone x u h
side_keys Right x u h = tt

keys_oi_put : (side : Side) (k l : List ℕ) (v z : Value) (ms : Members) → member_at k ms ≡ None
    → KeysIfSome (if texts_equal l k then left_wins_or side (one_act (or k z v)) no_acts else one_act (oi k v)) (object (put_member l z ms))
keys_oi_put side k l v z ms h =
    if_keys (texts_equal l k) (left_wins_or side (one_act (or k z v)) no_acts) (one_act (oi k v)) (object (put_member l z ms))
    (λ e. side_keys side (or k z v) (object (put_member l z ms)) (put_here k l z ms e))
    (λ e. alone (oi k v) (object (put_member l z ms)) (at_put l k z ms e ∙ h))

keys_or_put : (side : Side) (k l : List ℕ) (x v z : Value) (ms : Members) → IsSome (member_at k ms)
    → KeysIfSome (if texts_equal l k then left_wins_or side (one_act (or k z v)) no_acts else one_act (or k x v)) (object (put_member l z ms))
keys_or_put side k l x v z ms h =
    if_keys (texts_equal l k) (left_wins_or side (one_act (or k z v)) no_acts) (one_act (or k x v)) (object (put_member l z ms))
    (λ e. side_keys side (or k z v) (object (put_member l z ms)) (put_here k l z ms e))
    (λ e. alone (or k x v) (object (put_member l z ms)) (subst IsSome (sym (at_put l k z ms e)) h))

keys_after : (side : Side) (x y : PlainAct) (ms : Members) (v w : Value) → HasSortedKeys ms → HasExpectedKey x (object ms) → apply_act x (object ms) ≡ Some v → apply_act y (object ms) ≡ Some w → KeysIfSome (transform_act side x y) w
keys_after side (oi k a) (oi l z) ms v w s h e f = subst (KeysIfSome (transform_act side (oi k a) (oi l z))) (same_value (object (put_member l z ms)) w f) (keys_oi_put side k l a z ms h)
keys_after side (oi k a) (or l y z) ms v w s h e f = subst (KeysIfSome (transform_act side (oi k a) (or l y z))) (same_value (object (put_member l z ms)) w f) (keys_oi_put side k l a z ms h)
keys_after side (oi k a) (od l z) ms v w s h e f =
    subst (KeysAlong (oi k a ∷ [])) (same_value (object (without_member l ms)) w f)
    (alone (oi k a) (object (without_member l ms)) (absent_after_without (texts_equal l k) k l ms refl s h))
keys_after side (od k x) (oi l z) ms v w s h e f =
    subst (KeysAlong (od k x ∷ [])) (same_value (object (put_member l z ms)) w f)
    (alone (od k x) (object (put_member l z ms)) (present_after_put (texts_equal l k) k l z ms refl h))
keys_after side (od k x) (or l y z) ms v w s h e f =
    subst (KeysIfSome (transform_act side (od k x) (or l y z))) (same_value (object (put_member l z ms)) w f)
    (if_keys (texts_equal l k) no_acts (one_act (od k x)) (object (put_member l z ms)) (λ g. tt) (λ g. alone (od k x) (object (put_member l z ms)) (subst IsSome (sym (at_put l k z ms g)) h)))
keys_after side (od k x) (od l z) ms v w s h e f =
    subst (KeysIfSome (transform_act side (od k x) (od l z))) (same_value (object (without_member l ms)) w f)
    (if_keys (texts_equal l k) no_acts (one_act (od k x)) (object (without_member l ms)) (λ g. tt) (λ g. alone (od k x) (object (without_member l ms)) (present_after_without k l ms g h)))
keys_after side (or k x a) (oi l z) ms v w s h e f = subst (KeysIfSome (transform_act side (or k x a) (oi l z))) (same_value (object (put_member l z ms)) w f) (keys_or_put side k l x a z ms h)
keys_after side (or k x a) (or l y z) ms v w s h e f = subst (KeysIfSome (transform_act side (or k x a) (or l y z))) (same_value (object (put_member l z ms)) w f) (keys_or_put side k l x a z ms h)
keys_after side (or k x a) (od l z) ms v w s h e f =
    subst (KeysIfSome (transform_act side (or k x a) (od l z))) (same_value (object (without_member l ms)) w f)
    (if_keys (texts_equal l k) (one_act (oi k a)) (one_act (or k x a)) (object (without_member l ms))
    (λ g. alone (oi k a) (object (without_member l ms)) (ap (λ n. member_at n (without_member l ms)) (sym (equal_texts l k g)) ∙ at_without_same l ms s))
    (λ g. alone (or k x a) (object (without_member l ms)) (present_after_without k l ms g h)))
keys_after side x y ms v w s h e f = cc

pub keys_at_object : (side : Side) (x y : PlainAct) (ms : Members) (v w : Value) (xs : List PlainAct) → HasSortedKeys ms → HasExpectedKey x (object ms) → apply_act x (object ms) ≡ Some v → apply_act y (object ms) ≡ Some w
    → transform_act side x y ≡ Some xs → KeysAlong xs w
keys_at_object side x y ms v w xs s h e f g = subst (λ o. KeysIfSome o w) g (keys_after side x y ms v w s h e f)

-- ---- after a change inside a step

present_after_set : (b : Bool) (k l m : List ℕ) (d u : Value) (ms : Members) → texts_equal l m ≡ b → IsSome (member_at k (member m d ms)) → (IsSome (member_at k ms) → IsSome (member_at k (set_member l ms u)))
    → IsSome (member_at k (cond b (member m u ms) (member m d (set_member l ms u))))
present_after_set true k l m d u ms e h below = first (texts_equal k m) h
  where
    first : (c : Bool) → IsSome (cond c (Some d) (member_at k ms)) → IsSome (cond c (Some u) (member_at k ms))
    first true g = refl
    first false g = g
present_after_set false k l m d u ms e h below = first (texts_equal k m) h
  where
    first : (c : Bool) → IsSome (cond c (Some d) (member_at k ms)) → IsSome (cond c (Some d) (member_at k (set_member l ms u)))
    first true g = refl
    first false g = below g

present_set : (k l : List ℕ) (ms : Members) (u : Value) → IsSome (member_at k ms) → IsSome (member_at k (set_member l ms u))
present_set k l no_members u h = h
present_set k l (member m d ms) u h = present_after_set (texts_equal l m) k l m d u ms refl h (present_set k l ms u)

absent_after_set : (b : Bool) (k l m : List ℕ) (d u : Value) (ms : Members) → member_at k (member m d ms) ≡ None → (member_at k ms ≡ None → member_at k (set_member l ms u) ≡ None)
    → member_at k (cond b (member m u ms) (member m d (set_member l ms u))) ≡ None
absent_after_set true k l m d u ms h below = first (texts_equal k m) h
  where
    first : (c : Bool) → cond c (Some d) (member_at k ms) ≡ None → cond c (Some u) (member_at k ms) ≡ None
    first true g = cc
    first false g = g
absent_after_set false k l m d u ms h below = first (texts_equal k m) h
  where
    first : (c : Bool) → cond c (Some d) (member_at k ms) ≡ None → cond c (Some d) (member_at k (set_member l ms u)) ≡ None
    first true g = cc
    first false g = below g

absent_set : (k l : List ℕ) (ms : Members) (u : Value) → member_at k ms ≡ None → member_at k (set_member l ms u) ≡ None
absent_set k l no_members u h = h
absent_set k l (member m d ms) u h = absent_after_set (texts_equal l m) k l m d u ms h (absent_set k l ms u)

pub key_after_child : (x : PlainAct) (s : PlainStep) (d u : Value) → HasExpectedKey x d → HasExpectedKey x (with_child s d u)
key_after_child (oi k v) (key l) (object ms) u h = absent_set k l ms u h
key_after_child (od k v) (key l) (object ms) u h = present_set k l ms u h
key_after_child (or k v w) (key l) (object ms) u h = present_set k l ms u h
key_after_child x (index i) (list ds) u h = keyless_list x (set_item i ds u)
key_after_child x s d u h = h

pub updated_key : (f : Value → Value) (x : PlainAct) (u : Value) → HasExpectedKey x u → HasExpectedKey (map_removed f x) u
updated_key f (od k v) (object ms) h = h
updated_key f (or k v w) (object ms) h = h
updated_key f x u h = h
