-- Concurrent acts at one object.
use Rattle.std.proofs.Common.{◌≡◌, ℕ, List, [], ◌∷◌, Option, Some, None, Bool, true, false, Ordering, Less, Equal, Greater, is_eq, nat_cmp, IsSome, refl, sym, ap, ◌∙◌, subst, true≢false}
use Rattle.std.specs.Prelude.{⊤}
use Rattle.std.specs.Cmp.Lexicographic.{slice_cmp}
use Rattle.std.specs.Ordering.{ordering_reverse}
use Rattle.std.proofs.lemmas.Cmp.{nat_list_cmp_total, tied_itself}
use Rattle.sdb_value.specs.Value.{Value, object, Members, no_members, member, member_at, texts_equal, put_member, without_member}
use Rattle.sdb_value.specs.WellFormed.{IsKeyBelowAll, MembersWellFormed}
use Rattle.sdb_component.specs.Plain.{PlainAct, na, si, sd, li, ld, lr, oi, od, or}
use Rattle.sdb_apply.specs.Apply.{apply_act}
use Rattle.sdb_transform.specs.declared.side.Side.{Side}
use Rattle.sdb_transform.specs.declared.side.Side.TheVariants.{Left, Right}
use Rattle.sdb_transform.specs.Transform.{transform_act}
use Rattle.sdb_transform.proofs.ConvergeActs.{apply_acts, ActsConverge, then_one, then_none, acts_converge_symm}
use Rattle.sdb_transform.specs.Convergence.{HasExpectedKey}
use Rattle.sdb_value.proofs.DisjointLemmas.{equal_texts, same_itself, not_both}

-- ---- the order of keys

abbrev pub compare_keys : List ℕ → List ℕ → Ordering
compare_keys k l = slice_cmp nat_cmp k l

pub order_back : (k l : List ℕ) (o : Ordering) → compare_keys k l ≡ o → compare_keys l k ≡ ordering_reverse o
order_back k l o e = nat_list_cmp_total.antisymm l k ∙ ap ordering_reverse e

order_itself : (k : List ℕ) → compare_keys k k ≡ Equal
order_itself k = tied_itself nat_list_cmp_total k

pub order_same : (k l : List ℕ) → compare_keys k l ≡ Equal → k ≡ l
order_same k l e = equal_texts k l (ap is_eq e)

pub same_turned : (k l : List ℕ) → texts_equal k l ≡ false → texts_equal l k ≡ false
same_turned k l h = texts_unequal_symm (texts_equal l k) refl
  where
    texts_unequal_symm : (b : Bool) → texts_equal l k ≡ b → b ≡ false
    texts_unequal_symm false e = refl
    texts_unequal_symm true e = let s : l ≡ k = equal_texts l k e in absurd (true≢false (sym (same_itself k) ∙ ap (texts_equal k) (sym s) ∙ h))

compare_not_equal : (k l : List ℕ) → texts_equal k l ≡ false → compare_keys k l ≡ Equal → ⊥
compare_not_equal k l h e = true≢false (sym (ap is_eq e) ∙ h)

pub below_all : (k l : List ℕ) (ms : Members) → compare_keys k l ≡ Less → IsKeyBelowAll l ms → IsKeyBelowAll k ms
below_all k l no_members e h = tt
below_all k l (member n d ms) e h = (nat_list_cmp_total.trans k l n e h.0, below_all k l ms e h.1)

-- the keys are sorted and unique
abbrev pub HasSortedKeys : Members → Type 0
HasSortedKeys no_members = ⊤
HasSortedKeys (member k d ms) = IsKeyBelowAll k ms × HasSortedKeys ms

pub sorted_of_formed : (ms : Members) → MembersWellFormed ms → HasSortedKeys ms
sorted_of_formed no_members h = tt
sorted_of_formed (member k d ms) h = (h.2, sorted_of_formed ms h.3)

-- ---- a key set twice, or less than all others

put_again_at : (o : Ordering) (k l : List ℕ) (u v d : Value) (ms : Members) → compare_keys k l ≡ o → put_member k v (put_member k u ms) ≡ put_member k v ms
    → put_member k v (put_member k u (member l d ms)) ≡ put_member k v (member l d ms)
put_again_at Less k l u v d ms e below = simp (e, order_itself k)
put_again_at Equal k l u v d ms e below = simp e
put_again_at Greater k l u v d ms e below = simp e (ap (member l d) below)

pub put_again : (k : List ℕ) (u v : Value) (ms : Members) → put_member k v (put_member k u ms) ≡ put_member k v ms
put_again k u v no_members = simp (order_itself k)
put_again k u v (member l d ms) = put_again_at (compare_keys k l) k l u v d ms refl (put_again k u v ms)

put_below : (k : List ℕ) (u : Value) (ms : Members) → IsKeyBelowAll k ms → put_member k u ms ≡ member k u ms
put_below k u no_members h = refl
put_below k u (member l d ms) h = rw (h.0)

without_below : (k : List ℕ) (ms : Members) → IsKeyBelowAll k ms → without_member k ms ≡ ms
without_below k no_members h = refl
without_below k (member l d ms) h = rw (h.0) (ap (member l d) (without_below k ms h.1))

-- ---- two keys

put_put_at : (o p : Ordering) (k l m : List ℕ) (u v d : Value) (ms : Members) → compare_keys k m ≡ o → compare_keys l m ≡ p → texts_equal k l ≡ false
    → put_member l v (put_member k u ms) ≡ put_member k u (put_member l v ms) → put_member l v (put_member k u (member m d ms)) ≡ put_member k u (put_member l v (member m d ms))
put_put_at Less Less k l m u v d ms e f n below = put_put_cases (compare_keys k l) refl
  where
    put_put_cases : (r : Ordering) → compare_keys k l ≡ r → put_member l v (put_member k u (member m d ms)) ≡ put_member k u (put_member l v (member m d ms))
    put_put_cases Less h = let g = order_back k l Less h in simp (e, f, g, h)
    put_put_cases Equal h = absurd (compare_not_equal k l n h)
    put_put_cases Greater h = let g = order_back k l Greater h in simp (e, f, g, h)
put_put_at Less Equal k l m u v d ms e f n below =
    let s : l ≡ m = order_same l m f in
    let g : compare_keys l k ≡ Greater = order_back k l Less (ap (compare_keys k) s ∙ e) in
    simp (e, f, g)
put_put_at Less Greater k l m u v d ms e f n below =
    let g : compare_keys l k ≡ Greater = order_back k l Less (nat_list_cmp_total.trans k m l e (order_back l m Greater f)) in
    simp (e, f, g)
put_put_at Equal Less k l m u v d ms e f n below =
    let s : k ≡ m = order_same k m e in
    let g : compare_keys k l ≡ Greater = order_back l k Less (ap (compare_keys l) s ∙ f) in
    simp (e, f, g)
put_put_at Equal Equal k l m u v d ms e f n below = absurd (compare_not_equal k l n (ap (compare_keys k) (order_same l m f) ∙ e))
put_put_at Equal Greater k l m u v d ms e f n below = simp (e, f)
put_put_at Greater Less k l m u v d ms e f n below =
    let g : compare_keys k l ≡ Greater = order_back l k Less (nat_list_cmp_total.trans l m k f (order_back k m Greater e)) in
    simp (e, f, g)
put_put_at Greater Equal k l m u v d ms e f n below = simp (e, f)
put_put_at Greater Greater k l m u v d ms e f n below = simp (e, f) (ap (member m d) below)

put_put_none : (o : Ordering) (k l : List ℕ) (u v : Value) → compare_keys k l ≡ o → texts_equal k l ≡ false → put_member l v (put_member k u no_members) ≡ put_member k u (put_member l v no_members)
put_put_none Less k l u v e n = let g = order_back k l Less e in simp (e, g)
put_put_none Equal k l u v e n = absurd (compare_not_equal k l n e)
put_put_none Greater k l u v e n = let g = order_back k l Greater e in simp (e, g)

pub put_put : (k l : List ℕ) (u v : Value) (ms : Members) → texts_equal k l ≡ false → put_member l v (put_member k u ms) ≡ put_member k u (put_member l v ms)
put_put k l u v no_members n = put_put_none (compare_keys k l) k l u v refl n
put_put k l u v (member m d ms) n = put_put_at (compare_keys k m) (compare_keys l m) k l m u v d ms refl refl n (put_put k l u v ms n)

without_without_at : (b c : Bool) (k l m : List ℕ) (d : Value) (ms : Members) → texts_equal k m ≡ b → texts_equal l m ≡ c → texts_equal k l ≡ false
    → without_member l (without_member k ms) ≡ without_member k (without_member l ms) → without_member l (without_member k (member m d ms)) ≡ without_member k (without_member l (member m d ms))
without_without_at true true k l m d ms e f n below = absurd (true≢false (sym (not_both k l m e f) ∙ n))
without_without_at true false k l m d ms e f n below = simp (e, f)
without_without_at false true k l m d ms e f n below = simp (e, f)
without_without_at false false k l m d ms e f n below = simp (e, f) (ap (member m d) below)

pub without_without : (k l : List ℕ) (ms : Members) → texts_equal k l ≡ false → without_member l (without_member k ms) ≡ without_member k (without_member l ms)
without_without k l no_members n = refl
without_without k l (member m d ms) n = without_without_at (texts_equal k m) (texts_equal l m) k l m d ms refl refl n (without_without k l ms n)

put_without_at : (o p : Ordering) (k l m : List ℕ) (u d : Value) (ms : Members) → compare_keys k m ≡ o → compare_keys l m ≡ p → texts_equal k l ≡ false → IsKeyBelowAll m ms
    → without_member l (put_member k u ms) ≡ put_member k u (without_member l ms) → without_member l (put_member k u (member m d ms)) ≡ put_member k u (without_member l (member m d ms))
put_without_at Less Less k l m u d ms e f n h below = let g = same_turned k l n in simp (e, f, g)
put_without_at Less Equal k l m u d ms e f n h below = let g = same_turned k l n in simp (e, f, g) (sym (put_below k u ms (below_all k m ms e h)))
put_without_at Less Greater k l m u d ms e f n h below = let g = same_turned k l n in simp (e, f, g)
put_without_at Equal Less k l m u d ms e f n h below = simp (e, f)
put_without_at Equal Equal k l m u d ms e f n h below = absurd (compare_not_equal k l n (ap (compare_keys k) (order_same l m f) ∙ e))
put_without_at Equal Greater k l m u d ms e f n h below = simp (e, f)
put_without_at Greater Less k l m u d ms e f n h below = simp (e, f) (ap (member m d) below)
put_without_at Greater Equal k l m u d ms e f n h below = simp (e, f)
put_without_at Greater Greater k l m u d ms e f n h below = simp (e, f) (ap (member m d) below)

pub put_without : (k l : List ℕ) (u : Value) (ms : Members) → HasSortedKeys ms → texts_equal k l ≡ false → without_member l (put_member k u ms) ≡ put_member k u (without_member l ms)
put_without k l u no_members w n = let g = same_turned k l n in simp g
put_without k l u (member m d ms) w n = put_without_at (compare_keys k m) (compare_keys l m) k l m u d ms refl refl n w.0 (put_without k l u ms w.1 n)

-- a key that is removed and set again
put_back_at : (o : Ordering) (k m : List ℕ) (u d : Value) (ms : Members) → compare_keys k m ≡ o → IsKeyBelowAll m ms → put_member k u (without_member k ms) ≡ put_member k u ms
    → put_member k u (without_member k (member m d ms)) ≡ put_member k u (member m d ms)
put_back_at Less k m u d ms e h below = simp e (ap (λ x. member k u (member m d x)) (without_below k ms (below_all k m ms e h)))
put_back_at Equal k m u d ms e h below =
    let s : k ≡ m = order_same k m e in
    simp e (put_below k u ms (subst (λ k. IsKeyBelowAll k ms) (sym s) h) ∙ ap (λ l. member l u ms) s)
put_back_at Greater k m u d ms e h below = simp e (ap (member m d) below)

pub put_back : (k : List ℕ) (u : Value) (ms : Members) → HasSortedKeys ms → put_member k u (without_member k ms) ≡ put_member k u ms
put_back k u no_members w = refl
put_back k u (member m d ms) w = put_back_at (compare_keys k m) k m u d ms refl w.0 (put_back k u ms w.1)

-- ---- pairs of acts

pub not_there : {G : Type 0} (k l : List ℕ) (ms : Members) → texts_equal k l ≡ true → member_at k ms ≡ None → IsSome (member_at l ms) → G
not_there k l ms s a b = absurd (none_not_some (member_at l ms) (ap (λ x. member_at x ms) (sym (equal_texts k l s)) ∙ a) b)
  where
    none_not_some : (o : Option Value) → o ≡ None → IsSome o → ⊥
    none_not_some None e h = cc
    none_not_some (Some x) e h = cc

-- both are unchanged
converge_unchanged : (s t : Side) (a b : PlainAct) (u x : Value) → transform_act s a b ≡ Some (a ∷ []) → transform_act t b a ≡ Some (b ∷ []) → apply_acts (a ∷ b ∷ []) u ≡ Some x → apply_acts (b ∷ a ∷ []) u ≡ Some x
    → ActsConverge s t u a b
converge_unchanged s t a b u x e f g h = record { left = a ∷ []; right = b ∷ []; result = x; on_left = e; on_right = f; by_left = g; by_right = h }

-- an act that sets key k to v
abbrev PutsMember : PlainAct → List ℕ → Value → Type 0
PutsMember a k v = (ms : Members) → apply_act a (object ms) ≡ Some (object (put_member k v ms))

puts_same : (a b : PlainAct) (k : List ℕ) (v z : Value) (ms : Members) → PutsMember a k v → PutsMember b k z → transform_act Left a b ≡ Some (or k z v ∷ []) → transform_act Right b a ≡ Some []
    → ActsConverge Left Right (object ms) a b
puts_same a b k v z ms pa pb e f = record {
  left = or k z v ∷ [];
  right = [];
  result = object (put_member k v ms);
  on_left = e;
  on_right = f;
  by_left = then_none a (object ms) (object (put_member k v ms)) (pa ms);
  by_right = then_one b (or k z v) (object ms) (object (put_member k z ms)) (object (put_member k v ms)) (pb ms) (ap (λ x. Some (object x)) (put_again k z v ms));
}

puts_other : (a b : PlainAct) (k l : List ℕ) (v z : Value) (ms : Members) → PutsMember a k v → PutsMember b l z → texts_equal k l ≡ false → transform_act Left a b ≡ Some (a ∷ []) → transform_act Right b a ≡ Some (b ∷ [])
    → ActsConverge Left Right (object ms) a b
puts_other a b k l v z ms pa pb n e f =
    converge_unchanged Left Right a b (object ms) (object (put_member k v (put_member l z ms))) e f
    (then_one a b (object ms) (object (put_member k v ms)) (object (put_member k v (put_member l z ms))) (pa ms) (pb (put_member k v ms) ∙ ap (λ x. Some (object x)) (put_put k l v z ms n)))
    (then_one b a (object ms) (object (put_member l z ms)) (object (put_member k v (put_member l z ms))) (pb ms) (pa (put_member l z ms)))

oi_oi : (c : Bool) (k l : List ℕ) (v z : Value) (ms : Members) → texts_equal k l ≡ c → ActsConverge Left Right (object ms) (oi k v) (oi l z)
oi_oi true k l v z ms e =
    subst (λ l. ActsConverge Left Right (object ms) (oi k v) (oi l z)) (equal_texts k l e)
    (puts_same (oi k v) (oi k z) k v z ms (λ _. refl) (λ _. refl) (rw (same_itself k)) (rw (same_itself k)))
oi_oi false k l v z ms e = puts_other (oi k v) (oi l z) k l v z ms (λ _. refl) (λ _. refl) e (rw (same_turned k l e)) (rw e)

oi_or : (c : Bool) (k l : List ℕ) (v w z : Value) (ms : Members) → texts_equal k l ≡ c → ActsConverge Left Right (object ms) (oi k v) (or l w z)
oi_or true k l v w z ms e =
    subst (λ l. ActsConverge Left Right (object ms) (oi k v) (or l w z)) (equal_texts k l e)
    (puts_same (oi k v) (or k w z) k v z ms (λ _. refl) (λ _. refl) (rw (same_itself k)) (rw (same_itself k)))
oi_or false k l v w z ms e = puts_other (oi k v) (or l w z) k l v z ms (λ _. refl) (λ _. refl) e (rw (same_turned k l e)) (rw e)

or_oi : (c : Bool) (k l : List ℕ) (x v z : Value) (ms : Members) → texts_equal k l ≡ c → ActsConverge Left Right (object ms) (or k x v) (oi l z)
or_oi true k l x v z ms e =
    subst (λ l. ActsConverge Left Right (object ms) (or k x v) (oi l z)) (equal_texts k l e)
    (puts_same (or k x v) (oi k z) k v z ms (λ _. refl) (λ _. refl) (rw (same_itself k)) (rw (same_itself k)))
or_oi false k l x v z ms e = puts_other (or k x v) (oi l z) k l v z ms (λ _. refl) (λ _. refl) e (rw (same_turned k l e)) (rw e)

or_or : (c : Bool) (k l : List ℕ) (x v w z : Value) (ms : Members) → texts_equal k l ≡ c → ActsConverge Left Right (object ms) (or k x v) (or l w z)
or_or true k l x v w z ms e =
    subst (λ l. ActsConverge Left Right (object ms) (or k x v) (or l w z)) (equal_texts k l e)
    (puts_same (or k x v) (or k w z) k v z ms (λ _. refl) (λ _. refl) (rw (same_itself k)) (rw (same_itself k)))
or_or false k l x v w z ms e = puts_other (or k x v) (or l w z) k l v z ms (λ _. refl) (λ _. refl) e (rw (same_turned k l e)) (rw e)

oi_od : (s t : Side) (c : Bool) (k l : List ℕ) (v w : Value) (ms : Members) → HasSortedKeys ms → texts_equal k l ≡ c → member_at k ms ≡ None → IsSome (member_at l ms)
    → ActsConverge s t (object ms) (oi k v) (od l w)
oi_od s t true k l v w ms wf e a b = not_there k l ms e a b
oi_od s t false k l v w ms wf e a b =
    converge_unchanged s t (oi k v) (od l w) (object ms) (object (put_member k v (without_member l ms))) refl refl (ap (λ x. Some (object x)) (put_without k l v ms wf e)) refl

or_od : (s t : Side) (c : Bool) (k l : List ℕ) (x v w : Value) (ms : Members) → HasSortedKeys ms → texts_equal k l ≡ c → ActsConverge s t (object ms) (or k x v) (od l w)
or_od s t true k l x v w ms wf e =
    subst (λ l. ActsConverge s t (object ms) (or k x v) (od l w)) (equal_texts k l e)
    (record {
      left = oi k v ∷ [];
      right = [];
      result = object (put_member k v ms);
      on_left = rw (same_itself k);
      on_right = rw (same_itself k);
      by_left = refl;
      by_right = ap (λ x. Some (object x)) (put_back k v ms wf);
    })
or_od s t false k l x v w ms wf e =
    converge_unchanged s t (or k x v) (od l w) (object ms) (object (put_member k v (without_member l ms))) (rw (same_turned k l e)) (rw e) (ap (λ x. Some (object x)) (put_without k l v ms wf e)) refl

od_od : (s t : Side) (c : Bool) (k l : List ℕ) (x w : Value) (ms : Members) → texts_equal k l ≡ c → ActsConverge s t (object ms) (od k x) (od l w)
od_od s t true k l x w ms e =
    subst (λ l. ActsConverge s t (object ms) (od k x) (od l w)) (equal_texts k l e)
    (record { left = []; right = []; result = object (without_member k ms); on_left = rw (same_itself k); on_right = rw (same_itself k); by_left = refl; by_right = refl })
od_od s t false k l x w ms e =
    converge_unchanged s t (od k x) (od l w) (object ms) (object (without_member k (without_member l ms))) (rw (same_turned k l e)) (rw e) (ap (λ x. Some (object x)) (without_without k l ms e)) refl

-- ---- all acts at one object

pub objects_meet : (ms : Members) (a b : PlainAct) (u v : Value) → HasSortedKeys ms → HasExpectedKey a (object ms) → HasExpectedKey b (object ms) → apply_act a (object ms) ≡ Some u → apply_act b (object ms) ≡ Some v
    → ActsConverge Left Right (object ms) a b
objects_meet ms (oi k x) (oi l z) u v wf f g h i = oi_oi (texts_equal k l) k l x z ms refl
objects_meet ms (oi k x) (or l z w) u v wf f g h i = oi_or (texts_equal k l) k l x z w ms refl
objects_meet ms (oi k x) (od l z) u v wf f g h i = oi_od Left Right (texts_equal k l) k l x z ms wf refl f g
objects_meet ms (or k x y) (oi l z) u v wf f g h i = or_oi (texts_equal k l) k l x y z ms refl
objects_meet ms (or k x y) (or l z w) u v wf f g h i = or_or (texts_equal k l) k l x y z w ms refl
objects_meet ms (or k x y) (od l z) u v wf f g h i = or_od Left Right (texts_equal k l) k l x y z ms wf refl
objects_meet ms (od k x) (oi l z) u v wf f g h i = acts_converge_symm Right Left (object ms) (oi l z) (od k x) (oi_od Right Left (texts_equal l k) l k z x ms wf refl g f)
objects_meet ms (od k x) (or l z w) u v wf f g h i = acts_converge_symm Right Left (object ms) (or l z w) (od k x) (or_od Right Left (texts_equal l k) l k z w x ms wf refl)
objects_meet ms (od k x) (od l z) u v wf f g h i = od_od Left Right (texts_equal k l) k l x z ms refl
objects_meet ms (oi k x) (na q) u v wf f g h i = cc
objects_meet ms (oi k x) (si q r) u v wf f g h i = cc
objects_meet ms (oi k x) (sd q r) u v wf f g h i = cc
objects_meet ms (oi k x) (li q r) u v wf f g h i = cc
objects_meet ms (oi k x) (ld q r) u v wf f g h i = cc
objects_meet ms (oi k x) (lr q r r2) u v wf f g h i = cc
objects_meet ms (or k x y) (na q) u v wf f g h i = cc
objects_meet ms (or k x y) (si q r) u v wf f g h i = cc
objects_meet ms (or k x y) (sd q r) u v wf f g h i = cc
objects_meet ms (or k x y) (li q r) u v wf f g h i = cc
objects_meet ms (or k x y) (ld q r) u v wf f g h i = cc
objects_meet ms (or k x y) (lr q r r2) u v wf f g h i = cc
objects_meet ms (od k x) (na q) u v wf f g h i = cc
objects_meet ms (od k x) (si q r) u v wf f g h i = cc
objects_meet ms (od k x) (sd q r) u v wf f g h i = cc
objects_meet ms (od k x) (li q r) u v wf f g h i = cc
objects_meet ms (od k x) (ld q r) u v wf f g h i = cc
objects_meet ms (od k x) (lr q r r2) u v wf f g h i = cc
objects_meet ms (na q) b u v wf f g h i = cc
objects_meet ms (si q r) b u v wf f g h i = cc
objects_meet ms (sd q r) b u v wf f g h i = cc
objects_meet ms (li q r) b u v wf f g h i = cc
objects_meet ms (ld q r) b u v wf f g h i = cc
objects_meet ms (lr q r r2) b u v wf f g h i = cc
