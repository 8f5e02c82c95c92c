-- A component inside the container of another.
use Rattle.std.proofs.Common.{◌≡◌, ℕ, zero, suc, ◌+◌, ◌<◌, ◌≤◌, List, [], ◌∷◌, Option, Some, None, option_and_then, Bool, true, false, ◌⊎◌, inl, inr, Ordering, Less, Equal, Greater, refl, sym, ap, ◌∙◌, subst, arith, true≢false}
use Rattle.std.specs.Prelude.{⊤}
use Rattle.sdb_value.specs.Value.{Value, null, truth, whole, text, list, object, Items, no_items, item, Members, no_members, member, PlainStep, key, index, item_count, item_at, set_item, member_at, set_member, texts_equal, put_member, without_member, child, with_child}
use Rattle.sdb_value.specs.WellFormed.{IsWellFormed, IsKeyBelowAll}
use Rattle.sdb_component.specs.Plain.{PlainAct, na, si, sd, li, ld, lr, oi, od, or}
use Rattle.sdb_apply.specs.Apply.{apply_act}
use Rattle.sdb_transform.specs.Transform.{strip_prefix, transform_step, removed_step, map_removed}
use Rattle.sdb_transform.specs.Convergence.{HasExpectedKey, StepStaysInRange, IsSafeInteger}
use Rattle.sdb_value.specs.laws.PathLaws.{set_item_set_item}
use Rattle.sdb_value.proofs.DisjointLemmas.{item_other, item_exchange, equal_texts, same_itself, not_both}
use Rattle.sdb_transform.proofs.ConvergeLists.{inserted_at, deleted_at, ins_set, set_ins, del_set, set_del, del_same, li_does, ld_does, lr_does, li_fits, ld_fits, lr_fits, count_set, le_true, lt_true, le_false, lt_false, eq_true, eq_false, le_or_lt, trichotomy, one_more, less_one}
use Rattle.sdb_transform.proofs.ConvergeObjects.{compare_keys, order_same, below_all, same_turned, HasSortedKeys, sorted_of_formed}

-- the rest of a path that begins with step t, inside the value that a removes
abbrev pub lies_under : PlainAct → PlainStep → List PlainStep → Option (List PlainStep)
lies_under a t q = option_and_then (λ s. strip_prefix (s ∷ []) (t ∷ q)) (removed_step a)

-- a makes u1 of u and moves the value c from step t to another step, for any value written there
pub record ShiftsStep (a : PlainAct) (t : PlainStep) (u u1 c : Value) : Type 0 where
  pub to : PlainStep
  pub step : transform_step a t ≡ Some (Some to)
  pub kept : (q : List PlainStep) → lies_under a t q ≡ None
  pub there : child to u1 ≡ Some c
  pub carries : (v : Value) → apply_act a (with_child t u v) ≡ Some (with_child to u1 v)

-- a removes the value at the step, for any value written there
pub record DropsStep (a : PlainAct) (t : PlainStep) (u u1 : Value) : Type 0 where
  pub step : transform_step a t ≡ Some None
  pub under : (q : List PlainStep) → lies_under a t q ≡ Some q
  pub loses : (f : Value → Value) (v : Value) → apply_act (map_removed f a) (with_child t u v) ≡ Some u1

abbrev pub ShiftsOrDrops : PlainAct → PlainStep → Value → Value → Value → Type 0
ShiftsOrDrops a t u u1 c = ShiftsStep a t u u1 c ⊎ DropsStep a t u u1

-- ---- items

at_ins : (i j : ℕ) (v c : Value) (ds : Items) → i ≤ j → item_at j ds ≡ Some c → item_at (suc j) (inserted_at i v ds) ≡ Some c
at_ins i j v c no_items h e = cc
at_ins zero j v c (item d ds) h e = e
at_ins (suc i) zero v c (item d ds) h e = absurd (omega (arith, h))
at_ins (suc i) (suc j) v c (item d ds) h e = at_ins i j v c ds (omega (arith, h)) e

at_ins_before : (i j : ℕ) (v : Value) (ds : Items) → j < i → item_at j (inserted_at i v ds) ≡ item_at j ds
at_ins_before zero j v ds h = absurd (omega (arith, h))
at_ins_before (suc i) j v no_items h = refl
at_ins_before (suc i) zero v (item d ds) h = refl
at_ins_before (suc i) (suc j) v (item d ds) h = at_ins_before i j v ds (omega (arith, h))

at_del : (i j : ℕ) (ds : Items) → i ≤ j → item_at j (deleted_at i ds) ≡ item_at (suc j) ds
at_del i j no_items h = refl
at_del zero j (item d ds) h = refl
at_del (suc i) zero (item d ds) h = absurd (omega (arith, h))
at_del (suc i) (suc j) (item d ds) h = at_del i j ds (omega (arith, h))

at_del_before : (i j : ℕ) (ds : Items) → j < i → item_at j (deleted_at i ds) ≡ item_at j ds
at_del_before i j no_items h = refl
at_del_before zero j (item d ds) h = absurd (omega (arith, h))
at_del_before (suc i) zero (item d ds) h = refl
at_del_before (suc i) (suc j) (item d ds) h = at_del_before i j ds (omega (arith, h))

under_li : (i j : ℕ) (x c : Value) (ds : Items) → i ≤ item_count ds → item_at j ds ≡ Some c → (i ≤ j → IsSafeInteger (j + 1)) → ShiftsOrDrops (li i x) (index j) (list ds) (list (inserted_at i x ds)) c
under_li i j x c ds h e m =
    elim (le_or_lt i j) [
      | inl l ↦ inl (record {
        to = index (suc j);
        step = rw (le_true i j l, le_true (j + 1) 9007199254740991 (m l), one_more j);
        kept = λ q. refl;
        there = at_ins i j x c ds l e;
        carries = λ v. li_does i x (set_item j ds v) (omega (arith, h, count_set j v ds)) ∙ ap (λ z. Some (list z)) (sym (ins_set i j x v ds l));
      })
      | inr g ↦ inl (record {
        to = index j;
        step = rw (le_false i j g);
        kept = λ q. refl;
        there = at_ins_before i j x ds g ∙ e;
        carries = λ v. li_does i x (set_item j ds v) (omega (arith, h, count_set j v ds)) ∙ ap (λ z. Some (list z)) (sym (set_ins i j x v ds g));
      })
    ]

not_removed : (i j : ℕ) (q : List PlainStep) → (i ≡ j → ⊥) → strip_prefix (index i ∷ []) (index j ∷ q) ≡ None
not_removed i j q n = rw (eq_false i j n)

is_removed : (i : ℕ) (q : List PlainStep) → strip_prefix (index i ∷ []) (index i ∷ q) ≡ Some q
is_removed i q = rw (eq_true i i refl)

under_ld_behind : (i j : ℕ) (x c : Value) (ds : Items) → i ≤ j → i < item_count ds → item_at (suc j) ds ≡ Some c → ShiftsOrDrops (ld i x) (index (suc j)) (list ds) (list (deleted_at i ds)) c
under_ld_behind i j x c ds l h e = inl (record {
  to = index j;
  step = rw (lt_true i (suc j) (omega (arith, l)), less_one j);
  kept = λ q. not_removed i (suc j) q (λ s. omega (arith, l, s));
  there = at_del i j ds l ∙ e;
  carries = λ v. ld_does i x (set_item (suc j) ds v) (omega (arith, h, count_set (suc j) v ds)) ∙ ap (λ z. Some (list z)) (sym (del_set i j v ds l));
})

under_ld_after : (i j : ℕ) (x c : Value) (ds : Items) → i < j → i < item_count ds → item_at j ds ≡ Some c → ShiftsOrDrops (ld i x) (index j) (list ds) (list (deleted_at i ds)) c
under_ld_after i zero x c ds l h e = absurd (omega (arith, l))
under_ld_after i (suc j) x c ds l h e = under_ld_behind i j x c ds (omega (arith, l)) h e

under_ld_same : (i : ℕ) (x c : Value) (ds : Items) → i < item_count ds → ShiftsOrDrops (ld i x) (index i) (list ds) (list (deleted_at i ds)) c
under_ld_same i x c ds h = inr (record {
  step = rw (lt_false i i (omega arith), eq_true i i refl);
  under = λ q. is_removed i q;
  loses = λ f v. ld_does i (f x) (set_item i ds v) (omega (arith, h, count_set i v ds)) ∙ ap (λ z. Some (list z)) (del_same i v ds);
})

under_ld : (i j : ℕ) (x c : Value) (ds : Items) → i < item_count ds → item_at j ds ≡ Some c → ShiftsOrDrops (ld i x) (index j) (list ds) (list (deleted_at i ds)) c
under_ld i j x c ds h e =
    elim (trichotomy i j) [
      | inl l ↦ under_ld_after i j x c ds l h e
      | inr (inl s) ↦ subst (λ j. ShiftsOrDrops (ld i x) (index j) (list ds) (list (deleted_at i ds)) c) s (under_ld_same i x c ds h)
      | inr (inr g) ↦ inl (record {
        to = index j;
        step = rw (lt_false i j (omega (arith, g)), eq_false i j (λ s. omega (arith, g, s)));
        kept = λ q. not_removed i j q (λ s. omega (arith, g, s));
        there = at_del_before i j ds g ∙ e;
        carries = λ v. ld_does i x (set_item j ds v) (omega (arith, h, count_set j v ds)) ∙ ap (λ z. Some (list z)) (sym (set_del i j v ds g));
      })
    ]

under_lr_other : (i j : ℕ) (x y c : Value) (ds : Items) → (i ≡ j → ⊥) → i < item_count ds → item_at j ds ≡ Some c → ShiftsOrDrops (lr i x y) (index j) (list ds) (list (set_item i ds y)) c
under_lr_other i j x y c ds n h e = inl (record {
  to = index j;
  step = rw (eq_false i j n);
  kept = λ q. not_removed i j q n;
  there = item_other i j ds y n ∙ e;
  carries = λ v. lr_does i x y (set_item j ds v) (omega (arith, h, count_set j v ds)) ∙ ap (λ z. Some (list z)) (sym (item_exchange i j ds y v n));
})

under_lr_same : (i : ℕ) (x y c : Value) (ds : Items) → i < item_count ds → ShiftsOrDrops (lr i x y) (index i) (list ds) (list (set_item i ds y)) c
under_lr_same i x y c ds h = inr (record {
  step = rw (eq_true i i refl);
  under = λ q. is_removed i q;
  loses = λ f v. lr_does i (f x) y (set_item i ds v) (omega (arith, h, count_set i v ds)) ∙ ap (λ z. Some (list z)) (set_item_set_item i ds v y);
})

under_lr : (i j : ℕ) (x y c : Value) (ds : Items) → i < item_count ds → item_at j ds ≡ Some c → ShiftsOrDrops (lr i x y) (index j) (list ds) (list (set_item i ds y)) c
under_lr i j x y c ds h e =
    elim (trichotomy i j) [
      | inl l ↦ under_lr_other i j x y c ds (λ s. omega (arith, l, s)) h e
      | inr (inl s) ↦ subst (λ j. ShiftsOrDrops (lr i x y) (index j) (list ds) (list (set_item i ds y)) c) s (under_lr_same i x y c ds h)
      | inr (inr g) ↦ under_lr_other i j x y c ds (λ s. omega (arith, g, s)) h e
    ]

-- ---- members

put_set_at : (o : Ordering) (b : Bool) (k l m : List ℕ) (v w d : Value) (ms : Members) → compare_keys k m ≡ o → texts_equal l m ≡ b → texts_equal k l ≡ false
    → put_member k v (set_member l ms w) ≡ set_member l (put_member k v ms) w → put_member k v (set_member l (member m d ms) w) ≡ set_member l (put_member k v (member m d ms)) w
put_set_at Less true k l m v w d ms e f n below = let g = same_turned k l n in simp (e, f, g)
put_set_at Less false k l m v w d ms e f n below = let g = same_turned k l n in simp (e, f, g)
put_set_at Equal true k l m v w d ms e f n below = absurd (true≢false (sym (same_itself k) ∙ ap (texts_equal k) (order_same k m e ∙ sym (equal_texts l m f)) ∙ n))
put_set_at Equal false k l m v w d ms e f n below = simp (e, f)
put_set_at Greater true k l m v w d ms e f n below = simp (e, f)
put_set_at Greater false k l m v w d ms e f n below = simp (e, f) (ap (member m d) below)

put_set : (k l : List ℕ) (v w : Value) (ms : Members) → texts_equal k l ≡ false → put_member k v (set_member l ms w) ≡ set_member l (put_member k v ms) w
put_set k l v w no_members n = let g = same_turned k l n in simp g
put_set k l v w (member m d ms) n = put_set_at (compare_keys k m) (texts_equal l m) k l m v w d ms refl refl n (put_set k l v w ms n)

at_put_at : (o : Ordering) (b : Bool) (k l m : List ℕ) (v d : Value) (ms : Members) → compare_keys k m ≡ o → texts_equal l m ≡ b → texts_equal k l ≡ false
    → member_at l (put_member k v ms) ≡ member_at l ms → member_at l (put_member k v (member m d ms)) ≡ member_at l (member m d ms)
at_put_at Less b k l m v d ms e f n below = let g = same_turned k l n in simp (e, f, g)
at_put_at Equal true k l m v d ms e f n below = absurd (true≢false (sym (same_itself k) ∙ ap (texts_equal k) (order_same k m e ∙ sym (equal_texts l m f)) ∙ n))
at_put_at Equal false k l m v d ms e f n below = simp (e, f)
at_put_at Greater true k l m v d ms e f n below = simp (e, f)
at_put_at Greater false k l m v d ms e f n below = simp (e, f) below

pub at_put : (k l : List ℕ) (v : Value) (ms : Members) → texts_equal k l ≡ false → member_at l (put_member k v ms) ≡ member_at l ms
at_put k l v no_members n = let g = same_turned k l n in simp g
at_put k l v (member m d ms) n = at_put_at (compare_keys k m) (texts_equal l m) k l m v d ms refl refl n (at_put k l v ms n)

without_set_at : (b c : Bool) (k l m : List ℕ) (w d : Value) (ms : Members) → texts_equal k m ≡ b → texts_equal l m ≡ c → texts_equal k l ≡ false
    → without_member k (set_member l ms w) ≡ set_member l (without_member k ms) w → without_member k (set_member l (member m d ms) w) ≡ set_member l (without_member k (member m d ms)) w
without_set_at true true k l m w d ms e f n below = absurd (true≢false (sym (not_both k l m e f) ∙ n))
without_set_at true false k l m w d ms e f n below = simp (e, f)
without_set_at false true k l m w d ms e f n below = simp (e, f)
without_set_at false false k l m w d ms e f n below = simp (e, f) (ap (member m d) below)

without_set : (k l : List ℕ) (w : Value) (ms : Members) → texts_equal k l ≡ false → without_member k (set_member l ms w) ≡ set_member l (without_member k ms) w
without_set k l w no_members n = refl
without_set k l w (member m d ms) n = without_set_at (texts_equal k m) (texts_equal l m) k l m w d ms refl refl n (without_set k l w ms n)

at_without_at : (b c : Bool) (k l m : List ℕ) (d : Value) (ms : Members) → texts_equal k m ≡ b → texts_equal l m ≡ c → texts_equal k l ≡ false
    → member_at l (without_member k ms) ≡ member_at l ms → member_at l (without_member k (member m d ms)) ≡ member_at l (member m d ms)
at_without_at true true k l m d ms e f n below = absurd (true≢false (sym (not_both k l m e f) ∙ n))
at_without_at true false k l m d ms e f n below = simp (e, f)
at_without_at false true k l m d ms e f n below = simp (e, f)
at_without_at false false k l m d ms e f n below = simp (e, f) below

pub at_without : (k l : List ℕ) (ms : Members) → texts_equal k l ≡ false → member_at l (without_member k ms) ≡ member_at l ms
at_without k l no_members n = refl
at_without k l (member m d ms) n = at_without_at (texts_equal k m) (texts_equal l m) k l m d ms refl refl n (at_without k l ms n)

-- a member that is written, and then removed or set
without_written_at : (b : Bool) (k m : List ℕ) (w d : Value) (ms : Members) → texts_equal k m ≡ b → without_member k (set_member k ms w) ≡ without_member k ms
    → without_member k (set_member k (member m d ms) w) ≡ without_member k (member m d ms)
without_written_at true k m w d ms e below = simp e
without_written_at false k m w d ms e below = simp e (ap (member m d) below)

without_written : (k : List ℕ) (w : Value) (ms : Members) → without_member k (set_member k ms w) ≡ without_member k ms
without_written k w no_members = refl
without_written k w (member m d ms) = without_written_at (texts_equal k m) k m w d ms refl (without_written k w ms)

set_below : (k : List ℕ) (w : Value) (ms : Members) → IsKeyBelowAll k ms → set_member k ms w ≡ ms
set_below k w no_members h = refl
set_below k w (member l d ms) h = rw (h.0) (ap (member l d) (set_below k w ms h.1))

put_written_at : (o : Ordering) (k m : List ℕ) (v w d : Value) (ms : Members) → compare_keys k m ≡ o → IsKeyBelowAll m ms → put_member k v (set_member k ms w) ≡ put_member k v ms
    → put_member k v (set_member k (member m d ms) w) ≡ put_member k v (member m d ms)
put_written_at Less k m v w d ms e h below = simp e (ap (λ z. member k v (member m d z)) (set_below k w ms (below_all k m ms e h)))
put_written_at Equal k m v w d ms e h below = simp e
put_written_at Greater k m v w d ms e h below = simp e (ap (member m d) below)

put_written : (k : List ℕ) (v w : Value) (ms : Members) → HasSortedKeys ms → put_member k v (set_member k ms w) ≡ put_member k v ms
put_written k v w no_members h = refl
put_written k v w (member m d ms) h = put_written_at (compare_keys k m) k m v w d ms refl h.0 (put_written k v w ms h.1)

member_at_absent : (b : Bool) (k l : List ℕ) (c : Value) (ms : Members) → texts_equal k l ≡ b → member_at k ms ≡ None → member_at l ms ≡ Some c → b ≡ false
member_at_absent false k l c ms e f g = refl
member_at_absent true k l c ms e f g = let h : None ≡ Some c = sym f ∙ ap (λ x. member_at x ms) (equal_texts k l e) ∙ g in cc

under_oi : (k l : List ℕ) (x c : Value) (ms : Members) → member_at k ms ≡ None → member_at l ms ≡ Some c → ShiftsOrDrops (oi k x) (key l) (object ms) (object (put_member k x ms)) c
under_oi k l x c ms n e =
    let f = member_at_absent (texts_equal k l) k l c ms refl n e in
    inl (record {
      to = key l;
      step = refl;
      kept = λ q. refl;
      there = at_put k l x ms f ∙ e;
      carries = λ v. ap (λ z. Some (object z)) (put_set k l x v ms f);
    })

under_od : (b : Bool) (k l : List ℕ) (x c : Value) (ms : Members) → texts_equal k l ≡ b → member_at l ms ≡ Some c → ShiftsOrDrops (od k x) (key l) (object ms) (object (without_member k ms)) c
under_od true k l x c ms f e =
    subst (λ l. ShiftsOrDrops (od k x) (key l) (object ms) (object (without_member k ms)) c) (equal_texts k l f)
    (inr (record {
      step = rw (same_itself k);
      under = λ q. rw (same_itself k);
      loses = λ g v. ap (λ z. Some (object z)) (without_written k v ms);
    }))
under_od false k l x c ms f e =
    inl (record {
      to = key l;
      step = rw f;
      kept = λ q. rw f;
      there = at_without k l ms f ∙ e;
      carries = λ v. ap (λ z. Some (object z)) (without_set k l v ms f);
    })

under_or : (b : Bool) (k l : List ℕ) (x y c : Value) (ms : Members) → HasSortedKeys ms → texts_equal k l ≡ b → member_at l ms ≡ Some c → ShiftsOrDrops (or k x y) (key l) (object ms) (object (put_member k y ms)) c
under_or true k l x y c ms wf f e =
    subst (λ l. ShiftsOrDrops (or k x y) (key l) (object ms) (object (put_member k y ms)) c) (equal_texts k l f)
    (inr (record {
      step = rw (same_itself k);
      under = λ q. rw (same_itself k);
      loses = λ g v. ap (λ z. Some (object z)) (put_written k y v ms wf);
    }))
under_or false k l x y c ms wf f e =
    inl (record {
      to = key l;
      step = rw f;
      kept = λ q. rw f;
      there = at_put k l y ms f ∙ e;
      carries = λ v. ap (λ z. Some (object z)) (put_set k l y v ms f);
    })

-- ---- all acts

-- the keys are sorted, if it is an object
abbrev pub IsSortedHere : Value → Type 0
IsSortedHere (object ms) = HasSortedKeys ms
IsSortedHere _ = ⊤

pub sorted_here : (u : Value) → IsWellFormed u → IsSortedHere u
sorted_here (object ms) h = sorted_of_formed ms h
sorted_here null h = tt
sorted_here (truth b) h = tt
sorted_here (whole n) h = tt
sorted_here (text t) h = tt
sorted_here (list ds) h = tt

same_some : {X : Type 0} (a b : X) → Some a ≡ Some b → a ≡ b
same_some a b e = cc

to_result : (a : PlainAct) (t : PlainStep) (u v u1 c : Value) → Some v ≡ Some u1 → ShiftsOrDrops a t u v c → ShiftsOrDrops a t u u1 c
to_result a t u v u1 c e h = subst (λ x. ShiftsOrDrops a t u x c) (same_some v u1 e) h

pub shifts_or_drops : (a : PlainAct) (t : PlainStep) (u u1 c : Value) → IsSortedHere u → HasExpectedKey a u → StepStaysInRange a t → apply_act a u ≡ Some u1 → child t u ≡ Some c → ShiftsOrDrops a t u u1 c
shifts_or_drops (li i x) (index j) (list ds) u1 c wf md m h e =
    let f = li_fits i x ds u1 h in to_result (li i x) (index j) (list ds) (list (inserted_at i x ds)) u1 c (sym (li_does i x ds f) ∙ h) (under_li i j x c ds f e m)
shifts_or_drops (ld i x) (index j) (list ds) u1 c wf md m h e =
    let f = ld_fits i x ds u1 h in to_result (ld i x) (index j) (list ds) (list (deleted_at i ds)) u1 c (sym (ld_does i x ds f) ∙ h) (under_ld i j x c ds f e)
shifts_or_drops (lr i x y) (index j) (list ds) u1 c wf md m h e =
    let f = lr_fits i x y ds u1 h in to_result (lr i x y) (index j) (list ds) (list (set_item i ds y)) u1 c (sym (lr_does i x y ds f) ∙ h) (under_lr i j x y c ds f e)
shifts_or_drops (oi k x) (key l) (object ms) u1 c wf md m h e = to_result (oi k x) (key l) (object ms) (object (put_member k x ms)) u1 c h (under_oi k l x c ms md e)
shifts_or_drops (od k x) (key l) (object ms) u1 c wf md m h e = to_result (od k x) (key l) (object ms) (object (without_member k ms)) u1 c h (under_od (texts_equal k l) k l x c ms refl e)
shifts_or_drops (or k x y) (key l) (object ms) u1 c wf md m h e = to_result (or k x y) (key l) (object ms) (object (put_member k y ms)) u1 c h (under_or (texts_equal k l) k l x y c ms wf refl e)
shifts_or_drops (na a0) (index t0) null u1 c wf md m h e = cc
shifts_or_drops (na a0) (index t0) (truth b0) u1 c wf md m h e = cc
shifts_or_drops (na a0) (index t0) (whole b0) u1 c wf md m h e = cc
shifts_or_drops (na a0) (index t0) (text b0) u1 c wf md m h e = cc
shifts_or_drops (na a0) (index t0) (list b0) u1 c wf md m h e = cc
shifts_or_drops (na a0) (index t0) (object b0) u1 c wf md m h e = cc
shifts_or_drops (na a0) (key t0) null u1 c wf md m h e = cc
shifts_or_drops (na a0) (key t0) (truth b0) u1 c wf md m h e = cc
shifts_or_drops (na a0) (key t0) (whole b0) u1 c wf md m h e = cc
shifts_or_drops (na a0) (key t0) (text b0) u1 c wf md m h e = cc
shifts_or_drops (na a0) (key t0) (list b0) u1 c wf md m h e = cc
shifts_or_drops (na a0) (key t0) (object b0) u1 c wf md m h e = cc
shifts_or_drops (si a0 a1) (index t0) null u1 c wf md m h e = cc
shifts_or_drops (si a0 a1) (index t0) (truth b0) u1 c wf md m h e = cc
shifts_or_drops (si a0 a1) (index t0) (whole b0) u1 c wf md m h e = cc
shifts_or_drops (si a0 a1) (index t0) (text b0) u1 c wf md m h e = cc
shifts_or_drops (si a0 a1) (index t0) (list b0) u1 c wf md m h e = cc
shifts_or_drops (si a0 a1) (index t0) (object b0) u1 c wf md m h e = cc
shifts_or_drops (si a0 a1) (key t0) null u1 c wf md m h e = cc
shifts_or_drops (si a0 a1) (key t0) (truth b0) u1 c wf md m h e = cc
shifts_or_drops (si a0 a1) (key t0) (whole b0) u1 c wf md m h e = cc
shifts_or_drops (si a0 a1) (key t0) (text b0) u1 c wf md m h e = cc
shifts_or_drops (si a0 a1) (key t0) (list b0) u1 c wf md m h e = cc
shifts_or_drops (si a0 a1) (key t0) (object b0) u1 c wf md m h e = cc
shifts_or_drops (sd a0 a1) (index t0) null u1 c wf md m h e = cc
shifts_or_drops (sd a0 a1) (index t0) (truth b0) u1 c wf md m h e = cc
shifts_or_drops (sd a0 a1) (index t0) (whole b0) u1 c wf md m h e = cc
shifts_or_drops (sd a0 a1) (index t0) (text b0) u1 c wf md m h e = cc
shifts_or_drops (sd a0 a1) (index t0) (list b0) u1 c wf md m h e = cc
shifts_or_drops (sd a0 a1) (index t0) (object b0) u1 c wf md m h e = cc
shifts_or_drops (sd a0 a1) (key t0) null u1 c wf md m h e = cc
shifts_or_drops (sd a0 a1) (key t0) (truth b0) u1 c wf md m h e = cc
shifts_or_drops (sd a0 a1) (key t0) (whole b0) u1 c wf md m h e = cc
shifts_or_drops (sd a0 a1) (key t0) (text b0) u1 c wf md m h e = cc
shifts_or_drops (sd a0 a1) (key t0) (list b0) u1 c wf md m h e = cc
shifts_or_drops (sd a0 a1) (key t0) (object b0) u1 c wf md m h e = cc
shifts_or_drops (li a0 a1) (index t0) null u1 c wf md m h e = cc
shifts_or_drops (li a0 a1) (index t0) (truth b0) u1 c wf md m h e = cc
shifts_or_drops (li a0 a1) (index t0) (whole b0) u1 c wf md m h e = cc
shifts_or_drops (li a0 a1) (index t0) (text b0) u1 c wf md m h e = cc
shifts_or_drops (li a0 a1) (index t0) (object b0) u1 c wf md m h e = cc
shifts_or_drops (li a0 a1) (key t0) null u1 c wf md m h e = cc
shifts_or_drops (li a0 a1) (key t0) (truth b0) u1 c wf md m h e = cc
shifts_or_drops (li a0 a1) (key t0) (whole b0) u1 c wf md m h e = cc
shifts_or_drops (li a0 a1) (key t0) (text b0) u1 c wf md m h e = cc
shifts_or_drops (li a0 a1) (key t0) (list b0) u1 c wf md m h e = cc
shifts_or_drops (li a0 a1) (key t0) (object b0) u1 c wf md m h e = cc
shifts_or_drops (ld a0 a1) (index t0) null u1 c wf md m h e = cc
shifts_or_drops (ld a0 a1) (index t0) (truth b0) u1 c wf md m h e = cc
shifts_or_drops (ld a0 a1) (index t0) (whole b0) u1 c wf md m h e = cc
shifts_or_drops (ld a0 a1) (index t0) (text b0) u1 c wf md m h e = cc
shifts_or_drops (ld a0 a1) (index t0) (object b0) u1 c wf md m h e = cc
shifts_or_drops (ld a0 a1) (key t0) null u1 c wf md m h e = cc
shifts_or_drops (ld a0 a1) (key t0) (truth b0) u1 c wf md m h e = cc
shifts_or_drops (ld a0 a1) (key t0) (whole b0) u1 c wf md m h e = cc
shifts_or_drops (ld a0 a1) (key t0) (text b0) u1 c wf md m h e = cc
shifts_or_drops (ld a0 a1) (key t0) (list b0) u1 c wf md m h e = cc
shifts_or_drops (ld a0 a1) (key t0) (object b0) u1 c wf md m h e = cc
shifts_or_drops (lr a0 a1 a2) (index t0) null u1 c wf md m h e = cc
shifts_or_drops (lr a0 a1 a2) (index t0) (truth b0) u1 c wf md m h e = cc
shifts_or_drops (lr a0 a1 a2) (index t0) (whole b0) u1 c wf md m h e = cc
shifts_or_drops (lr a0 a1 a2) (index t0) (text b0) u1 c wf md m h e = cc
shifts_or_drops (lr a0 a1 a2) (index t0) (object b0) u1 c wf md m h e = cc
shifts_or_drops (lr a0 a1 a2) (key t0) null u1 c wf md m h e = cc
shifts_or_drops (lr a0 a1 a2) (key t0) (truth b0) u1 c wf md m h e = cc
shifts_or_drops (lr a0 a1 a2) (key t0) (whole b0) u1 c wf md m h e = cc
shifts_or_drops (lr a0 a1 a2) (key t0) (text b0) u1 c wf md m h e = cc
shifts_or_drops (lr a0 a1 a2) (key t0) (list b0) u1 c wf md m h e = cc
shifts_or_drops (lr a0 a1 a2) (key t0) (object b0) u1 c wf md m h e = cc
shifts_or_drops (oi a0 a1) (index t0) null u1 c wf md m h e = cc
shifts_or_drops (oi a0 a1) (index t0) (truth b0) u1 c wf md m h e = cc
shifts_or_drops (oi a0 a1) (index t0) (whole b0) u1 c wf md m h e = cc
shifts_or_drops (oi a0 a1) (index t0) (text b0) u1 c wf md m h e = cc
shifts_or_drops (oi a0 a1) (index t0) (list b0) u1 c wf md m h e = cc
shifts_or_drops (oi a0 a1) (index t0) (object b0) u1 c wf md m h e = cc
shifts_or_drops (oi a0 a1) (key t0) null u1 c wf md m h e = cc
shifts_or_drops (oi a0 a1) (key t0) (truth b0) u1 c wf md m h e = cc
shifts_or_drops (oi a0 a1) (key t0) (whole b0) u1 c wf md m h e = cc
shifts_or_drops (oi a0 a1) (key t0) (text b0) u1 c wf md m h e = cc
shifts_or_drops (oi a0 a1) (key t0) (list b0) u1 c wf md m h e = cc
shifts_or_drops (od a0 a1) (index t0) null u1 c wf md m h e = cc
shifts_or_drops (od a0 a1) (index t0) (truth b0) u1 c wf md m h e = cc
shifts_or_drops (od a0 a1) (index t0) (whole b0) u1 c wf md m h e = cc
shifts_or_drops (od a0 a1) (index t0) (text b0) u1 c wf md m h e = cc
shifts_or_drops (od a0 a1) (index t0) (list b0) u1 c wf md m h e = cc
shifts_or_drops (od a0 a1) (index t0) (object b0) u1 c wf md m h e = cc
shifts_or_drops (od a0 a1) (key t0) null u1 c wf md m h e = cc
shifts_or_drops (od a0 a1) (key t0) (truth b0) u1 c wf md m h e = cc
shifts_or_drops (od a0 a1) (key t0) (whole b0) u1 c wf md m h e = cc
shifts_or_drops (od a0 a1) (key t0) (text b0) u1 c wf md m h e = cc
shifts_or_drops (od a0 a1) (key t0) (list b0) u1 c wf md m h e = cc
shifts_or_drops (or a0 a1 a2) (index t0) null u1 c wf md m h e = cc
shifts_or_drops (or a0 a1 a2) (index t0) (truth b0) u1 c wf md m h e = cc
shifts_or_drops (or a0 a1 a2) (index t0) (whole b0) u1 c wf md m h e = cc
shifts_or_drops (or a0 a1 a2) (index t0) (text b0) u1 c wf md m h e = cc
shifts_or_drops (or a0 a1 a2) (index t0) (list b0) u1 c wf md m h e = cc
shifts_or_drops (or a0 a1 a2) (index t0) (object b0) u1 c wf md m h e = cc
shifts_or_drops (or a0 a1 a2) (key t0) null u1 c wf md m h e = cc
shifts_or_drops (or a0 a1 a2) (key t0) (truth b0) u1 c wf md m h e = cc
shifts_or_drops (or a0 a1 a2) (key t0) (whole b0) u1 c wf md m h e = cc
shifts_or_drops (or a0 a1 a2) (key t0) (text b0) u1 c wf md m h e = cc
shifts_or_drops (or a0 a1 a2) (key t0) (list b0) u1 c wf md m h e = cc
