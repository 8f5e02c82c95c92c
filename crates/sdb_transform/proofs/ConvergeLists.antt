-- Concurrent acts at one list.
use Rattle.std.proofs.Common.{◌≡◌, ℕ, zero, suc, ◌+◌, ◌-◌, ◌<◌, ◌≤◌, [], ◌∷◌, Some, None, option_map, Bool, true, false, eqb, ltb, leb, ◌⊎◌, inl, inr, refl, sym, ap, ◌∙◌, subst, arith}
use Rattle.std.specs.Prelude.{if◌then◌else◌}
use Rattle.std.proofs.lemmas.Bool.Decides.{nat_tests}
use Rattle.sdb_value.specs.Value.{Value, list, Items, no_items, item, item_count, take_items, drop_items, append_items, set_item}
use Rattle.sdb_value.specs.laws.PathLaws.{set_item_set_item}
use Rattle.sdb_value.proofs.DisjointLemmas.{item_exchange}
use Rattle.sdb_component.specs.Plain.{PlainAct, na, si, sd, li, ld, lr, oi, od, or}
use Rattle.sdb_apply.specs.Apply.{apply_act}
use Rattle.sdb_transform.specs.declared.side.Side.{Side}
use Rattle.sdb_transform.specs.declared.side.Side.TheVariants.{Left, Right}
use Rattle.sdb_transform.specs.Transform.{transform_act}
use Rattle.sdb_transform.proofs.ConvergeActs.{ActsConverge, then_one, then_none, acts_converge_symm}
use Rattle.sdb_transform.specs.Convergence.{ActStaysInRange, IsSafeInteger}

-- ---- insert and removal by recursion, without effect after the end

abbrev pub inserted_at : ℕ → Value → Items → Items
inserted_at zero v ds = item v ds
inserted_at (suc i) v no_items = no_items
inserted_at (suc i) v (item d ds) = item d (inserted_at i v ds)

abbrev pub deleted_at : ℕ → Items → Items
deleted_at i no_items = no_items
deleted_at zero (item d ds) = ds
deleted_at (suc i) (item d ds) = item d (deleted_at i ds)

ins_is : (i : ℕ) (v : Value) (ds : Items) → i ≤ item_count ds → append_items (take_items i ds) (item v (drop_items i ds)) ≡ inserted_at i v ds
ins_is zero v ds h = refl
ins_is (suc i) v no_items h = absurd (omega (arith, h))
ins_is (suc i) v (item d ds) h = ap (item d) (ins_is i v ds (omega (arith, h)))

del_is : (i : ℕ) (ds : Items) → i < item_count ds → append_items (take_items i ds) (drop_items (suc i) ds) ≡ deleted_at i ds
del_is i no_items h = absurd (omega (arith, h))
del_is zero (item d ds) h = refl
del_is (suc i) (item d ds) h = ap (item d) (del_is i ds (omega (arith, h)))

set_is : (i : ℕ) (v : Value) (ds : Items) → i < item_count ds → append_items (take_items i ds) (item v (drop_items (suc i) ds)) ≡ set_item i ds v
set_is i v no_items h = absurd (omega (arith, h))
set_is zero v (item d ds) h = refl
set_is (suc i) v (item d ds) h = ap (item d) (set_is i v ds (omega (arith, h)))

count_ins : (i : ℕ) (v : Value) (ds : Items) → i ≤ item_count ds → item_count (inserted_at i v ds) ≡ suc (item_count ds)
count_ins zero v ds h = refl
count_ins (suc i) v no_items h = absurd (omega (arith, h))
count_ins (suc i) v (item d ds) h = ap suc (count_ins i v ds (omega (arith, h)))

count_del : (i : ℕ) (ds : Items) → i < item_count ds → suc (item_count (deleted_at i ds)) ≡ item_count ds
count_del i no_items h = absurd (omega (arith, h))
count_del zero (item d ds) h = refl
count_del (suc i) (item d ds) h = ap suc (count_del i ds (omega (arith, h)))

pub count_set : (i : ℕ) (v : Value) (ds : Items) → item_count (set_item i ds v) ≡ item_count ds
count_set i v no_items = refl
count_set zero v (item d ds) = refl
count_set (suc i) v (item d ds) = ap suc (count_set i v ds)

-- ---- both orders

ins_ins : (i j : ℕ) (u v : Value) (ds : Items) → i ≤ j → inserted_at (suc j) v (inserted_at i u ds) ≡ inserted_at i u (inserted_at j v ds)
ins_ins zero j u v ds h = refl
ins_ins (suc i) zero u v ds h = absurd (omega (arith, h))
ins_ins (suc i) (suc j) u v no_items h = refl
ins_ins (suc i) (suc j) u v (item d ds) h = ap (item d) (ins_ins i j u v ds (omega (arith, h)))

del_del : (i j : ℕ) (ds : Items) → i ≤ j → deleted_at j (deleted_at i ds) ≡ deleted_at i (deleted_at (suc j) ds)
del_del i j no_items h = refl
del_del zero j (item d ds) h = refl
del_del (suc i) zero (item d ds) h = absurd (omega (arith, h))
del_del (suc i) (suc j) (item d ds) h = ap (item d) (del_del i j ds (omega (arith, h)))

-- the insert is at or before the removal
ins_del : (i j : ℕ) (u : Value) (ds : Items) → i ≤ j → deleted_at (suc j) (inserted_at i u ds) ≡ inserted_at i u (deleted_at j ds)
ins_del zero j u ds h = refl
ins_del (suc i) zero u ds h = absurd (omega (arith, h))
ins_del (suc i) (suc j) u no_items h = refl
ins_del (suc i) (suc j) u (item d ds) h = ap (item d) (ins_del i j u ds (omega (arith, h)))

-- the removal is before the insert
del_ins : (i j : ℕ) (u : Value) (ds : Items) → j ≤ i → j < item_count ds → deleted_at j (inserted_at (suc i) u ds) ≡ inserted_at i u (deleted_at j ds)
del_ins i j u no_items h k = absurd (omega (arith, k))
del_ins i zero u (item d ds) h k = refl
del_ins zero (suc j) u (item d ds) h k = absurd (omega (arith, h))
del_ins (suc i) (suc j) u (item d ds) h k = ap (item d) (del_ins i j u ds (omega (arith, h)) (omega (arith, k)))

pub ins_set : (i j : ℕ) (u w : Value) (ds : Items) → i ≤ j → set_item (suc j) (inserted_at i u ds) w ≡ inserted_at i u (set_item j ds w)
ins_set zero j u w ds h = refl
ins_set (suc i) zero u w ds h = absurd (omega (arith, h))
ins_set (suc i) (suc j) u w no_items h = refl
ins_set (suc i) (suc j) u w (item d ds) h = ap (item d) (ins_set i j u w ds (omega (arith, h)))

pub set_ins : (i j : ℕ) (u w : Value) (ds : Items) → j < i → set_item j (inserted_at i u ds) w ≡ inserted_at i u (set_item j ds w)
set_ins zero j u w ds h = absurd (omega (arith, h))
set_ins (suc i) j u w no_items h = refl
set_ins (suc i) zero u w (item d ds) h = refl
set_ins (suc i) (suc j) u w (item d ds) h = ap (item d) (set_ins i j u w ds (omega (arith, h)))

pub del_set : (i j : ℕ) (w : Value) (ds : Items) → i ≤ j → set_item j (deleted_at i ds) w ≡ deleted_at i (set_item (suc j) ds w)
del_set i j w no_items h = refl
del_set zero j w (item d ds) h = refl
del_set (suc i) zero w (item d ds) h = absurd (omega (arith, h))
del_set (suc i) (suc j) w (item d ds) h = ap (item d) (del_set i j w ds (omega (arith, h)))

pub set_del : (i j : ℕ) (w : Value) (ds : Items) → j < i → set_item j (deleted_at i ds) w ≡ deleted_at i (set_item j ds w)
set_del i j w no_items h = refl
set_del zero j w (item d ds) h = absurd (omega (arith, h))
set_del (suc i) zero w (item d ds) h = refl
set_del (suc i) (suc j) w (item d ds) h = ap (item d) (set_del i j w ds (omega (arith, h)))

pub del_same : (j : ℕ) (w : Value) (ds : Items) → deleted_at j (set_item j ds w) ≡ deleted_at j ds
del_same j w no_items = refl
del_same zero w (item d ds) = refl
del_same (suc j) w (item d ds) = ap (item d) (del_same j w ds)

ins_same : (j : ℕ) (w : Value) (ds : Items) → j < item_count ds → inserted_at j w (deleted_at j ds) ≡ set_item j ds w
ins_same j w no_items h = absurd (omega (arith, h))
ins_same zero w (item d ds) h = refl
ins_same (suc j) w (item d ds) h = ap (item d) (ins_same j w ds (omega (arith, h)))

-- ---- effects

pub le_true : (i n : ℕ) → i ≤ n → leb i n ≡ true
le_true i n h = grind (arith, nat_tests)

pub lt_true : (i n : ℕ) → i < n → ltb i n ≡ true
lt_true i n h = grind (arith, nat_tests)

pub le_false : (i n : ℕ) → n < i → leb i n ≡ false
le_false i n h = grind (arith, nat_tests)

pub lt_false : (i n : ℕ) → n ≤ i → ltb i n ≡ false
lt_false i n h = grind (arith, nat_tests)

pub eq_true : (i n : ℕ) → i ≡ n → eqb i n ≡ true
eq_true i n h = grind (arith, nat_tests)

pub eq_false : (i n : ℕ) → (i ≡ n → ⊥) → eqb i n ≡ false
eq_false i n h = grind (arith, nat_tests)

pub le_of : (i n : ℕ) → leb i n ≡ true → i ≤ n
le_of i n h = grind (arith, nat_tests)

pub lt_of : (i n : ℕ) → ltb i n ≡ true → i < n
lt_of i n h = grind (arith, nat_tests)

pub li_does : (i : ℕ) (v : Value) (ds : Items) → i ≤ item_count ds → apply_act (li i v) (list ds) ≡ Some (list (inserted_at i v ds))
li_does i v ds h = rw (le_true i (item_count ds) h) (ap (λ x. Some (list x)) (ins_is i v ds h))

pub ld_does : (i : ℕ) (x : Value) (ds : Items) → i < item_count ds → apply_act (ld i x) (list ds) ≡ Some (list (deleted_at i ds))
ld_does i x ds h = rw (lt_true i (item_count ds) h) (ap (λ x. Some (list x)) (del_is i ds h))

pub lr_does : (i : ℕ) (x y : Value) (ds : Items) → i < item_count ds → apply_act (lr i x y) (list ds) ≡ Some (list (set_item i ds y))
lr_does i x y ds h = rw (lt_true i (item_count ds) h) (ap (λ x. Some (list x)) (set_is i y ds h))

in_range_of_some : (b : Bool) (x : Items) (e : Value) → option_map list (if b then Some x else None) ≡ Some e → b ≡ true
in_range_of_some true x e h = refl
in_range_of_some false x e h = cc

pub li_fits : (i : ℕ) (v : Value) (ds : Items) (e : Value) → apply_act (li i v) (list ds) ≡ Some e → i ≤ item_count ds
li_fits i v ds e h = le_of i (item_count ds) (in_range_of_some (leb i (item_count ds)) _ e h)

pub ld_fits : (i : ℕ) (x : Value) (ds : Items) (e : Value) → apply_act (ld i x) (list ds) ≡ Some e → i < item_count ds
ld_fits i x ds e h = lt_of i (item_count ds) (in_range_of_some (ltb i (item_count ds)) _ e h)

pub lr_fits : (i : ℕ) (x y : Value) (ds : Items) (e : Value) → apply_act (lr i x y) (list ds) ≡ Some e → i < item_count ds
lr_fits i x y ds e h = lt_of i (item_count ds) (in_range_of_some (ltb i (item_count ds)) _ e h)

-- ---- comparisons of two indices

pub trichotomy : (i j : ℕ) → (i < j) ⊎ ((i ≡ j) ⊎ (j < i))
trichotomy i j = grind (arith, nat_tests)

-- ---- two inserts

-- i is less than j, or equal and on the left side
li_li_before : (s t : Side) (i j : ℕ) (v w : Value) (ds : Items) → transform_act s (li i v) (li j w) ≡ Some (li i v ∷ []) → transform_act t (li j w) (li i v) ≡ Some (li (suc j) w ∷ [])
    → i ≤ j → j ≤ item_count ds → ActsConverge s t (list ds) (li i v) (li j w)
li_li_before s t i j v w ds e f h k = record {
  left = li i v ∷ [];
  right = li (suc j) w ∷ [];
  result = list (inserted_at i v (inserted_at j w ds));
  on_left = e;
  on_right = f;
  by_left =
      then_one (li i v) (li (suc j) w) (list ds) (list (inserted_at i v ds)) (list (inserted_at i v (inserted_at j w ds))) (li_does i v ds (omega (arith, h, k)))
      (li_does (suc j) w (inserted_at i v ds) (omega (arith, k, count_ins i v ds (omega (arith, h, k)))) ∙ ap (λ x. Some (list x)) (ins_ins i j v w ds h));
  by_right =
      then_one (li j w) (li i v) (list ds) (list (inserted_at j w ds)) (list (inserted_at i v (inserted_at j w ds))) (li_does j w ds k)
      (li_does i v (inserted_at j w ds) (omega (arith, h, k, count_ins j w ds k)));
}

pub one_more : (j : ℕ) → j + 1 ≡ suc j
one_more j = omega arith

li_stays : (s : Side) (i j : ℕ) (v w : Value) → i < j → transform_act s (li i v) (li j w) ≡ Some (li i v ∷ [])
li_stays s i j v w h = rw (lt_false j i (omega (arith, h)), eq_false j i (λ e. omega (arith, h, e)))

li_rises : (s : Side) (i j : ℕ) (v w : Value) → i < j → IsSafeInteger (j + 1) → transform_act s (li j w) (li i v) ≡ Some (li (suc j) w ∷ [])
li_rises s i j v w h k = rw (lt_true i j h, le_true (j + 1) 9007199254740991 k, one_more j)

li_left : (i : ℕ) (v w : Value) → transform_act Left (li i v) (li i w) ≡ Some (li i v ∷ [])
li_left i v w = rw (lt_false i i (omega arith), eq_true i i refl)

li_right : (i : ℕ) (v w : Value) → IsSafeInteger (i + 1) → transform_act Right (li i w) (li i v) ≡ Some (li (suc i) w ∷ [])
li_right i v w k = rw (lt_false i i (omega arith), eq_true i i refl, le_true (i + 1) 9007199254740991 k, one_more i)

pub li_li : (i j : ℕ) (v w : Value) (ds : Items) → i ≤ item_count ds → j ≤ item_count ds → (j < i → IsSafeInteger (i + 1)) → (i ≤ j → IsSafeInteger (j + 1))
    → ActsConverge Left Right (list ds) (li i v) (li j w)
li_li i j v w ds h k m n =
    elim (trichotomy i j) [
      | inl l ↦ li_li_before Left Right i j v w ds (li_stays Left i j v w l) (li_rises Right i j v w l (n (omega (arith, l)))) (omega (arith, l)) k
      | inr (inl e) ↦ subst (λ j. ActsConverge Left Right (list ds) (li i v) (li j w)) e (li_li_before Left Right i i v w ds (li_left i v w) (li_right i v w (omega (arith, e, n (omega (arith, e))))) (omega arith) h)
      | inr (inr g) ↦ acts_converge_symm Right Left (list ds) (li j w) (li i v) (li_li_before Right Left j i w v ds (li_stays Right j i w v g) (li_rises Left j i w v g (m g)) (omega (arith, g)) h)
    ]

-- ---- an insert and a removal

pub less_one : (j : ℕ) → suc j - 1 ≡ j
less_one j = omega arith

li_ld_before : (s t : Side) (i j : ℕ) (v x : Value) (ds : Items) → i ≤ j → j < item_count ds → IsSafeInteger (j + 1)
    → ActsConverge s t (list ds) (li i v) (ld j x)
li_ld_before s t i j v x ds h k m = record {
  left = li i v ∷ [];
  right = ld (suc j) x ∷ [];
  result = list (inserted_at i v (deleted_at j ds));
  on_left = rw (lt_false j i h);
  on_right = rw (le_true i j h, le_true (j + 1) 9007199254740991 m, one_more j);
  by_left =
      then_one (li i v) (ld (suc j) x) (list ds) (list (inserted_at i v ds)) (list (inserted_at i v (deleted_at j ds))) (li_does i v ds (omega (arith, h, k)))
      (ld_does (suc j) x (inserted_at i v ds) (omega (arith, k, count_ins i v ds (omega (arith, h, k)))) ∙ ap (λ x. Some (list x)) (ins_del i j v ds h));
  by_right =
      then_one (ld j x) (li i v) (list ds) (list (deleted_at j ds)) (list (inserted_at i v (deleted_at j ds))) (ld_does j x ds k)
      (li_does i v (deleted_at j ds) (omega (arith, h, k, count_del j ds k)));
}

li_ld_after : (s t : Side) (i j : ℕ) (v x : Value) (ds : Items) → j ≤ i → suc i ≤ item_count ds → ActsConverge s t (list ds) (li (suc i) v) (ld j x)
li_ld_after s t i j v x ds h k =
    let f : j < item_count ds = omega (arith, h, k) in
    record {
      left = li i v ∷ [];
      right = ld j x ∷ [];
      result = list (inserted_at i v (deleted_at j ds));
      on_left = rw (lt_true j (suc i) (omega (arith, h)), less_one i);
      on_right = rw (le_false (suc i) j (omega (arith, h)));
      by_left =
          then_one (li (suc i) v) (ld j x) (list ds) (list (inserted_at (suc i) v ds)) (list (inserted_at i v (deleted_at j ds))) (li_does (suc i) v ds k)
          (ld_does j x (inserted_at (suc i) v ds) (omega (arith, f, count_ins (suc i) v ds k)) ∙ ap (λ x. Some (list x)) (del_ins i j v ds h f));
      by_right =
          then_one (ld j x) (li i v) (list ds) (list (deleted_at j ds)) (list (inserted_at i v (deleted_at j ds))) (ld_does j x ds f)
          (li_does i v (deleted_at j ds) (omega (arith, k, count_del j ds f)));
    }

pub le_or_lt : (i j : ℕ) → (i ≤ j) ⊎ (j < i)
le_or_lt i j = grind (arith, nat_tests)

pub li_ld : (s t : Side) (i j : ℕ) (v x : Value) (ds : Items) → i ≤ item_count ds → j < item_count ds → (i ≤ j → IsSafeInteger (j + 1))
    → ActsConverge s t (list ds) (li i v) (ld j x)
li_ld s t zero j v x ds h k m = li_ld_before s t zero j v x ds (omega arith) k (m (omega arith))
li_ld s t (suc i) j v x ds h k m =
    elim (le_or_lt (suc i) j) [
      | inl l ↦ li_ld_before s t (suc i) j v x ds l k (m l)
      | inr g ↦ li_ld_after s t i j v x ds (omega (arith, g)) h
    ]

-- ---- an insert and a replacement

li_lr_before : (s t : Side) (i j : ℕ) (v x y : Value) (ds : Items) → i ≤ j → j < item_count ds → IsSafeInteger (j + 1)
    → ActsConverge s t (list ds) (li i v) (lr j x y)
li_lr_before s t i j v x y ds h k m = record {
  left = li i v ∷ [];
  right = lr (suc j) x y ∷ [];
  result = list (inserted_at i v (set_item j ds y));
  on_left = refl;
  on_right = rw (le_true i j h, le_true (j + 1) 9007199254740991 m, one_more j);
  by_left =
      then_one (li i v) (lr (suc j) x y) (list ds) (list (inserted_at i v ds)) (list (inserted_at i v (set_item j ds y))) (li_does i v ds (omega (arith, h, k)))
      (lr_does (suc j) x y (inserted_at i v ds) (omega (arith, k, count_ins i v ds (omega (arith, h, k)))) ∙ ap (λ x. Some (list x)) (ins_set i j v y ds h));
  by_right =
      then_one (lr j x y) (li i v) (list ds) (list (set_item j ds y)) (list (inserted_at i v (set_item j ds y))) (lr_does j x y ds k)
      (li_does i v (set_item j ds y) (omega (arith, h, k, count_set j y ds)));
}

li_lr_after : (s t : Side) (i j : ℕ) (v x y : Value) (ds : Items) → j < i → i ≤ item_count ds → ActsConverge s t (list ds) (li i v) (lr j x y)
li_lr_after s t i j v x y ds h k = record {
  left = li i v ∷ [];
  right = lr j x y ∷ [];
  result = list (inserted_at i v (set_item j ds y));
  on_left = refl;
  on_right = rw (le_false i j h);
  by_left =
      then_one (li i v) (lr j x y) (list ds) (list (inserted_at i v ds)) (list (inserted_at i v (set_item j ds y))) (li_does i v ds k)
      (lr_does j x y (inserted_at i v ds) (omega (arith, h, k, count_ins i v ds k)) ∙ ap (λ x. Some (list x)) (set_ins i j v y ds h));
  by_right =
      then_one (lr j x y) (li i v) (list ds) (list (set_item j ds y)) (list (inserted_at i v (set_item j ds y))) (lr_does j x y ds (omega (arith, h, k)))
      (li_does i v (set_item j ds y) (omega (arith, k, count_set j y ds)));
}

pub li_lr : (s t : Side) (i j : ℕ) (v x y : Value) (ds : Items) → i ≤ item_count ds → j < item_count ds → (i ≤ j → IsSafeInteger (j + 1))
    → ActsConverge s t (list ds) (li i v) (lr j x y)
li_lr s t i j v x y ds h k m =
    elim (le_or_lt i j) [
      | inl l ↦ li_lr_before s t i j v x y ds l k (m l)
      | inr g ↦ li_lr_after s t i j v x y ds g h
    ]

-- ---- two removals

ld_ld_before : (s t : Side) (i j : ℕ) (x y : Value) (ds : Items) → i ≤ j → suc j < item_count ds → ActsConverge s t (list ds) (ld i x) (ld (suc j) y)
ld_ld_before s t i j x y ds h k =
    let f : i < item_count ds = omega (arith, h, k) in
    record {
      left = ld i x ∷ [];
      right = ld j y ∷ [];
      result = list (deleted_at i (deleted_at (suc j) ds));
      on_left = rw (lt_false (suc j) i (omega (arith, h)), eq_false (suc j) i (λ e. omega (arith, h, e)));
      on_right = rw (lt_true i (suc j) (omega (arith, h)), less_one j);
      by_left =
          then_one (ld i x) (ld j y) (list ds) (list (deleted_at i ds)) (list (deleted_at i (deleted_at (suc j) ds))) (ld_does i x ds f)
          (ld_does j y (deleted_at i ds) (omega (arith, k, count_del i ds f)) ∙ ap (λ x. Some (list x)) (del_del i j ds h));
      by_right =
          then_one (ld (suc j) y) (ld i x) (list ds) (list (deleted_at (suc j) ds)) (list (deleted_at i (deleted_at (suc j) ds))) (ld_does (suc j) y ds k)
          (ld_does i x (deleted_at (suc j) ds) (omega (arith, h, k, count_del (suc j) ds k)));
    }

ld_ld_same : (s t : Side) (i : ℕ) (x y : Value) (ds : Items) → i < item_count ds → ActsConverge s t (list ds) (ld i x) (ld i y)
ld_ld_same s t i x y ds h = record {
  left = [];
  right = [];
  result = list (deleted_at i ds);
  on_left = rw (lt_false i i (omega arith), eq_true i i refl);
  on_right = rw (lt_false i i (omega arith), eq_true i i refl);
  by_left = then_none (ld i x) (list ds) (list (deleted_at i ds)) (ld_does i x ds h);
  by_right = then_none (ld i y) (list ds) (list (deleted_at i ds)) (ld_does i y ds h);
}

ld_ld_at : (s t : Side) (i j : ℕ) (x y : Value) (ds : Items) → i < j → j < item_count ds → ActsConverge s t (list ds) (ld i x) (ld j y)
ld_ld_at s t i zero x y ds l k = absurd (omega (arith, l))
ld_ld_at s t i (suc j) x y ds l k = ld_ld_before s t i j x y ds (omega (arith, l)) k

pub ld_ld : (s t : Side) (i j : ℕ) (x y : Value) (ds : Items) → i < item_count ds → j < item_count ds → ActsConverge s t (list ds) (ld i x) (ld j y)
ld_ld s t i j x y ds h k =
    elim (trichotomy i j) [
      | inl l ↦ ld_ld_at s t i j x y ds l k
      | inr (inl e) ↦ subst (λ j. ActsConverge s t (list ds) (ld i x) (ld j y)) e (ld_ld_same s t i x y ds h)
      | inr (inr g) ↦ acts_converge_symm t s (list ds) (ld j y) (ld i x) (ld_ld_at t s j i y x ds g h)
    ]

-- ---- a removal and a replacement

ld_lr_before : (s t : Side) (i j : ℕ) (x y z : Value) (ds : Items) → i ≤ j → suc j < item_count ds → ActsConverge s t (list ds) (ld i x) (lr (suc j) y z)
ld_lr_before s t i j x y z ds h k =
    let f : i < item_count ds = omega (arith, h, k) in
    record {
      left = ld i x ∷ [];
      right = lr j y z ∷ [];
      result = list (deleted_at i (set_item (suc j) ds z));
      on_left = rw (eq_false (suc j) i (λ e. omega (arith, h, e)));
      on_right = rw (lt_true i (suc j) (omega (arith, h)), less_one j);
      by_left =
          then_one (ld i x) (lr j y z) (list ds) (list (deleted_at i ds)) (list (deleted_at i (set_item (suc j) ds z))) (ld_does i x ds f)
          (lr_does j y z (deleted_at i ds) (omega (arith, k, count_del i ds f)) ∙ ap (λ x. Some (list x)) (del_set i j z ds h));
      by_right =
          then_one (lr (suc j) y z) (ld i x) (list ds) (list (set_item (suc j) ds z)) (list (deleted_at i (set_item (suc j) ds z))) (lr_does (suc j) y z ds k)
          (ld_does i x (set_item (suc j) ds z) (omega (arith, f, count_set (suc j) z ds)));
    }

ld_lr_same : (s t : Side) (i : ℕ) (x y z : Value) (ds : Items) → i < item_count ds → ActsConverge s t (list ds) (ld i x) (lr i y z)
ld_lr_same s t i x y z ds h = record {
  left = [];
  right = li i z ∷ [];
  result = list (set_item i ds z);
  on_left = rw (eq_true i i refl);
  on_right = rw (lt_false i i (omega arith), eq_true i i refl);
  by_left =
      then_one (ld i x) (li i z) (list ds) (list (deleted_at i ds)) (list (set_item i ds z)) (ld_does i x ds h)
      (li_does i z (deleted_at i ds) (omega (arith, h, count_del i ds h)) ∙ ap (λ x. Some (list x)) (ins_same i z ds h));
  by_right = then_none (lr i y z) (list ds) (list (set_item i ds z)) (lr_does i y z ds h);
}

ld_lr_after : (s t : Side) (i j : ℕ) (x y z : Value) (ds : Items) → j < i → i < item_count ds → ActsConverge s t (list ds) (ld i x) (lr j y z)
ld_lr_after s t i j x y z ds h k =
    let f : j < item_count ds = omega (arith, h, k) in
    record {
      left = ld i x ∷ [];
      right = lr j y z ∷ [];
      result = list (deleted_at i (set_item j ds z));
      on_left = rw (eq_false j i (λ e. omega (arith, h, e)));
      on_right = rw (lt_false i j (omega (arith, h)), eq_false i j (λ e. omega (arith, h, e)));
      by_left =
          then_one (ld i x) (lr j y z) (list ds) (list (deleted_at i ds)) (list (deleted_at i (set_item j ds z))) (ld_does i x ds k)
          (lr_does j y z (deleted_at i ds) (omega (arith, h, k, count_del i ds k)) ∙ ap (λ x. Some (list x)) (set_del i j z ds h));
      by_right =
          then_one (lr j y z) (ld i x) (list ds) (list (set_item j ds z)) (list (deleted_at i (set_item j ds z))) (lr_does j y z ds f)
          (ld_does i x (set_item j ds z) (omega (arith, k, count_set j z ds)));
    }

ld_lr_at : (s t : Side) (i j : ℕ) (x y z : Value) (ds : Items) → i < j → j < item_count ds → ActsConverge s t (list ds) (ld i x) (lr j y z)
ld_lr_at s t i zero x y z ds l k = absurd (omega (arith, l))
ld_lr_at s t i (suc j) x y z ds l k = ld_lr_before s t i j x y z ds (omega (arith, l)) k

pub ld_lr : (s t : Side) (i j : ℕ) (x y z : Value) (ds : Items) → i < item_count ds → j < item_count ds → ActsConverge s t (list ds) (ld i x) (lr j y z)
ld_lr s t i j x y z ds h k =
    elim (trichotomy i j) [
      | inl l ↦ ld_lr_at s t i j x y z ds l k
      | inr (inl e) ↦ subst (λ j. ActsConverge s t (list ds) (ld i x) (lr j y z)) e (ld_lr_same s t i x y z ds h)
      | inr (inr g) ↦ ld_lr_after s t i j x y z ds g h
    ]

-- ---- two replacements

lr_lr_other : (s t : Side) (i j : ℕ) (x y w z : Value) (ds : Items) → (i ≡ j → ⊥) → i < item_count ds → j < item_count ds → ActsConverge s t (list ds) (lr i x y) (lr j w z)
lr_lr_other s t i j x y w z ds n h k = record {
  left = lr i x y ∷ [];
  right = lr j w z ∷ [];
  result = list (set_item i (set_item j ds z) y);
  on_left = rw (eq_false j i (λ e. n (sym e)));
  on_right = rw (eq_false i j n);
  by_left =
      then_one (lr i x y) (lr j w z) (list ds) (list (set_item i ds y)) (list (set_item i (set_item j ds z) y)) (lr_does i x y ds h)
      (lr_does j w z (set_item i ds y) (omega (arith, k, count_set i y ds)) ∙ ap (λ x. Some (list x)) (item_exchange i j ds y z n));
  by_right =
      then_one (lr j w z) (lr i x y) (list ds) (list (set_item j ds z)) (list (set_item i (set_item j ds z) y)) (lr_does j w z ds k)
      (lr_does i x y (set_item j ds z) (omega (arith, h, count_set j z ds)));
}

lr_lr_same : (i : ℕ) (x y w z : Value) (ds : Items) → i < item_count ds → ActsConverge Left Right (list ds) (lr i x y) (lr i w z)
lr_lr_same i x y w z ds h = record {
  left = lr i z y ∷ [];
  right = [];
  result = list (set_item i ds y);
  on_left = rw (eq_true i i refl);
  on_right = rw (eq_true i i refl);
  by_left = then_none (lr i x y) (list ds) (list (set_item i ds y)) (lr_does i x y ds h);
  by_right =
      then_one (lr i w z) (lr i z y) (list ds) (list (set_item i ds z)) (list (set_item i ds y)) (lr_does i w z ds h)
      (lr_does i z y (set_item i ds z) (omega (arith, h, count_set i z ds)) ∙ ap (λ x. Some (list x)) (set_item_set_item i ds z y));
}

pub lr_lr : (i j : ℕ) (x y w z : Value) (ds : Items) → i < item_count ds → j < item_count ds → ActsConverge Left Right (list ds) (lr i x y) (lr j w z)
lr_lr i j x y w z ds h k =
    elim (trichotomy i j) [
      | inl l ↦ lr_lr_other Left Right i j x y w z ds (λ e. omega (arith, l, e)) h k
      | inr (inl e) ↦ subst (λ j. ActsConverge Left Right (list ds) (lr i x y) (lr j w z)) e (lr_lr_same i x y w z ds h)
      | inr (inr g) ↦ lr_lr_other Left Right i j x y w z ds (λ e. omega (arith, g, e)) h k
    ]

-- ---- all acts at one list

pub lists_meet : (ds : Items) (a b : PlainAct) (u v : Value) → apply_act a (list ds) ≡ Some u → apply_act b (list ds) ≡ Some v → ActStaysInRange Left a b → ActStaysInRange Right b a → ActsConverge Left Right (list ds) a b
lists_meet ds (li i x) (li j z) u v h k m n = li_li i j x z ds (li_fits i x ds u h) (li_fits j z ds v k) m n
lists_meet ds (li i x) (ld j z) u v h k m n = li_ld Left Right i j x z ds (li_fits i x ds u h) (ld_fits j z ds v k) n
lists_meet ds (li i x) (lr j z w) u v h k m n = li_lr Left Right i j x z w ds (li_fits i x ds u h) (lr_fits j z w ds v k) n
lists_meet ds (ld i x) (li j z) u v h k m n = acts_converge_symm Right Left (list ds) (li j z) (ld i x) (li_ld Right Left j i z x ds (li_fits j z ds v k) (ld_fits i x ds u h) m)
lists_meet ds (ld i x) (ld j z) u v h k m n = ld_ld Left Right i j x z ds (ld_fits i x ds u h) (ld_fits j z ds v k)
lists_meet ds (ld i x) (lr j z w) u v h k m n = ld_lr Left Right i j x z w ds (ld_fits i x ds u h) (lr_fits j z w ds v k)
lists_meet ds (lr i x y) (li j z) u v h k m n = acts_converge_symm Right Left (list ds) (li j z) (lr i x y) (li_lr Right Left j i z x y ds (li_fits j z ds v k) (lr_fits i x y ds u h) m)
lists_meet ds (lr i x y) (ld j z) u v h k m n = acts_converge_symm Right Left (list ds) (ld j z) (lr i x y) (ld_lr Right Left j i z x y ds (ld_fits j z ds v k) (lr_fits i x y ds u h))
lists_meet ds (lr i x y) (lr j z w) u v h k m n = lr_lr i j x y z w ds (lr_fits i x y ds u h) (lr_fits j z w ds v k)
lists_meet ds (li i x) (na q) u v h k m n = cc
lists_meet ds (li i x) (si r q) u v h k m n = cc
lists_meet ds (li i x) (sd r q) u v h k m n = cc
lists_meet ds (li i x) (oi l z) u v h k m n = cc
lists_meet ds (li i x) (od l z) u v h k m n = cc
lists_meet ds (li i x) (or l z q) u v h k m n = cc
lists_meet ds (ld i x) (na q) u v h k m n = cc
lists_meet ds (ld i x) (si r q) u v h k m n = cc
lists_meet ds (ld i x) (sd r q) u v h k m n = cc
lists_meet ds (ld i x) (oi l z) u v h k m n = cc
lists_meet ds (ld i x) (od l z) u v h k m n = cc
lists_meet ds (ld i x) (or l z q) u v h k m n = cc
lists_meet ds (lr i x y) (na q) u v h k m n = cc
lists_meet ds (lr i x y) (si r q) u v h k m n = cc
lists_meet ds (lr i x y) (sd r q) u v h k m n = cc
lists_meet ds (lr i x y) (oi l z) u v h k m n = cc
lists_meet ds (lr i x y) (od l z) u v h k m n = cc
lists_meet ds (lr i x y) (or l z q) u v h k m n = cc
lists_meet ds (na q) b u v h k m n = cc
lists_meet ds (si p x) b u v h k m n = cc
lists_meet ds (sd p x) b u v h k m n = cc
lists_meet ds (oi key x) b u v h k m n = cc
lists_meet ds (od key x) b u v h k m n = cc
lists_meet ds (or key x y) b u v h k m n = cc
