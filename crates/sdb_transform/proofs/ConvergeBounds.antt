-- Transforms that exist stay in range.
use Rattle.std.proofs.Common.{◌≡◌, ℕ, ◌+◌, ◌<◌, ◌≤◌, ◌-◌, List, [], ◌∷◌, map, Option, Some, None, option_map, Bool, true, false, leb, inl, inr, refl, sym, ◌∙◌, arith}
use Rattle.std.specs.Prelude.{if◌then◌else◌}
use Rattle.std.specs.Option.{option_map_or}
use Rattle.sdb_value.specs.Value.{Value, PlainStep, key, index}
use Rattle.sdb_rope.specs.Utf16.{units}
use Rattle.sdb_component.specs.Plain.{PlainAct, na, si, sd, li, ld, lr, oi, od, or, PlainComponent}
use Rattle.sdb_transform.specs.declared.side.Side.{Side}
use Rattle.sdb_transform.specs.declared.side.Side.TheVariants.{Left, Right}
use Rattle.sdb_transform.specs.Transform.{ActTransform, one_act, at_shifted_position, split_delete, strip_prefix, transform_act, transform_step, component_at, transform, transform_below, with_moved_step, update_removed, strip_removed_path}
use Rattle.sdb_transform.specs.Convergence.{IsSafeInteger, InsertsBefore, ActStaysInRange, StepStaysInRange, SuffixStaysInRange, StaysInRange}
use Rattle.sdb_transform.proofs.ConvergeLists.{le_true, lt_true, le_false, lt_false, eq_true, le_of, le_or_lt, trichotomy}

-- ---- at one container

raised_if : {A : Type 0} (b : Bool) (n : ℕ) (o : Option A) (x : A) → leb n 9007199254740991 ≡ b → (if b then o else None) ≡ Some x → IsSafeInteger n
raised_if true n o x e h = le_of n 9007199254740991 e
raised_if false n o x e h = cc

-- a raised position that isn't refused is in range
raised_fits : (n more : ℕ) (f : ℕ → ActTransform) (xs : List PlainAct) → at_shifted_position n more f ≡ Some xs → IsSafeInteger (n + more)
raised_fits n more f xs h = raised_if (leb (n + more) 9007199254740991) (n + more) (f (n + more)) xs refl h

si_si_less : (side : Side) (p r : ℕ) (s x : List ℕ) (xs : List PlainAct) → transform_act side (si p s) (si r x) ≡ Some xs → r < p → IsSafeInteger (p + units x)
si_si_less side p r s x xs e h =
    let f : transform_act side (si p s) (si r x) ≡ at_shifted_position p (units x) (λ q. one_act (si q s)) = rw (lt_true r p h) in
    raised_fits p (units x) (λ q. one_act (si q s)) xs (sym f ∙ e)

si_si_same : (p r : ℕ) (s x : List ℕ) (xs : List PlainAct) → transform_act Right (si p s) (si r x) ≡ Some xs → r ≡ p → IsSafeInteger (p + units x)
si_si_same p r s x xs e h =
    let f : transform_act Right (si p s) (si r x) ≡ at_shifted_position p (units x) (λ q. one_act (si q s)) = rw (lt_false r p (omega (arith, h)), eq_true r p h) in
    raised_fits p (units x) (λ q. one_act (si q s)) xs (sym f ∙ e)

si_si_made : (side : Side) (p r : ℕ) (s x : List ℕ) (xs : List PlainAct) → transform_act side (si p s) (si r x) ≡ Some xs → InsertsBefore side r p → IsSafeInteger (p + units x)
si_si_made Left p r s x xs e h = si_si_less Left p r s x xs e h
si_si_made Right p r s x xs e h =
    elim (trichotomy r p) [
      | inl l ↦ si_si_less Right p r s x xs e l
      | inr (inl z) ↦ si_si_same p r s x xs e z
      | inr (inr g) ↦ absurd (omega (arith, h, g))
    ]

sd_si_made : (side : Side) (p r : ℕ) (d x : List ℕ) (xs : List PlainAct) → transform_act side (sd p d) (si r x) ≡ Some xs → r < p + units d → IsSafeInteger (p + units x)
sd_si_made side p r d x xs e h =
    elim (le_or_lt r p) [
      | inl l ↦
          let f : transform_act side (sd p d) (si r x) ≡ at_shifted_position p (units x) (λ q. one_act (sd q d)) = rw (le_true r p l) in
          raised_fits p (units x) (λ q. one_act (sd q d)) xs (sym f ∙ e)
      | inr g ↦
          let f : transform_act side (sd p d) (si r x) ≡ at_shifted_position p (units x) (λ q. split_delete p d (r - p) q) = rw (le_false r p g, le_false (p + units d) r h) in
          raised_fits p (units x) (λ q. split_delete p d (r - p) q) xs (sym f ∙ e)
    ]

li_li_less : (side : Side) (j i : ℕ) (v u : Value) (xs : List PlainAct) → transform_act side (li j v) (li i u) ≡ Some xs → i < j → IsSafeInteger (j + 1)
li_li_less side j i v u xs e h =
    let f : transform_act side (li j v) (li i u) ≡ at_shifted_position j 1 (λ k. one_act (li k v)) = rw (lt_true i j h) in
    raised_fits j 1 (λ k. one_act (li k v)) xs (sym f ∙ e)

li_li_same : (j i : ℕ) (v u : Value) (xs : List PlainAct) → transform_act Right (li j v) (li i u) ≡ Some xs → i ≡ j → IsSafeInteger (j + 1)
li_li_same j i v u xs e h =
    let f : transform_act Right (li j v) (li i u) ≡ at_shifted_position j 1 (λ k. one_act (li k v)) = rw (lt_false i j (omega (arith, h)), eq_true i j h) in
    raised_fits j 1 (λ k. one_act (li k v)) xs (sym f ∙ e)

li_li_made : (side : Side) (j i : ℕ) (v u : Value) (xs : List PlainAct) → transform_act side (li j v) (li i u) ≡ Some xs → InsertsBefore side i j → IsSafeInteger (j + 1)
li_li_made Left j i v u xs e h = li_li_less Left j i v u xs e h
li_li_made Right j i v u xs e h =
    elim (trichotomy i j) [
      | inl l ↦ li_li_less Right j i v u xs e l
      | inr (inl z) ↦ li_li_same j i v u xs e z
      | inr (inr g) ↦ absurd (omega (arith, h, g))
    ]

ld_li_made : (side : Side) (j i : ℕ) (x u : Value) (xs : List PlainAct) → transform_act side (ld j x) (li i u) ≡ Some xs → i ≤ j → IsSafeInteger (j + 1)
ld_li_made side j i x u xs e h =
    let f : transform_act side (ld j x) (li i u) ≡ at_shifted_position j 1 (λ k. one_act (ld k x)) = rw (le_true i j h) in
    raised_fits j 1 (λ k. one_act (ld k x)) xs (sym f ∙ e)

lr_li_made : (side : Side) (j i : ℕ) (w z u : Value) (xs : List PlainAct) → transform_act side (lr j w z) (li i u) ≡ Some xs → i ≤ j → IsSafeInteger (j + 1)
lr_li_made side j i w z u xs e h =
    let f : transform_act side (lr j w z) (li i u) ≡ at_shifted_position j 1 (λ k. one_act (lr k w z)) = rw (le_true i j h) in
    raised_fits j 1 (λ k. one_act (lr k w z)) xs (sym f ∙ e)

act_made : (side : Side) (c o : PlainAct) (xs : List PlainAct) → transform_act side c o ≡ Some xs → ActStaysInRange side c o
act_made side (si p s) (si r x) xs e = λ h. si_si_made side p r s x xs e h
act_made side (sd p d) (si r x) xs e = λ h. sd_si_made side p r d x xs e h
act_made side (li j v) (li i u) xs e = λ h. li_li_made side j i v u xs e h
act_made side (ld j x) (li i u) xs e = λ h. ld_li_made side j i x u xs e h
act_made side (lr j w z) (li i u) xs e = λ h. lr_li_made side j i w z u xs e h
act_made side (na a0) o xs e = tt
act_made side (si a0 a1) (na b0) xs e = tt
act_made side (si a0 a1) (sd b0 b1) xs e = tt
act_made side (si a0 a1) (li b0 b1) xs e = tt
act_made side (si a0 a1) (ld b0 b1) xs e = tt
act_made side (si a0 a1) (lr b0 b1 b2) xs e = tt
act_made side (si a0 a1) (oi b0 b1) xs e = tt
act_made side (si a0 a1) (od b0 b1) xs e = tt
act_made side (si a0 a1) (or b0 b1 b2) xs e = tt
act_made side (sd a0 a1) (na b0) xs e = tt
act_made side (sd a0 a1) (sd b0 b1) xs e = tt
act_made side (sd a0 a1) (li b0 b1) xs e = tt
act_made side (sd a0 a1) (ld b0 b1) xs e = tt
act_made side (sd a0 a1) (lr b0 b1 b2) xs e = tt
act_made side (sd a0 a1) (oi b0 b1) xs e = tt
act_made side (sd a0 a1) (od b0 b1) xs e = tt
act_made side (sd a0 a1) (or b0 b1 b2) xs e = tt
act_made side (li a0 a1) (na b0) xs e = tt
act_made side (li a0 a1) (si b0 b1) xs e = tt
act_made side (li a0 a1) (sd b0 b1) xs e = tt
act_made side (li a0 a1) (ld b0 b1) xs e = tt
act_made side (li a0 a1) (lr b0 b1 b2) xs e = tt
act_made side (li a0 a1) (oi b0 b1) xs e = tt
act_made side (li a0 a1) (od b0 b1) xs e = tt
act_made side (li a0 a1) (or b0 b1 b2) xs e = tt
act_made side (ld a0 a1) (na b0) xs e = tt
act_made side (ld a0 a1) (si b0 b1) xs e = tt
act_made side (ld a0 a1) (sd b0 b1) xs e = tt
act_made side (ld a0 a1) (ld b0 b1) xs e = tt
act_made side (ld a0 a1) (lr b0 b1 b2) xs e = tt
act_made side (ld a0 a1) (oi b0 b1) xs e = tt
act_made side (ld a0 a1) (od b0 b1) xs e = tt
act_made side (ld a0 a1) (or b0 b1 b2) xs e = tt
act_made side (lr a0 a1 a2) (na b0) xs e = tt
act_made side (lr a0 a1 a2) (si b0 b1) xs e = tt
act_made side (lr a0 a1 a2) (sd b0 b1) xs e = tt
act_made side (lr a0 a1 a2) (ld b0 b1) xs e = tt
act_made side (lr a0 a1 a2) (lr b0 b1 b2) xs e = tt
act_made side (lr a0 a1 a2) (oi b0 b1) xs e = tt
act_made side (lr a0 a1 a2) (od b0 b1) xs e = tt
act_made side (lr a0 a1 a2) (or b0 b1 b2) xs e = tt
act_made side (oi a0 a1) o xs e = tt
act_made side (od a0 a1) o xs e = tt
act_made side (or a0 a1 a2) o xs e = tt

-- ---- inside a step of the other's container

step_raised : (i j : ℕ) (v : Value) (m : Option PlainStep) → transform_step (li i v) (index j) ≡ Some m → i ≤ j → IsSafeInteger (j + 1)
step_raised i j v m e h =
    let f : transform_step (li i v) (index j) ≡ (if leb (j + 1) 9007199254740991 then Some (Some (index (j + 1))) else None) = rw (le_true i j h) in
    raised_if (leb (j + 1) 9007199254740991) (j + 1) (Some (Some (index (j + 1)))) m refl (sym f ∙ e)

step_made : (x : PlainAct) (s : PlainStep) (m : Option PlainStep) → transform_step x s ≡ Some m → StepStaysInRange x s
step_made (li i v) (index j) m e = λ h. step_raised i j v m e h
step_made (li i v) (key k) m e = tt
step_made (na a0) s m e = tt
step_made (si a0 a1) s m e = tt
step_made (sd a0 a1) s m e = tt
step_made (ld a0 a1) s m e = tt
step_made (lr a0 a1 a2) s m e = tt
step_made (oi a0 a1) s m e = tt
step_made (od a0 a1) s m e = tt
step_made (or a0 a1 a2) s m e = tt

-- ---- all of them

map_some_elim : {A B : Type 0} (f : A → B) (o : Option A) (y : B) → option_map f o ≡ Some y → (x : A) × (o ≡ Some x)
map_some_elim f None y e = cc
map_some_elim f (Some x) y e = (x, refl)

made_behind : (r : Option (List PlainStep)) (side : Side) (c o : PlainComponent) (cs stay : List PlainComponent) → option_map_or (transform_below side c o) r (Some stay) ≡ Some cs
    → SuffixStaysInRange side c o r
made_behind None side c o cs stay e = tt
made_behind (Some []) side c o cs stay e =
    let h = map_some_elim (map (component_at c.path)) (transform_act side c.act o.act) cs e in
    act_made side c.act o.act h.0 h.1
made_behind (Some (s ∷ rest)) side c o cs stay e =
    let h = map_some_elim (with_moved_step c o rest) (transform_step o.act s) cs e in
    step_made o.act s h.0 h.1

pub fits_where_made : (side : Side) (c o : PlainComponent) (cs : List PlainComponent) → transform side c o ≡ Some cs → StaysInRange side c o
fits_where_made side c o cs e = made_behind (strip_prefix o.path c.path) side c o cs (update_removed c o (strip_removed_path c o.path)) e
