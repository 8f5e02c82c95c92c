-- Transforming preserves the limits of components.
use Rattle.std.proofs.Common.{◌≡◌, ℕ, suc, ◌+◌, ◌-◌, ◌<◌, ◌≤◌, min, List, [], ◌∷◌, ◌++◌, length, map, take, drop, Bool, true, false, Option, Some, None, IsUtf8, refl, ap, ◌∙◌, subst, arith, length-append}
use Rattle.std.specs.Prelude.{⊤, if◌then◌else◌, nat_lt, nat_le, nat_eq, option_map, option_and_then}
use Rattle.std.specs.Option.{option_map_or}
use Rattle.std.proofs.lemmas.Bool.{leb-true, leb-false}
use Rattle.std.proofs.lemmas.Str.{IsUtf8-append, IsUtf8-take, IsUtf8-drop}
use Rattle.sdb_value.specs.Value.{Value, PlainStep, key, index, texts_equal, steps_equal}
use Rattle.sdb_rope.specs.Utf16.{units, cut_at}
use Rattle.sdb_component.specs.Plain.{PlainAct, na, si, sd, li, ld, lr, oi, od, or, PlainComponent}
use Rattle.sdb_component.specs.ToJson.{last_step, full_path}
use Rattle.sdb_apply.specs.Apply.{apply_one}
use Rattle.sdb_transform.specs.declared.side.Side.{Side}
use Rattle.sdb_transform.specs.declared.side.Side.TheVariants.{Left, Right}
use Rattle.sdb_transform.specs.Transform.{ActTransform, at_shifted_position, left_wins_or, one_act, no_acts, transform_act, split_delete, delete_without_overlap, delete_unless_empty, component_at, map_removed, updated_value, StepTransform, with_moved_step, transform_below, update_removed, strip_removed_path, removed_step, strip_prefix, transform_step, transform, put_after_put}
use Rattle.sdb_dump.specs.ValueLimits.{IsSafeInteger, ValueInLimits, StepInLimits, StepsInLimits, ActInLimits, ComponentInLimits, ComponentsInLimits}
use Rattle.sdb_transform.proofs.OffsetLemmas.{cut_prefix, units_split}
use Rattle.sdb_transform.proofs.PrefixLemmas.{behind_is}
use Rattle.sdb_dump.proofs.HoldsLemmas.{IfSomeHolds, opt_then, opt_map, opt_or, opt_at, opt_any, cond_holds}
use Rattle.sdb_dump.proofs.EffectLimits.{cut_boundary, does_fits}

-- each act is within the limits, and has a last step only if n allows it
abbrev AllActsInLimits : ℕ → List PlainAct → Type 0
AllActsInLimits n [] = ⊤
AllActsInLimits n (a ∷ xs) = ActInLimits 100 a × (length (last_step a) ≤ n) × AllActsInLimits n xs

abbrev ActsInLimits : ℕ → ActTransform → Type 0
ActsInLimits n = IfSomeHolds (AllActsInLimits n)

one_fits : (n : ℕ) (a : PlainAct) → ActInLimits 100 a → length (last_step a) ≤ n → ActsInLimits n (one_act a)
one_fits n a h l = (h, l, tt)

unchanged_in_limits : (a : PlainAct) → ActInLimits 100 a → ActsInLimits (length (last_step a)) (one_act a)
unchanged_in_limits a h = (h, omega arith, tt)

if_knowing : (n : ℕ) (t : Bool) (a b : ActTransform) → (t ≡ true → ActsInLimits n a) → (t ≡ false → ActsInLimits n b) → ActsInLimits n (if t then a else b)
if_knowing n true a b h k = h refl
if_knowing n false a b h k = k refl

raised_fits : (n m by : ℕ) (f : ℕ → ActTransform) → ((q : ℕ) → IsSafeInteger q → ActsInLimits n (f q)) → ActsInLimits n (at_shifted_position m by f)
raised_fits n m by f h = if_knowing n (nat_le (m + by) 9007199254740991) (f (m + by)) None (λ e. h (m + by) (leb-true (m + by) 9007199254740991 e)) (λ _. tt)

side_fits : (n : ℕ) (side : Side) (a b : ActTransform) → ActsInLimits n a → ActsInLimits n b → ActsInLimits n (left_wins_or side a b)
side_fits n Left a b h k = h
side_fits n Right a b h k = k

-- ---- texts

some_units : (s : List ℕ) → 0 < units s → 0 < length s
some_units [] h = absurd (omega (arith, h))
some_units (b ∷ bs) h = omega arith

split_in_limits : (p q before : ℕ) (d : List ℕ) (o : Option ℕ) → cut_at d before ≡ o → IsUtf8 d → IsSafeInteger p → IsSafeInteger q → 0 < before → before < units d
    → ActsInLimits 1 (option_map (λ i. sd p (take i d) ∷ sd q (drop i d) ∷ []) o)
split_in_limits p q before d None e u h k some less = tt
split_in_limits p q before d (Some i) e u h k some less =
    let b = cut_boundary d before i u e in
    let front = cut_prefix d before i e in (
      (h, (IsUtf8-take d i u b, some_units (take i d) (omega (arith, front, some)))),
      omega arith,
      ((k, (IsUtf8-drop d i u b, some_units (drop i d) (omega (arith, front, units_split i d, less)))), omega arith, tt),
    )

rest_fits : (p : ℕ) (s : List ℕ) → IsSafeInteger p → IsUtf8 s → AllActsInLimits 1 (delete_unless_empty p s)
rest_fits p [] h u = tt
rest_fits p (b ∷ bs) h u = ((h, (u, omega arith)), omega arith, tt)

without_fits : (p before after : ℕ) (d : List ℕ) (o u : Option ℕ) → cut_at d before ≡ o → cut_at d after ≡ u → IsUtf8 d → IsSafeInteger p
    → ActsInLimits 1 (option_and_then (λ i. option_map (λ j. delete_unless_empty p (take i d ++ drop j d)) u) o)
without_fits p before after d None u e f t h = tt
without_fits p before after d (Some i) None e f t h = tt
without_fits p before after d (Some i) (Some j) e f t h =
    rest_fits p (take i d ++ drop j d) h (IsUtf8-append (take i d) (drop j d) (IsUtf8-take d i t (cut_boundary d before i t e)) (IsUtf8-drop d j t (cut_boundary d after j t f)))

sd_over_si_fits : (p r : ℕ) (d t : List ℕ) → ActInLimits 100 (sd p d) → ActsInLimits 1 (transform_act Left (sd p d) (si r t))
sd_over_si_fits p r d t h =
    let whole = at_shifted_position p (units t) (λ q. one_act (sd q d)) in
    let split = at_shifted_position p (units t) (λ q. split_delete p d (r - p) q) in
    if_knowing 1 (nat_le r p) whole (if nat_le (p + units d) r then one_act (sd p d) else split)
    (λ _. raised_fits 1 p (units t) (λ q. one_act (sd q d)) (λ q c. one_fits 1 (sd q d) (c, h.1) (omega arith))) (λ e.
    if_knowing 1 (nat_le (p + units d) r) (one_act (sd p d)) split (λ _. one_fits 1 (sd p d) h (omega arith)) (λ f.
    let e' = leb-false r p e in
    let f' = leb-false (p + units d) r f in
    raised_fits 1 p (units t) (λ q. split_delete p d (r - p) q) (λ q c. split_in_limits p q (r - p) d (cut_at d (r - p)) refl h.1.0 h.0 c (omega (arith, e')) (omega (arith, e', f')))))

sd_over_sd_fits : (p r : ℕ) (d t : List ℕ) → ActInLimits 100 (sd p d) → ActsInLimits 1 (transform_act Left (sd p d) (sd r t))
sd_over_sd_fits p r d t h =
    let after = min (units d) (r + units t - p) in
    let rest = delete_without_overlap (min p r) d (r - p) after in
    cond_holds (ActsInLimits 1) (nat_le (r + units t) p) (one_act (sd (p - units t) d)) (if nat_le (p + units d) r then one_act (sd p d) else rest)
    (one_fits 1 (sd (p - units t) d) (omega (arith, h.0), h.1) (omega arith))
    (cond_holds (ActsInLimits 1) (nat_le (p + units d) r) (one_act (sd p d)) rest (one_fits 1 (sd p d) h (omega arith))
    (without_fits (min p r) (r - p) after d (cut_at d (r - p)) (cut_at d after) refl refl h.1.0 (omega (arith, h.0))))

-- ---- the table of transforms

put_fits : (side : Side) (l k : List ℕ) (z y : Value) (c : PlainAct) → ActInLimits 100 c → length (last_step c) ≤ 1 → IsUtf8 l → ValueInLimits 50 z → ValueInLimits 50 y → ActsInLimits 1 (put_after_put side l z c k y)
put_fits side l k z y c h s u g f =
    cond_holds (ActsInLimits 1) (texts_equal k l) (left_wins_or side (one_act (or l y z)) no_acts) (one_act c)
    (side_fits 1 side (one_act (or l y z)) no_acts (one_fits 1 (or l y z) (u, (f.0, omega (arith, f.1)), g) (omega arith)) tt) (one_fits 1 c h s)

over_fits : (side : Side) (a o : PlainAct) → ActInLimits 100 a → ActInLimits 100 o → ActsInLimits (length (last_step a)) (transform_act side a o)
over_fits side (na x) o h k = unchanged_in_limits (na x) h
over_fits side (si p s) (si r t) h k =
    let here = one_act (si p s) in
    let on = at_shifted_position p (units t) (λ q. one_act (si q s)) in
    let moves = raised_fits 1 p (units t) (λ q. one_act (si q s)) (λ q c. one_fits 1 (si q s) (c, h.1) (omega arith)) in
    cond_holds (ActsInLimits 1) (nat_lt r p) on (if nat_eq r p then left_wins_or side here on else here) moves
    (cond_holds (ActsInLimits 1) (nat_eq r p) (left_wins_or side here on) here (side_fits 1 side here on (unchanged_in_limits (si p s) h) moves) (unchanged_in_limits (si p s) h))
over_fits side (si p s) (sd r t) h k =
    let here = one_act (si p s) in
    cond_holds (ActsInLimits 1) (nat_le p r) here (if nat_le p (r + units t) then one_act (si r s) else one_act (si (p - units t) s)) (unchanged_in_limits (si p s) h)
    (cond_holds (ActsInLimits 1) (nat_le p (r + units t)) (one_act (si r s)) (one_act (si (p - units t) s))
    (one_fits 1 (si r s) (k.0, h.1) (omega arith)) (one_fits 1 (si (p - units t) s) (omega (arith, h.0), h.1) (omega arith)))
over_fits side (si p s) o h k = unchanged_in_limits (si p s) h
over_fits side (sd p d) (si r t) h k = sd_over_si_fits p r d t h
over_fits side (sd p d) (sd r t) h k = sd_over_sd_fits p r d t h
over_fits side (sd p d) o h k = unchanged_in_limits (sd p d) h
over_fits side (li j v) (li i u) h k =
    let here = one_act (li j v) in
    let on = at_shifted_position j 1 (λ q. one_act (li q v)) in
    let moves = raised_fits 1 j 1 (λ q. one_act (li q v)) (λ q c. one_fits 1 (li q v) (c, h.1) (omega arith)) in
    cond_holds (ActsInLimits 1) (nat_lt i j) on (if nat_eq i j then left_wins_or side here on else here) moves
    (cond_holds (ActsInLimits 1) (nat_eq i j) (left_wins_or side here on) here (side_fits 1 side here on (unchanged_in_limits (li j v) h) moves) (unchanged_in_limits (li j v) h))
over_fits side (li j v) (ld i u) h k =
    cond_holds (ActsInLimits 1) (nat_lt i j) (one_act (li (j - 1) v)) (one_act (li j v)) (one_fits 1 (li (j - 1) v) (omega (arith, h.0), h.1) (omega arith)) (unchanged_in_limits (li j v) h)
over_fits side (li j v) o h k = unchanged_in_limits (li j v) h
over_fits side (ld j x) (li i u) h k =
    cond_holds (ActsInLimits 1) (nat_le i j) (at_shifted_position j 1 (λ q. one_act (ld q x))) (one_act (ld j x))
    (raised_fits 1 j 1 (λ q. one_act (ld q x)) (λ q c. one_fits 1 (ld q x) (c, h.1) (omega arith))) (unchanged_in_limits (ld j x) h)
over_fits side (ld j x) (ld i u) h k =
    cond_holds (ActsInLimits 1) (nat_lt i j) (one_act (ld (j - 1) x)) (if nat_eq i j then no_acts else one_act (ld j x)) (one_fits 1 (ld (j - 1) x) (omega (arith, h.0), h.1) (omega arith))
    (cond_holds (ActsInLimits 1) (nat_eq i j) no_acts (one_act (ld j x)) tt (unchanged_in_limits (ld j x) h))
over_fits side (ld j x) (lr i u y) h k = cond_holds (ActsInLimits 1) (nat_eq i j) no_acts (one_act (ld j x)) tt (unchanged_in_limits (ld j x) h)
over_fits side (ld j x) o h k = unchanged_in_limits (ld j x) h
over_fits side (lr j w z) (li i u) h k =
    cond_holds (ActsInLimits 1) (nat_le i j) (at_shifted_position j 1 (λ q. one_act (lr q w z))) (one_act (lr j w z))
    (raised_fits 1 j 1 (λ q. one_act (lr q w z)) (λ q c. one_fits 1 (lr q w z) (c, h.1, h.2) (omega arith))) (unchanged_in_limits (lr j w z) h)
over_fits side (lr j w z) (ld i u) h k =
    cond_holds (ActsInLimits 1) (nat_lt i j) (one_act (lr (j - 1) w z)) (if nat_eq i j then one_act (li i z) else one_act (lr j w z))
    (one_fits 1 (lr (j - 1) w z) (omega (arith, h.0), h.1, h.2) (omega arith))
    (cond_holds (ActsInLimits 1) (nat_eq i j) (one_act (li i z)) (one_act (lr j w z)) (one_fits 1 (li i z) (k.0, h.2) (omega arith)) (unchanged_in_limits (lr j w z) h))
over_fits side (lr j w z) (lr i u y) h k =
    cond_holds (ActsInLimits 1) (nat_eq i j) (left_wins_or side (one_act (lr i y z)) no_acts) (one_act (lr j w z))
    (side_fits 1 side (one_act (lr i y z)) no_acts (one_fits 1 (lr i y z) (k.0, (k.2.0, omega (arith, k.2.1)), h.2) (omega arith)) tt) (unchanged_in_limits (lr j w z) h)
over_fits side (lr j w z) o h k = unchanged_in_limits (lr j w z) h
over_fits side (oi l z) (oi m y) h k = put_fits side l m z y (oi l z) h (omega arith) h.0 h.1 k.1
over_fits side (oi l z) (or m x y) h k = put_fits side l m z y (oi l z) h (omega arith) h.0 h.1 k.2
over_fits side (oi l z) o h k = unchanged_in_limits (oi l z) h
over_fits side (od l x) (od m u) h k = cond_holds (ActsInLimits 1) (texts_equal m l) no_acts (one_act (od l x)) tt (unchanged_in_limits (od l x) h)
over_fits side (od l x) (or m u y) h k = cond_holds (ActsInLimits 1) (texts_equal m l) no_acts (one_act (od l x)) tt (unchanged_in_limits (od l x) h)
over_fits side (od l x) o h k = unchanged_in_limits (od l x) h
over_fits side (or l w z) (oi m y) h k = put_fits side l m z y (or l w z) h (omega arith) h.0 h.2 k.1
over_fits side (or l w z) (od m u) h k = cond_holds (ActsInLimits 1) (texts_equal m l) (one_act (oi l z)) (one_act (or l w z)) (one_fits 1 (oi l z) (h.0, h.2) (omega arith)) (unchanged_in_limits (or l w z) h)
over_fits side (or l w z) (or m x y) h k = put_fits side l m z y (or l w z) h (omega arith) h.0 h.2 k.2
over_fits side (or l w z) o h k = unchanged_in_limits (or l w z) h

-- ---- components

pub whole_length : (p : List PlainStep) (a : PlainAct) → length (full_path p a) ≡ length p + length (last_step a)
whole_length p a = length-append p (last_step a)

all_at : (p : List PlainStep) (n : ℕ) (xs : List PlainAct) → StepsInLimits p → length p + n ≤ 50 → AllActsInLimits n xs → ComponentsInLimits 100 (map (component_at p) xs)
all_at p n [] h s k = tt
all_at p n (a ∷ xs) h s k =
    (record { path = h; short = omega (arith, whole_length p a, k.1, s); act = k.0 }, all_at p n xs h s k.2)

fit_prefix : (p q : List PlainStep) → StepsInLimits (p ++ q) → StepsInLimits q
fit_prefix [] q h = h
fit_prefix (s ∷ p) q h = fit_prefix p q h.1

fit_with : (p q : List PlainStep) (s : PlainStep) → StepsInLimits p → StepInLimits s → StepsInLimits q → StepsInLimits (p ++ s ∷ q)
fit_with [] q s h k g = (k, g)
fit_with (t ∷ p) q s h k g = (h.0, fit_with p q s h.1 k g)

abbrev StepTransformInLimits : StepTransform → Type 0
StepTransformInLimits = IfSomeHolds (IfSomeHolds StepInLimits)

raised_step : (j : ℕ) (b : Bool) → nat_le (j + 1) 9007199254740991 ≡ b → StepTransformInLimits (if b then Some (Some (index (j + 1))) else None)
raised_step j true e = leb-true (j + 1) 9007199254740991 e
raised_step j false e = tt

step_fits : (o : PlainAct) (s : PlainStep) → StepInLimits s → StepTransformInLimits (transform_step o s)
step_fits (li i v) (index j) h = cond_holds StepTransformInLimits (nat_le i j) (if nat_le (j + 1) 9007199254740991 then Some (Some (index (j + 1))) else None) (Some (Some (index j))) (raised_step j (nat_le (j + 1) 9007199254740991) refl) h
step_fits (ld i x) (index j) h =
    cond_holds StepTransformInLimits (nat_lt i j) (Some (Some (index (j - 1)))) (if nat_eq i j then Some None else Some (Some (index j))) (omega (arith, h)) (cond_holds StepTransformInLimits (nat_eq i j) (Some None) (Some (Some (index j))) tt h)
step_fits (lr i x y) (index j) h = cond_holds StepTransformInLimits (nat_eq i j) (Some None) (Some (Some (index j))) tt h
step_fits (od k x) (key l) h = cond_holds StepTransformInLimits (texts_equal k l) (Some None) (Some (Some (key l))) tt h
step_fits (or k x y) (key l) h = cond_holds StepTransformInLimits (texts_equal k l) (Some None) (Some (Some (key l))) tt h
step_fits o (index j) h = h
step_fits o (key l) h = h

moved_fits : (c o : PlainComponent) (rest : List PlainStep) (s : PlainStep) (m : StepTransform) → c.path ≡ o.path ++ s ∷ rest → ComponentInLimits 100 c → ComponentInLimits 100 o → StepTransformInLimits m
    → IfSomeHolds (ComponentsInLimits 100) (option_map (with_moved_step c o rest) m)
moved_fits c o rest s None e h k g = tt
moved_fits c o rest s (Some None) e h k g = tt
moved_fits c o rest s (Some (Some t)) e h k g =
    let after = fit_prefix o.path (s ∷ rest) (subst StepsInLimits e h.path) in
    let was : length c.path ≡ length o.path + suc (length rest) = ap length e ∙ length-append o.path (s ∷ rest) in
    let now : length (o.path ++ t ∷ rest) ≡ length o.path + suc (length rest) = length-append o.path (t ∷ rest) in (
      record {
        path = fit_with o.path rest t k.path g after.1;
        short = omega (arith, whole_length (o.path ++ t ∷ rest) c.act, whole_length c.path c.act, was, now, h.short);
        act = h.act;
      },
      tt,
    )

below_fits : (side : Side) (c o : PlainComponent) (p : List PlainStep) → c.path ≡ o.path ++ p → ComponentInLimits 100 c → ComponentInLimits 100 o → IfSomeHolds (ComponentsInLimits 100) (transform_below side c o p)
below_fits side c o [] e h k =
    opt_map (AllActsInLimits (length (last_step c.act))) (ComponentsInLimits 100) (map (component_at c.path)) (transform_act side c.act o.act) (over_fits side c.act o.act h.act k.act) (λ xs a.
    all_at c.path (length (last_step c.act)) xs h.path (omega (arith, whole_length c.path c.act, h.short)) a)
below_fits side c o (s ∷ rest) e h k =
    let after = fit_prefix o.path (s ∷ rest) (subst StepsInLimits e h.path) in
    moved_fits c o rest s (transform_step o.act s) e h k (step_fits o.act s after.0)

with_removed_fits : (f : Value → Value) (a : PlainAct) → ((x : Value) → ValueInLimits 100 x → ValueInLimits 100 (f x)) → ActInLimits 100 a → ActInLimits 100 (map_removed f a) × (length (last_step (map_removed f a)) ≡ length (last_step a))
with_removed_fits f (ld i x) g h = ((h.0, g x h.1), refl)
with_removed_fits f (lr i x y) g h = ((h.0, g x h.1, h.2), refl)
with_removed_fits f (od k x) g h = ((h.0, g x h.1), refl)
with_removed_fits f (or k x y) g h = ((h.0, g x h.1, h.2), refl)
with_removed_fits f a g h = (h, refl)

above_fits : (c o : PlainComponent) (r : Option (List PlainStep)) → IfSomeHolds (λ q. length q ≤ length o.path) r → ComponentInLimits 100 c → ComponentInLimits 100 o → ComponentsInLimits 100 (update_removed c o r)
above_fits c o None l h k = (h, tt)
above_fits c o (Some rest) l h k =
    let under = component_at rest o.act in
    let short : length rest + length (last_step o.act) ≤ 50 = omega (arith, l, whole_length o.path o.act, k.short) in
    let r = with_removed_fits (updated_value under) c.act (λ x f. opt_or (ValueInLimits 100) (ValueInLimits 100) (λ y. y) (apply_one under x) x (does_fits under x k.act short f) f (λ y g. g)) h.act in
    (record { path = h.path; short = omega (arith, whole_length c.path c.act, whole_length c.path (map_removed (updated_value under) c.act), r.1, h.short); act = r.0 }, tt)

length_bound_cond : (b : Bool) (r : Option (List PlainStep)) (n : ℕ) → IfSomeHolds (λ q. length q ≤ n) r → IfSomeHolds (λ q. length q ≤ suc n) (if b then r else None)
length_bound_cond true None n h = tt
length_bound_cond true (Some q) n h = omega (arith, h)
length_bound_cond false r n h = tt

length_bound_mono : (m n : ℕ) (r : Option (List PlainStep)) → m ≤ n → IfSomeHolds (λ q. length q ≤ m) r → IfSomeHolds (λ q. length q ≤ n) r
length_bound_mono m n None h k = tt
length_bound_mono m n (Some q) h k = omega (arith, h, k)

after_short : (front path : List PlainStep) → IfSomeHolds (λ q. length q ≤ length path) (strip_prefix front path)
after_short [] path = omega arith
after_short (s ∷ front) [] = tt
after_short (s ∷ front) (t ∷ path) = length_bound_cond (steps_equal s t) (strip_prefix front path) (length path) (after_short front path)

under_short : (c : PlainComponent) (path : List PlainStep) → IfSomeHolds (λ q. length q ≤ length path) (strip_removed_path c path)
under_short c path =
    opt_then (λ s. ⊤) (λ q. length q ≤ length path) (λ s. option_and_then (strip_prefix (s ∷ [])) (strip_prefix c.path path)) (removed_step c.act) (opt_any (removed_step c.act)) (λ s _.
    opt_then (λ q. length q ≤ length path) (λ q. length q ≤ length path) (strip_prefix (s ∷ [])) (strip_prefix c.path path) (after_short c.path path) (λ q l.
    length_bound_mono (length q) (length path) (strip_prefix (s ∷ []) q) l (after_short (s ∷ []) q)))

pub transform_in_limits_cases : (side : Side) (c o : PlainComponent) (r : Option (List PlainStep)) → strip_prefix o.path c.path ≡ r → ComponentInLimits 100 c → ComponentInLimits 100 o
    → IfSomeHolds (ComponentsInLimits 100) (option_map_or (transform_below side c o) r (Some (update_removed c o (strip_removed_path c o.path))))
transform_in_limits_cases side c o None e h k = above_fits c o (strip_removed_path c o.path) (under_short c o.path) h k
transform_in_limits_cases side c o (Some p) e h k = below_fits side c o p (behind_is o.path c.path p e) h k

pub transform_fits : (side : Side) (c o : PlainComponent) (cs : List PlainComponent) → ComponentInLimits 100 c → ComponentInLimits 100 o
    → transform side c o ≡ Some cs → ComponentsInLimits 100 cs
transform_fits side c o cs h k e = opt_at (ComponentsInLimits 100) (transform side c o) cs e (transform_in_limits_cases side c o (strip_prefix o.path c.path) refl h k)
