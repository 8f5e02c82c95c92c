-- Transformed acts have valid texts and well-formed inserted values.
use Rattle.std.proofs.Common.{◌≡◌, ℕ, ◌+◌, ◌-◌, ◌<◌, Bool, true, false, min, List, [], ◌∷◌, ◌++◌, length, take, drop, Option, Some, None, option_map, refl, subst, arith}
use Rattle.std.specs.Prelude.{if◌then◌else◌, nat_le, nat_lt, nat_eq, option_and_then, ⊤}
use Rattle.std.specs.Str.{IsUtf8}
use Rattle.std.proofs.lemmas.Bool.{leb-false}
use Rattle.std.proofs.lemmas.Str.{IsUtf8-append, IsUtf8-take, IsUtf8-drop}
use Rattle.sdb_value.specs.Value.{Value, texts_equal}
use Rattle.sdb_rope.specs.Utf16.{units, cut_at}
use Rattle.sdb_component.specs.Plain.{PlainAct, na, si, sd, li, ld, lr, oi, od, or}
use Rattle.sdb_transform.specs.declared.side.Side.{Side}
use Rattle.sdb_transform.specs.declared.side.Side.TheVariants.{Left, Right}
use Rattle.sdb_transform.specs.Transform.{ActTransform, at_shifted_position, left_wins_or, one_act, no_acts, transform_act, split_delete, delete_without_overlap, delete_unless_empty, map_removed, put_after_put}
use Rattle.sdb_transform.specs.OperationConvergence.{HasValidParts}
use Rattle.sdb_transform.proofs.OffsetLemmas.{cut_prefix, units_split}
use Rattle.sdb_transform.proofs.FormedValues.{cut_boundary}

abbrev pub AllHaveValidParts : List PlainAct → Type 0
AllHaveValidParts [] = ⊤
AllHaveValidParts (a ∷ xs) = HasValidParts a × AllHaveValidParts xs

-- of the transformed acts, if any
abbrev ValidIfSome : ActTransform → Type 0
ValidIfSome None = ⊤
ValidIfSome (Some xs) = AllHaveValidParts xs

if_valid : (t : Bool) (a b : ActTransform) → (t ≡ true → ValidIfSome a) → (t ≡ false → ValidIfSome b) → ValidIfSome (if t then a else b)
if_valid true a b h k = h refl
if_valid false a b h k = k refl

either_valid : (t : Bool) (a b : ActTransform) → ValidIfSome a → ValidIfSome b → ValidIfSome (if t then a else b)
either_valid true a b h k = h
either_valid false a b h k = k

shifted_valid : (m by : ℕ) (f : ℕ → ActTransform) → ((q : ℕ) → ValidIfSome (f q)) → ValidIfSome (at_shifted_position m by f)
shifted_valid m by f h = either_valid (nat_le (m + by) 9007199254740991) (f (m + by)) None (h (m + by)) tt

side_valid : (side : Side) (a b : ActTransform) → ValidIfSome a → ValidIfSome b → ValidIfSome (left_wins_or side a b)
side_valid Left a b h k = h
side_valid Right a b h k = k

-- ---- deleted texts

not_empty : (d : List ℕ) → 0 < units d → 0 < length d
not_empty [] h = absurd (omega (arith, h))
not_empty (b ∷ d) h = omega arith

split_valid : (p before q : ℕ) (d : List ℕ) (o : Option ℕ) → cut_at d before ≡ o → IsUtf8 d → 0 < before → before < units d
    → ValidIfSome (option_map (λ i. sd p (take i d) ∷ sd q (drop i d) ∷ []) o)
split_valid p before q d None e u h k = tt
split_valid p before q d (Some i) e u h k =
    let b = cut_boundary d before i u e in
    let first = not_empty (take i d) (omega (arith, h, cut_prefix d before i e)) in
    let second = not_empty (drop i d) (omega (arith, k, cut_prefix d before i e, units_split i d)) in
    (((IsUtf8-take d i u b, first), tt), (((IsUtf8-drop d i u b, second), tt), tt))

rest_valid : (p : ℕ) (d : List ℕ) → IsUtf8 d → AllHaveValidParts (delete_unless_empty p d)
rest_valid p [] u = tt
rest_valid p (b ∷ bs) u = (((u, omega arith), tt), tt)

without_valid : (p before after : ℕ) (d : List ℕ) (o u : Option ℕ) → cut_at d before ≡ o → cut_at d after ≡ u → IsUtf8 d
    → ValidIfSome (option_and_then (λ i. option_map (λ j. delete_unless_empty p (take i d ++ drop j d)) u) o)
without_valid p before after d None u e f t = tt
without_valid p before after d (Some i) None e f t = tt
without_valid p before after d (Some i) (Some j) e f t =
    rest_valid p (take i d ++ drop j d) (IsUtf8-append (take i d) (drop j d) (IsUtf8-take d i t (cut_boundary d before i t e)) (IsUtf8-drop d j t (cut_boundary d after j t f)))

sd_si_valid : (p r : ℕ) (d t : List ℕ) → HasValidParts (sd p d) → ValidIfSome (transform_act Left (sd p d) (si r t))
sd_si_valid p r d t h =
    let whole = at_shifted_position p (units t) (λ q. one_act (sd q d)) in
    let split = at_shifted_position p (units t) (λ q. split_delete p d (r - p) q) in
    if_valid (nat_le r p) whole (if nat_le (p + units d) r then one_act (sd p d) else split) (λ _. shifted_valid p (units t) (λ q. one_act (sd q d)) (λ q. (h, tt))) (λ e.
    if_valid (nat_le (p + units d) r) (one_act (sd p d)) split (λ _. (h, tt)) (λ f.
    let e' = leb-false r p e in
    let f' = leb-false (p + units d) r f in
    shifted_valid p (units t) (λ q. split_delete p d (r - p) q) (λ q. split_valid p (r - p) q d (cut_at d (r - p)) refl h.0.0 (omega arith) (omega arith))))

sd_sd_valid : (p r : ℕ) (d t : List ℕ) → HasValidParts (sd p d) → ValidIfSome (transform_act Left (sd p d) (sd r t))
sd_sd_valid p r d t h =
    let after = min (units d) (r + units t - p) in
    let rest = delete_without_overlap (min p r) d (r - p) after in
    either_valid (nat_le (r + units t) p) (one_act (sd (p - units t) d)) (if nat_le (p + units d) r then one_act (sd p d) else rest) (h, tt)
    (either_valid (nat_le (p + units d) r) (one_act (sd p d)) rest (h, tt) (without_valid (min p r) (r - p) after d (cut_at d (r - p)) (cut_at d after) refl refl h.0.0))

-- ---- the table of transforms

put_valid : (side : Side) (l k : List ℕ) (z y : Value) (c : PlainAct) → HasValidParts (or l y z) → HasValidParts c → ValidIfSome (put_after_put side l z c k y)
put_valid side l k z y c h g = either_valid (texts_equal k l) (left_wins_or side (one_act (or l y z)) no_acts) (one_act c) (side_valid side (one_act (or l y z)) no_acts (h, tt) tt) (g, tt)

transform_valid : (side : Side) (a o : PlainAct) → HasValidParts a → ValidIfSome (transform_act side a o)
transform_valid side (na x) o h = (h, tt)
transform_valid side (si p s) (si r t) h =
    let here = one_act (si p s) in
    let on = at_shifted_position p (units t) (λ q. one_act (si q s)) in
    let moves = shifted_valid p (units t) (λ q. one_act (si q s)) (λ q. (h, tt)) in
    either_valid (nat_lt r p) on (if nat_eq r p then left_wins_or side here on else here) moves (either_valid (nat_eq r p) (left_wins_or side here on) here (side_valid side here on (h, tt) moves) (h, tt))
transform_valid side (si p s) (sd r t) h =
    let here = one_act (si p s) in
    either_valid (nat_le p r) here (if nat_le p (r + units t) then one_act (si r s) else one_act (si (p - units t) s)) (h, tt)
    (either_valid (nat_le p (r + units t)) (one_act (si r s)) (one_act (si (p - units t) s)) (h, tt) (h, tt))
transform_valid side (si p s) o h = (h, tt)
transform_valid side (sd p d) (si r t) h = sd_si_valid p r d t h
transform_valid side (sd p d) (sd r t) h = sd_sd_valid p r d t h
transform_valid side (sd p d) o h = (h, tt)
transform_valid side (li j v) (li i u) h =
    let here = one_act (li j v) in
    let on = at_shifted_position j 1 (λ k. one_act (li k v)) in
    let moves = shifted_valid j 1 (λ k. one_act (li k v)) (λ k. (h, tt)) in
    either_valid (nat_lt i j) on (if nat_eq i j then left_wins_or side here on else here) moves (either_valid (nat_eq i j) (left_wins_or side here on) here (side_valid side here on (h, tt) moves) (h, tt))
transform_valid side (li j v) (ld i u) h = either_valid (nat_lt i j) (one_act (li (j - 1) v)) (one_act (li j v)) (h, tt) (h, tt)
transform_valid side (li j v) o h = (h, tt)
transform_valid side (ld j x) (li i u) h = either_valid (nat_le i j) (at_shifted_position j 1 (λ k. one_act (ld k x))) (one_act (ld j x)) (shifted_valid j 1 (λ k. one_act (ld k x)) (λ k. (h, tt))) (h, tt)
transform_valid side (ld j x) (ld i u) h =
    either_valid (nat_lt i j) (one_act (ld (j - 1) x)) (if nat_eq i j then no_acts else one_act (ld j x)) (h, tt)
    (either_valid (nat_eq i j) no_acts (one_act (ld j x)) tt (h, tt))
transform_valid side (ld j x) (lr i u y) h = either_valid (nat_eq i j) no_acts (one_act (ld j x)) tt (h, tt)
transform_valid side (ld j x) o h = (h, tt)
transform_valid side (lr j w z) (li i u) h = either_valid (nat_le i j) (at_shifted_position j 1 (λ k. one_act (lr k w z))) (one_act (lr j w z)) (shifted_valid j 1 (λ k. one_act (lr k w z)) (λ k. (h, tt))) (h, tt)
transform_valid side (lr j w z) (ld i u) h =
    either_valid (nat_lt i j) (one_act (lr (j - 1) w z)) (if nat_eq i j then one_act (li i z) else one_act (lr j w z)) (h, tt)
    (either_valid (nat_eq i j) (one_act (li i z)) (one_act (lr j w z)) (h, tt) (h, tt))
transform_valid side (lr j w z) (lr i u y) h = either_valid (nat_eq i j) (left_wins_or side (one_act (lr i y z)) no_acts) (one_act (lr j w z)) (side_valid side (one_act (lr i y z)) no_acts (h, tt) tt) (h, tt)
transform_valid side (lr j w z) o h = (h, tt)
transform_valid side (oi l z) (oi k y) h = put_valid side l k z y (oi l z) h h
transform_valid side (oi l z) (or k u y) h = put_valid side l k z y (oi l z) h h
transform_valid side (oi l z) o h = (h, tt)
transform_valid side (od l x) (od k u) h = either_valid (texts_equal k l) no_acts (one_act (od l x)) tt (h, tt)
transform_valid side (od l x) (or k u y) h = either_valid (texts_equal k l) no_acts (one_act (od l x)) tt (h, tt)
transform_valid side (od l x) o h = (h, tt)
transform_valid side (or l w z) (oi k y) h = put_valid side l k z y (or l w z) h h
transform_valid side (or l w z) (od k u) h = either_valid (texts_equal k l) (one_act (oi l z)) (one_act (or l w z)) (h, tt) (h, tt)
transform_valid side (or l w z) (or k u y) h = put_valid side l k z y (or l w z) h h
transform_valid side (or l w z) o h = (h, tt)

pub transformed_parts : (side : Side) (a o : PlainAct) (xs : List PlainAct) → transform_act side a o ≡ Some xs → HasValidParts a → AllHaveValidParts xs
transformed_parts side a o xs e h = subst ValidIfSome e (transform_valid side a o h)

-- an updated removed value changes neither
pub updated_parts : (f : Value → Value) (a : PlainAct) → HasValidParts a → HasValidParts (map_removed f a)
updated_parts f (na x) h = h
updated_parts f (si p s) h = h
updated_parts f (sd p d) h = h
updated_parts f (li j v) h = h
updated_parts f (ld j x) h = h
updated_parts f (lr j w z) h = h
updated_parts f (oi l z) h = h
updated_parts f (od l x) h = h
updated_parts f (or l w z) h = h
