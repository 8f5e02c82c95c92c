-- How far transforms raise positions.
use Rattle.std.proofs.Common.{◌≡◌, ℕ, ◌+◌, ◌-◌, ◌≤◌, Bool, true, false, min, max, List, [], ◌∷◌, ◌++◌, map, take, drop, Option, Some, None, option_map, refl, ap, subst, arith}
use Rattle.std.specs.Prelude.{if◌then◌else◌, nat_le, nat_lt, nat_eq, option_and_then, ⊤}
use Rattle.std.specs.Option.{option_map_or}
use Rattle.std.proofs.lemmas.Bool.{leb-false}
use Rattle.std.proofs.lemmas.Bool.Decides.{nat_tests}
use Rattle.sdb_value.specs.Value.{Value, PlainStep, key, index, texts_equal}
use Rattle.sdb_rope.specs.Utf16.{units, cut_at}
use Rattle.sdb_component.specs.Plain.{PlainAct, na, si, sd, li, ld, lr, oi, od, or, PlainComponent}
use Rattle.sdb_transform.specs.declared.side.Side.{Side}
use Rattle.sdb_transform.specs.declared.side.Side.TheVariants.{Left, Right}
use Rattle.sdb_transform.specs.Transform.{ActTransform, at_shifted_position, left_wins_or, one_act, no_acts, transform_act, split_delete, delete_without_overlap, delete_unless_empty, component_at, map_removed, updated_value, with_moved_step, transform_below, update_removed, strip_removed_path, strip_prefix, transform_step, transform, put_after_put}
use Rattle.sdb_transform.specs.Convergence.{IsSafeInteger, ActStaysInRange, StepStaysInRange, SuffixStaysInRange, StaysInRange}
use Rattle.sdb_transform.specs.OperationConvergence.{step_position, act_position, highest_index, highest_position, inserted_size, total_inserted_size}
use Rattle.sdb_transform.proofs.PrefixLemmas.{behind_is}

-- ---- acts

abbrev acts_position : List PlainAct → ℕ
acts_position [] = 0
acts_position (a ∷ xs) = max (act_position a) (acts_position xs)

abbrev acts_size : List PlainAct → ℕ
acts_size [] = 0
acts_size (a ∷ xs) = inserted_size a + acts_size xs

-- no position is above n, and the inserted size is at most m
abbrev ActsWithin : ℕ → ℕ → List PlainAct → Type 0
ActsWithin n m xs = (acts_position xs ≤ n) × (acts_size xs ≤ m)

-- of the transformed acts, if any
abbrev WithinIfSome : ℕ → ℕ → ActTransform → Type 0
WithinIfSome n m None = ⊤
WithinIfSome n m (Some xs) = ActsWithin n m xs

if_within : (n m : ℕ) (t : Bool) (a b : ActTransform) → (t ≡ true → WithinIfSome n m a) → (t ≡ false → WithinIfSome n m b) → WithinIfSome n m (if t then a else b)
if_within n m true a b h k = h refl
if_within n m false a b h k = k refl

either_within : (n m : ℕ) (t : Bool) (a b : ActTransform) → WithinIfSome n m a → WithinIfSome n m b → WithinIfSome n m (if t then a else b)
either_within n m true a b h k = h
either_within n m false a b h k = k

shifted_within : (n m p by : ℕ) (f : ℕ → ActTransform) → WithinIfSome n m (f (p + by)) → WithinIfSome n m (at_shifted_position p by f)
shifted_within n m p by f h = either_within n m (nat_le (p + by) 9007199254740991) (f (p + by)) None h tt

side_within : (n m : ℕ) (side : Side) (a b : ActTransform) → WithinIfSome n m a → WithinIfSome n m b → WithinIfSome n m (left_wins_or side a b)
side_within n m Left a b h k = h
side_within n m Right a b h k = k

eq_of : (a b : ℕ) → nat_eq a b ≡ true → a ≡ b
eq_of a b e = grind (arith, nat_tests)

split_within : (n p q : ℕ) (d : List ℕ) (o : Option ℕ) → p ≤ n → q ≤ n → WithinIfSome n 0 (option_map (λ i. sd p (take i d) ∷ sd q (drop i d) ∷ []) o)
split_within n p q d None h k = tt
split_within n p q d (Some i) h k = (omega (arith, h, k), omega arith)

rest_within : (n p : ℕ) (d : List ℕ) → p ≤ n → ActsWithin n 0 (delete_unless_empty p d)
rest_within n p [] h = (omega arith, omega arith)
rest_within n p (b ∷ bs) h = (omega (arith, h), omega arith)

without_within : (n p : ℕ) (d : List ℕ) (o u : Option ℕ) → p ≤ n → WithinIfSome n 0 (option_and_then (λ i. option_map (λ j. delete_unless_empty p (take i d ++ drop j d)) u) o)
without_within n p d None u h = tt
without_within n p d (Some i) None h = tt
without_within n p d (Some i) (Some j) h = rest_within n p (take i d ++ drop j d) h

sd_si_within : (p r : ℕ) (d t : List ℕ) → WithinIfSome (p + units t) 0 (transform_act Left (sd p d) (si r t))
sd_si_within p r d t =
    let n = p + units t in
    let whole = at_shifted_position p (units t) (λ q. one_act (sd q d)) in
    let split = at_shifted_position p (units t) (λ q. split_delete p d (r - p) q) in
    either_within n 0 (nat_le r p) whole (if nat_le (p + units d) r then one_act (sd p d) else split)
    (shifted_within n 0 p (units t) (λ q. one_act (sd q d)) (omega arith, omega arith))
    (either_within n 0 (nat_le (p + units d) r) (one_act (sd p d)) split (omega arith, omega arith)
    (shifted_within n 0 p (units t) (λ q. split_delete p d (r - p) q) (split_within n p n d (cut_at d (r - p)) (omega arith) (omega arith))))

sd_sd_within : (p r : ℕ) (d t : List ℕ) → WithinIfSome (p + 0) 0 (transform_act Left (sd p d) (sd r t))
sd_sd_within p r d t =
    let n = p + 0 in
    let after = min (units d) (r + units t - p) in
    let rest = delete_without_overlap (min p r) d (r - p) after in
    either_within n 0 (nat_le (r + units t) p) (one_act (sd (p - units t) d)) (if nat_le (p + units d) r then one_act (sd p d) else rest) (omega arith, omega arith)
    (either_within n 0 (nat_le (p + units d) r) (one_act (sd p d)) rest (omega arith, omega arith) (without_within n (min p r) d (cut_at d (r - p)) (cut_at d after) (omega arith)))

put_within : (side : Side) (l k : List ℕ) (z y : Value) (c : PlainAct) → act_position c ≡ 0 → inserted_size c ≡ 0 → WithinIfSome 0 0 (put_after_put side l z c k y)
put_within side l k z y c h g =
    either_within 0 0 (texts_equal k l) (left_wins_or side (one_act (or l y z)) no_acts) (one_act c)
    (side_within 0 0 side (one_act (or l y z)) no_acts (omega arith, omega arith) (omega arith, omega arith)) (omega (arith, h), omega (arith, g))

transform_within : (side : Side) (a o : PlainAct) → WithinIfSome (act_position a + inserted_size o) (inserted_size a) (transform_act side a o)
transform_within side (na x) o = (omega arith, omega arith)
transform_within side (si p s) (si r t) =
    let n = p + units t in
    let m = units s in
    let here = one_act (si p s) in
    let on = at_shifted_position p (units t) (λ q. one_act (si q s)) in
    let moves = shifted_within n m p (units t) (λ q. one_act (si q s)) (omega arith, omega arith) in
    either_within n m (nat_lt r p) on (if nat_eq r p then left_wins_or side here on else here) moves
    (either_within n m (nat_eq r p) (left_wins_or side here on) here (side_within n m side here on (omega arith, omega arith) moves) (omega arith, omega arith))
transform_within side (si p s) (sd r t) =
    let n = p + 0 in
    let m = units s in
    let here = one_act (si p s) in
    if_within n m (nat_le p r) here (if nat_le p (r + units t) then one_act (si r s) else one_act (si (p - units t) s)) (λ _. (omega arith, omega arith)) (λ e.
    let e' = leb-false p r e in
    either_within n m (nat_le p (r + units t)) (one_act (si r s)) (one_act (si (p - units t) s)) (omega arith, omega arith) (omega arith, omega arith))
transform_within side (si p s) o = (omega arith, omega arith)
transform_within side (sd p d) (si r t) = sd_si_within p r d t
transform_within side (sd p d) (sd r t) = sd_sd_within p r d t
transform_within side (sd p d) o = (omega arith, omega arith)
transform_within side (li j v) (li i u) =
    let n = j + 1 in
    let here = one_act (li j v) in
    let on = at_shifted_position j 1 (λ k. one_act (li k v)) in
    let moves = shifted_within n 1 j 1 (λ k. one_act (li k v)) (omega arith, omega arith) in
    either_within n 1 (nat_lt i j) on (if nat_eq i j then left_wins_or side here on else here) moves
    (either_within n 1 (nat_eq i j) (left_wins_or side here on) here (side_within n 1 side here on (omega arith, omega arith) moves) (omega arith, omega arith))
transform_within side (li j v) (ld i u) = either_within (j + 0) 1 (nat_lt i j) (one_act (li (j - 1) v)) (one_act (li j v)) (omega arith, omega arith) (omega arith, omega arith)
transform_within side (li j v) o = (omega arith, omega arith)
transform_within side (ld j x) (li i u) =
    either_within (j + 1) 0 (nat_le i j) (at_shifted_position j 1 (λ k. one_act (ld k x))) (one_act (ld j x)) (shifted_within (j + 1) 0 j 1 (λ k. one_act (ld k x)) (omega arith, omega arith)) (omega arith, omega arith)
transform_within side (ld j x) (ld i u) =
    either_within (j + 0) 0 (nat_lt i j) (one_act (ld (j - 1) x)) (if nat_eq i j then no_acts else one_act (ld j x)) (omega arith, omega arith)
    (either_within (j + 0) 0 (nat_eq i j) no_acts (one_act (ld j x)) (omega arith, omega arith) (omega arith, omega arith))
transform_within side (ld j x) (lr i u y) = either_within (j + 1) 0 (nat_eq i j) no_acts (one_act (ld j x)) (omega arith, omega arith) (omega arith, omega arith)
transform_within side (ld j x) o = (omega arith, omega arith)
transform_within side (lr j w z) (li i u) =
    either_within (j + 1) 1 (nat_le i j) (at_shifted_position j 1 (λ k. one_act (lr k w z))) (one_act (lr j w z)) (shifted_within (j + 1) 1 j 1 (λ k. one_act (lr k w z)) (omega arith, omega arith)) (omega arith, omega arith)
transform_within side (lr j w z) (ld i u) =
    either_within (j + 0) 1 (nat_lt i j) (one_act (lr (j - 1) w z)) (if nat_eq i j then one_act (li i z) else one_act (lr j w z)) (omega arith, omega arith)
    (if_within (j + 0) 1 (nat_eq i j) (one_act (li i z)) (one_act (lr j w z)) (λ e. (omega (arith, eq_of i j e), omega arith)) (λ _. (omega arith, omega arith)))
transform_within side (lr j w z) (lr i u y) =
    if_within (j + 1) 1 (nat_eq i j) (left_wins_or side (one_act (lr i y z)) no_acts) (one_act (lr j w z))
    (λ e. side_within (j + 1) 1 side (one_act (lr i y z)) no_acts (omega (arith, eq_of i j e), omega arith) (omega arith, omega arith)) (λ _. (omega arith, omega arith))
transform_within side (lr j w z) o = (omega arith, omega arith)
transform_within side (oi l z) (oi k y) = put_within side l k z y (oi l z) refl refl
transform_within side (oi l z) (or k u y) = put_within side l k z y (oi l z) refl refl
transform_within side (oi l z) o = (omega arith, omega arith)
transform_within side (od l x) (od k u) = either_within 0 0 (texts_equal k l) no_acts (one_act (od l x)) (omega arith, omega arith) (omega arith, omega arith)
transform_within side (od l x) (or k u y) = either_within 0 0 (texts_equal k l) no_acts (one_act (od l x)) (omega arith, omega arith) (omega arith, omega arith)
transform_within side (od l x) o = (omega arith, omega arith)
transform_within side (or l w z) (oi k y) = put_within side l k z y (or l w z) refl refl
transform_within side (or l w z) (od k u) = either_within 0 0 (texts_equal k l) (one_act (oi l z)) (one_act (or l w z)) (omega arith, omega arith) (omega arith, omega arith)
transform_within side (or l w z) (or k u y) = put_within side l k z y (or l w z) refl refl
transform_within side (or l w z) o = (omega arith, omega arith)

-- ---- components

abbrev pub component_position : PlainComponent → ℕ
component_position c = max (highest_index c.path) (act_position c.act)

-- no position is above n, and the inserted size is at most m
pub record IsWithin (n m : ℕ) (cs : List PlainComponent) : Type 0 where
  pub position : highest_position cs ≤ n
  pub size : total_inserted_size cs ≤ m

abbrev ComponentsWithin : ℕ → ℕ → Option (List PlainComponent) → Type 0
ComponentsWithin n m None = ⊤
ComponentsWithin n m (Some cs) = IsWithin n m cs

map_position : (p : List PlainStep) (xs : List PlainAct) → highest_position (map (component_at p) xs) ≤ max (highest_index p) (acts_position xs)
map_position p [] = omega arith
map_position p (x ∷ xs) = omega (arith, map_position p xs)

map_size : (p : List PlainStep) (xs : List PlainAct) → total_inserted_size (map (component_at p) xs) ≡ acts_size xs
map_size p [] = refl
map_size p (x ∷ xs) = omega (arith, map_size p xs)

at_path_within : (p : List PlainStep) (a b m : ℕ) (o : ActTransform) → WithinIfSome (a + b) m o → ComponentsWithin (max (highest_index p) a + b) m (option_map (map (component_at p)) o)
at_path_within p a b m None h = tt
at_path_within p a b m (Some xs) h = record { position = omega (arith, h.0, map_position p xs); size = omega (arith, h.1, map_size p xs) }

highest_append : (p q : List PlainStep) → highest_index (p ++ q) ≡ max (highest_index p) (highest_index q)
highest_append [] q = omega arith
highest_append (s ∷ p) q = omega (arith, highest_append p q)

-- the step after o, if any
abbrev StepWithin : ℕ → Option (Option PlainStep) → Type 0
StepWithin n None = ⊤
StepWithin n (Some None) = ⊤
StepWithin n (Some (Some s)) = step_position s ≤ n

step_if : (n : ℕ) (t : Bool) (a b : Option (Option PlainStep)) → StepWithin n a → StepWithin n b → StepWithin n (if t then a else b)
step_if n true a b h k = h
step_if n false a b h k = k

step_within : (o : PlainAct) (s : PlainStep) → StepWithin (step_position s + inserted_size o) (transform_step o s)
step_within (li i v) (index j) =
    step_if (j + 1) (nat_le i j) (if nat_le (j + 1) 9007199254740991 then Some (Some (index (j + 1))) else None) (Some (Some (index j)))
    (step_if (j + 1) (nat_le (j + 1) 9007199254740991) (Some (Some (index (j + 1)))) None (omega arith) tt) (omega arith)
step_within (ld i x) (index j) =
    step_if (j + 0) (nat_lt i j) (Some (Some (index (j - 1)))) (if nat_eq i j then Some None else Some (Some (index j))) (omega arith)
    (step_if (j + 0) (nat_eq i j) (Some None) (Some (Some (index j))) tt (omega arith))
step_within (lr i x y) (index j) = step_if (j + 1) (nat_eq i j) (Some None) (Some (Some (index j))) tt (omega arith)
step_within (od k x) (key l) = step_if 0 (texts_equal k l) (Some None) (Some (Some (key l))) tt (omega arith)
step_within (or k x y) (key l) = step_if 0 (texts_equal k l) (Some None) (Some (Some (key l))) tt (omega arith)
step_within o (index j) = omega arith
step_within o (key l) = omega arith

moved_within : (c o : PlainComponent) (s : PlainStep) (rest : List PlainStep) (m : Option (Option PlainStep)) → c.path ≡ o.path ++ s ∷ rest → StepWithin (step_position s + inserted_size o.act) m
    → ComponentsWithin (component_position c + inserted_size o.act) (inserted_size c.act) (option_map (with_moved_step c o rest) m)
moved_within c o s rest None is h = tt
moved_within c o s rest (Some None) is h = record { position = omega arith; size = omega arith }
moved_within c o s rest (Some (Some w)) is h = record {
  position = omega (arith, h, highest_append o.path (w ∷ rest), highest_append o.path (s ∷ rest), ap highest_index is);
  size = omega arith;
}

updated_position : (f : Value → Value) (a : PlainAct) → act_position (map_removed f a) ≡ act_position a
updated_position f (ld j x) = refl
updated_position f (lr j w z) = refl
updated_position f (od l x) = refl
updated_position f (or l w z) = refl
updated_position f (na x) = refl
updated_position f (si p s) = refl
updated_position f (sd p d) = refl
updated_position f (li j v) = refl
updated_position f (oi l z) = refl

updated_size : (f : Value → Value) (a : PlainAct) → inserted_size (map_removed f a) ≡ inserted_size a
updated_size f (ld j x) = refl
updated_size f (lr j w z) = refl
updated_size f (od l x) = refl
updated_size f (or l w z) = refl
updated_size f (na x) = refl
updated_size f (si p s) = refl
updated_size f (sd p d) = refl
updated_size f (li j v) = refl
updated_size f (oi l z) = refl

updated_within : (n : ℕ) (c o : PlainComponent) (r : Option (List PlainStep)) → IsWithin (component_position c + n) (inserted_size c.act) (update_removed c o r)
updated_within n c o None = record { position = omega arith; size = omega arith }
updated_within n c o (Some rest) =
    let up = updated_value (component_at rest o.act) in
    record { position = omega (arith, updated_position up c.act); size = omega (arith, updated_size up c.act) }

all_within : (side : Side) (c o : PlainComponent) (b : Option (List PlainStep)) → strip_prefix o.path c.path ≡ b
    → ComponentsWithin (component_position c + inserted_size o.act) (inserted_size c.act) (option_map_or (transform_below side c o) b (Some (update_removed c o (strip_removed_path c o.path))))
all_within side c o None e = updated_within (inserted_size o.act) c o (strip_removed_path c o.path)
all_within side c o (Some []) e = at_path_within c.path (act_position c.act) (inserted_size o.act) (inserted_size c.act) (transform_act side c.act o.act) (transform_within side c.act o.act)
all_within side c o (Some (s ∷ rest)) e = moved_within c o s rest (transform_step o.act s) (behind_is o.path c.path (s ∷ rest) e) (step_within o.act s)

-- a transform raises positions by at most the size that the other inserts, and inserts no more itself
pub transformed_within : (side : Side) (c o : PlainComponent) (cs : List PlainComponent) → transform side c o ≡ Some cs → IsWithin (component_position c + inserted_size o.act) (inserted_size c.act) cs
transformed_within side c o cs e = subst (ComponentsWithin (component_position c + inserted_size o.act) (inserted_size c.act)) e (all_within side c o (strip_prefix o.path c.path) refl)

-- ---- the range premise of a pair

act_in_range : (side : Side) (c o : PlainAct) → IsSafeInteger (act_position c + inserted_size o) → ActStaysInRange side c o
act_in_range side (si p s) (si r t) h = λ _. h
act_in_range side (sd p d) (si r t) h = λ _. h
act_in_range side (li j v) (li i u) h = λ _. h
act_in_range side (ld j x) (li i u) h = λ _. h
act_in_range side (lr j w z) (li i u) h = λ _. h
act_in_range side c o h = tt

step_in_range : (o : PlainAct) (s : PlainStep) → IsSafeInteger (step_position s + inserted_size o) → StepStaysInRange o s
step_in_range (li i v) (index j) h = λ _. h
step_in_range o s h = tt

suffix_in_range : (side : Side) (c o : PlainComponent) (b : Option (List PlainStep)) → strip_prefix o.path c.path ≡ b → IsSafeInteger (component_position c + inserted_size o.act) → SuffixStaysInRange side c o b
suffix_in_range side c o None e h = tt
suffix_in_range side c o (Some []) e h = act_in_range side c.act o.act (omega (arith, h))
suffix_in_range side c o (Some (s ∷ rest)) e h = step_in_range o.act s (omega (arith, h, ap highest_index (behind_is o.path c.path (s ∷ rest) e), highest_append o.path (s ∷ rest)))

pub pair_in_range : (side : Side) (c o : PlainComponent) → IsSafeInteger (component_position c + inserted_size o.act) → StaysInRange side c o
pair_in_range side c o h = suffix_in_range side c o (strip_prefix o.path c.path) refl h

-- ---- lists of components

pub position_append : (cs more : List PlainComponent) → highest_position (cs ++ more) ≡ max (highest_position cs) (highest_position more)
position_append [] more = omega arith
position_append (c ∷ cs) more = omega (arith, position_append cs more)

pub size_append : (cs more : List PlainComponent) → total_inserted_size (cs ++ more) ≡ total_inserted_size cs + total_inserted_size more
size_append [] more = omega arith
size_append (c ∷ cs) more = omega (arith, size_append cs more)
