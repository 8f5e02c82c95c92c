-- No row of the table increases the weight.
use Rattle.std.proofs.Common.{◌≡◌, ℕ, ◌+◌, ◌-◌, ◌*◌, ◌<◌, ◌≤◌, Bool, true, false, min, max, List, [], ◌∷◌, ◌++◌, map, take, drop, Option, Some, None, option_map, refl, sym, subst, arith}
use Rattle.std.specs.Prelude.{if◌then◌else◌, nat_le, nat_lt, nat_eq, option_and_then, ⊤}
use Rattle.std.specs.Option.{option_map_or}
use Rattle.std.proofs.lemmas.Bool.{leb-false}
use Rattle.sdb_value.specs.Value.{Value, PlainStep, texts_equal}
use Rattle.sdb_rope.specs.Utf16.{units, cut_at}
use Rattle.sdb_component.specs.Plain.{PlainAct, na, si, sd, li, ld, lr, oi, od, or, PlainComponent}
use Rattle.sdb_component.specs.Weight.{act_weight, component_weight, weight}
use Rattle.sdb_transform.specs.declared.side.Side.{Side}
use Rattle.sdb_transform.specs.declared.side.Side.TheVariants.{Left, Right}
use Rattle.sdb_transform.specs.Cross.{Crossing, sum_weight, cross_ops}
use Rattle.sdb_transform.proofs.CrossWeight.{IsWeighted}
use Rattle.sdb_transform.specs.Transform.{ActTransform, at_shifted_position, left_wins_or, one_act, no_acts, transform_act, split_delete, delete_without_overlap, delete_unless_empty, component_at, map_removed, updated_value, with_moved_step, transform_below, update_removed, strip_removed_path, strip_prefix, transform_step, transform, put_after_put}
use Rattle.sdb_transform.proofs.OffsetLemmas.{cut_prefix, units_split}
use Rattle.sdb_transform.proofs.CrossLemmas.{cross_light}

abbrev acts_weight : List PlainAct → ℕ
acts_weight [] = 0
acts_weight (a ∷ xs) = act_weight a + acts_weight xs

-- the transformed acts, if any, weigh at most n
abbrev ActsWithinWeight : ℕ → ActTransform → Type 0
ActsWithinWeight n None = ⊤
ActsWithinWeight n (Some xs) = acts_weight xs ≤ n

if_light : (n : ℕ) (t : Bool) (a b : ActTransform) → (t ≡ true → ActsWithinWeight n a) → (t ≡ false → ActsWithinWeight n b) → ActsWithinWeight n (if t then a else b)
if_light n true a b h k = h refl
if_light n false a b h k = k refl

if_both : (n : ℕ) (t : Bool) (a b : ActTransform) → ActsWithinWeight n a → ActsWithinWeight n b → ActsWithinWeight n (if t then a else b)
if_both n true a b h k = h
if_both n false a b h k = k

raised_light : (n m by : ℕ) (f : ℕ → ActTransform) → ((q : ℕ) → ActsWithinWeight n (f q)) → ActsWithinWeight n (at_shifted_position m by f)
raised_light n m by f h = if_both n (nat_le (m + by) 9007199254740991) (f (m + by)) None (h (m + by)) tt

side_light : (n : ℕ) (side : Side) (a b : ActTransform) → ActsWithinWeight n a → ActsWithinWeight n b → ActsWithinWeight n (left_wins_or side a b)
side_light n Left a b h k = h
side_light n Right a b h k = k

-- ---- texts

pieces_light : (p q before i : ℕ) (d : List ℕ) → cut_at d before ≡ Some i → 0 < before → before < units d → acts_weight (sd p (take i d) ∷ sd q (drop i d) ∷ []) ≤ max 1 (units d)
pieces_light p q before i d e h k = omega (arith, cut_prefix d before i e, units_split i d)

split_at : (p before q : ℕ) (d : List ℕ) (o : Option ℕ) → cut_at d before ≡ o → 0 < before → before < units d → ActsWithinWeight (max 1 (units d)) (option_map (λ i. sd p (take i d) ∷ sd q (drop i d) ∷ []) o)
split_at p before q d None e h k = tt
split_at p before q d (Some i) e h k = pieces_light p q before i d e h k

units_append : (a b : List ℕ) → units (a ++ b) ≡ units a + units b
units_append [] b = omega arith
units_append (x ∷ a) b = omega (arith, units_append a b)

rest_light : (p n : ℕ) (d : List ℕ) → units d ≤ n → acts_weight (delete_unless_empty p d) ≤ max 1 n
rest_light p n [] h = omega arith
rest_light p n (b ∷ bs) h = omega arith

unchanged_light : (i j before after : ℕ) (d : List ℕ) → cut_at d before ≡ Some i → cut_at d after ≡ Some j → before ≤ after → units (take i d ++ drop j d) ≤ units d
unchanged_light i j before after d e f h = omega (arith, units_append (take i d) (drop j d), cut_prefix d before i e, cut_prefix d after j f, units_split j d)

without_at : (p before after : ℕ) (d : List ℕ) (o u : Option ℕ) → cut_at d before ≡ o → cut_at d after ≡ u → before ≤ after
    → ActsWithinWeight (max 1 (units d)) (option_and_then (λ i. option_map (λ j. delete_unless_empty p (take i d ++ drop j d)) u) o)
without_at p before after d None u e f h = tt
without_at p before after d (Some i) None e f h = tt
without_at p before after d (Some i) (Some j) e f h = rest_light p (units d) (take i d ++ drop j d) (unchanged_light i j before after d e f h)

sd_over_si_light : (p r : ℕ) (d t : List ℕ) → ActsWithinWeight (max 1 (units d)) (transform_act Left (sd p d) (si r t))
sd_over_si_light p r d t =
    let n = max 1 (units d) in
    let whole = at_shifted_position p (units t) (λ q. one_act (sd q d)) in
    let split = at_shifted_position p (units t) (λ q. split_delete p d (r - p) q) in
    if_light n (nat_le r p) whole (if nat_le (p + units d) r then one_act (sd p d) else split) (λ _. raised_light n p (units t) (λ q. one_act (sd q d)) (λ q. omega arith)) (λ e.
    if_light n (nat_le (p + units d) r) (one_act (sd p d)) split (λ _. omega arith) (λ f.
    let e' = leb-false r p e in
    let f' = leb-false (p + units d) r f in
    raised_light n p (units t) (λ q. split_delete p d (r - p) q) (λ q. split_at p (r - p) q d (cut_at d (r - p)) refl (omega arith) (omega arith))))

sd_over_sd_light : (p r : ℕ) (d t : List ℕ) → ActsWithinWeight (max 1 (units d)) (transform_act Left (sd p d) (sd r t))
sd_over_sd_light p r d t =
    let n = max 1 (units d) in
    let after = min (units d) (r + units t - p) in
    let rest = delete_without_overlap (min p r) d (r - p) after in
    if_light n (nat_le (r + units t) p) (one_act (sd (p - units t) d)) (if nat_le (p + units d) r then one_act (sd p d) else rest) (λ _. omega arith) (λ e.
    if_light n (nat_le (p + units d) r) (one_act (sd p d)) rest (λ _. omega arith) (λ f.
    let e' = leb-false (r + units t) p e in
    let f' = leb-false (p + units d) r f in
    without_at (min p r) (r - p) after d (cut_at d (r - p)) (cut_at d after) refl refl (omega arith)))

-- ---- the table of transforms

put_light : (side : Side) (l k : List ℕ) (z y : Value) (c : PlainAct) → act_weight c ≡ 1 → ActsWithinWeight 1 (put_after_put side l z c k y)
put_light side l k z y c e = if_both 1 (texts_equal k l) (left_wins_or side (one_act (or l y z)) no_acts) (one_act c) (side_light 1 side (one_act (or l y z)) no_acts (omega arith) (omega arith)) (omega (arith, e))

over_light : (side : Side) (a o : PlainAct) → ActsWithinWeight (act_weight a) (transform_act side a o)
over_light side (na x) o = omega arith
over_light side (si p s) (na u) = omega arith
over_light side (si p s) (si r t) =
    let here = one_act (si p s) in
    let on = at_shifted_position p (units t) (λ q. one_act (si q s)) in
    let moves = raised_light 1 p (units t) (λ q. one_act (si q s)) (λ q. omega arith) in
    if_both 1 (nat_lt r p) on (if nat_eq r p then left_wins_or side here on else here) moves (if_both 1 (nat_eq r p) (left_wins_or side here on) here (side_light 1 side here on (omega arith) moves) (omega arith))
over_light side (si p s) (sd r t) =
    let here = one_act (si p s) in
    if_both 1 (nat_le p r) here (if nat_le p (r + units t) then one_act (si r s) else one_act (si (p - units t) s)) (omega arith)
    (if_both 1 (nat_le p (r + units t)) (one_act (si r s)) (one_act (si (p - units t) s)) (omega arith) (omega arith))
over_light side (si p s) (li i u) = omega arith
over_light side (si p s) (ld i u) = omega arith
over_light side (si p s) (lr i u y) = omega arith
over_light side (si p s) (oi k y) = omega arith
over_light side (si p s) (od k u) = omega arith
over_light side (si p s) (or k u y) = omega arith
over_light side (sd p d) (na u) = omega arith
over_light side (sd p d) (si r t) = sd_over_si_light p r d t
over_light side (sd p d) (sd r t) = sd_over_sd_light p r d t
over_light side (sd p d) (li i u) = omega arith
over_light side (sd p d) (ld i u) = omega arith
over_light side (sd p d) (lr i u y) = omega arith
over_light side (sd p d) (oi k y) = omega arith
over_light side (sd p d) (od k u) = omega arith
over_light side (sd p d) (or k u y) = omega arith
over_light side (li j v) (na u) = omega arith
over_light side (li j v) (si r t) = omega arith
over_light side (li j v) (sd r t) = omega arith
over_light side (li j v) (li i u) =
    let here = one_act (li j v) in
    let on = at_shifted_position j 1 (λ k. one_act (li k v)) in
    let moves = raised_light 1 j 1 (λ k. one_act (li k v)) (λ k. omega arith) in
    if_both 1 (nat_lt i j) on (if nat_eq i j then left_wins_or side here on else here) moves (if_both 1 (nat_eq i j) (left_wins_or side here on) here (side_light 1 side here on (omega arith) moves) (omega arith))
over_light side (li j v) (ld i u) = if_both 1 (nat_lt i j) (one_act (li (j - 1) v)) (one_act (li j v)) (omega arith) (omega arith)
over_light side (li j v) (lr i u y) = omega arith
over_light side (li j v) (oi k y) = omega arith
over_light side (li j v) (od k u) = omega arith
over_light side (li j v) (or k u y) = omega arith
over_light side (ld j x) (na u) = omega arith
over_light side (ld j x) (si r t) = omega arith
over_light side (ld j x) (sd r t) = omega arith
over_light side (ld j x) (li i u) = if_both 1 (nat_le i j) (at_shifted_position j 1 (λ k. one_act (ld k x))) (one_act (ld j x)) (raised_light 1 j 1 (λ k. one_act (ld k x)) (λ k. omega arith)) (omega arith)
over_light side (ld j x) (ld i u) =
    if_both 1 (nat_lt i j) (one_act (ld (j - 1) x)) (if nat_eq i j then no_acts else one_act (ld j x)) (omega arith)
    (if_both 1 (nat_eq i j) no_acts (one_act (ld j x)) (omega arith) (omega arith))
over_light side (ld j x) (lr i u y) = if_both 1 (nat_eq i j) no_acts (one_act (ld j x)) (omega arith) (omega arith)
over_light side (ld j x) (oi k y) = omega arith
over_light side (ld j x) (od k u) = omega arith
over_light side (ld j x) (or k u y) = omega arith
over_light side (lr j w z) (na u) = omega arith
over_light side (lr j w z) (si r t) = omega arith
over_light side (lr j w z) (sd r t) = omega arith
over_light side (lr j w z) (li i u) = if_both 1 (nat_le i j) (at_shifted_position j 1 (λ k. one_act (lr k w z))) (one_act (lr j w z)) (raised_light 1 j 1 (λ k. one_act (lr k w z)) (λ k. omega arith)) (omega arith)
over_light side (lr j w z) (ld i u) =
    if_both 1 (nat_lt i j) (one_act (lr (j - 1) w z)) (if nat_eq i j then one_act (li i z) else one_act (lr j w z)) (omega arith)
    (if_both 1 (nat_eq i j) (one_act (li i z)) (one_act (lr j w z)) (omega arith) (omega arith))
over_light side (lr j w z) (lr i u y) = if_both 1 (nat_eq i j) (left_wins_or side (one_act (lr i y z)) no_acts) (one_act (lr j w z)) (side_light 1 side (one_act (lr i y z)) no_acts (omega arith) (omega arith)) (omega arith)
over_light side (lr j w z) (oi k y) = omega arith
over_light side (lr j w z) (od k u) = omega arith
over_light side (lr j w z) (or k u y) = omega arith
over_light side (oi l z) (na u) = omega arith
over_light side (oi l z) (si r t) = omega arith
over_light side (oi l z) (sd r t) = omega arith
over_light side (oi l z) (li i u) = omega arith
over_light side (oi l z) (ld i u) = omega arith
over_light side (oi l z) (lr i u y) = omega arith
over_light side (oi l z) (oi k y) = put_light side l k z y (oi l z) refl
over_light side (oi l z) (od k u) = omega arith
over_light side (oi l z) (or k u y) = put_light side l k z y (oi l z) refl
over_light side (od l x) (na u) = omega arith
over_light side (od l x) (si r t) = omega arith
over_light side (od l x) (sd r t) = omega arith
over_light side (od l x) (li i u) = omega arith
over_light side (od l x) (ld i u) = omega arith
over_light side (od l x) (lr i u y) = omega arith
over_light side (od l x) (oi k y) = omega arith
over_light side (od l x) (od k u) = if_both 1 (texts_equal k l) no_acts (one_act (od l x)) (omega arith) (omega arith)
over_light side (od l x) (or k u y) = if_both 1 (texts_equal k l) no_acts (one_act (od l x)) (omega arith) (omega arith)
over_light side (or l w z) (na u) = omega arith
over_light side (or l w z) (si r t) = omega arith
over_light side (or l w z) (sd r t) = omega arith
over_light side (or l w z) (li i u) = omega arith
over_light side (or l w z) (ld i u) = omega arith
over_light side (or l w z) (lr i u y) = omega arith
over_light side (or l w z) (oi k y) = put_light side l k z y (or l w z) refl
over_light side (or l w z) (od k u) = if_both 1 (texts_equal k l) (one_act (oi l z)) (one_act (or l w z)) (omega arith) (omega arith)
over_light side (or l w z) (or k u y) = put_light side l k z y (or l w z) refl

-- ---- components

map_weight : (p : List PlainStep) (xs : List PlainAct) → weight (map (component_at p) xs) ≡ acts_weight xs
map_weight p [] = refl
map_weight p (a ∷ xs) = omega (arith, map_weight p xs)

abbrev ComponentsWithinWeight : ℕ → Option (List PlainComponent) → Type 0
ComponentsWithinWeight n None = ⊤
ComponentsWithinWeight n (Some cs) = weight cs ≤ n

at_light : (p : List PlainStep) (n : ℕ) (o : ActTransform) → ActsWithinWeight n o → ComponentsWithinWeight n (option_map (map (component_at p)) o)
at_light p n None h = tt
at_light p n (Some xs) h = omega (arith, h, map_weight p xs)

moved_light : (c o : PlainComponent) (rest : List PlainStep) (m : Option (Option PlainStep)) → ComponentsWithinWeight (component_weight c) (option_map (with_moved_step c o rest) m)
moved_light c o rest None = tt
moved_light c o rest (Some None) = omega arith
moved_light c o rest (Some (Some s)) = omega arith

below_light : (side : Side) (c o : PlainComponent) (p : List PlainStep) → ComponentsWithinWeight (component_weight c) (transform_below side c o p)
below_light side c o [] = at_light c.path (component_weight c) (transform_act side c.act o.act) (over_light side c.act o.act)
below_light side c o (s ∷ rest) = moved_light c o rest (transform_step o.act s)

updated_weight : (f : Value → Value) (a : PlainAct) → act_weight (map_removed f a) ≡ act_weight a
updated_weight f (na x) = refl
updated_weight f (si p s) = refl
updated_weight f (sd p d) = refl
updated_weight f (li j v) = refl
updated_weight f (ld j x) = refl
updated_weight f (lr j w z) = refl
updated_weight f (oi l z) = refl
updated_weight f (od l x) = refl
updated_weight f (or l w z) = refl

above_light : (c o : PlainComponent) (r : Option (List PlainStep)) → weight (update_removed c o r) ≤ component_weight c
above_light c o None = omega arith
above_light c o (Some rest) = let u = updated_weight (updated_value (component_at rest o.act)) c.act in omega (arith, u)

all_light : (side : Side) (c o : PlainComponent) (b : Option (List PlainStep)) → ComponentsWithinWeight (component_weight c) (option_map_or (transform_below side c o) b (Some (update_removed c o (strip_removed_path c o.path))))
all_light side c o None = above_light c o (strip_removed_path c o.path)
all_light side c o (Some rest) = below_light side c o rest

some_light : (n : ℕ) (r : Option (List PlainComponent)) (cs : List PlainComponent) → ComponentsWithinWeight n r → r ≡ Some cs → weight cs ≤ n
some_light n r cs h e = subst (ComponentsWithinWeight n) e h

pub never_rises : (side : Side) (c o : PlainComponent) (cs : List PlainComponent) → transform side c o ≡ Some cs → weight cs ≤ component_weight c
never_rises side c o cs e = some_light (component_weight c) (transform side c o) cs (all_light side c o (strip_prefix o.path c.path)) e

-- ---- for crossings

pub total_weight : (cs : List PlainComponent) → sum_weight component_weight cs ≡ weight cs
total_weight [] = refl
total_weight (c ∷ cs) = omega (arith, total_weight cs)

heavy_act : (a : PlainAct) → 0 < act_weight a
heavy_act (na x) = omega arith
heavy_act (si p s) = omega arith
heavy_act (sd p d) = omega arith
heavy_act (li j v) = omega arith
heavy_act (ld j x) = omega arith
heavy_act (lr j w z) = omega arith
heavy_act (oi l z) = omega arith
heavy_act (od l x) = omega arith
heavy_act (or l w z) = omega arith

rises_not : (side : Side) (c o : PlainComponent) (cs : List PlainComponent) → transform side c o ≡ Some cs → sum_weight component_weight cs ≤ component_weight c
rises_not side c o cs e = omega (arith, total_weight cs, never_rises side c o cs e)

-- the table fulfils the premises of the laws of crossings
pub transform_is_weighted : IsWeighted (transform Left) (transform Right) component_weight
transform_is_weighted = record { positive = λ c. heavy_act c.act; on_left = rises_not Left; on_right = rises_not Right }

pub few_pairs : (L R : List PlainComponent) (x : Crossing PlainComponent) → cross_ops L R ≡ Some x → x.pairs ≤ weight L * weight R
few_pairs L R x e = let l : x.pairs ≤ sum_weight component_weight L * sum_weight component_weight R = (cross_light transform_is_weighted L R x e).pairs_within_product in rw (sym (total_weight L), sym (total_weight R)) l

pub no_side_gains : (L R : List PlainComponent) (x : Crossing PlainComponent) → cross_ops L R ≡ Some x → (weight x.left ≤ weight L) × (weight x.right ≤ weight R)
no_side_gains L R x e =
    let l = cross_light transform_is_weighted L R x e in
    (omega (arith, l.on_left, total_weight x.left, total_weight L), omega (arith, l.on_right, total_weight x.right, total_weight R))
