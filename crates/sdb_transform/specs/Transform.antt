-- A component transformed against a concurrent one, `transform`. json0's README defines which pairs interact; the
-- choices on ties are this project's own. `None` is E8. Offsets and lengths of texts count UTF-16 code units.
use Rattle.std.specs.Prelude.{ℕ, ◌+◌, ◌-◌, min, Bool, false, if◌then◌else◌, nat_lt, nat_le, nat_eq, List, [], ◌∷◌, ◌++◌, take, drop, map, Option, Some, None, option_map, option_and_then}
use Rattle.std.specs.Option.{option_map_or}
use Rattle.sdb_value.specs.Value.{Value, PlainStep, key, index, texts_equal, steps_equal}
use Rattle.sdb_rope.specs.Utf16.{units, cut_at}
use Rattle.sdb_component.specs.Plain.{PlainAct, na, si, sd, li, ld, lr, oi, od, or, PlainComponent}
use Rattle.sdb_apply.specs.Apply.{apply_one}
use Rattle.sdb_transform.specs.declared.side.Side.{Side}
use Rattle.sdb_transform.specs.declared.side.Side.TheVariants.{Left, Right}

-- ---- paths

-- the steps after the prefix, if the path begins with it
abbrev pub strip_prefix : List PlainStep → List PlainStep → Option (List PlainStep)
strip_prefix [] path = Some path
strip_prefix (s ∷ front) [] = None
strip_prefix (s ∷ front) (t ∷ path) = if steps_equal s t then strip_prefix front path else None

-- ---- results

abbrev pub ActTransform : Type 0
ActTransform = Option (List PlainAct)

abbrev pub one_act : PlainAct → ActTransform
one_act a = Some (a ∷ [])

abbrev pub no_acts : ActTransform
no_acts = Some []

-- a raised index or offset that exceeds the maximum is refused
abbrev pub at_shifted_position : ℕ → ℕ → (ℕ → ActTransform) → ActTransform
at_shifted_position n by f = if nat_le (n + by) 9007199254740991 then f (n + by) else None

abbrev pub left_wins_or : Side → ActTransform → ActTransform → ActTransform
left_wins_or Left a b = a
left_wins_or Right a b = b

-- ---- text: c inserts s at p

abbrev pub si_after_si : Side → ℕ → List ℕ → ℕ → List ℕ → ActTransform
si_after_si side p s r s2 =
    if nat_lt r p then at_shifted_position p (units s2) (λ q. one_act (si q s))
    else (if nat_eq r p then left_wins_or side (one_act (si p s)) (at_shifted_position p (units s2) (λ q. one_act (si q s)))
    else one_act (si p s))

abbrev pub si_after_sd : ℕ → List ℕ → ℕ → List ℕ → ActTransform
si_after_sd p s r d2 =
    if nat_le p r then one_act (si p s)
    else (if nat_le p (r + units d2) then one_act (si r s)
    else one_act (si (p - units d2) s))

-- ---- text: c deletes d at p

-- the deletion split after this number of code units; a split inside a surrogate pair is refused
abbrev pub split_delete : ℕ → List ℕ → ℕ → ℕ → ActTransform
split_delete p d before q = option_map (λ i. sd p (take i d) ∷ sd q (drop i d) ∷ []) (cut_at d before)

abbrev pub sd_after_si : ℕ → List ℕ → ℕ → List ℕ → ActTransform
sd_after_si p d r s2 =
    if nat_le r p then at_shifted_position p (units s2) (λ q. one_act (sd q d))
    else (if nat_le (p + units d) r then one_act (sd p d)
    else at_shifted_position p (units s2) (λ q. split_delete p d (r - p) q))

abbrev pub delete_unless_empty : ℕ → List ℕ → List PlainAct
delete_unless_empty p [] = []
delete_unless_empty p (b ∷ bs) = sd p (b ∷ bs) ∷ []

-- the deletion of d without the code units from `before` up to `after`
abbrev pub delete_without_overlap : ℕ → List ℕ → ℕ → ℕ → ActTransform
delete_without_overlap p d before after =
    option_and_then (λ i. option_map (λ j. delete_unless_empty p (take i d ++ drop j d)) (cut_at d after)) (cut_at d before)

abbrev pub sd_after_sd : ℕ → List ℕ → ℕ → List ℕ → ActTransform
sd_after_sd p d r d2 =
    if nat_le (r + units d2) p then one_act (sd (p - units d2) d)
    else (if nat_le (p + units d) r then one_act (sd p d)
    else delete_without_overlap (min p r) d (r - p) (min (units d) (r + units d2 - p)))

-- ---- lists: c inserts v at j

abbrev pub li_after_li : Side → ℕ → Value → ℕ → ActTransform
li_after_li side j v i =
    if nat_lt i j then at_shifted_position j 1 (λ k. one_act (li k v))
    else (if nat_eq i j then left_wins_or side (one_act (li j v)) (at_shifted_position j 1 (λ k. one_act (li k v)))
    else one_act (li j v))

abbrev pub li_after_ld : ℕ → Value → ℕ → ActTransform
li_after_ld j v i = if nat_lt i j then one_act (li (j - 1) v) else one_act (li j v)

-- ---- lists: c deletes the item at j

abbrev pub ld_after_li : ℕ → Value → ℕ → ActTransform
ld_after_li j x i = if nat_le i j then at_shifted_position j 1 (λ k. one_act (ld k x)) else one_act (ld j x)

abbrev pub ld_after_ld : ℕ → Value → ℕ → ActTransform
ld_after_ld j x i = if nat_lt i j then one_act (ld (j - 1) x) else (if nat_eq i j then no_acts else one_act (ld j x))

abbrev pub ld_after_lr : ℕ → Value → ℕ → ActTransform
ld_after_lr j x i = if nat_eq i j then no_acts else one_act (ld j x)

-- ---- lists: c replaces the item w at j by z

abbrev pub lr_after_li : ℕ → Value → Value → ℕ → ActTransform
lr_after_li j w z i = if nat_le i j then at_shifted_position j 1 (λ k. one_act (lr k w z)) else one_act (lr j w z)

abbrev pub lr_after_ld : ℕ → Value → Value → ℕ → ActTransform
lr_after_ld j w z i =
    if nat_lt i j then one_act (lr (j - 1) w z) else (if nat_eq i j then one_act (li i z) else one_act (lr j w z))

-- o has replaced the item by y
abbrev pub lr_after_lr : Side → ℕ → Value → Value → ℕ → Value → ActTransform
lr_after_lr side j w z i y = if nat_eq i j then left_wins_or side (one_act (lr i y z)) no_acts else one_act (lr j w z)

-- ---- objects: o changed the key k

-- o has set k to y, and c sets l to z
abbrev pub put_after_put : Side → List ℕ → Value → PlainAct → List ℕ → Value → ActTransform
put_after_put side l z c k y = if texts_equal k l then left_wins_or side (one_act (or l y z)) no_acts else one_act c

abbrev pub od_after_removal : List ℕ → Value → List ℕ → ActTransform
od_after_removal l x k = if texts_equal k l then no_acts else one_act (od l x)

abbrev pub or_after_od : List ℕ → Value → Value → List ℕ → ActTransform
or_after_od l w z k = if texts_equal k l then one_act (oi l z) else one_act (or l w z)

-- ---- case 3: both at one container; c transformed against o, by the shape of c

abbrev pub transform_si : Side → ℕ → List ℕ → PlainAct → ActTransform
transform_si side p s (si r s2) = si_after_si side p s r s2
transform_si side p s (sd r d2) = si_after_sd p s r d2
transform_si side p s _ = one_act (si p s)

abbrev pub transform_sd : ℕ → List ℕ → PlainAct → ActTransform
transform_sd p d (si r s2) = sd_after_si p d r s2
transform_sd p d (sd r d2) = sd_after_sd p d r d2
transform_sd p d _ = one_act (sd p d)

abbrev pub transform_li : Side → ℕ → Value → PlainAct → ActTransform
transform_li side j v (li i u) = li_after_li side j v i
transform_li side j v (ld i x) = li_after_ld j v i
transform_li side j v _ = one_act (li j v)

abbrev pub transform_ld : ℕ → Value → PlainAct → ActTransform
transform_ld j x (li i u) = ld_after_li j x i
transform_ld j x (ld i u) = ld_after_ld j x i
transform_ld j x (lr i u y) = ld_after_lr j x i
transform_ld j x _ = one_act (ld j x)

abbrev pub transform_lr : Side → ℕ → Value → Value → PlainAct → ActTransform
transform_lr side j w z (li i u) = lr_after_li j w z i
transform_lr side j w z (ld i u) = lr_after_ld j w z i
transform_lr side j w z (lr i u y) = lr_after_lr side j w z i y
transform_lr side j w z _ = one_act (lr j w z)

abbrev pub transform_oi : Side → List ℕ → Value → PlainAct → ActTransform
transform_oi side l z (oi k y) = put_after_put side l z (oi l z) k y
transform_oi side l z (or k x y) = put_after_put side l z (oi l z) k y
transform_oi side l z _ = one_act (oi l z)

abbrev pub transform_od : List ℕ → Value → PlainAct → ActTransform
transform_od l x (od k u) = od_after_removal l x k
transform_od l x (or k u y) = od_after_removal l x k
transform_od l x _ = one_act (od l x)

abbrev pub transform_or : Side → List ℕ → Value → Value → PlainAct → ActTransform
transform_or side l w z (oi k y) = put_after_put side l z (or l w z) k y
transform_or side l w z (od k u) = or_after_od l w z k
transform_or side l w z (or k u y) = put_after_put side l z (or l w z) k y
transform_or side l w z _ = one_act (or l w z)

abbrev pub transform_act : Side → PlainAct → PlainAct → ActTransform
transform_act side (na x) o = one_act (na x)
transform_act side (si p s) o = transform_si side p s o
transform_act side (sd p d) o = transform_sd p d o
transform_act side (li j v) o = transform_li side j v o
transform_act side (ld j x) o = transform_ld j x o
transform_act side (lr j w z) o = transform_lr side j w z o
transform_act side (oi l z) o = transform_oi side l z o
transform_act side (od l x) o = transform_od l x o
transform_act side (or l w z) o = transform_or side l w z o

-- ---- case 2: c is inside the step j of o's container; the step that replaces j, if any

abbrev pub StepTransform : Type 0
StepTransform = Option (Option PlainStep)

abbrev pub transform_index : PlainAct → ℕ → StepTransform
transform_index (li i v) j =
    if nat_le i j then (if nat_le (j + 1) 9007199254740991 then Some (Some (index (j + 1))) else None)
    else Some (Some (index j))
transform_index (ld i x) j =
    if nat_lt i j then Some (Some (index (j - 1))) else (if nat_eq i j then Some None else Some (Some (index j)))
transform_index (lr i x y) j = if nat_eq i j then Some None else Some (Some (index j))
transform_index _ j = Some (Some (index j))

abbrev pub transform_key : PlainAct → List ℕ → StepTransform
transform_key (od k x) l = if texts_equal k l then Some None else Some (Some (key l))
transform_key (or k x y) l = if texts_equal k l then Some None else Some (Some (key l))
transform_key _ l = Some (Some (key l))

abbrev pub transform_step : PlainAct → PlainStep → StepTransform
transform_step o (index j) = transform_index o j
transform_step o (key l) = transform_key o l

-- ---- case 1: o is inside the value that c removes, which is updated

abbrev pub removed_step : PlainAct → Option PlainStep
removed_step (ld i x) = Some (index i)
removed_step (lr i x y) = Some (index i)
removed_step (od k x) = Some (key k)
removed_step (or k x y) = Some (key k)
removed_step _ = None

-- whether the act removes the value of the step
abbrev pub removes_step : PlainAct → PlainStep → Bool
removes_step a s = option_map_or (λ r. steps_equal r s) (removed_step a) false

abbrev pub updated_value : PlainComponent → Value → Value
updated_value o x = option_map_or (λ y. y) (apply_one o x) x

abbrev pub map_removed : (Value → Value) → PlainAct → PlainAct
map_removed f (ld i x) = ld i (f x)
map_removed f (lr i x y) = lr i (f x) y
map_removed f (od k x) = od k (f x)
map_removed f (or k x y) = or k (f x) y
map_removed f a = a

-- the steps after c's container path and c's last step: inside the value that c removes
abbrev pub strip_removed_path : PlainComponent → List PlainStep → Option (List PlainStep)
strip_removed_path c path = option_and_then (λ s. option_and_then (strip_prefix (s ∷ [])) (strip_prefix c.path path)) (removed_step c.act)

-- ---- all cases

abbrev pub component_at : List PlainStep → PlainAct → PlainComponent
component_at p a = record { path = p; act = a }

abbrev pub TransformResult : Type 0
TransformResult = Option (List PlainComponent)

abbrev pub with_moved_step : PlainComponent → PlainComponent → List PlainStep → Option PlainStep → List PlainComponent
with_moved_step c o rest None = []
with_moved_step c o rest (Some s) = component_at (o.path ++ s ∷ rest) c.act ∷ []

-- the case of c by the rest of its path after o's path, if it begins with o's path
abbrev pub transform_below : Side → PlainComponent → PlainComponent → List PlainStep → TransformResult
transform_below side c o [] = option_map (map (component_at c.path)) (transform_act side c.act o.act)
transform_below side c o (s ∷ rest) = option_map (with_moved_step c o rest) (transform_step o.act s)

-- c with its removed value updated, if o's path is inside that value
abbrev pub update_removed : PlainComponent → PlainComponent → Option (List PlainStep) → List PlainComponent
update_removed c o None = c ∷ []
update_removed c o (Some rest) = component_at c.path (map_removed (updated_value (component_at rest o.act)) c.act) ∷ []

-- the components that replace c after o
abbrev pub transform : Side → PlainComponent → PlainComponent → TransformResult
transform side c o = option_map_or (transform_below side c o) (strip_prefix o.path c.path) (Some (update_removed c o (strip_removed_path c o.path)))
