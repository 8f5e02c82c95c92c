-- Parsed operations are within the limits.
use Rattle.std.proofs.Common.{◌≡◌, ℕ, suc, ◌+◌, ◌<◌, ◌≤◌, List, [], ◌∷◌, ◌++◌, length, Option, Some, None, Bool, true, false, refl, arith, length-append}
use Rattle.std.specs.Prelude.{⊤, if◌then◌else◌, nat_lt, codes, option_map, option_and_then, IfSome}
use Rattle.std.proofs.lemmas.Bool.Decides.{nat_tests}
use Rattle.serde_json.specs.Data as raw
use Rattle.serde_json.specs.Data.{Data}
use Rattle.serde_json.specs.Find.{get, as_array, as_u64, as_number}
use Rattle.sdb_value.specs.Value.{PlainStep, key, index, depth}
use Rattle.sdb_value.specs.FromJson.{count_of, value_of_data, bounded_value_of_data}
use Rattle.sdb_component.specs.Plain.{PlainAct, na, si, sd, li, ld, lr, oi, od, or, PlainComponent}
use Rattle.sdb_component.specs.ToJson.{last_step, full_path}
use Rattle.sdb_component.specs.FromJson.{path_step_of, path_steps_of, data_item_count, path_of, act_kind_of, split_last_index, split_last_key, whole_member, text_member, value_member, one_component, unless_empty, with_last_index, with_last_key, components_of_kind, component_of, components_of}
use Rattle.sdb_component.specs.Limits.{ReadStaysInRange, IsSafeInteger, IsShallow, StepInRange, StepsInRange, ActInRange, AllInRange}
use Rattle.sdb_component.specs.declared.act_kind.ActKind.{ActKind}
use Rattle.sdb_component.specs.declared.act_kind.ActKind.TheVariants.{Na, Si, Sd, Li, Ld, Lr, Oi, Od, Or}

if_some_and_then : {A B : Type 0} (P : A → Type 0) (Q : B → Type 0) (f : A → Option B) (o : Option A) → IfSome o P → ((x : A) → P x → IfSome (f x) Q) → IfSome (option_and_then f o) Q
if_some_and_then P Q f None h k = tt
if_some_and_then P Q f (Some x) h k = k x h

some_map : {A B : Type 0} (P : A → Type 0) (Q : B → Type 0) (f : A → B) (o : Option A) → IfSome o P → ((x : A) → P x → Q (f x)) → IfSome (option_map f o) Q
some_map P Q f None h k = tt
some_map P Q f (Some x) h k = k x h

some_any : {A : Type 0} (o : Option A) → IfSome o (λ _. ⊤)
some_any None = tt
some_any (Some x) = tt

unless_over : {A : Type 0} (P : A → Type 0) (m n : ℕ) (b : Bool) (o : Option A) → nat_lt m n ≡ b → (n ≤ m → IfSome o P) → IfSome (if b then None else o) P
unless_over P m n true o e h = tt
unless_over P m n false o e h = let g : n ≤ m = grind (arith, nat_tests) in h g

count_in_range : (d : Data) → IfSome (count_of d) IsSafeInteger
count_in_range d =
    if_some_and_then (λ _. ⊤) IsSafeInteger (λ n. if nat_lt 9007199254740991 n then None else Some n) (option_and_then as_u64 (as_number d)) (some_any (option_and_then as_u64 (as_number d))) (λ n _.
    unless_over IsSafeInteger 9007199254740991 n (nat_lt 9007199254740991 n) (Some n) refl (λ h. h))

step_in_range : (d : Data) → IfSome (path_step_of d) StepInRange
step_in_range (raw.string k) = tt
step_in_range raw.null = some_map IsSafeInteger StepInRange index (count_of raw.null) (count_in_range raw.null) (λ n h. h)
step_in_range (raw.boolean b) = some_map IsSafeInteger StepInRange index (count_of (raw.boolean b)) (count_in_range (raw.boolean b)) (λ n h. h)
step_in_range (raw.number n) = some_map IsSafeInteger StepInRange index (count_of (raw.number n)) (count_in_range (raw.number n)) (λ n h. h)
step_in_range (raw.array ds) = some_map IsSafeInteger StepInRange index (count_of (raw.array ds)) (count_in_range (raw.array ds)) (λ n h. h)
step_in_range (raw.object ms) = some_map IsSafeInteger StepInRange index (count_of (raw.object ms)) (count_in_range (raw.object ms)) (λ n h. h)

abbrev PathWithin : ℕ → List PlainStep → Type 0
PathWithin n p = StepsInRange p × (length p ≤ n)

steps_in_range : (ds : raw.Items) → IfSome (path_steps_of ds) (PathWithin (data_item_count ds))
steps_in_range raw.no_items = (tt, omega arith)
steps_in_range (raw.item d ds) =
    if_some_and_then StepInRange (PathWithin (suc (data_item_count ds))) (λ s. option_map (λ p. s ∷ p) (path_steps_of ds)) (path_step_of d) (step_in_range d) (λ s h.
    some_map (PathWithin (data_item_count ds)) (PathWithin (suc (data_item_count ds))) (λ p. s ∷ p) (path_steps_of ds) (steps_in_range ds) (λ p k. ((h, k.0), omega (arith, k.1))))

path_within_mono : (m n : ℕ) (o : Option (List PlainStep)) → m ≤ n → IfSome o (PathWithin m) → IfSome o (PathWithin n)
path_within_mono m n None h k = tt
path_within_mono m n (Some p) h k = (k.0, omega (arith, h, k.1))

path_in_range : (d : Data) → IfSome (path_of d) (PathWithin 50)
path_in_range d =
    if_some_and_then (λ _. ⊤) (PathWithin 50) (λ ds. if nat_lt 50 (data_item_count ds) then None else path_steps_of ds) (as_array d) (some_any (as_array d)) (λ ds _.
    unless_over (PathWithin 50) 50 (data_item_count ds) (nat_lt 50 (data_item_count ds)) (path_steps_of ds) refl (λ h. path_within_mono (data_item_count ds) 50 (path_steps_of ds) h (steps_in_range ds)))

-- ---- the path without its last step, and that step

abbrev IndexLastInRange : ℕ → (List PlainStep × ℕ) → Type 0
IndexLastInRange n l = StepsInRange l.0 × (suc (length l.0) ≤ n) × IsSafeInteger l.1

abbrev KeyLastInRange : ℕ → (List PlainStep × List ℕ) → Type 0
KeyLastInRange n l = StepsInRange l.0 × (suc (length l.0) ≤ n)

index_in_range : (p : List PlainStep) → StepsInRange p → IfSome (split_last_index p) (IndexLastInRange (length p))
index_in_range [] h = tt
index_in_range (index i ∷ []) h = (tt, omega arith, h.0)
index_in_range (key k ∷ []) h = tt
index_in_range (s ∷ t ∷ p) h =
    some_map (IndexLastInRange (suc (length p))) (IndexLastInRange (suc (suc (length p)))) (λ l. (s ∷ l.0, l.1)) (split_last_index (t ∷ p)) (index_in_range (t ∷ p) h.1) (λ l k. ((h.0, k.0), omega (arith, k.1), k.2))

key_in_range : (p : List PlainStep) → StepsInRange p → IfSome (split_last_key p) (KeyLastInRange (length p))
key_in_range [] h = tt
key_in_range (key k ∷ []) h = (tt, omega arith)
key_in_range (index i ∷ []) h = tt
key_in_range (s ∷ t ∷ p) h =
    some_map (KeyLastInRange (suc (length p))) (KeyLastInRange (suc (suc (length p)))) (λ l. (s ∷ l.0, l.1)) (split_last_key (t ∷ p)) (key_in_range (t ∷ p) h.1) (λ l k. ((h.0, k.0), omega (arith, k.1)))

-- ---- components

bounded_value_in_range : (d : Data) → IfSome (bounded_value_of_data d) IsShallow
bounded_value_in_range d =
    if_some_and_then (λ _. ⊤) IsShallow (λ v. if nat_lt 50 (depth v) then None else Some v) (value_of_data d) (some_any (value_of_data d)) (λ v _.
    unless_over (λ w. depth w ≤ 50) 50 (depth v) (nat_lt 50 (depth v)) (Some v) refl (λ h. h))

value_in_range : (k : List ℕ) (d : Data) → IfSome (value_member k d) IsShallow
value_in_range k d = if_some_and_then (λ _. ⊤) IsShallow bounded_value_of_data (get k d) (some_any (get k d)) (λ e _. bounded_value_in_range e)

abbrev FewComponents : List PlainComponent → Type 0
FewComponents cs = AllInRange cs × (length cs ≤ 1)

whole_length : (p : List PlainStep) (a : PlainAct) → length (full_path p a) ≡ length p + length (last_step a)
whole_length p a = length-append p (last_step a)

single_in_range : (q : List PlainStep) (a : PlainAct) → StepsInRange q → length q + length (last_step a) ≤ 50 → ActInRange a → FewComponents (one_component q a)
single_in_range q a h l k = ((record { path = h; short = omega (arith, whole_length q a, l); act = k }, tt), omega arith)

text_in_range : (q : List PlainStep) (s : List ℕ) (a : PlainAct) → (0 < length s → FewComponents (one_component q a)) → FewComponents (unless_empty s (one_component q a))
text_in_range q [] a h = (tt, omega arith)
text_in_range q (b ∷ bs) a h = h (omega arith)

by_index : (f : List PlainStep → ℕ → Option (List PlainComponent)) (p : List PlainStep) → PathWithin 50 p
    → ((q : List PlainStep) (i : ℕ) → StepsInRange q → suc (length q) ≤ 50 → IsSafeInteger i → IfSome (f q i) FewComponents) → IfSome (with_last_index f p) FewComponents
by_index f p h k = if_some_and_then (IndexLastInRange (length p)) FewComponents (λ l. f l.0 l.1) (split_last_index p) (index_in_range p h.0) (λ l m. k l.0 l.1 m.0 (omega (arith, m.1, h.1)) m.2)

by_key : (f : List PlainStep → List ℕ → Option (List PlainComponent)) (p : List PlainStep) → PathWithin 50 p
    → ((q : List PlainStep) (i : List ℕ) → StepsInRange q → suc (length q) ≤ 50 → IfSome (f q i) FewComponents) → IfSome (with_last_key f p) FewComponents
by_key f p h k = if_some_and_then (KeyLastInRange (length p)) FewComponents (λ l. f l.0 l.1) (split_last_key p) (key_in_range p h.0) (λ l m. k l.0 l.1 m.0 (omega (arith, m.1, h.1)))

shape_in_range : (s : ActKind) (p : List PlainStep) (d : Data) → PathWithin 50 p → IfSome (components_of_kind s p d) FewComponents
shape_in_range Na p d h = some_map (λ _. ⊤) FewComponents (λ x. one_component p (na x)) (whole_member (codes "na") d) (some_any (whole_member (codes "na") d)) (λ x _. single_in_range p (na x) h.0 (omega (arith, h.1)) tt)
shape_in_range Si p d h = by_index _ p h (λ q i a b c. some_map (λ _. ⊤) FewComponents (λ s. unless_empty s (one_component q (si i s))) (text_member (codes "si") d) (some_any (text_member (codes "si") d)) (λ s _.
    text_in_range q s (si i s) (λ e. single_in_range q (si i s) a (omega (arith, b)) (c, e))))
shape_in_range Sd p d h = by_index _ p h (λ q i a b c. some_map (λ _. ⊤) FewComponents (λ s. unless_empty s (one_component q (sd i s))) (text_member (codes "sd") d) (some_any (text_member (codes "sd") d)) (λ s _.
    text_in_range q s (sd i s) (λ e. single_in_range q (sd i s) a (omega (arith, b)) (c, e))))
shape_in_range Li p d h = by_index _ p h (λ q i a b c. some_map IsShallow FewComponents (λ v. one_component q (li i v)) (value_member (codes "li") d) (value_in_range (codes "li") d) (λ v e. single_in_range q (li i v) a (omega (arith, b)) (c, e)))
shape_in_range Ld p d h = by_index _ p h (λ q i a b c. some_map IsShallow FewComponents (λ v. one_component q (ld i v)) (value_member (codes "ld") d) (value_in_range (codes "ld") d) (λ v e. single_in_range q (ld i v) a (omega (arith, b)) (c, e)))
shape_in_range Lr p d h = by_index _ p h (λ q i a b c.
    if_some_and_then IsShallow FewComponents (λ v. option_map (λ w. one_component q (lr i v w)) (value_member (codes "li") d)) (value_member (codes "ld") d) (value_in_range (codes "ld") d) (λ v e.
    some_map IsShallow FewComponents (λ w. one_component q (lr i v w)) (value_member (codes "li") d) (value_in_range (codes "li") d) (λ w f. single_in_range q (lr i v w) a (omega (arith, b)) (c, e, f))))
shape_in_range Oi p d h = by_key _ p h (λ q i a b. some_map IsShallow FewComponents (λ v. one_component q (oi i v)) (value_member (codes "oi") d) (value_in_range (codes "oi") d) (λ v e. single_in_range q (oi i v) a (omega (arith, b)) e))
shape_in_range Od p d h = by_key _ p h (λ q i a b. some_map IsShallow FewComponents (λ v. one_component q (od i v)) (value_member (codes "od") d) (value_in_range (codes "od") d) (λ v e. single_in_range q (od i v) a (omega (arith, b)) e))
shape_in_range Or p d h = by_key _ p h (λ q i a b.
    if_some_and_then IsShallow FewComponents (λ v. option_map (λ w. one_component q (or i v w)) (value_member (codes "oi") d)) (value_member (codes "od") d) (value_in_range (codes "od") d) (λ v e.
    some_map IsShallow FewComponents (λ w. one_component q (or i v w)) (value_member (codes "oi") d) (value_in_range (codes "oi") d) (λ w f. single_in_range q (or i v w) a (omega (arith, b)) (e, f))))

component_in_range : (d : Data) → IfSome (component_of d) FewComponents
component_in_range d =
    if_some_and_then (λ _. ⊤) FewComponents (λ s. option_and_then (λ p. components_of_kind s p d) (option_and_then path_of (get (codes "p") d))) (act_kind_of d) (some_any (act_kind_of d)) (λ s _.
    if_some_and_then (PathWithin 50) FewComponents (λ p. components_of_kind s p d) (option_and_then path_of (get (codes "p") d))
    (if_some_and_then (λ _. ⊤) (PathWithin 50) path_of (get (codes "p") d) (some_any (get (codes "p") d)) (λ e _. path_in_range e)) (λ p h. shape_in_range s p d h))

all_append : (xs ys : List PlainComponent) → AllInRange xs → AllInRange ys → AllInRange (xs ++ ys)
all_append [] ys h k = k
all_append (x ∷ xs) ys h k = (h.0, all_append xs ys h.1 k)

abbrev AtMostComponents : ℕ → List PlainComponent → Type 0
AtMostComponents n cs = AllInRange cs × (length cs ≤ n)

components_in_range : (ds : raw.Items) → IfSome (components_of ds) (AtMostComponents (data_item_count ds))
components_in_range raw.no_items = (tt, omega arith)
components_in_range (raw.item d ds) =
    if_some_and_then FewComponents (AtMostComponents (suc (data_item_count ds))) (λ cs. option_map (λ rest. cs ++ rest) (components_of ds)) (component_of d) (component_in_range d) (λ cs h.
    some_map (AtMostComponents (data_item_count ds)) (AtMostComponents (suc (data_item_count ds))) (λ rest. cs ++ rest) (components_of ds) (components_in_range ds) (λ rest k.
    (all_append cs rest h.0 k.0, omega (arith, length-append cs rest, h.1, k.1))))

at_most_mono : (m n : ℕ) (o : Option (List PlainComponent)) → m ≤ n → IfSome o (AtMostComponents m) → IfSome o (AtMostComponents n)
at_most_mono m n None h k = tt
at_most_mono m n (Some p) h k = (k.0, omega (arith, h, k.1))

pub read_in_range : ReadStaysInRange
read_in_range d =
    if_some_and_then (λ _. ⊤) (AtMostComponents 256) (λ ds. if nat_lt 256 (data_item_count ds) then None else components_of ds) (as_array d) (some_any (as_array d)) (λ ds _.
    unless_over (AtMostComponents 256) 256 (data_item_count ds) (nat_lt 256 (data_item_count ds)) (components_of ds) refl (λ h. at_most_mono (data_item_count ds) 256 (components_of ds) h (components_in_range ds)))
