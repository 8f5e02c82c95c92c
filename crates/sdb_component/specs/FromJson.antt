-- The operation of a JSON value (json0's README, "Summary of operations"), within the limits of the profile.
use Rattle.std.specs.Prelude.{◌≡◌, ℕ, suc, ℤ, List, [], ◌∷◌, ◌++◌, Bool, true, false, ◌||◌, ◌&&◌, not, if◌then◌else◌, nat_lt, codes, Option, Some, None, option_map, option_and_then, ⊤}
use Rattle.std.specs.Option.{is_some, option_map_or}
use Rattle.serde_json.specs.Data as raw
use Rattle.serde_json.specs.Data.{Data}
use Rattle.serde_json.specs.Find.{get, as_str, as_number, as_array}
use Rattle.sdb_value.specs.Value.{Value, PlainStep, key, index}
use Rattle.sdb_value.specs.FromJson.{count_of, whole_of, bounded_value_of_data}
use Rattle.sdb_component.specs.Plain.{PlainAct, na, si, sd, li, ld, lr, oi, od, or, PlainComponent}
use Rattle.sdb_component.specs.declared.act_kind.ActKind.{ActKind}
use Rattle.sdb_component.specs.declared.act_kind.ActKind.TheVariants.{Na, Si, Sd, Li, Ld, Lr, Oi, Od, Or}
use Rattle.sdb_component.specs.declared.from_json.OpFault.{OpFault}
use Rattle.sdb_component.specs.declared.from_json.OpFault.TheVariants.{BadlyFormed, OutOfMemory}

-- ---- the path

-- a step is a text or an integer
abbrev pub path_step_of : Data → Option PlainStep
path_step_of (raw.string k) = Some (key k)
path_step_of d = option_map index (count_of d)

abbrev pub path_steps_of : raw.Items → Option (List PlainStep)
path_steps_of raw.no_items = Some []
path_steps_of (raw.item d ds) = option_and_then (λ s. option_map (λ p. s ∷ p) (path_steps_of ds)) (path_step_of d)

abbrev pub data_item_count : raw.Items → ℕ
data_item_count raw.no_items = 0
data_item_count (raw.item d ds) = suc (data_item_count ds)

-- a path is an array of at most 50 steps
abbrev pub path_of : Data → Option (List PlainStep)
path_of d = option_and_then (λ ds. if nat_lt 50 (data_item_count ds) then None else path_steps_of ds) (as_array d)

-- ---- the shape, by the members that are present

abbrev pub has_member : List ℕ → Data → Bool
has_member k d = is_some (get k d)

-- the shape, from na, si, sd, li, ld, oi, od
abbrev pub kind_of_fields : Bool → Bool → Bool → Bool → Bool → Bool → Bool → Option ActKind
kind_of_fields true false false false false false false = Some Na
kind_of_fields false true false false false false false = Some Si
kind_of_fields false false true false false false false = Some Sd
kind_of_fields false false false true false false false = Some Li
kind_of_fields false false false false true false false = Some Ld
kind_of_fields false false false true true false false = Some Lr
kind_of_fields false false false false false true false = Some Oi
kind_of_fields false false false false false false true = Some Od
kind_of_fields false false false false false true true = Some Or
kind_of_fields _ _ _ _ _ _ _ = None

-- the profile excludes list moves and subtypes
abbrev pub has_unsupported_field : Data → Bool
has_unsupported_field d = has_member (codes "lm") d || (has_member (codes "t") d || has_member (codes "o") d)

abbrev pub act_kind_of : Data → Option ActKind
act_kind_of d =
    if has_unsupported_field d then None
    else kind_of_fields (has_member (codes "na") d) (has_member (codes "si") d) (has_member (codes "sd") d) (has_member (codes "li") d)
    (has_member (codes "ld") d) (has_member (codes "oi") d) (has_member (codes "od") d)

-- ---- a component

-- the path without its last step and that step, which must be an index; or a key
abbrev pub split_last_index : List PlainStep → Option (List PlainStep × ℕ)
split_last_index [] = None
split_last_index (index i ∷ []) = Some ([], i)
split_last_index (key k ∷ []) = None
split_last_index (s ∷ t ∷ p) = option_map (λ l. (s ∷ l.0, l.1)) (split_last_index (t ∷ p))

abbrev pub split_last_key : List PlainStep → Option (List PlainStep × List ℕ)
split_last_key [] = None
split_last_key (key k ∷ []) = Some ([], k)
split_last_key (index i ∷ []) = None
split_last_key (s ∷ t ∷ p) = option_map (λ l. (s ∷ l.0, l.1)) (split_last_key (t ∷ p))

-- a function of both parts
abbrev pub with_last_index : {A : Type 0} → (List PlainStep → ℕ → Option A) → List PlainStep → Option A
with_last_index f p = option_and_then (λ l. f l.0 l.1) (split_last_index p)

abbrev pub with_last_key : {A : Type 0} → (List PlainStep → List ℕ → Option A) → List PlainStep → Option A
with_last_key f p = option_and_then (λ l. f l.0 l.1) (split_last_key p)

abbrev pub whole_member : List ℕ → Data → Option ℤ
whole_member k d = option_and_then whole_of (option_and_then as_number (get k d))

abbrev pub text_member : List ℕ → Data → Option (List ℕ)
text_member k d = option_and_then as_str (get k d)

-- a value of the profile, of depth 50 at most
abbrev pub value_member : List ℕ → Data → Option Value
value_member k d = option_and_then bounded_value_of_data (get k d)

abbrev pub one_component : List PlainStep → PlainAct → List PlainComponent
one_component q a = record { path = q; act = a } ∷ []

-- an insert or delete of an empty text is dropped after its check
abbrev pub unless_empty : List ℕ → List PlainComponent → List PlainComponent
unless_empty [] cs = []
unless_empty (b ∷ bs) cs = cs

abbrev pub map_two : {A : Type 0} → (Value → Value → A) → Option Value → Option Value → Option A
map_two f x y = option_and_then (λ v. option_map (f v) y) x

abbrev pub components_of_kind : ActKind → List PlainStep → Data → Option (List PlainComponent)
components_of_kind Na p d = option_map (λ x. one_component p (na x)) (whole_member (codes "na") d)
components_of_kind Si p d = with_last_index (λ q i. option_map (λ s. unless_empty s (one_component q (si i s))) (text_member (codes "si") d)) p
components_of_kind Sd p d = with_last_index (λ q i. option_map (λ s. unless_empty s (one_component q (sd i s))) (text_member (codes "sd") d)) p
components_of_kind Li p d = with_last_index (λ q i. option_map (λ v. one_component q (li i v)) (value_member (codes "li") d)) p
components_of_kind Ld p d = with_last_index (λ q i. option_map (λ x. one_component q (ld i x)) (value_member (codes "ld") d)) p
components_of_kind Lr p d = with_last_index (λ q i. map_two (λ x y. one_component q (lr i x y)) (value_member (codes "ld") d) (value_member (codes "li") d)) p
components_of_kind Oi p d = with_last_key (λ q k. option_map (λ v. one_component q (oi k v)) (value_member (codes "oi") d)) p
components_of_kind Od p d = with_last_key (λ q k. option_map (λ x. one_component q (od k x)) (value_member (codes "od") d)) p
components_of_kind Or p d = with_last_key (λ q k. map_two (λ x y. one_component q (or k x y)) (value_member (codes "od") d) (value_member (codes "oi") d)) p

-- the component, or none if it is dropped
abbrev pub component_of : Data → Option (List PlainComponent)
component_of d =
    option_and_then (λ s. option_and_then (λ p. components_of_kind s p d) (option_and_then path_of (get (codes "p") d)))
    (act_kind_of d)

-- ---- an operation

abbrev pub components_of : raw.Items → Option (List PlainComponent)
components_of raw.no_items = Some []
components_of (raw.item d ds) =
    option_and_then (λ cs. option_map (λ rest. cs ++ rest) (components_of ds)) (component_of d)

-- an operation is an array of at most 256 components, including dropped ones
abbrev pub op_of : Data → Option (List PlainComponent)
op_of d = option_and_then (λ ds. if nat_lt 256 (data_item_count ds) then None else components_of ds) (as_array d)

-- ---- What is refused at sight is refused without an allocation: a path that is no array of at most 50 items, a component of no
-- shape, an operation that is no array of at most 256 items.

abbrev pub path_allocates : Data → Bool
path_allocates d = option_map_or (λ ds. not (nat_lt 50 (data_item_count ds))) (as_array d) false

abbrev pub component_allocates : Data → Bool
component_allocates d = is_some (act_kind_of d) && option_map_or path_allocates (get (codes "p") d) false

abbrev pub items_allocate : raw.Items → Bool
items_allocate raw.no_items = true
items_allocate (raw.item d raw.no_items) = component_allocates d
items_allocate (raw.item d (raw.item e ds)) = not (nat_lt 256 (data_item_count (raw.item d (raw.item e ds))))

abbrev pub op_allocates : Data → Bool
op_allocates d = option_map_or items_allocate (as_array d) false

-- ---- faults of the parser

abbrev pub FaultMeansNone : {A : Type 0} → Option A → OpFault → Type 0
FaultMeansNone o BadlyFormed = o ≡ None
FaultMeansNone o OutOfMemory = ⊤
