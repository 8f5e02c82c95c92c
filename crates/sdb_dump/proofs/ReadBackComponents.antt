-- The data of an operation are sound and parse to the operation.
use Rattle.std.proofs.Common.{◌≡◌, ℕ, suc, ◌<◌, ◌≤◌, List, [], ◌∷◌, ◌++◌, length, Some, None, true, false, IsUtf8, refl, ap, ◌∙◌, arith, append-nil}
use Rattle.std.specs.Prelude.{if◌then◌else◌, nat_lt, codes}
use Rattle.std.specs.Option.{option_map}
use Rattle.std.proofs.lemmas.Bool.Decides.{nat_tests}
use Rattle.json.proofs.Printed.Utf8.{are_ascii, IsUtf8-are_ascii}
use Rattle.serde_json.specs.Data as raw
use Rattle.serde_json.specs.Data.{Data}
use Rattle.sdb_value.specs.Value.{PlainStep, key, index}
use Rattle.sdb_value.specs.FromJson.{count_of}
use Rattle.sdb_component.specs.Plain.{PlainAct, na, si, sd, li, ld, lr, oi, od, or, PlainComponent}
use Rattle.sdb_component.specs.ToJson.{step_data, path_items, path_data, last_step, full_path, act_members, component_data, component_items, op_data}
use Rattle.sdb_component.specs.FromJson.{path_step_of, path_steps_of, data_item_count, path_of, split_last_index, split_last_key, unless_empty, one_component, component_of, components_of, op_of}
use Rattle.sdb_dump.specs.laws.SoundData.{IsSoundData, AreSound, MembersSound}
use Rattle.sdb_dump.specs.ValueLimits.{IsSafeInteger, StepInLimits, StepsInLimits, ActInLimits, ComponentInLimits, ComponentsInLimits}
use Rattle.sdb_dump.proofs.ReadBackValues.{integer_sound, integer_back, value_sound, value_deep, profile_back}

-- ---- paths

pub count_back : (n : ℕ) → IsSafeInteger n → count_of (raw.number (raw.unsigned n)) ≡ Some n
count_back n h =
    let small : nat_lt 9007199254740991 n ≡ false = grind (arith, nat_tests, h) in
    ap (λ b. if b then None else Some n) small

step_back : (s : PlainStep) → StepInLimits s → path_step_of (step_data s) ≡ Some s
step_back (key k) h = refl
step_back (index i) h = ap (option_map index) (count_back i h)

steps_back : (p : List PlainStep) → StepsInLimits p → path_steps_of (path_items p) ≡ Some p
steps_back [] h = refl
steps_back (s ∷ p) h = rw (step_back s h.0, steps_back p h.1) refl

path_size : (p : List PlainStep) → data_item_count (path_items p) ≡ length p
path_size [] = refl
path_size (s ∷ p) = ap suc (path_size p)

path_back : (p : List PlainStep) → StepsInLimits p → length p ≤ 50 → path_of (path_data p) ≡ Some p
path_back p h short =
    let small : nat_lt 50 (data_item_count (path_items p)) ≡ false = rw (path_size p) (grind (arith, nat_tests, short)) in
    ap (λ b. if b then None else path_steps_of (path_items p)) small ∙ steps_back p h

fit_append : (p q : List PlainStep) → StepsInLimits p → StepsInLimits q → StepsInLimits (p ++ q)
fit_append [] q h k = k
fit_append (s ∷ p) q h k = (h.0, fit_append p q h.1 k)

pub last_fits : (r : ℕ) (a : PlainAct) → ActInLimits r a → StepsInLimits (last_step a)
last_fits r (na x) h = tt
last_fits r (si i s) h = (h.0, tt)
last_fits r (sd i s) h = (h.0, tt)
last_fits r (li i v) h = (h.0, tt)
last_fits r (ld i x) h = (h.0, tt)
last_fits r (lr i x y) h = (h.0, tt)
last_fits r (oi k v) h = (h.0, tt)
last_fits r (od k x) h = (h.0, tt)
last_fits r (or k x y) h = (h.0, tt)

pub whole_fits : (r : ℕ) (c : PlainComponent) → ComponentInLimits r c → StepsInLimits (full_path c.path c.act)
whole_fits r c h = fit_append c.path (last_step c.act) h.path (last_fits r c.act h.act)

index_last_back : (q : List PlainStep) (i : ℕ) → split_last_index (q ++ index i ∷ []) ≡ Some (q, i)
index_last_back [] i = refl
index_last_back (s ∷ []) i = refl
index_last_back (s ∷ t ∷ p) i = ap (option_map (λ l. (s ∷ l.0, l.1))) (index_last_back (t ∷ p) i)

key_last_back : (q : List PlainStep) (k : List ℕ) → split_last_key (q ++ key k ∷ []) ≡ Some (q, k)
key_last_back [] k = refl
key_last_back (s ∷ []) k = refl
key_last_back (s ∷ t ∷ p) k = ap (option_map (λ l. (s ∷ l.0, l.1))) (key_last_back (t ∷ p) k)

-- ---- components

unless_empty_of_nonempty : (s : List ℕ) (cs : List PlainComponent) → 0 < length s → unless_empty s cs ≡ cs
unless_empty_of_nonempty [] cs h = absurd (omega arith)
unless_empty_of_nonempty (b ∷ bs) cs h = refl

read_act : (q : List PlainStep) (a : PlainAct) → ActInLimits 50 a → path_of (path_data (full_path q a)) ≡ Some (full_path q a)
    → component_of (raw.object (act_members a (path_data (full_path q a)))) ≡ Some (one_component q a)
read_act q (na x) h e = rw (e, integer_back x h) (ap (λ p. Some (one_component p (na x))) (append-nil q))
read_act q (si i s) h e = rw (e, index_last_back q i) (ap Some (unless_empty_of_nonempty s _ h.1.1))
read_act q (sd i s) h e = rw (e, index_last_back q i) (ap Some (unless_empty_of_nonempty s _ h.1.1))
read_act q (li i v) h e = rw (e, index_last_back q i, profile_back v h.1) refl
read_act q (ld i x) h e = rw (e, index_last_back q i, profile_back x h.1) refl
read_act q (lr i x y) h e = rw (e, index_last_back q i, profile_back x h.1, profile_back y h.2) refl
read_act q (oi k v) h e = rw (e, key_last_back q k, profile_back v h.1) refl
read_act q (od k x) h e = rw (e, key_last_back q k, profile_back x h.1) refl
read_act q (or k x y) h e = rw (e, key_last_back q k, profile_back x h.1, profile_back y h.2) refl

component_back : (c : PlainComponent) → ComponentInLimits 50 c → component_of (component_data c) ≡ Some (c ∷ [])
component_back c h = read_act c.path c.act h.act (path_back (full_path c.path c.act) (whole_fits 50 c h) h.short)

-- ---- operations

components_back : (cs : List PlainComponent) → ComponentsInLimits 50 cs → components_of (component_items cs) ≡ Some cs
components_back [] h = refl
components_back (c ∷ cs) h = rw (component_back c h.0, components_back cs h.1) refl

count_components : (cs : List PlainComponent) → data_item_count (component_items cs) ≡ length cs
count_components [] = refl
count_components (c ∷ cs) = ap suc (count_components cs)

pub op_back : (cs : List PlainComponent) → ComponentsInLimits 50 cs → length cs ≤ 256 → op_of (op_data cs) ≡ Some cs
op_back cs h few =
    let small : nat_lt 256 (data_item_count (component_items cs)) ≡ false = rw (count_components cs) (grind (arith, nat_tests, few)) in
    ap (λ b. if b then None else components_of (component_items cs)) small ∙ components_back cs h

-- ---- soundness

utf8_of_ascii : (s : List ℕ) → are_ascii s ≡ true → IsUtf8 s
utf8_of_ascii s e = IsUtf8-are_ascii s e

step_sound : (s : PlainStep) → StepInLimits s → IsSoundData (step_data s)
step_sound (key k) h = h
step_sound (index i) h = omega (arith, h)

path_sound : (p : List PlainStep) → StepsInLimits p → AreSound (path_items p)
path_sound [] h = tt
path_sound (s ∷ p) h = (step_sound s h.0, path_sound p h.1)

one_sound : (k : List ℕ) (d : Data) → are_ascii k ≡ true → IsSoundData d → MembersSound (raw.member k d raw.no_members)
one_sound k d e h = (utf8_of_ascii k e, h, tt, tt)

act_sound : (r : ℕ) (a : PlainAct) (p : Data) → ActInLimits r a → IsSoundData p → MembersSound (act_members a p)
act_sound r (na x) p h s = (utf8_of_ascii _ refl, integer_sound x h, (refl, tt), one_sound (codes "p") p refl s)
act_sound r (si i t) p h s = (utf8_of_ascii _ refl, s, (refl, tt), one_sound (codes "si") (raw.string t) refl h.1.0)
act_sound r (sd i t) p h s = (utf8_of_ascii _ refl, s, (refl, tt), one_sound (codes "sd") (raw.string t) refl h.1.0)
act_sound r (li i v) p h s = (utf8_of_ascii _ refl, value_sound v h.1.0, (refl, tt), one_sound (codes "p") p refl s)
act_sound r (ld i x) p h s = (utf8_of_ascii _ refl, value_sound x h.1.0, (refl, tt), one_sound (codes "p") p refl s)
act_sound r (lr i x y) p h s =
    (utf8_of_ascii _ refl, value_sound x h.1.0, (refl, (refl, tt)), (utf8_of_ascii _ refl, value_sound y h.2.0, (refl, tt), one_sound (codes "p") p refl s))
act_sound r (oi k v) p h s = (utf8_of_ascii _ refl, value_sound v h.1.0, (refl, tt), one_sound (codes "p") p refl s)
act_sound r (od k x) p h s = (utf8_of_ascii _ refl, value_sound x h.1.0, (refl, tt), one_sound (codes "p") p refl s)
act_sound r (or k x y) p h s =
    (utf8_of_ascii _ refl, value_sound x h.1.0, (refl, (refl, tt)), (utf8_of_ascii _ refl, value_sound y h.2.0, (refl, tt), one_sound (codes "p") p refl s))

pub component_sound : (r : ℕ) (c : PlainComponent) → ComponentInLimits r c → IsSoundData (component_data c)
component_sound r c h = act_sound r c.act (path_data (full_path c.path c.act)) h.act (path_sound (full_path c.path c.act) (whole_fits r c h))

pub op_sound : (r : ℕ) (cs : List PlainComponent) → ComponentsInLimits r cs → AreSound (component_items cs)
op_sound r [] h = tt
op_sound r (c ∷ cs) h = (component_sound r c h.0, op_sound r cs h.1)

-- ---- depth: an operation is two deeper than its deepest value

steps_deep : (p : List PlainStep) → raw.items_depth (path_items p) ≡ 0
steps_deep [] = refl
steps_deep ((key k) ∷ p) = omega (arith, steps_deep p)
steps_deep ((index i) ∷ p) = omega (arith, steps_deep p)

act_deep : (r : ℕ) (a : PlainAct) (p : Data) → 50 ≤ r → ActInLimits r a → raw.depth p ≤ 1 → raw.members_depth (act_members a p) ≤ r
act_deep r (na x) p big h s = omega arith
act_deep r (si i t) p big h s = omega arith
act_deep r (sd i t) p big h s = omega arith
act_deep r (li i v) p big h s = omega (arith, value_deep v, h.1.1)
act_deep r (ld i x) p big h s = omega (arith, value_deep x, h.1.1)
act_deep r (lr i x y) p big h s = omega (arith, value_deep x, h.1.1, value_deep y, h.2.1)
act_deep r (oi k v) p big h s = omega (arith, value_deep v, h.1.1)
act_deep r (od k x) p big h s = omega (arith, value_deep x, h.1.1)
act_deep r (or k x y) p big h s = omega (arith, value_deep x, h.1.1, value_deep y, h.2.1)

pub op_deep : (r : ℕ) (cs : List PlainComponent) → 50 ≤ r → ComponentsInLimits r cs → raw.items_depth (component_items cs) ≤ suc r
op_deep r [] big h = omega arith
op_deep r (c ∷ cs) big h =
    let p = path_data (full_path c.path c.act) in
    let flat : raw.depth p ≤ 1 = omega (arith, steps_deep (full_path c.path c.act)) in
    omega (arith, act_deep r c.act p big h.0.act flat, op_deep r cs big h.1)
