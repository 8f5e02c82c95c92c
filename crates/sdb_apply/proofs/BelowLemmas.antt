-- Components that work inside one path of a value.
use Rattle.std.proofs.Common.{◌≡◌, ℕ, zero, suc, ◌≤◌, List, [], ◌∷◌, ◌++◌, length, take, drop, map, min, get_or, ◌+◌, ◌<◌, ◌-◌, Option, Some, None, Ok, Err, Result, refl, sym, ap, ◌∙◌, arith, option_map, subst}
use Rattle.std.specs.Prelude.{⊤, true}
use Rattle.std.specs.Option.{option_and_then}
use Rattle.std.proofs.lemmas.List.{take-append-drop, take_more, map-append, take_rest, take-map, length-map}
use Rattle.sdb_value.specs.View.{plain_step, plain_path}
use Rattle.sdb_value.specs.declared.path.Step.{Step}
use Rattle.sdb_component.specs.Plain.{PlainAct}
use Rattle.sdb_apply.proofs.FoldLemmas.{applies_append, none_more}
use Rattle.sdb_value.specs.Value.{Value, PlainStep, value_at, with_value_at}
use Rattle.sdb_value.specs.Change.{ReplacedAt}
use Rattle.sdb_value.specs.laws.PathLaws.{at_append, with_append, at_with, with_with}
use Rattle.sdb_value.specs.laws.ValueLaws.{with_same}
use Rattle.sdb_component.specs.Plain.{PlainComponent}
use Rattle.sdb_apply.specs.Apply.{apply_act, apply_one, apply}
use Rattle.sdb_apply.specs.Outcome.{IsApplyOutcome}
use Rattle.sdb_apply.specs.CommonPath.{IsBelowPath, AllBelowPath, strip_steps}
use Rattle.sdb_apply.specs.declared.op_apply.ApplyFault.{ApplyFault}
use Rattle.sdb_apply.specs.declared.op_apply.ApplyFault.TheVariants.{NotApplied, OutOfMemory}

abbrev pub without_steps : ℕ → PlainComponent → PlainComponent
without_steps n c = record { path = drop n c.path; act = c.act }

path_continues : (p : List PlainStep) (c : PlainComponent) → IsBelowPath p c → c.path ≡ p ++ drop (length p) c.path
path_continues p c h = sym (take-append-drop (length p) c.path) ∙ ap (λ l. l ++ drop (length p) c.path) (sym h)

map_twice : (o : Option Value) (f g h : Value → Value) → ((v : Value) → f v ≡ g (h v)) → option_map f o ≡ option_map g (option_map h o)
map_twice None f g h same = refl
map_twice (Some v) f g h same = ap Some (same v)

map_after_prefix : (o : Option Value) (e : Value → Option Value) (f g h : Value → Value) → ((v : Value) → f v ≡ g (h v)) → option_and_then (λ x. option_map f (e x)) o ≡ option_map g (option_and_then (λ x. option_map h (e x)) o)
map_after_prefix None e f g h same = refl
map_after_prefix (Some x) e f g h same = map_twice (e x) f g h same

-- a component inside a path has the effect that it has on the value there
pub does_path : (p q x : List PlainStep) (c : PlainComponent) (d u : Value) → value_at d p ≡ Some u → x ≡ p ++ q
    → option_and_then (λ v. option_map (with_value_at d x) (apply_act c.act v)) (value_at d x) ≡ option_map (with_value_at d p) (option_and_then (λ v. option_map (with_value_at u q) (apply_act c.act v)) (value_at u q))
does_path p q x c d u found is =
    ap (λ y. option_and_then (λ v. option_map (with_value_at d y) (apply_act c.act v)) (value_at d y)) is
    ∙ ap (option_and_then (λ v. option_map (with_value_at d (p ++ q)) (apply_act c.act v))) (at_append d p q ∙ ap (option_and_then (λ v. value_at v q)) found)
    ∙ map_after_prefix (value_at u q) (apply_act c.act) (with_value_at d (p ++ q)) (with_value_at d p) (with_value_at u q) (λ v. with_append d u v p q found)

pub does_under : (p : List PlainStep) (c : PlainComponent) (d u : Value) → value_at d p ≡ Some u → IsBelowPath p c → apply_one c d ≡ option_map (with_value_at d p) (apply_one (without_steps (length p) c) u)
does_under p c d u found h = does_path p (drop (length p) c.path) c.path c d u found (path_continues p c h)

pub under_then : (o : Option Value) (p : List PlainStep) (cs ds : List PlainComponent) (d u : Value) → value_at d p ≡ Some u
    → ((v : Value) → apply cs (with_value_at d p v) ≡ option_map (with_value_at (with_value_at d p v) p) (apply ds v))
    → option_and_then (apply cs) (option_map (with_value_at d p) o) ≡ option_map (with_value_at d p) (option_and_then (apply ds) o)
under_then None p cs ds d u found strip_steps = refl
under_then (Some v) p cs ds d u found strip_steps = strip_steps v ∙ map_same (apply ds v) (with_value_at (with_value_at d p v) p) (with_value_at d p) (λ x. with_with d u v x p found)
  where
    map_same : (o : Option Value) (f g : Value → Value) → ((x : Value) → f x ≡ g x) → option_map f o ≡ option_map g o
    map_same None f g same = refl
    map_same (Some x) f g same = ap Some (same x)

-- a list of components inside a path has the effect that it has on the value there
pub applies_under : (cs : List PlainComponent) (p : List PlainStep) (d u : Value) → value_at d p ≡ Some u → AllBelowPath p cs → apply cs d ≡ option_map (with_value_at d p) (apply (strip_steps (length p) cs) u)
applies_under [] p d u found h = ap Some (sym (with_same p d u found))
applies_under (c ∷ cs) p d u found h =
    ap (option_and_then (apply cs)) (does_under p c d u found h.0)
    ∙ under_then (apply_one (without_steps (length p) c) u) p cs (strip_steps (length p) cs) d u found (λ v. applies_under cs p (with_value_at d p v) v (at_with d u v p found) h.1)

-- components don't apply if their path doesn't exist
does_none_of_at_none : (p : List PlainStep) (c : PlainComponent) (d : Value) → value_at d p ≡ None → IsBelowPath p c → apply_one c d ≡ None
does_none_of_at_none p c d none h =
    let q = drop (length p) c.path in
    ap (λ y. option_and_then (λ v. option_map (with_value_at d y) (apply_act c.act v)) (value_at d y)) (path_continues p c h)
    ∙ ap (option_and_then (λ v. option_map (with_value_at d (p ++ q)) (apply_act c.act v))) (at_append d p q ∙ ap (option_and_then (λ v. value_at v q)) none)

pub none_nowhere : (cs : List PlainComponent) (c : PlainComponent) (p : List PlainStep) (d : Value) → take 1 cs ≡ c ∷ [] → value_at d p ≡ None → AllBelowPath p cs → apply cs d ≡ None
none_nowhere [] c p d first none h = cc
none_nowhere (x ∷ cs) c p d first none h = ap (option_and_then (apply cs)) (does_none_of_at_none p x d none h.0)

-- the outcome at the path is the outcome in the whole value
pub whole_at : (r : Result ⊤ ApplyFault) (cs : List PlainComponent) (n : ℕ) (d e : Value) (p : List PlainStep) → n ≡ length p → AllBelowPath p cs
    → ReplacedAt (λ u v. IsApplyOutcome true r (apply (strip_steps n cs) u) u v) d p e → IsApplyOutcome true r (apply cs d) d e
whole_at (Ok x) cs n d e p is h c =
    applies_under cs p d c.before c.found h ∙ ap (λ k. option_map (with_value_at d p) (apply (strip_steps k cs) c.before)) (sym is) ∙ ap (option_map (with_value_at d p)) c.related ∙ ap Some (sym c.placed)
whole_at (Err NotApplied) cs n d e p is h c =
    (applies_under cs p d c.before c.found h ∙ ap (λ k. option_map (with_value_at d p) (apply (strip_steps k cs) c.before)) (sym is) ∙ ap (option_map (with_value_at d p)) c.related.0, c.placed ∙ ap (with_value_at d p) c.related.1 ∙ with_same p d c.before c.found)
whole_at (Err OutOfMemory) cs n d e p is h c = (c.related.0, c.placed ∙ ap (with_value_at d p) c.related.1 ∙ with_same p d c.before c.found)

-- ---- prefixes of paths

pub drop_within : {A B : Type 0} (f : A → B) (xs : List A) (n : ℕ) → map f (drop (min n (length xs)) xs) ≡ drop n (map f xs)
drop_within f [] zero = refl
drop_within f [] (suc n) = let e : min (suc n) 0 ≡ 0 = omega arith in ap (λ k. map f (drop k [])) e
drop_within f (x ∷ xs) zero = let e : min 0 (suc (length xs)) ≡ 0 = omega arith in ap (λ k. map f (drop k (x ∷ xs))) e
drop_within f (x ∷ xs) (suc n) = let e : min (suc n) (suc (length xs)) ≡ suc (min n (length xs)) = omega arith in ap (λ k. map f (drop k (x ∷ xs))) e ∙ drop_within f xs n

-- a prefix of a prefix is a prefix
pub take_take_prefix : (k n : ℕ) (x : List PlainStep) → take k (take n x) ≡ take (length (take k (take n x))) x
take_take_prefix zero n x = refl
take_take_prefix (suc k) zero [] = refl
take_take_prefix (suc k) zero (s ∷ x) = refl
take_take_prefix (suc k) (suc n) [] = refl
take_take_prefix (suc k) (suc n) (s ∷ x) = ap (λ l. s ∷ l) (take_take_prefix k n x)

under_shorter : (k : ℕ) (p : List PlainStep) (c : PlainComponent) → IsBelowPath p c → IsBelowPath (take k p) c
under_shorter k p c h = let e : take k p ≡ take k (take (length p) c.path) = ap (take k) h in e ∙ take_take_prefix k (length p) c.path ∙ ap (λ l. take (length l) c.path) (sym e)

pub all_shorter : (k : ℕ) (p : List PlainStep) (cs : List PlainComponent) → AllBelowPath p cs → AllBelowPath (take k p) cs
all_shorter k p [] h = tt
all_shorter k p (c ∷ cs) h = (under_shorter k p c h.0, all_shorter k p cs h.1)

pub all_more : (p : List PlainStep) (cs : List PlainComponent) (c : PlainComponent) → AllBelowPath p cs → IsBelowPath p c → AllBelowPath p (cs ++ c ∷ [])
all_more p [] c h u = (u, tt)
all_more p (x ∷ cs) c h u = (h.0, all_more p cs c h.1 u)

length_take : {A : Type 0} (k : ℕ) (xs : List A) → k ≤ length xs → length (take k xs) ≡ k
length_take zero xs h = refl
length_take (suc k) [] h = absurd (omega arith)
length_take (suc k) (x ∷ xs) h = let e : length (take k xs) ≡ k = length_take k xs (omega arith) in omega arith

pub rest_within : (path : List Step) (n k : ℕ) → k ≡ min n (length path) → plain_path (take (length path - k) (drop k path)) ≡ drop n (plain_path path)
rest_within path n k is = ap plain_path (take_rest path k) ∙ ap (λ i. plain_path (drop i path)) is ∙ drop_within plain_step path n

-- one more common step of both paths
pub common_prefix_extends : (xs ys : List Step) (i : ℕ) (x y : Step) → i < length xs → i < length ys → x ≡ get_or xs i x → y ≡ get_or ys i y → plain_step x ≡ plain_step y
    → take i (plain_path xs) ≡ take i (plain_path ys) → take (i + 1) (plain_path xs) ≡ take (i + 1) (plain_path ys)
common_prefix_extends xs ys i x y hx hy is isy same before =
    take_common_prefix xs i x hx is
    ∙ ap (λ l. l ++ plain_step x ∷ []) before
    ∙ ap (λ s. take i (plain_path ys) ++ s ∷ []) same
    ∙ sym (take_common_prefix ys i y hy isy)
  where
    take_common_prefix : (zs : List Step) (j : ℕ) (z : Step) → j < length zs → z ≡ get_or zs j z → take (j + 1) (plain_path zs) ≡ take j (plain_path zs) ++ plain_step z ∷ []
    take_common_prefix zs j z h e =
        take-map plain_step (j + 1) zs
        ∙ ap plain_path (take_more zs j z h ∙ ap (λ w. take j zs ++ w ∷ []) (sym e))
        ∙ map-append plain_step (take j zs) (z ∷ [])
        ∙ ap (λ l. l ++ plain_step z ∷ []) (sym (take-map plain_step j zs))

pub shared_prefix : (k : ℕ) (xs : List Step) (x : List PlainStep) → plain_path xs ≡ take (length xs) x → plain_path (take k xs) ≡ take (length (take k xs)) x
shared_prefix zero [] x h = refl
shared_prefix (suc k) [] x h = refl
shared_prefix zero (s ∷ xs) x h = refl
shared_prefix (suc k) (s ∷ xs) [] h = cc
shared_prefix (suc k) (s ∷ xs) (y ∷ x) h =
    let e : plain_step s ≡ y = cc in
    let f : plain_path xs ≡ take (length xs) x = cc in
    ap (λ w. w ∷ plain_path (take k xs)) e ∙ ap (λ l. y ∷ l) (shared_prefix k xs x f)

pub shared_more : (k i : ℕ) (xs path : List Step) (cs : List PlainComponent) (c : PlainComponent) → i < length cs → c ≡ get_or cs i c → k ≤ length xs → plain_path path ≡ c.path
    → take k (plain_path xs) ≡ take k (plain_path path) → AllBelowPath (plain_path xs) (take i cs) → AllBelowPath (plain_path (take k xs)) (take (i + 1) cs)
shared_more k i xs path cs c h is within value_at same all =
    let p = take k (plain_path xs) in
    let long : length p ≡ k = length_take k (plain_path xs) (let n : length (plain_path xs) ≡ length xs = length-map xs plain_step in omega (arith, n, within)) in
    let mine : IsBelowPath p c = same ∙ ap (take k) value_at ∙ ap (λ n. take n c.path) (sym long) in
    let more : AllBelowPath p (take i cs ++ c ∷ []) = all_more p (take i cs) c (all_shorter k (plain_path xs) (take i cs) all) mine in
    let P : List PlainStep → Type 0 = λ q. AllBelowPath q (take (i + 1) cs) in
    let Q : List PlainComponent → Type 0 = λ l. AllBelowPath p l in
    subst P (take-map plain_step k xs) (subst Q (sym (take_more cs i c h ∙ ap (λ w. take i cs ++ w ∷ []) (sym is))) more)

-- one more component at the path
pub below_more : (n i : ℕ) (cs : List PlainComponent) (c : PlainComponent) (q : List PlainStep) (a : PlainAct) (d e : Value) → i < length cs → c ≡ get_or cs i c → q ≡ drop n c.path → a ≡ c.act
    → apply (strip_steps n (take i cs)) d ≡ Some e → apply (strip_steps n (take (i + 1) cs)) d ≡ apply_one (record { path = q; act = a }) e
below_more n i cs c q a d e h is path act done =
    ap (λ l. apply (strip_steps n l) d) (take_more cs i c h ∙ ap (λ w. take i cs ++ w ∷ []) (sym is))
    ∙ ap (λ l. apply l d) (map-append (without_steps n) (take i cs) (c ∷ []))
    ∙ applies_append (strip_steps n (take i cs)) (without_steps n c) d e done
    ∙ ap (λ p. apply_one (record { path = p; act = c.act }) e) (sym path)
    ∙ ap (λ b. apply_one (record { path = q; act = b }) e) (sym act)

pub below_none : (n i : ℕ) (cs : List PlainComponent) (d : Value) → apply (strip_steps n (take i cs)) d ≡ None → apply (strip_steps n cs) d ≡ None
below_none n i cs d h =
    ap (λ l. apply (strip_steps n l) d) (sym (take-append-drop i cs))
    ∙ ap (λ l. apply l d) (map-append (without_steps n) (take i cs) (drop i cs))
    ∙ none_more (strip_steps n (take i cs)) (strip_steps n (drop i cs)) d h
