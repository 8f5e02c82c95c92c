-- The outcome of an act at its path and in the whole value.
use Rattle.std.proofs.Common.{◌≡◌, ℕ, List, Option, Some, None, Ok, Err, Result, Bool, true, false, refl, sym, ap, ◌∙◌, option_map}
use Rattle.std.specs.Prelude.{⊤, if◌then◌else◌}
use Rattle.std.specs.Option.{option_and_then}
use Rattle.std.proofs.Common.{cond, IsErrOf, MatchOption, subst}
use Rattle.std.specs.Option.{IfSome}
use Rattle.sdb_chunks.specs.ChunkedVec.{is_unique_vec, vec_items}
use Rattle.sdb_chunks.specs.declared.chunked_vec.ChunkedVec.{ChunkedVec}
use Rattle.sdb_value.specs.Uniqueness.{items_unique, list_unique}
use Rattle.sdb_value.specs.declared.value.Json.{Json}
use Rattle.sdb_value.specs.Value.{Value, Items, Members, PlainStep, null, truth, whole, text, list, object, value_at, with_value_at, as_text, as_list, as_object}
use Rattle.sdb_value.specs.Change.{ReplacedAt}
use Rattle.sdb_rope.specs.EditOutcome.{EditOutcome}
use Rattle.sdb_value.specs.laws.ValueLaws.{with_same, eq_text_of_as_text, eq_list_of_as_list, eq_object_of_as_object}
use Rattle.sdb_apply.specs.Apply.{map_text, map_list, map_object}
use Rattle.sdb_apply.specs.Outcome.{IsApplyOutcome, may_allocate}
use Rattle.sdb_apply.specs.declared.op_apply.ApplyFault.{ApplyFault}
use Rattle.sdb_apply.specs.declared.op_apply.ApplyFault.TheVariants.{NotApplied, OutOfMemory}

-- an outcome at a path is the outcome in the whole value
pub outcome_at : (r : Result ⊤ ApplyFault) (g : Bool) (f : Value → Option Value) (d e : Value) (p : List PlainStep) → ReplacedAt (λ u v. IsApplyOutcome g r (f u) u v) d p e
    → IsApplyOutcome g r (option_and_then (λ u. option_map (with_value_at d p) (f u)) (value_at d p)) d e
outcome_at (Ok x) g f d e p h = rw (h.found, h.related) (ap Some (sym h.placed))
outcome_at (Err NotApplied) g f d e p h = (rw (h.found, h.related.0) refl, h.placed ∙ ap (with_value_at d p) h.related.1 ∙ with_same p d h.before h.found)
outcome_at (Err OutOfMemory) g f d e p h = (h.related.0, h.placed ∙ ap (with_value_at d p) h.related.1 ∙ with_same p d h.before h.found)

abbrev pub result_of_bool : Bool → Result ⊤ ApplyFault
result_of_bool done = if done then Ok tt else Err NotApplied

-- the outcome of a change inside a value
outcome_of_edit : {A : Type 0} (done g : Bool) (f : Option A) (make : A → Value) (x y : A) (d e : Value) (o : Option Value) → o ≡ option_map make f → d ≡ make x → e ≡ make y → EditOutcome done f x y
    → IsApplyOutcome g (result_of_bool done) o d e
outcome_of_edit true g f make x y d e o is was now h = is ∙ ap (option_map make) h ∙ ap Some (sym now)
outcome_of_edit false g f make x y d e o is was now h = (is ∙ ap (option_map make) h.0, now ∙ ap make h.1 ∙ sym was)

pub text_edited : (r : Result ⊤ ApplyFault) (done g : Bool) (f : List ℕ → Option (List ℕ)) (s t : List ℕ) (d e : Value) → Some s ≡ as_text d → e ≡ text t → r ≡ result_of_bool done → EditOutcome done (f s) s t
    → IsApplyOutcome g r (map_text f d) d e
text_edited r done g f s t d e kind now is h = let was = eq_text_of_as_text d s kind in rw is (outcome_of_edit done g (f s) text s t d e (map_text f d) (ap (map_text f) was) was now h)

pub list_edited : (r : Result ⊤ ApplyFault) (done g : Bool) (f : Items → Option Items) (s t : Items) (d e : Value) → Some s ≡ as_list d → e ≡ list t → r ≡ result_of_bool done → EditOutcome done (f s) s t
    → IsApplyOutcome g r (map_list f d) d e
list_edited r done g f s t d e kind now is h = let was = eq_list_of_as_list d s kind in rw is (outcome_of_edit done g (f s) list s t d e (map_list f d) (ap (map_list f) was) was now h)

pub object_done : (f : Members → Members) (s t : Members) (d e : Value) → Some s ≡ as_object d → e ≡ object t → t ≡ f s → map_object f d ≡ Some e
object_done f s t d e kind now h = ap (map_object f) (eq_object_of_as_object d s kind) ∙ ap Some (sym (now ∙ ap object h))

pub text_stays : (s t : List ℕ) (d e : Value) → Some s ≡ as_text d → e ≡ text t → t ≡ s → e ≡ d
text_stays s t d e kind now same = now ∙ ap text same ∙ sym (eq_text_of_as_text d s kind)

pub list_stays : (s t : Items) (d e : Value) → Some s ≡ as_list d → e ≡ list t → t ≡ s → e ≡ d
list_stays s t d e kind now same = now ∙ ap list same ∙ sym (eq_list_of_as_list d s kind)

pub object_stays : (s t : Members) (d e : Value) → Some s ≡ as_object d → e ≡ object t → t ≡ s → e ≡ d
object_stays s t d e kind now same = now ∙ ap object same ∙ sym (eq_object_of_as_object d s kind)

pub not_text : (f : List ℕ → Option (List ℕ)) (d : Value) → None ≡ as_text d → map_text f d ≡ None
not_text f null e = refl
not_text f (truth b) e = refl
not_text f (whole n) e = refl
not_text f (text s) e = cc
not_text f (list es) e = refl
not_text f (object ms) e = refl

pub not_list : (f : Items → Option Items) (d : Value) → None ≡ as_list d → map_list f d ≡ None
not_list f null e = refl
not_list f (truth b) e = refl
not_list f (whole n) e = refl
not_list f (text s) e = refl
not_list f (list es) e = cc
not_list f (object ms) e = refl

pub not_object : (f : Members → Members) (d : Value) → None ≡ as_object d → map_object f d ≡ None
not_object f null e = refl
not_object f (truth b) e = refl
not_object f (whole n) e = refl
not_object f (text s) e = refl
not_object f (list es) e = refl
not_object f (object ms) e = cc

-- ---- allocations

pub needs_put : (own : Bool) → may_allocate true own ≡ true
needs_put true = refl
needs_put false = refl

pub needs_shared : (takes own : Bool) → own ≡ false → may_allocate takes own ≡ true
needs_shared takes own h = ap (may_allocate takes) h

pub list_shared : (l : ChunkedVec Json) → is_unique_vec l ≡ false → list_unique l ≡ false
list_shared l h = ap (λ b. cond b (items_unique (vec_items l)) false) h

-- an outcome that allocates only for shared parts and inserts
pub outcome_needs_less : {A : Type 0} (r : Result ⊤ ApplyFault) (takes own : Bool) (o : Option A) (d e : A) → IsApplyOutcome true r o d e
    → (own ≡ true → IsErrOf r OutOfMemory → takes ≡ true) → IsApplyOutcome (may_allocate takes own) r o d e
outcome_needs_less (Ok x) takes own o d e h k = h
outcome_needs_less (Err NotApplied) takes own o d e h k = h
outcome_needs_less (Err OutOfMemory) takes true o d e h k = (k refl refl, h.1)
outcome_needs_less (Err OutOfMemory) takes false o d e h k = (refl, h.1)

-- a fact about a present or absent option
pub outcome_at_some : {A : Type 0} (N : Type 0) (P : A → Type 0) (o : Option A) (x : A) → o ≡ Some x → MatchOption o N P → P x
outcome_at_some {A} N P o x e h = let Q : Option A → Type 0 = λ o. MatchOption o N P in subst Q e h

pub outcome_at_none : {A : Type 0} (N : Type 0) (P : A → Type 0) (o : Option A) → o ≡ None → MatchOption o N P → N
outcome_at_none {A} N P o e h = let Q : Option A → Type 0 = λ o. MatchOption o N P in subst Q e h

pub if_some : {A : Type 0} (P : A → Type 0) (o : Option A) (x : A) → o ≡ Some x → IfSome o P → P x
if_some {A} P o x e h = let Q : Option A → Type 0 = λ o. IfSome o P in subst Q e h

-- an allocation of a later value, unique if the first one was, is one of the first
pub needs_mono : (takes own later : Bool) → (own ≡ true → later ≡ true) → may_allocate takes later ≡ true → may_allocate takes own ≡ true
needs_mono takes false later h k = refl
needs_mono takes true later h k = ap (may_allocate takes) (sym (h refl)) ∙ k
