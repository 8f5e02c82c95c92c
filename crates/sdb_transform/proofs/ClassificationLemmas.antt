-- The kind of an act's or a step's transform determines that of its component.
use Rattle.std.proofs.Common.{◌≡◌, ◌+◌, ◌<◌, length, get_or, drop, set, List, [], ◌∷◌, ◌++◌, map, Option, Some, None, option_map, Bool, true, false, refl, sym, ap, ◌∙◌, arith, length-append}
use Rattle.std.proofs.Math.Seq.{set-append_seam, drop-append-add}
use Rattle.std.specs.Option.{is_none, is_some}
use Rattle.std.specs.Prelude.{if◌then◌else◌, option_and_then}
use Rattle.sdb_value.specs.Value.{PlainStep, index, steps_equal}
use Rattle.sdb_value.specs.View.{plain_step, plain_path}
use Rattle.sdb_value.specs.declared.path.Step.{Step}
use Rattle.sdb_component.specs.Plain.{PlainComponent}
use Rattle.sdb_transform.specs.declared.classify.PositionChange.TheVariants.{Dropped, Unchanged, MovedTo}
use Rattle.sdb_transform.specs.declared.classify.TransformKind.{TransformKind}
use Rattle.sdb_transform.specs.declared.classify.TransformKind.TheVariants.{Refused, PositionOnly, Rewritten}
use Rattle.sdb_transform.specs.declared.rewrite.Rewrite.TheVariants.{MovedStep, UpdatedValue, SplitDelete, ReducedDelete, OverwrittenValue, InsertedValue}
use Rattle.sdb_transform.specs.declared.side.Side.{Side}
use Rattle.sdb_transform.specs.Classification.{IsFeasible, IsKindOfAct, IsKindOfStep, transform_by_kind}
use Rattle.sdb_transform.specs.Transform.{ActTransform, StepTransform, strip_prefix, transform_act, transform_step, with_moved_step, transform, component_at, removed_step, strip_removed_path}
use Rattle.sdb_transform.proofs.PrefixLemmas.{behind_is}

-- ---- at the other's container

act_kind : (k : TransformKind) (c o : PlainComponent) (m : ActTransform) → IsKindOfAct k c.act o.act m → (option_map (map (component_at c.path)) m ≡ transform_by_kind k c o) × IsFeasible k c o
act_kind Refused c o m h = (rw h refl, tt)
act_kind (PositionOnly Dropped) c o m h = (rw h refl, tt)
act_kind (PositionOnly Unchanged) c o m h = (rw h refl, tt)
act_kind (PositionOnly (MovedTo n)) c o m h = (rw h refl, tt)
act_kind (Rewritten (MovedStep n)) c o m h = absurd h.1
act_kind (Rewritten UpdatedValue) c o m h = absurd h.1
act_kind (Rewritten (SplitDelete at q)) c o m h = (rw h.0 refl, h.1)
act_kind (Rewritten (ReducedDelete q i j)) c o m h = (rw h.0 refl, h.1)
act_kind (Rewritten OverwrittenValue) c o m h = (rw h.0 refl, tt)
act_kind (Rewritten InsertedValue) c o m h = (rw h.0 refl, tt)

pub kind_at : (k : TransformKind) (side : Side) (c o : PlainComponent) → strip_prefix o.path c.path ≡ Some [] → IsKindOfAct k c.act o.act (transform_act side c.act o.act) → (transform side c o ≡ transform_by_kind k c o) × IsFeasible k c o
kind_at k side c o e h = let p = act_kind k c o (transform_act side c.act o.act) h in (rw e p.0, p.1)

-- ---- inside the other's container

moved_path : (front rest path : List PlainStep) (s t : PlainStep) → front ++ s ∷ rest ≡ path → front ++ t ∷ rest ≡ set path (length front) t
moved_path front rest path s t e = sym (ap (λ p. set p (length front) t) (sym e) ∙ set-append_seam front s rest t)

longer_path : (front rest path : List PlainStep) (s : PlainStep) → front ++ s ∷ rest ≡ path → length front < length path
longer_path front rest path s e = omega (arith, ap length e, length-append front (s ∷ rest))

step_kind : (k : TransformKind) (c o : PlainComponent) (s : PlainStep) (rest : List PlainStep) (m : StepTransform) → o.path ++ s ∷ rest ≡ c.path → IsKindOfStep k s m → (option_map (with_moved_step c o rest) m ≡ transform_by_kind k c o) × IsFeasible k c o
step_kind Refused c o s rest m e h = (rw h refl, tt)
step_kind (PositionOnly Dropped) c o s rest m e h = (rw h refl, tt)
step_kind (PositionOnly Unchanged) c o s rest m e h = (rw h (ap (λ p. Some (component_at p c.act ∷ [])) e), tt)
step_kind (PositionOnly (MovedTo n)) c o s rest m e h = absurd h
step_kind (Rewritten (MovedStep n)) c o s rest m e h = (rw h (ap (λ p. Some (component_at p c.act ∷ [])) (moved_path o.path rest c.path s (index n) e)), longer_path o.path rest c.path s e)
step_kind (Rewritten UpdatedValue) c o s rest m e h = absurd h
step_kind (Rewritten (SplitDelete at q)) c o s rest m e h = absurd h
step_kind (Rewritten (ReducedDelete q i j)) c o s rest m e h = absurd h
step_kind (Rewritten OverwrittenValue) c o s rest m e h = absurd h
step_kind (Rewritten InsertedValue) c o s rest m e h = absurd h

kind_below : (k : TransformKind) (side : Side) (c o : PlainComponent) (s : PlainStep) (rest : List PlainStep) → strip_prefix o.path c.path ≡ Some (s ∷ rest) → IsKindOfStep k s (transform_step o.act s) → (transform side c o ≡ transform_by_kind k c o) × IsFeasible k c o
kind_below k side c o s rest e h = let p = step_kind k c o s rest (transform_step o.act s) (sym (behind_is o.path c.path (s ∷ rest) e)) h in (rw e p.0, p.1)

-- for the first step after the prefix
pub kind_of_first : (k : TransformKind) (side : Side) (c o : PlainComponent) (items : List Step) (d : Step) → 0 < length items → d ≡ get_or items 0 d → strip_prefix o.path c.path ≡ Some (plain_path items) → IsKindOfStep k (plain_step d) (transform_step o.act (plain_step d)) → (transform side c o ≡ transform_by_kind k c o) × IsFeasible k c o
kind_of_first k side c o [] d h is e f = absurd (omega arith)
kind_of_first k side c o (s ∷ items) d h is e f =
    kind_below k side c o (plain_step d) (plain_path items) (e ∙ ap (λ x. Some (plain_step x ∷ plain_path items)) (sym is)) f

-- ---- around the other's container

-- the rest of a path inside the removed value
abbrev RestInRemoved : Option PlainStep → Option (List PlainStep) → Option (List PlainStep)
RestInRemoved r m = option_and_then (λ s. option_and_then (strip_prefix (s ∷ [])) m) r

rest_at_step : (b : Bool) (rest out : List PlainStep) → rest ≡ out → is_some (if b then Some rest else None) ≡ true → (if b then Some rest else None) ≡ Some out
rest_at_step true rest out e h = ap Some e
rest_at_step false rest out e h = cc

rest_in_removed : (r : Option PlainStep) (front path : List PlainStep) (m : Option (List PlainStep)) → strip_prefix front path ≡ m → is_some (RestInRemoved r m) ≡ true → (RestInRemoved r m ≡ Some (drop (length front + 1) path)) × (length front < length path)
rest_in_removed None front path m e h = absurd (cc)
rest_in_removed (Some s) front path None e h = absurd (cc)
rest_in_removed (Some s) front path (Some []) e h = absurd (cc)
rest_in_removed (Some s) front path (Some (t ∷ rest)) e h =
    let p : path ≡ front ++ t ∷ rest = behind_is front path (t ∷ rest) e in
    (rest_at_step (steps_equal s t) rest (drop (length front + 1) path) (sym (ap (drop (length front + 1)) p ∙ drop-append-add front (t ∷ rest) 1)) h, longer_path front rest path t (sym p))

pub removed_rest : (c o : PlainComponent) → is_some (strip_removed_path c o.path) ≡ true → (strip_removed_path c o.path ≡ Some (drop (length c.path + 1) o.path)) × (length c.path < length o.path)
removed_rest c o h = rest_in_removed (removed_step c.act) c.path o.path (strip_prefix c.path o.path) refl h

pub none_of : {A : Type 0} (o : Option A) → is_some o ≡ false → o ≡ None
none_of None h = refl
none_of (Some a) h = cc

-- ---- a kind other than `Refused`

pub kind_exists : (k : TransformKind) (c o : PlainComponent) → (k ≡ Refused → ⊥) → is_none (transform_by_kind k c o) ≡ false
kind_exists Refused c o n = absurd (n refl)
kind_exists (PositionOnly p) c o n = refl
kind_exists (Rewritten r) c o n = refl
