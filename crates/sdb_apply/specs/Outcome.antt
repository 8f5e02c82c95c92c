-- The outcome of a change in place.
use Rattle.std.specs.Prelude.{◌≡◌, ℕ, zero, suc, ◌+◌, ◌<◌, List, [], ◌∷◌, length, take, Bool, true, false, if◌then◌else◌, Option, Some, None, Result, Ok, Err, ⊤}
use Rattle.sdb_value.specs.Value.{Value}
use Rattle.sdb_component.specs.Plain.{PlainAct, na, sd, ld, od, PlainComponent}
use Rattle.sdb_apply.specs.Apply.{apply}
use Rattle.sdb_apply.specs.declared.op_apply.ApplyFault.{ApplyFault}
use Rattle.sdb_apply.specs.declared.op_apply.ApplyFault.TheVariants.{NotApplied, OutOfMemory}
use Rattle.sdb_apply.specs.declared.op_apply.Refused.{Refused}

-- whether an act allocates on a unique value: only an insert does
abbrev pub act_allocates : PlainAct → Bool
act_allocates (na x) = false
act_allocates (sd p s) = false
act_allocates (ld i x) = false
act_allocates (od k x) = false
act_allocates _ = true

-- whether the component at index i allocates
abbrev pub act_allocates_at : ℕ → List PlainComponent → Bool
act_allocates_at i [] = false
act_allocates_at zero (c ∷ cs) = act_allocates c.act
act_allocates_at (suc i) (c ∷ cs) = act_allocates_at i cs

-- applied, with the effect as new value; or not applied, or an allocation failed, with the old value
abbrev pub IsApplyOutcome : {A : Type 0} → Bool → Result ⊤ ApplyFault → Option A → A → A → Type 0
IsApplyOutcome grows (Ok _) o d e = o ≡ Some e
IsApplyOutcome grows (Err NotApplied) o d e = (o ≡ None) × (e ≡ d)
IsApplyOutcome grows (Err OutOfMemory) o d e = (grows ≡ true) × (e ≡ d)

-- a unique value allocates only if the act does; a shared one may allocate
abbrev pub may_allocate : Bool → Bool → Bool
may_allocate takes own = if own then takes else true

-- one component allocates if its act does; several may, since their common path is frozen
abbrev pub atomic_apply_allocates : List PlainComponent → Bool
atomic_apply_allocates [] = false
atomic_apply_allocates (c ∷ []) = act_allocates c.act
atomic_apply_allocates (c ∷ o ∷ cs) = true

-- the components before the one at this index made the new value; that one doesn't apply, or its allocation failed
pub record IsApplyRefusal (op : List PlainComponent) (unique : Bool) (old new : Value) (r : Refused) : Type 0 where
  pub index_in_range : r.at < length op
  pub prefix_result : apply (take r.at op) old ≡ Some new
  pub component_refused : r.why ≡ NotApplied → apply (take (r.at + 1) op) old ≡ None
  pub operation_refused : r.why ≡ NotApplied → apply op old ≡ None
  pub memory : r.why ≡ OutOfMemory → may_allocate (act_allocates_at r.at op) unique ≡ true
