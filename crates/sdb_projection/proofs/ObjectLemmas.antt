-- The projection of a value and whether its create is permitted, for objects and other values.
use Rattle.std.proofs.Common.{◌≡◌, ℕ, List, Some, None, true, false, refl}
use Rattle.sdb_value.specs.Value.{Value, null, truth, whole, text, list, object, Members, as_object}
use Rattle.sdb_projection.specs.ProjectionModel.{proj, project_members, has_only_fields, allowed_data}

module _ (fields : List (List ℕ)) where
  pub object_shown : (d : Value) (ms : Members) → Some ms ≡ as_object d → proj fields d ≡ object (project_members fields ms)
  object_shown null ms e = cc
  object_shown (truth b) ms e = cc
  object_shown (whole n) ms e = cc
  object_shown (text t) ms e = cc
  object_shown (list ds) ms e = cc
  object_shown (object ns) ms e = cc

  pub other_shown : (d : Value) → None ≡ as_object d → proj fields d ≡ null
  other_shown null e = refl
  other_shown (truth b) e = refl
  other_shown (whole n) e = refl
  other_shown (text t) e = refl
  other_shown (list ds) e = refl
  other_shown (object ns) e = cc

  pub object_allowed : (d : Value) (ms : Members) → Some ms ≡ as_object d → allowed_data fields d ≡ has_only_fields fields ms
  object_allowed null ms e = cc
  object_allowed (truth b) ms e = cc
  object_allowed (whole n) ms e = cc
  object_allowed (text t) ms e = cc
  object_allowed (list ds) ms e = cc
  object_allowed (object ns) ms e = cc

  pub other_allowed : (d : Value) → None ≡ as_object d → (d ≡ null → ⊥) → allowed_data fields d ≡ false
  other_allowed null e h = absurd (h refl)
  other_allowed (truth b) e h = refl
  other_allowed (whole n) e h = refl
  other_allowed (text t) e h = refl
  other_allowed (list ds) e h = refl
  other_allowed (object ns) e h = cc
