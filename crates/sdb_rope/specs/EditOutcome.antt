-- The outcome of an edit that may be refused.
use Rattle.std.specs.Prelude.{◌≡◌, Bool, true, false, Option, Some, None}

-- done, with the required result; or refused because there is no result, and unchanged
abbrev pub EditOutcome : {A : Type 0} → Bool → Option A → A → A → Type 0
EditOutcome true o before after = o ≡ Some after
EditOutcome false o before after = (o ≡ None) × (after ≡ before)
