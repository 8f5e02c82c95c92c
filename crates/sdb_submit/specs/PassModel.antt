-- Passes of a desk before and after calls.
use Rattle.std.specs.Prelude.{◌≡◌, ℕ}
use Rattle.sdb_oplog.specs.Keys.{PlainKey}
use Rattle.sdb_oplog.specs.Plain.{PlainSubmission}
use Rattle.sdb_submit.specs.Calls.{PlainCall, CallAnswer}

module _ {D P : Type 0} (accepts : D → P → Type 0) (number : D → P → ℕ) where
  -- the desk accepts the pass, and the submission has its number
  pub record CanSubmit (desk : D) (p : P) (s : PlainSubmission) : Type 0 where
    pub accepted : accepts desk p
    pub by : s.by ≡ number desk p

  -- the desk accepts the new pass, which has the number of the old one
  pub record IsNextPass (desk : D) (old new : P) : Type 0 where
    pub accepted : accepts desk new
    pub number_unchanged : number desk new ≡ number desk old

module _ {D P : Type 0} (accepts : D → P → Type 0) (number : D → P → ℕ)
    (steps caches_step : D → PlainKey → (c : PlainCall) → P → CallAnswer c → P → Type 0)
  where
    -- a call at a key: the pass before it, its answer, and the pass after it with its snapshot caches
    pub record IsCall (desk : D) (k : PlainKey) (c : PlainCall) (p : P) (a : CallAnswer c) (q : P) : Type 0 where
      pub pass : IsNextPass accepts number desk p q
      pub step : steps desk k c p a q
      pub caches : caches_step desk k c p a q
