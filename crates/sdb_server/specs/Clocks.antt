-- The moments of a clock, and a session whose lines are answered at them.
use Rattle.std.specs.Prelude.{◌≡◌, ℕ, ◌≤◌, ◌/◌, min, List, [], ◌∷◌, Option, Some, None}
use Rattle.std.specs.Duration.{as_nanos}
use Rattle.std.specs.declared.time.Duration.{Duration}
use Rattle.sdb_projection.specs.Table.{PlainProjection}
use Rattle.sdb_session.specs.Dialogue.{State, Dialogue}

-- the first of the moments, or 0 if there are none
abbrev pub next_moment : List ℕ → ℕ
next_moment [] = 0
next_moment (t ∷ ts) = t

-- the moments after the first
abbrev pub moments_after : List ℕ → List ℕ
moments_after [] = []
moments_after (t ∷ ts) = ts

-- The moment of the system's clock: the whole milliseconds since the beginning of 1970, at most the greatest moment; 0 before
-- that, and if the clock can't be read.
abbrev pub moment_since : Option Duration → ℕ
moment_since None = 0
moment_since (Some d) = min (as_nanos d / 1000000) 9007199254740991

-- The moment is the first of those that the clock returns, if they are known, and the rest remains. A moment is at most
-- 9007199254740991.
abbrev pub ClockReturns : Option (List ℕ) → ℕ → Option (List ℕ) → Type 0
ClockReturns None now new = now ≤ 9007199254740991
ClockReturns (Some ts) now new = (now ≡ next_moment ts) × (new ≡ Some (moments_after ts))

-- the session's state, and the moments that its clock returns next
pub record TimedState : Type 0 where
  pub state : State
  pub remaining_moments : Option (List ℕ)

-- the line is answered by `Dialogue`, at the clock's moment
pub record TimedDialogue (t : List PlainProjection) (old : TimedState) (line : Option (List ℕ)) (bytes : List ℕ) (new : TimedState)
    : Type 0 where
  pub now : ℕ
  pub clock_returns : ClockReturns old.remaining_moments now new.remaining_moments
  pub dialogue : Dialogue t old.state now line bytes new.state
