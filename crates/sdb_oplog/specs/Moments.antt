-- The moments of a log, in milliseconds: they never decrease.
use Rattle.std.specs.Prelude.{ℕ, suc, ◌≤◌, List, [], ◌∷◌, if◌then◌else◌, nat_lt, ⊤}
use Rattle.sdb_oplog.specs.Plain.{PlainEntry}

-- the moment of the last entry, or this one for an empty log
abbrev pub last_moment_or : ℕ → List PlainEntry → ℕ
last_moment_or m [] = m
last_moment_or m (e ∷ es) = last_moment_or e.moment es

abbrev pub last_moment : List PlainEntry → ℕ
last_moment = last_moment_or 0

-- no entry's moment is less than that of the one before it, nor the first one's than this one
abbrev pub MomentsOrderedFrom : ℕ → List PlainEntry → Type 0
MomentsOrderedFrom m [] = ⊤
MomentsOrderedFrom m (e ∷ es) = (m ≤ e.moment) × MomentsOrderedFrom e.moment es

-- the version at a moment: the number of entries whose moment isn't later
abbrev pub version_at : List PlainEntry → ℕ → ℕ
version_at [] m = 0
version_at (e ∷ es) m = if nat_lt m e.moment then version_at es m else suc (version_at es m)
