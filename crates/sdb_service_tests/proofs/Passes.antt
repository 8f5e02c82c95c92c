-- Passes appended to a list of passes.
use Rattle.std.proofs.Common.{List, [], ◌∷◌, ◌++◌}
use Rattle.sdb_growlock.specs.LockRule.{ForEach}

pub each_pushed : {A : Type 0} (P : A → Type 0) (xs : List A) (x : A) → ForEach P xs → P x → ForEach P (xs ++ x ∷ [])
each_pushed P [] x h k = (k, tt)
each_pushed P (y ∷ ys) x h k = (h.0, each_pushed P ys x h.1 k)
