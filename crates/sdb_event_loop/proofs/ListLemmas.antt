-- Lists of passes.
use Rattle.std.proofs.Common.{◌≡◌, Bool, true, false, cond, List, [], ◌∷◌, ◌++◌, sym, subst}
use Rattle.sdb_growlock.specs.LockRule.{ForEach}

each_append_one : {X : Type 0} (P : X → Type 0) (xs : List X) (x : X) → ForEach P xs → P x → ForEach P (xs ++ x ∷ [])
each_append_one P [] x h p = (p, tt)
each_append_one P (y ∷ ys) x h p = (h.0, each_append_one P ys x h.1 p)

pub each_of_push : {X : Type 0} (P : X → Type 0) (t : Bool) (xs ys : List X) (x : X) → ys ≡ cond t (xs ++ x ∷ []) xs → ForEach P xs → P x
    → ForEach P ys
each_of_push P true xs ys x e h p = subst (ForEach P) (sym e) (each_append_one P xs x h p)
each_of_push P false xs ys x e h p = subst (ForEach P) (sym e) h
