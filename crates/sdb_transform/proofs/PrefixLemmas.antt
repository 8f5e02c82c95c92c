-- Paths that continue inside another.
use Rattle.std.proofs.Common.{◌≡◌, ◌+◌, ◌-◌, length, take, drop, List, [], ◌∷◌, ◌++◌, Some, None, Bool, true, false, refl, sym, ap, ◌∙◌}
use Rattle.std.proofs.Math.Seq.{take-length}
use Rattle.std.proofs.lemmas.List.{drop-map, length-drop, length-map}
use Rattle.std.specs.Prelude.{if◌then◌else◌}
use Rattle.sdb_value.specs.Value.{PlainStep, steps_equal}
use Rattle.sdb_value.specs.View.{plain_step, plain_path}
use Rattle.sdb_value.specs.declared.path.Step.{Step}
use Rattle.sdb_value.proofs.DisjointLemmas.{equal_steps}
use Rattle.sdb_transform.specs.Transform.{strip_prefix}

behind_or : (b : Bool) (s t : PlainStep) (front path rest : List PlainStep) → steps_equal s t ≡ b → (if b then strip_prefix front path else None) ≡ Some rest
    → (strip_prefix front path ≡ Some rest → path ≡ front ++ rest) → t ∷ path ≡ s ∷ (front ++ rest)
behind_or true s t front path rest same e below = let p : path ≡ front ++ rest = below e in let q : s ≡ t = equal_steps s t same in rw (p, q) refl
behind_or false s t front path rest same e below = cc

-- a path is its prefix and the rest
pub behind_is : (front path rest : List PlainStep) → strip_prefix front path ≡ Some rest → path ≡ front ++ rest
behind_is [] path rest e = let p : path ≡ rest = cc in p
behind_is (s ∷ front) [] rest e = cc
behind_is (s ∷ front) (t ∷ path) rest e = behind_or (steps_equal s t) s t front path rest refl e (behind_is front path rest)

-- the steps after as many as another path has and one more, as a slice
pub rest_after : (steps path : List Step) (p q : List PlainStep) → plain_path steps ≡ p → plain_path path ≡ q
    → plain_path (take (length path - (length steps + 1)) (drop (length steps + 1) path)) ≡ drop (length p + 1) q
rest_after steps path p q e f =
    let n = length steps + 1 in
    ap plain_path (ap (λ k. take k (drop n path)) (sym (length-drop n path)) ∙ take-length (drop n path))
    ∙ sym (drop-map plain_step n path) ∙ ap (drop n) f ∙ ap (λ k. drop (k + 1) q) (sym (length-map steps plain_step) ∙ ap length e)
