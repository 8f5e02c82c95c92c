-- The model of a list of numbers for the tests of `sdb_growlock`, in which each number is added by its own seat.
use Rattle.std.proofs.Common.{◌≡◌, ℕ, cond, List, [], ◌∷◌, ◌++◌, eqb, sym, ap, ◌∙◌, append_assoc, append-nil}

-- the items of the list that equal n
abbrev pub occurrences : ℕ → List ℕ → List ℕ
occurrences n [] = []
occurrences n (x ∷ xs) = cond (eqb x n) (x ∷ occurrences n xs) (occurrences n xs)

-- the first list extends the second one
abbrev pub HasPrefix : List ℕ → List ℕ → Type 0
HasPrefix new old = (more : List ℕ) × (new ≡ old ++ more)

pub has_prefix_refl : (l : List ℕ) → HasPrefix l l
has_prefix_refl l = ([], sym (append-nil l))

pub has_prefix_trans : (a b c : List ℕ) → HasPrefix c b → HasPrefix b a → HasPrefix c a
has_prefix_trans a b c h k = (k.0 ++ h.0, h.1 ∙ ap (λ l. l ++ h.0) k.1 ∙ append_assoc a k.0 h.0)
