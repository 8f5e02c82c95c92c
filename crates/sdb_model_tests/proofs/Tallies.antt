-- A number appended to a list of numbers.
use Rattle.std.proofs.Common.{◌≡◌, ◌≢◌, ℕ, Bool, true, false, cond, List, [], ◌∷◌, ◌++◌, eqb, ne_eqb, sym, ap, ◌∙◌}
use Rattle.sdb_model_tests.specs.Tally.{occurrences}

occurrences_append_other : (k n : ℕ) (l : List ℕ) → n ≢ k → occurrences k (l ++ n ∷ []) ≡ occurrences k l
occurrences_append_other k n [] ne = ap (λ (b : Bool). cond b (n ∷ []) []) (ne_eqb n k ne)
occurrences_append_other k n (x ∷ xs) ne = let h = occurrences_append_other k n xs ne in ap (λ (l : List ℕ). cond (eqb x k) (x ∷ l) l) h

pub occurrences_of_others : (k n : ℕ) (b : Bool) (old new : List ℕ) → new ≡ cond b (old ++ n ∷ []) old → k ≢ n → occurrences k old ≡ occurrences k new
occurrences_of_others k n true old new e ne = sym (ap (occurrences k) e ∙ occurrences_append_other k n old (λ h. ne (sym h)))
occurrences_of_others k n false old new e ne = sym (ap (occurrences k) e)
