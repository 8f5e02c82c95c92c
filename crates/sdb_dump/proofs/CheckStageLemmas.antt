-- Stages, and the check of all lines at once.
use Rattle.std.proofs.Common.{◌≡◌, ℕ, ◌+◌, List, [], ◌∷◌, ◌++◌, length, Bool, true, false, bytes_eq, Option, Some, None, Err, refl, ap, ◌∙◌, arith, length-append}
use Rattle.std.specs.Prelude.{if◌then◌else◌}
use Rattle.std.specs.Option.{option_map_or}
use Rattle.sdb_dump.specs.DumpText.{PlainLine, header_line, count_line, accepted_line, check_end, check_from, check}
use Rattle.sdb_dump.specs.CheckStages.{head, body, done, wrong, stage_after_entry, stages_result}

-- the number of a wrong line is the result
pub wrong_stays : (n : ℕ) (ls : List (List ℕ)) (rest : List ℕ) → stages_result (wrong n) ls rest ≡ Err n
wrong_stays n [] rest = refl
wrong_stays n (l ∷ ls) rest = wrong_stays n ls rest

at_over : (xs : List PlainLine) (ls : List (List ℕ)) (rest : List ℕ) → stages_result (done xs) ls rest ≡ check_end xs (length xs + 2 + 1) ls rest
at_over xs [] [] = refl
at_over xs [] (x ∷ rest) = let e : length xs + 3 ≡ length xs + 2 + 1 = omega arith in ap Err e
at_over xs (l ∷ ls) [] = let e : length xs + 3 ≡ length xs + 2 + 1 = omega arith in wrong_stays (length xs + 3) ls [] ∙ ap Err e
at_over xs (l ∷ ls) (x ∷ rest) = let e : length xs + 3 ≡ length xs + 2 + 1 = omega arith in wrong_stays (length xs + 3) ls (x ∷ rest) ∙ ap Err e

line_from : (b : Bool) (o : Option PlainLine) (xs : List PlainLine) (ls : List (List ℕ)) (rest : List ℕ)
    → ((ys : List PlainLine) → stages_result (body ys) ls rest ≡ check_from ys (length ys + 2) ls rest)
    → stages_result (if b then done xs else stage_after_entry xs o) ls rest
    ≡ (if b then check_end xs (length xs + 2 + 1) ls rest else option_map_or (λ x. check_from (xs ++ x ∷ []) (length xs + 2 + 1) ls rest) o (Err (length xs + 2)))
line_from true o xs ls rest below = at_over xs ls rest
line_from false None xs ls rest below = wrong_stays (length xs + 2) ls rest
line_from false (Some x) xs ls rest below =
    let e : length (xs ++ x ∷ []) + 2 ≡ length xs + 2 + 1 = omega (arith, length-append xs (x ∷ [])) in
    below (xs ++ x ∷ []) ∙ ap (λ n. check_from (xs ++ x ∷ []) n ls rest) e

staged_from : (ls : List (List ℕ)) (rest : List ℕ) (xs : List PlainLine) → stages_result (body xs) ls rest ≡ check_from xs (length xs + 2) ls rest
staged_from [] rest xs = refl
staged_from (l ∷ ls) rest xs = line_from (bytes_eq l (count_line (length xs))) (accepted_line xs l) xs ls rest (staged_from ls rest)

head_from : (b : Bool) (ls : List (List ℕ)) (rest : List ℕ) → stages_result (if b then body [] else wrong 1) ls rest ≡ (if b then check_from [] 2 ls rest else Err 1)
head_from true ls rest = staged_from ls rest []
head_from false ls rest = wrong_stays 1 ls rest

-- checking line by line has the result of checking all lines
pub staged_is : (ls : List (List ℕ)) (rest : List ℕ) → stages_result head ls rest ≡ check ls rest
staged_is [] rest = refl
staged_is (l ∷ ls) rest = head_from (bytes_eq l header_line) ls rest
