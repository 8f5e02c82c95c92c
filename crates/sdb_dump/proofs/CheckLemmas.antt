-- States that the check accepts exactly the dumps of its entries.
use Rattle.std.proofs.Common.{◌≡◌, ℕ, ◌+◌, List, [], ◌∷◌, ◌++◌, length, map, Bool, true, false, Option, Some, None, Ok, Err, bytes_eq, refl, sym, ap, ap₂, ◌∙◌, subst, arith, append_assoc, append-nil}
use Rattle.std.specs.Prelude.{if◌then◌else◌, option_and_then}
use Rattle.std.specs.Option.{option_map_or}
use Rattle.json.specs.Print.{escape_byte}
use Rattle.sdb_dump.specs.DumpLine.{PlainLineContent, read_line}
use Rattle.sdb_dump.specs.DumpText.{PlainLine, header_line, count_line, entry_line, dump_lines, log_of_lines, key_not_below, line_content, IsNextLine, AreNextLines, entry_of_read, line_of_read, accepted_line, check_end, check_from, check}
use Rattle.sdb_dump.specs.CheckLaws.{AreLinesOf}
use Rattle.sdb_dump.proofs.NextEntryLemmas.{same_bytes, equal_bytes, entry_found, entry_is_next, entry_accepted}

bytes_differ : (xs ys : List ℕ) (b : Bool) → bytes_eq xs ys ≡ b → (xs ≡ ys → ⊥) → b ≡ false
bytes_differ xs ys true e h = absurd (h (equal_bytes xs ys e))
bytes_differ xs ys false e h = refl

abbrev third_or_zero : List ℕ → ℕ
third_or_zero (x ∷ y ∷ z ∷ xs) = z
third_or_zero _ = 0

-- the line of an entry isn't a count
no_count : (x : PlainLine) (n : ℕ) → entry_line x ≡ count_line n → ⊥
unfolding escape_byte
no_count x n e = let h : 97 ≡ 101 = ap third_or_zero e in absurd (omega (arith, h))

-- ---- one line

line_of_read_found : (before : List PlainLine) (l : List ℕ) (r : PlainLineContent) (x : PlainLine) (b : Bool) → key_not_below before r.key ≡ b → read_line l ≡ Some r
    → (if b then entry_of_read (log_of_lines before r.key) l r else None) ≡ Some x → (l ≡ entry_line x) × IsNextLine before x
line_of_read_found before l r x false f read e = cc
line_of_read_found before l r x true f read e =
    let found = entry_found (log_of_lines before r.key) l r x e in
    (found.text, record { ascends = ap (key_not_below before) found.key ∙ f; is_next = entry_is_next before l r x read found })

enter_at : (before : List PlainLine) (l : List ℕ) (x : PlainLine) (o : Option PlainLineContent) → read_line l ≡ o
    → option_and_then (line_of_read before l) o ≡ Some x → (l ≡ entry_line x) × IsNextLine before x
enter_at before l x None r e = cc
enter_at before l x (Some p) r e =
    line_of_read_found before l p x (key_not_below before p.key) refl r e

enter_is : (before : List PlainLine) (l : List ℕ) (x : PlainLine) → accepted_line before l ≡ Some x → (l ≡ entry_line x) × IsNextLine before x
enter_is before l x e = enter_at before l x (read_line l) refl e

enter_back : (before : List PlainLine) (x : PlainLine) → IsNextLine before x → accepted_line before (entry_line x) ≡ Some x
enter_back before x h =
    let l = entry_line x in
    ap (option_and_then (line_of_read before l)) h.is_next.read
    ∙ ap (λ b. if b then entry_of_read (log_of_lines before x.key) l (line_content x) else None) h.ascends
    ∙ entry_accepted before x h.is_next

-- ---- all lines

record CheckedFrom (before xs : List PlainLine) (ls : List (List ℕ)) (rest : List ℕ) : Type 0 where
  pub more : List PlainLine
  pub all : xs ≡ before ++ more
  pub lines : ls ≡ map entry_line more ++ count_line (length xs) ∷ []
  pub ended : rest ≡ []
  pub next : AreNextLines before more

at_over : (before xs : List PlainLine) (n : ℕ) (l : List ℕ) (ls : List (List ℕ)) (rest : List ℕ) → l ≡ count_line (length before)
    → check_end before n ls rest ≡ Ok xs → CheckedFrom before xs (l ∷ ls) rest
at_over before xs n l [] [] h e =
    let g : before ≡ xs = cc in
    record { more = []; all = sym g ∙ sym (append-nil before); lines = ap (λ t. t ∷ []) (h ∙ ap (λ y. count_line (length y)) g); ended = refl; next = tt }
at_over before xs n l [] (x ∷ rest) h e = cc
at_over before xs n l (m ∷ ls) rest h e = cc

from_line : (before : List PlainLine) (n : ℕ) (l : List ℕ) (ls : List (List ℕ)) (rest : List ℕ) (xs : List PlainLine) (b : Bool) (o : Option PlainLine)
    → bytes_eq l (count_line (length before)) ≡ b → accepted_line before l ≡ o
    → (if b then check_end before (n + 1) ls rest else option_map_or (λ x. check_from (before ++ x ∷ []) (n + 1) ls rest) o (Err n)) ≡ Ok xs
    → ((y : List PlainLine) → check_from y (n + 1) ls rest ≡ Ok xs → CheckedFrom y xs ls rest) → CheckedFrom before xs (l ∷ ls) rest
from_line before n l ls rest xs true o is en e below = at_over before xs (n + 1) l ls rest (equal_bytes l (count_line (length before)) is) e
from_line before n l ls rest xs false None is en e below = cc
from_line before n l ls rest xs false (Some x) is en e below =
    let r = below (before ++ x ∷ []) e in
    let w = enter_is before l x en in
    record { more = x ∷ r.more; all = r.all ∙ append_assoc before (x ∷ []) r.more; lines = ap₂ (λ a b. a ∷ b) w.0 r.lines; ended = r.ended; next = (w.1, r.next) }

from_sound : (before : List PlainLine) (n : ℕ) (ls : List (List ℕ)) (rest : List ℕ) (xs : List PlainLine) → check_from before n ls rest ≡ Ok xs
    → CheckedFrom before xs ls rest
from_sound before n [] rest xs e = cc
from_sound before n (l ∷ ls) rest xs e =
    from_line before n l ls rest xs (bytes_eq l (count_line (length before))) (accepted_line before l) refl refl e (λ y h. from_sound y (n + 1) ls rest xs h)

from_complete : (before more : List PlainLine) (n : ℕ) → AreNextLines before more
    → check_from before n (map entry_line more ++ count_line (length (before ++ more)) ∷ []) [] ≡ Ok (before ++ more)
from_complete before [] n h =
    let g : count_line (length (before ++ [])) ≡ count_line (length before) = ap (λ y. count_line (length y)) (append-nil before) in
    ap (λ t. check_from before n (t ∷ []) []) g ∙ ap (λ b. if b then check_end before (n + 1) [] [] else option_map_or (λ x. check_from (before ++ x ∷ []) (n + 1) [] []) (accepted_line before (count_line (length before))) (Err n)) (same_bytes (count_line (length before)))
    ∙ ap Ok (sym (append-nil before))
from_complete before (x ∷ more) n h =
    let rest = map entry_line more ++ count_line (length (before ++ x ∷ more)) ∷ [] in
    let other : bytes_eq (entry_line x) (count_line (length before)) ≡ false = bytes_differ (entry_line x) (count_line (length before)) _ refl (no_count x (length before)) in
    let all = append_assoc before (x ∷ []) more in
    ap (λ b. if b then check_end before (n + 1) rest [] else option_map_or (λ y. check_from (before ++ y ∷ []) (n + 1) rest []) (accepted_line before (entry_line x)) (Err n)) other
    ∙ ap (λ o. option_map_or (λ y. check_from (before ++ y ∷ []) (n + 1) rest []) o (Err n)) (enter_back before x h.0)
    ∙ ap (λ y. check_from (before ++ x ∷ []) (n + 1) (map entry_line more ++ count_line (length y) ∷ []) []) (sym all)
    ∙ from_complete (before ++ x ∷ []) more (n + 1) h.1 ∙ ap Ok all

-- ---- the header

check_after_header : (l : List ℕ) (ls : List (List ℕ)) (rest : List ℕ) (xs : List PlainLine) → bytes_eq l header_line ≡ true
    → check_from [] 2 ls rest ≡ Ok xs → AreLinesOf xs (l ∷ ls) rest
check_after_header l ls rest xs is e =
    let r = from_sound [] 2 ls rest xs e in
    let g : xs ≡ r.more = r.all in
    (ap₂ (λ a b. a ∷ b) (equal_bytes l header_line is) (r.lines ∙ ap (λ y. map entry_line y ++ count_line (length xs) ∷ []) (sym g)), r.ended, subst (AreNextLines []) (sym g) r.next)

head_sound : (b : Bool) (l : List ℕ) (ls : List (List ℕ)) (rest : List ℕ) (xs : List PlainLine) → bytes_eq l header_line ≡ b
    → (if b then check_from [] 2 ls rest else Err 1) ≡ Ok xs → AreLinesOf xs (l ∷ ls) rest
head_sound true l ls rest xs is e = check_after_header l ls rest xs is e
head_sound false l ls rest xs isnt e = cc

pub check_sound : (ls : List (List ℕ)) (rest : List ℕ) (xs : List PlainLine) → check ls rest ≡ Ok xs → AreLinesOf xs ls rest
check_sound [] rest xs e = cc
check_sound (l ∷ ls) rest xs e = head_sound (bytes_eq l header_line) l ls rest xs refl e

pub check_complete : (xs : List PlainLine) → AreNextLines [] xs → check (dump_lines xs) [] ≡ Ok xs
check_complete xs h =
    ap (λ b. if b then check_from [] 2 (map entry_line xs ++ count_line (length xs) ∷ []) [] else Err 1) (same_bytes header_line)
    ∙ from_complete [] xs 2 h
