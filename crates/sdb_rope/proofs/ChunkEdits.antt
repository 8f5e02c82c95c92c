-- Positions and edits inside chunks.
use Rattle.std.proofs.Common.{◌≡◌, ℕ, zero, suc, ◌+◌, ◌-◌, ◌*◌, ◌<◌, ◌≤◌, List, [], ◌∷◌, ◌++◌, length, take, drop, Option, Some, None, option_map, Bool, true, false, refl, sym, ap, ◌∙◌, arith, append_assoc, length-append, ◌≢◌}
use Rattle.std.specs.Prelude.{if◌then◌else◌, nat_le, nat_eq, option_and_then}
use Rattle.std.specs.List.{insert_slice, remove_range, starts_with}
use Rattle.std.proofs.lemmas.List.{take-append-drop, append-nil, take_at, drop_at, drop-drop}
use Rattle.std.proofs.lemmas.Bool.Decides.{nat_tests, Decides-eqb}
use Rattle.std.proofs.lemmas.Slice.Eq.{starts_is}
use Rattle.sdb_rope.specs.Utf16.{utf16_width, units, cut_at, insert_text, remove_text}

le_true : (w p : ℕ) → w ≤ p → nat_le w p ≡ true
le_true w p h = grind (arith, nat_tests)

map_more : (o : Option ℕ) (k : ℕ) → option_map suc (option_map (λ i. k + i) o) ≡ option_map (λ i. suc k + i) o
map_more None k = refl
map_more (Some i) k = let e : suc (k + i) ≡ suc k + i = omega arith in ap Some e

map_none : (o : Option ℕ) → o ≡ option_map (λ i. 0 + i) o
map_none None = refl
map_none (Some i) = let e : i ≡ 0 + i = omega arith in ap Some e

pub units_append : (xs ys : List ℕ) → units (xs ++ ys) ≡ units xs + units ys
units_append [] ys = omega arith
units_append (x ∷ xs) ys = let r = units_append xs ys in omega (arith, r)

take_none : (k : ℕ) → take {A = ℕ} k [] ≡ []
take_none zero = refl
take_none (suc k) = refl

width_few : (b : ℕ) → utf16_width b ≤ 2
width_few b = grind (arith, nat_tests)

pub units_few : (bs : List ℕ) → units bs ≤ 2 * length bs
units_few [] = omega arith
units_few (b ∷ bs) = omega (arith, units_few bs, width_few b)

pub units_put : (bs s : List ℕ) (i : ℕ) → units (insert_slice bs i s) ≡ units bs + units s
units_put bs s i =
    let e : units bs ≡ units (take i bs) + units (drop i bs) = ap units (sym (take-append-drop i bs)) ∙ units_append (take i bs) (drop i bs) in
    let f : units (insert_slice bs i s) ≡ units (take i bs ++ s) + units (drop i bs) = units_append (take i bs ++ s) (drop i bs) in
    omega (arith, e, f, units_append (take i bs) s)

pub units_removed : (bs : List ℕ) (i j : ℕ) → i ≤ j → units (remove_range bs i j) + units (take (j - i) (drop i bs)) ≡ units bs
units_removed bs i j h =
    let e : units bs ≡ units (take i bs) + units (drop i bs) = ap units (sym (take-append-drop i bs)) ∙ units_append (take i bs) (drop i bs) in
    let f : units (drop i bs) ≡ units (take (j - i) (drop i bs)) + units (drop (j - i) (drop i bs)) = ap units (sym (take-append-drop (j - i) (drop i bs))) ∙ units_append (take (j - i) (drop i bs)) (drop (j - i) (drop i bs)) in
    let s : i + (j - i) ≡ j = omega (arith, h) in
    let g : units (drop (j - i) (drop i bs)) ≡ units (drop j bs) = ap units (drop-drop (j - i) i bs ∙ ap (λ k. drop k bs) s) in
    omega (arith, e, f, g, units_append (take i bs) (drop j bs))

pub take_part : (bs : List ℕ) (i j : ℕ) → i ≤ j → take j bs ≡ take i bs ++ take (j - i) (drop i bs)
take_part bs zero j h = let z : j ≡ j - 0 = omega arith in ap (λ k. take k bs) z
take_part bs (suc i) zero h = absurd (omega (arith, h))
take_part [] (suc i) (suc j) h = sym (take_none (suc j - suc i))
take_part (b ∷ bs) (suc i) (suc j) h = let z : j - i ≡ suc j - suc i = omega arith in ap (λ l. b ∷ l) (take_part bs i j (omega (arith, h)) ∙ ap (λ k. take i bs ++ take k (drop i bs)) z)

-- a position after the first part is one in the second
pub cut_behind : (xs ys : List ℕ) (p i : ℕ) → units xs + i ≡ p → cut_at (xs ++ ys) p ≡ option_map (λ k. length xs + k) (cut_at ys i)
cut_behind [] ys p i e = let s : p ≡ i = omega (arith, e) in ap (cut_at ys) s ∙ map_none (cut_at ys i)
cut_behind (b ∷ xs) ys p i e =
    let w : utf16_width b ≤ p = omega (arith, e) in
    let s : units xs + i ≡ p - utf16_width b = omega (arith, e) in
    rw (le_true (utf16_width b) p w) (ap (option_map suc) (cut_behind xs ys (p - utf16_width b) i s) ∙ map_more (cut_at ys i) (length xs))

cut_prefix_step : (t u : Bool) (b p : ℕ) (xs ys : List ℕ) → nat_le (utf16_width b) p ≡ t → p < utf16_width b + units xs
    → (p - utf16_width b < units xs → cut_at (xs ++ ys) (p - utf16_width b) ≡ cut_at xs (p - utf16_width b))
    → (if t then option_map suc (cut_at (xs ++ ys) (p - utf16_width b)) else (if u then Some 0 else None)) ≡ (if t then option_map suc (cut_at xs (p - utf16_width b)) else (if u then Some 0 else None))
cut_prefix_step true u b p xs ys e h below =
    let w : utf16_width b ≤ p = grind (arith, nat_tests) in
    let l : p - utf16_width b < units xs = omega (arith, h, w) in
    ap (option_map suc) (below l)
cut_prefix_step false u b p xs ys e h below = refl

-- a position before the end of the first part is one in it
pub cut_prefix : (xs ys : List ℕ) (p : ℕ) → p < units xs → cut_at (xs ++ ys) p ≡ cut_at xs p
cut_prefix [] ys p h = absurd (omega (arith, h))
cut_prefix (b ∷ xs) ys p h = cut_prefix_step (nat_le (utf16_width b) p) (nat_eq p 0) b p xs ys refl h (λ l. cut_prefix xs ys (p - utf16_width b) l)

pub cut_inside : (J q R : List ℕ) (offset left : ℕ) → units J + left ≡ offset → left < units q → cut_at (J ++ (q ++ R)) offset ≡ option_map (λ k. length J + k) (cut_at q left)
cut_inside J q R offset left sum less = cut_behind J (q ++ R) offset left sum ∙ ap (option_map (λ k. length J + k)) (cut_prefix q R left less)

-- ---- at the end, and after it

end_step : (u : Bool) (n i : ℕ) → nat_eq i 0 ≡ u → i ≢ 0 → option_map (λ k. n + k) (if u then Some 0 else None) ≡ None
end_step true n i e h = absurd (grind (arith, nat_tests))
end_step false n i e h = refl

pub after_end : (xs : List ℕ) (p i : ℕ) → units xs + i ≡ p → i ≢ 0 → cut_at xs p ≡ None
after_end xs p i e h = ap (λ l. cut_at l p) (sym (append-nil xs)) ∙ cut_behind xs [] p i e ∙ end_step (nat_eq i 0) (length xs) i refl h

pub at_end : (xs : List ℕ) (p : ℕ) → units xs + 0 ≡ p → cut_at xs p ≡ Some (length xs)
at_end xs p e = let z : length xs + 0 ≡ length xs = omega arith in ap (λ l. cut_at l p) (sym (append-nil xs)) ∙ cut_behind xs [] p 0 e ∙ ap Some z

-- ---- edits between the bytes before a position and those after it

pub put_seam : (X Y s : List ℕ) → insert_slice (X ++ Y) (length X) s ≡ X ++ (s ++ Y)
put_seam X Y s = ap (λ l. (l ++ s) ++ drop (length X) (X ++ Y)) (take_at X Y (length X) refl) ∙ ap (λ l. (X ++ s) ++ l) (drop_at X Y (length X) refl) ∙ append_assoc X s Y

pub insert_text_is : (J X Y s K : List ℕ) (p : ℕ) → J ≡ X ++ Y → cut_at J p ≡ Some (length X) → K ≡ X ++ (s ++ Y) → insert_text p s J ≡ Some K
insert_text_is J X Y s K p is cut new = ap (option_map (λ i. insert_slice J i s)) cut ∙ ap (λ l. Some (insert_slice l (length X) s)) is ∙ ap Some (put_seam X Y s) ∙ ap Some (sym new)

pub not_inserted : (J s : List ℕ) (p : ℕ) → cut_at J p ≡ None → insert_text p s J ≡ None
not_inserted J s p cut = ap (option_map (λ i. insert_slice J i s)) cut

split_at_offset : (J X Y s : List ℕ) (p : ℕ) → J ≡ X ++ Y → cut_at J p ≡ Some (length X)
    → remove_text p s J ≡ (if starts_with nat_eq Y s then Some (remove_range J (length X) (length X + length s)) else None)
split_at_offset J X Y s p is cut =
    let e : drop (length X) J ≡ Y = ap (drop (length X)) is ∙ drop_at X Y (length X) refl in
    ap (option_and_then (λ i. if starts_with nat_eq (drop i J) s then Some (remove_range J i (i + length s)) else None)) cut
    ∙ ap (λ l. if starts_with nat_eq l s then Some (remove_range J (length X) (length X + length s)) else None) e

pub starts_with_of_append : (Y s Z : List ℕ) → Y ≡ s ++ Z → starts_with nat_eq Y s ≡ true
starts_with_of_append Y s Z e = (starts_is Decides-eqb Y s (starts_with nat_eq Y s) refl).1 Z e

pub remove_text_is : (J X Y s Z K : List ℕ) (p : ℕ) → J ≡ X ++ Y → cut_at J p ≡ Some (length X) → Y ≡ s ++ Z → K ≡ X ++ Z → remove_text p s J ≡ Some K
remove_text_is J X Y s Z K p is cut here new =
    let all : J ≡ X ++ (s ++ Z) = is ∙ ap (λ l. X ++ l) here in
    let f : take (length X) J ≡ X = ap (take (length X)) all ∙ take_at X (s ++ Z) (length X) refl in
    let n : length (X ++ s) ≡ length X + length s = length-append X s in
    let b : drop (length X + length s) J ≡ Z = ap (drop (length X + length s)) (all ∙ sym (append_assoc X s Z)) ∙ drop_at (X ++ s) Z (length X + length s) n in
    split_at_offset J X Y s p is cut ∙ ap (λ t. if t then Some (remove_range J (length X) (length X + length s)) else None) (starts_with_of_append Y s Z here)
    ∙ ap (λ l. Some (l ++ drop (length X + length s) J)) f ∙ ap (λ l. Some (X ++ l)) b ∙ ap Some (sym new)

pub not_removed : (J X Y s : List ℕ) (p : ℕ) → J ≡ X ++ Y → cut_at J p ≡ Some (length X) → starts_with nat_eq Y s ≡ false → remove_text p s J ≡ None
not_removed J X Y s p is cut other = split_at_offset J X Y s p is cut ∙ ap (λ t. if t then Some (remove_range J (length X) (length X + length s)) else None) other

pub length_put : (bs s : List ℕ) (i : ℕ) → length (insert_slice bs i s) ≡ length bs + length s
length_put bs s i =
    let e : length bs ≡ length (take i bs) + length (drop i bs) = ap length (sym (take-append-drop i bs)) ∙ length-append (take i bs) (drop i bs) in
    omega (arith, e, length-append (take i bs ++ s) (drop i bs), length-append (take i bs) s)
