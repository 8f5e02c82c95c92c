-- Positions of offsets, block by block.
use Rattle.std.proofs.Common.{◌≡◌, ℕ, zero, suc, ◌+◌, ◌-◌, ◌<◌, ◌≤◌, List, [], ◌∷◌, length, take, drop, Option, Some, None, option_map, Bool, true, false, refl, sym, ap, ◌∙◌, subst, arith, length-drop}
use Rattle.std.specs.Prelude.{if◌then◌else◌, nat_le, nat_eq, slice_index}
use Rattle.std.specs.String.Boundary.{IsSplitPoint}
use Rattle.std.proofs.lemmas.Bool.Decides.{nat_tests}
use Rattle.std.proofs.lemmas.List.{drop-drop, take_all}
use Rattle.sdb_rope.specs.Utf16.{utf16_width, units, cut_at}
use Rattle.sdb_rope.proofs.BoundaryLemmas.{to_end}

le_true : (w p : ℕ) → w ≤ p → nat_le w p ≡ true
le_true w p h = grind (arith, nat_tests)

map_more : (o : Option ℕ) (k : ℕ) → option_map suc (option_map (λ i. k + i) o) ≡ option_map (λ i. suc k + i) o
map_more None k = refl
map_more (Some i) k = let e : suc (k + i) ≡ suc k + i = omega arith in ap Some e

map_none : (o : Option ℕ) → o ≡ option_map (λ i. 0 + i) o
map_none None = refl
map_none (Some i) = let e : i ≡ 0 + i = omega arith in ap Some e

map_two : (o : Option ℕ) (j k : ℕ) → option_map (λ i. j + i) (option_map (λ i. k + i) o) ≡ option_map (λ i. j + k + i) o
map_two None j k = refl
map_two (Some i) j k = let e : j + (k + i) ≡ j + k + i = omega arith in ap Some e

-- a position after the first k bytes is one in the rest
pub cut_past : (k : ℕ) (bs : List ℕ) (p : ℕ) → k ≤ length bs → units (take k bs) ≤ p → cut_at bs p ≡ option_map (λ i. k + i) (cut_at (drop k bs) (p - units (take k bs)))
cut_past zero bs p h u = let e : p ≡ p - 0 = omega arith in map_none (cut_at bs p) ∙ ap (λ q. option_map (λ i. 0 + i) (cut_at bs q)) e
cut_past (suc k) [] p h u = absurd (omega (arith, h))
cut_past (suc k) (b ∷ bs) p h u =
    let w : utf16_width b ≤ p = omega (arith, u) in
    let e : p - utf16_width b - units (take k bs) ≡ p - (utf16_width b + units (take k bs)) = omega arith in
    let r : cut_at bs (p - utf16_width b) ≡ option_map (λ i. k + i) (cut_at (drop k bs) (p - utf16_width b - units (take k bs))) = cut_past k bs (p - utf16_width b) (omega (arith, h)) (omega (arith, u)) in
    rw (le_true (utf16_width b) p w) (ap (option_map suc) r ∙ map_more (cut_at (drop k bs) (p - utf16_width b - units (take k bs))) k ∙ ap (λ q. option_map (λ i. suc k + i) (cut_at (drop k bs) q)) e)

next_cut : (j k : ℕ) (bs : List ℕ) (p q : ℕ) → j + k ≤ length bs → cut_at bs p ≡ option_map (λ i. j + i) (cut_at (drop j bs) q) → units (take k (drop j bs)) ≤ q
    → cut_at bs p ≡ option_map (λ i. j + k + i) (cut_at (drop (j + k) bs) (q - units (take k (drop j bs))))
next_cut j k bs p q h e u =
    let rest = q - units (take k (drop j bs)) in
    let s : cut_at (drop j bs) q ≡ option_map (λ i. k + i) (cut_at (drop k (drop j bs)) rest) = cut_past k (drop j bs) q (omega (arith, length-drop j bs)) u in
    e ∙ ap (option_map (λ i. j + i)) s ∙ map_two (cut_at (drop k (drop j bs)) rest) j k ∙ ap (λ l. option_map (λ i. j + k + i) (cut_at l rest)) (drop-drop k j bs)

-- a position after the next block too, which ends at m and has w code units
pub cut_more : (j m w : ℕ) (bs : List ℕ) (p q : ℕ) → j ≤ m → m ≤ length bs → w ≡ units (take (m - j) (drop j bs)) → w ≤ q → cut_at bs p ≡ option_map (λ i. j + i) (cut_at (drop j bs) q)
    → cut_at bs p ≡ option_map (λ i. m + i) (cut_at (drop m bs) (q - w))
cut_more j m w bs p q before within is fits e =
    let sum : j + (m - j) ≡ m = omega (arith, before) in
    let s = next_cut j (m - j) bs p q (omega (arith, before, within)) e (omega (arith, is, fits)) in
    s ∙ ap (λ x. option_map (λ i. x + i) (cut_at (drop x bs) (q - units (take (m - j) (drop j bs))))) sum ∙ ap (λ x. option_map (λ i. m + i) (cut_at (drop m bs) (q - x))) (sym is)

-- a byte of positive width begins a character
record IsCharStart (bs : List ℕ) (i : ℕ) : Type 0 where
  pub within : i ≤ length bs
  pub wide : i < length bs → 0 < utf16_width (slice_index bs i)

more_than : (w p : ℕ) → nat_le w p ≡ false → 0 < w
more_than w p e = grind (arith, nat_tests)

at_end : (u : Bool) (i : ℕ) → (if u then Some 0 else None) ≡ Some i → IsCharStart [] i
at_end true i h = let z : i ≡ 0 = cc in rw z (record { within = omega arith; wide = λ l. absurd (omega (arith, l)) })
at_end false i h = cc

starts_of : (t u : Bool) (b p : ℕ) (bs : List ℕ) (o : Option ℕ) (i : ℕ) → nat_le (utf16_width b) p ≡ t → nat_eq p 0 ≡ u
    → (if t then option_map suc o else (if u then Some 0 else None)) ≡ Some i → ((k : ℕ) → o ≡ Some k → IsCharStart bs k) → IsCharStart (b ∷ bs) i
starts_of true u b p bs None i e f h below = cc
starts_of true u b p bs (Some k) i e f h below =
    let s : i ≡ suc k = cc in
    let g : IsCharStart bs k = below k refl in
    rw s (record { within = omega (arith, g.within); wide = λ l. g.wide (omega (arith, l)) })
starts_of false true b p bs o i e f h below = let z : i ≡ 0 = cc in let w : 0 < utf16_width b = more_than (utf16_width b) p e in rw z (record { within = omega arith; wide = λ l. w })
starts_of false false b p bs o i e f h below = cc

char_start_of_cut : (bs : List ℕ) (p i : ℕ) → cut_at bs p ≡ Some i → IsCharStart bs i
char_start_of_cut [] p i h = at_end (nat_eq p 0) i h
char_start_of_cut (b ∷ bs) p i h = starts_of (nat_le (utf16_width b) p) (nat_eq p 0) b p bs (cut_at bs (p - utf16_width b)) i refl refl h (λ k e. char_start_of_cut bs (p - utf16_width b) k e)

wide_begins : (b : ℕ) → 0 < utf16_width b → 128 ≤ b → 192 ≤ b
wide_begins b w h = grind (arith, nat_tests)

-- a text can be split at a position
pub cut_split : (bs : List ℕ) (p i : ℕ) → cut_at bs p ≡ Some i → IsSplitPoint bs i
cut_split bs p i h = let g = char_start_of_cut bs p i h in (g.within, λ _ l. wide_begins (slice_index bs i) (g.wide l))

-- the position after the first s bytes
pub split_after : (bs t : List ℕ) (p q s j : ℕ) → bs ≡ t → cut_at bs p ≡ option_map (λ i. s + i) (cut_at (drop s bs) q) → Some j ≡ cut_at (take (length bs - s) (drop s bs)) q → IsSplitPoint t (s + j)
split_after bs t p q s j is same found =
    let e = found ∙ ap (λ l. cut_at l q) (to_end bs s) in
    subst (λ l. IsSplitPoint l (s + j)) is (cut_split bs p (s + j) (same ∙ ap (option_map (λ i. s + i)) (sym e)))

-- what is found in the bytes from s on is found in all
pub found_after : (bs t : List ℕ) (p q s : ℕ) (r : Option ℕ) → bs ≡ t → cut_at bs p ≡ option_map (λ i. s + i) (cut_at (drop s bs) q)
    → r ≡ cut_at (take (length bs - s) (drop s bs)) q → cut_at t p ≡ option_map (λ i. s + i) r
found_after bs t p q s r is same found =
    ap (λ l. cut_at l p) (sym is) ∙ same ∙ ap (option_map (λ i. s + i)) (sym (found ∙ ap (λ l. cut_at l q) (to_end bs s)))

of_none : (k : ℕ) → units (take k []) ≡ 0
of_none zero = refl
of_none (suc k) = refl

-- the code units of the first bytes and of the next block, which ends at m
pub units_more : (j m : ℕ) (bs : List ℕ) → j ≤ m → units (take m bs) ≡ units (take j bs) + units (take (m - j) (drop j bs))
units_more zero m bs h = let e : m ≡ m - 0 = omega arith in let r : units (take m bs) ≡ units (take (m - 0) bs) = ap (λ k. units (take k bs)) e in omega (arith, r)
units_more (suc j) zero bs h = absurd (omega (arith, h))
units_more (suc j) (suc m) [] h = omega (arith, of_none (suc m - suc j))
units_more (suc j) (suc m) (b ∷ bs) h = let r : units (take m bs) ≡ units (take j bs) + units (take (m - j) (drop j bs)) = units_more j m bs (omega (arith, h)) in let e : suc m - suc j ≡ m - j = omega arith in rw e (omega arith)

-- the code units of the first bytes and of the rest
pub units_all : (j : ℕ) (bs : List ℕ) → j ≤ length bs → units bs ≡ units (take j bs) + units (take (length bs - j) (drop j bs))
units_all j bs h = ap units (sym (take_all (length bs) bs (omega arith))) ∙ units_more j (length bs) bs h
