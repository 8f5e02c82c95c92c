-- Characters in UTF-8 and in UTF-16.
use Rattle.std.proofs.Common.{◌≡◌, ℕ, ◌+◌, ◌<◌, ◌≤◌, List, [], ◌∷◌, ◌++◌, length, cond, Bool, true, false, refl, sym, ap, subst, ◌∙◌, arith, length-append}
use Rattle.std.specs.Prelude.{◌/◌, ◌%◌, ◌-◌, nat_lt, nat_le, nat_eq, suc, if◌then◌else◌, Option, Some, None, option_map, MatchOption}
use Rattle.std.proofs.lemmas.Bool.Decides.{nat_tests}
use Rattle.std.specs.Char.{encode_utf8}
use Rattle.std.specs.Char.Escape.{encode_utf16}
use Rattle.std.specs.List.{flat_map}
use Rattle.std.specs.Str.{encode_utf8_all}
use Rattle.sdb_rope.specs.Utf16.{utf16_width, units, cut_at, IsUtf16Cut, IsUtf16Position}

single_width : (b : ℕ) → b < 128 → utf16_width b ≡ 1
single_width b h = grind (arith, nat_tests)

following_width : (b : ℕ) → 128 ≤ b → b < 192 → utf16_width b ≡ 0
following_width b h k = grind (arith, nat_tests)

first_width : (b : ℕ) → 192 ≤ b → b < 240 → utf16_width b ≡ 1
first_width b h k = grind (arith, nat_tests)

pair_width : (b : ℕ) → 240 ≤ b → utf16_width b ≡ 2
pair_width b h = grind (arith, nat_tests)

next_width : (bits : ℕ) → utf16_width (128 + bits % 64) ≡ 0
next_width bits = following_width (128 + bits % 64) (omega arith) (omega arith)

-- the bytes and the code units of a character, by its range
encode_cases : (one two three : Bool) (c u v : ℕ) (bs : List ℕ) → nat_lt c 128 ≡ one → nat_lt c 2048 ≡ two → nat_lt c 65536 ≡ three
    → units (cond one (c ∷ []) (cond two ((192 + c / 64) ∷ (128 + c % 64) ∷ []) (cond three ((224 + c / 4096) ∷ (128 + c / 64 % 64) ∷ (128 + c % 64) ∷ []) ((240 + c / 262144) ∷ (128 + c / 4096 % 64) ∷ (128 + c / 64 % 64) ∷ (128 + c % 64) ∷ []))) ++ bs)
    ≡ length (cond three (c ∷ []) (u ∷ v ∷ [])) + units bs
encode_cases true two true c u v bs e f g = let h : c < 128 = grind (arith, nat_tests) in omega (arith, single_width c h)
encode_cases true two false c u v bs e f g = absurd (grind (arith, nat_tests))
encode_cases false true true c u v bs e f g =
    let h : c < 2048 = grind (arith, nat_tests) in
    let w : utf16_width (192 + c / 64) ≡ 1 = first_width (192 + c / 64) (omega arith) (omega arith) in
    omega (arith, w, next_width c)
encode_cases false true false c u v bs e f g = absurd (grind (arith, nat_tests))
encode_cases false false true c u v bs e f g =
    let h : c < 65536 = grind (arith, nat_tests) in
    let w : utf16_width (224 + c / 4096) ≡ 1 = first_width (224 + c / 4096) (omega arith) (omega arith) in
    omega (arith, w, next_width (c / 64), next_width c)
encode_cases false false false c u v bs e f g =
    let w : utf16_width (240 + c / 262144) ≡ 2 = pair_width (240 + c / 262144) (omega arith) in
    omega (arith, w, next_width (c / 4096), next_width (c / 64), next_width c)

pub units_of_char : (c : ℕ) (bs : List ℕ) → units (encode_utf8 c ++ bs) ≡ length (encode_utf16 c) + units bs
unfolding encode_utf8
units_of_char c bs = encode_cases (nat_lt c 128) (nat_lt c 2048) (nat_lt c 65536) c _ _ bs refl refl refl

-- a text has as many code units as the UTF-16 encoding of its characters
pub units_of_chars : (cs : List ℕ) → units (encode_utf8_all cs) ≡ length (flat_map encode_utf16 cs)
units_of_chars [] = refl
units_of_chars (c ∷ cs) = units_of_char c (encode_utf8_all cs) ∙ ap (λ n. length (encode_utf16 c) + n) (units_of_chars cs) ∙ sym (length-append (encode_utf16 c) (flat_map encode_utf16 cs))

-- ---- the position after some code units

-- the position in a character of w code units and n bytes, before the rest of the text
abbrev cut_char : ℕ → ℕ → ℕ → Option ℕ → Option ℕ
cut_char w n p rest = if nat_le w p then option_map (λ i. n + i) rest else (if nat_eq p 0 then Some 0 else None)

one_more : (n : ℕ) (o : Option ℕ) → option_map suc (option_map (λ i. n + i) o) ≡ option_map (λ i. suc n + i) o
one_more n None = refl
one_more n (Some i) = ap Some (omega arith)

zero_more : (o : Option ℕ) → o ≡ option_map (λ i. 0 + i) o
zero_more None = refl
zero_more (Some i) = ap Some (omega arith)

cut_first : (b w : ℕ) (p : ℕ) (bs : List ℕ) → utf16_width b ≡ w → cut_at (b ∷ bs) p ≡ (if nat_le w p then option_map suc (cut_at bs (p - w)) else (if nat_eq p 0 then Some 0 else None))
cut_first b w p bs e = ap (λ x. if nat_le x p then option_map suc (cut_at bs (p - x)) else (if nat_eq p 0 then Some 0 else None)) e

passed : (p : ℕ) (f : ℕ → Option ℕ) → (if nat_le 0 p then option_map suc (f (p - 0)) else (if nat_eq p 0 then Some 0 else None)) ≡ option_map suc (f p)
passed p f =
    let within : nat_le 0 p ≡ true = grind (arith, nat_tests) in
    let same : p - 0 ≡ p = omega arith in
    rw (within, same)

-- a continuation byte is passed
cut_next : (bits p : ℕ) (bs : List ℕ) → cut_at ((128 + bits % 64) ∷ bs) p ≡ option_map suc (cut_at bs p)
cut_next bits p bs = cut_first (128 + bits % 64) 0 p bs (next_width bits) ∙ passed p (cut_at bs)

cut_last : (bits p : ℕ) (bs : List ℕ) → cut_at ((128 + bits % 64) ∷ bs) p ≡ option_map (λ i. 1 + i) (cut_at bs p)
cut_last bits p bs = cut_next bits p bs ∙ ap (option_map suc) (zero_more (cut_at bs p)) ∙ one_more 0 (cut_at bs p)

cut_by : (w p : ℕ) (a b : Option ℕ) → a ≡ b → (if nat_le w p then a else (if nat_eq p 0 then Some 0 else None)) ≡ (if nat_le w p then b else (if nat_eq p 0 then Some 0 else None))
cut_by w p a b e = ap (λ x. if nat_le w p then x else (if nat_eq p 0 then Some 0 else None)) e

cut_cases : (one two three : Bool) (c u v : ℕ) (bs : List ℕ) (p : ℕ) → nat_lt c 128 ≡ one → nat_lt c 2048 ≡ two → nat_lt c 65536 ≡ three
    → (let e = cond one (c ∷ []) (cond two ((192 + c / 64) ∷ (128 + c % 64) ∷ []) (cond three ((224 + c / 4096) ∷ (128 + c / 64 % 64) ∷ (128 + c % 64) ∷ []) ((240 + c / 262144) ∷ (128 + c / 4096 % 64) ∷ (128 + c / 64 % 64) ∷ (128 + c % 64) ∷ []))) in
    let w = length (cond three (c ∷ []) (u ∷ v ∷ [])) in
    cut_at (e ++ bs) p ≡ cut_char w (length e) p (cut_at bs (p - w)))
cut_cases true two true c u v bs p e f g =
    let h : c < 128 = grind (arith, nat_tests) in
    cut_first c 1 p bs (single_width c h) ∙ cut_by 1 p _ _ (ap (option_map suc) (zero_more _) ∙ one_more 0 _)
cut_cases true two false c u v bs p e f g = absurd (grind (arith, nat_tests))
cut_cases false true true c u v bs p e f g =
    let h : c < 2048 = grind (arith, nat_tests) in
    let last = (128 + c % 64) ∷ bs in
    cut_first (192 + c / 64) 1 p last (first_width (192 + c / 64) (omega arith) (omega arith))
    ∙ cut_by 1 p _ _ (ap (option_map suc) (cut_last c (p - 1) bs) ∙ one_more 1 _)
cut_cases false true false c u v bs p e f g = absurd (grind (arith, nat_tests))
cut_cases false false true c u v bs p e f g =
    let h : c < 65536 = grind (arith, nat_tests) in
    let last = (128 + c % 64) ∷ bs in
    let middle = (128 + c / 64 % 64) ∷ last in
    cut_first (224 + c / 4096) 1 p middle (first_width (224 + c / 4096) (omega arith) (omega arith))
    ∙ cut_by 1 p _ _ (ap (option_map suc) (cut_next (c / 64) (p - 1) last ∙ ap (option_map suc) (cut_last c (p - 1) bs) ∙ one_more 1 _) ∙ one_more 2 _)
cut_cases false false false c u v bs p e f g =
    let last = (128 + c % 64) ∷ bs in
    let third = (128 + c / 64 % 64) ∷ last in
    let second = (128 + c / 4096 % 64) ∷ third in
    cut_first (240 + c / 262144) 2 p second (pair_width (240 + c / 262144) (omega arith))
    ∙ cut_by 2 p _ _ (ap (option_map suc) (cut_next (c / 4096) (p - 2) third
    ∙ ap (option_map suc) (cut_next (c / 64) (p - 2) last ∙ ap (option_map suc) (cut_last c (p - 2) bs) ∙ one_more 1 _) ∙ one_more 2 _) ∙ one_more 3 _)

cut_of_char : (c : ℕ) (bs : List ℕ) (p : ℕ) → cut_at (encode_utf8 c ++ bs) p ≡ cut_char (length (encode_utf16 c)) (length (encode_utf8 c)) p (cut_at bs (p - length (encode_utf16 c)))
unfolding encode_utf8
cut_of_char c bs p = cut_cases (nat_lt c 128) (nat_lt c 2048) (nat_lt c 65536) c _ _ bs p refl refl refl

some_unit : (three : Bool) (c u v : ℕ) → 0 < length (cond three (c ∷ []) (u ∷ v ∷ []))
some_unit true c u v = omega arith
some_unit false c u v = omega arith

char_units : (c : ℕ) → 0 < length (encode_utf16 c)
char_units c = some_unit (nat_lt c 65536) c _ _

-- ---- the position among characters

abbrev first_or : ℕ → List ℕ → ℕ
first_or d [] = d
first_or d (x ∷ xs) = x

abbrev rest_of : List ℕ → List ℕ
rest_of [] = []
rest_of (x ∷ xs) = xs

none_before : (front back : List ℕ) → [] ≡ front ++ back → front ≡ []
none_before [] back e = refl
none_before (x ∷ front) back e = absurd (cc)

module _ (c : ℕ) (cs : List ℕ) where
  -- characters before an offset above 0 begin with the first one
  first_before : (front back : List ℕ) (p i : ℕ) → c ∷ cs ≡ front ++ back → length (flat_map encode_utf16 front) ≡ p → length (encode_utf8_all front) ≡ i → 0 < p
      → (f : List ℕ) × (cs ≡ f ++ back) × (length (encode_utf16 c) + length (flat_map encode_utf16 f) ≡ p) × (length (encode_utf8 c) + length (encode_utf8_all f) ≡ i)
  first_before [] back p i s o q some = absurd (omega (arith, o))
  first_before (x ∷ f) back p i s o q some =
      let same : c ≡ x = ap (first_or c) s in (
        f,
        ap rest_of s,
        ap (λ y. length (encode_utf16 y) + length (flat_map encode_utf16 f)) same ∙ sym (length-append (encode_utf16 x) (flat_map encode_utf16 f)) ∙ o,
        ap (λ y. length (encode_utf8 y) + length (encode_utf8_all f)) same ∙ sym (length-append (encode_utf8 x) (encode_utf8_all f)) ∙ q,
      )

  position_in : (p : ℕ) (b z : Bool) → nat_le (length (encode_utf16 c)) p ≡ b → nat_eq p 0 ≡ z → (r : Option ℕ) → IsUtf16Position cs (p - length (encode_utf16 c)) r
      → IsUtf16Position (c ∷ cs) p (if b then option_map (λ i. length (encode_utf8 c) + i) r else (if z then Some 0 else None))
  position_in p true z e f (Some i) k =
      let within : length (encode_utf16 c) ≤ p = grind (arith, nat_tests, e) in
      record {
        front = c ∷ k.front;
        back = k.back;
        split = ap (λ l. c ∷ l) k.split;
        offset = length-append (encode_utf16 c) (flat_map encode_utf16 k.front) ∙ omega (arith, within, k.offset);
        position = length-append (encode_utf8 c) (encode_utf8_all k.front) ∙ ap (λ n. length (encode_utf8 c) + n) k.position;
      }
  position_in p true z e f None h = λ i k.
      let within : length (encode_utf16 c) ≤ p = grind (arith, nat_tests, e) in
      let (g, s, o, q) = first_before k.front k.back p i k.split k.offset k.position (omega (arith, within, char_units c)) in
      h (i - length (encode_utf8 c)) (record { front = g; back = k.back; split = s; offset = omega (arith, o); position = omega (arith, q) })
  position_in p false true e f r h =
      let none : p ≡ 0 = grind (arith, nat_tests, f) in
      record { front = []; back = c ∷ cs; split = refl; offset = sym none; position = refl }
  position_in p false false e f r h = λ i k.
      let before : p < length (encode_utf16 c) = grind (arith, nat_tests, e) in
      let some : 0 < p = grind (arith, nat_tests, f) in
      let (g, s, o, q) = first_before k.front k.back p i k.split k.offset k.position some in
      omega (arith, o, before)

-- the position of an offset is where the characters before it have so many code units
pub position_of_chars : (cs : List ℕ) (p : ℕ) → IsUtf16Position cs p (cut_at (encode_utf8_all cs) p)
position_of_chars [] p = of (nat_eq p 0) refl
  where
    of : (b : Bool) → nat_eq p 0 ≡ b → IsUtf16Position [] p (if b then Some 0 else None)
    of true e =
        let none : p ≡ 0 = grind (arith, nat_tests, e) in
        record { front = []; back = []; split = refl; offset = sym none; position = refl }
    of false e = λ i k.
        let some : 0 < p = grind (arith, nat_tests, e) in
        omega (arith, some, ap (λ l. length (flat_map encode_utf16 l)) (none_before k.front k.back k.split), k.offset)
position_of_chars (c ∷ cs) p =
    subst (IsUtf16Position (c ∷ cs) p) (sym (cut_of_char c (encode_utf8_all cs) p))
    (position_in c cs p (nat_le (length (encode_utf16 c)) p) (nat_eq p 0) refl refl (cut_at (encode_utf8_all cs) (p - length (encode_utf16 c))) (position_of_chars cs (p - length (encode_utf16 c))))
