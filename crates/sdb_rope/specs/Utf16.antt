-- Texts as bytes in UTF-8 (RFC 3629), measured in UTF-16 code units (Unicode), which json0's offsets count: 1 for a
-- character, 2 for one above U+FFFF. The first byte of a character determines its width, and continuation bytes have
-- width 0.
use Rattle.std.specs.Prelude.{◌≡◌, ◌++◌, MatchOption, ℕ, suc, ◌+◌, ◌-◌, List, [], ◌∷◌, length, drop, nat_lt, nat_le, nat_eq, if◌then◌else◌, Option, Some, None, option_map, option_and_then}
use Rattle.std.specs.Char.Escape.{encode_utf16}
use Rattle.std.specs.Str.{encode_utf8_all}
use Rattle.std.specs.List.{flat_map, insert_slice, remove_range, starts_with}

-- the width of a byte: 1 below 128, 0 for a continuation byte below 192, 2 for the first of four bytes from 240 on,
-- else 1
abbrev pub utf16_width : ℕ → ℕ
utf16_width b = if nat_lt b 128 then 1 else (if nat_lt b 192 then 0 else (if nat_lt b 240 then 1 else 2))

abbrev pub units : List ℕ → ℕ
units [] = 0
units (b ∷ bs) = utf16_width b + units bs

-- the position of the character after p code units; `None` inside a surrogate pair or after the end
abbrev pub cut_at : List ℕ → ℕ → Option ℕ
cut_at [] p = if nat_eq p 0 then Some 0 else None
cut_at (b ∷ bs) p =
    if nat_le (utf16_width b) p then option_map suc (cut_at bs (p - utf16_width b)) else (if nat_eq p 0 then Some 0 else None)

-- the UTF-16 encoding of the characters before byte i has p code units
pub record IsUtf16Cut (cs : List ℕ) (p i : ℕ) : Type 0 where
  pub front : List ℕ
  pub back : List ℕ
  pub split : cs ≡ front ++ back
  pub offset : length (flat_map encode_utf16 front) ≡ p
  pub position : length (encode_utf8_all front) ≡ i

-- the position, or `None` if no character begins or ends at offset p
abbrev pub IsUtf16Position : List ℕ → ℕ → Option ℕ → Type 0
IsUtf16Position cs p r = MatchOption r ((i : ℕ) → IsUtf16Cut cs p i → ⊥) (IsUtf16Cut cs p)

-- s inserted at offset p
abbrev pub insert_text : ℕ → List ℕ → List ℕ → Option (List ℕ)
insert_text p s t = option_map (λ i. insert_slice t i s) (cut_at t p)

-- s removed at offset p, if it is there
abbrev pub remove_text : ℕ → List ℕ → List ℕ → Option (List ℕ)
remove_text p s t =
    option_and_then (λ i. if starts_with nat_eq (drop i t) s then Some (remove_range t i (i + length s)) else None)
    (cut_at t p)
