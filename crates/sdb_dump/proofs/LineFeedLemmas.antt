-- Compact text contains no line feed.
use Rattle.std.proofs.Common.{◌≡◌, ◌≢◌, ℕ, pos, negsuc, zero, suc, ◌<◌, Bool, true, false, not, ◌&&◌, ◌==◌, List, [], ◌∷◌, ◌++◌, decimal, inl, inr, refl, sym, subst, arith}
use Rattle.std.specs.Prelude.{⊤, ◌+◌, ◌/◌, ◌%◌, nat_lt, if◌then◌else◌}
use Rattle.std.proofs.lemmas.Bool.{and_parts, cases_lt, cases_eq}
use Rattle.std.proofs.lemmas.Bool.Decides.{nat_tests}
use Rattle.std.specs.Fmt.{digits, digits_onto, digit_glyph}
use Rattle.json.specs.Print.{escape_byte, escape, quoted}
use Rattle.json.proofs.Printed.Utf8.{are_ascii}
use Rattle.json.proofs.Printed.Strings.{escape_byte_plain}
use Rattle.serde_json.specs.Data.{Num, unsigned, negative, float, Data, number, object, no_members, member}
use Rattle.serde_json.specs.Written.{number_text, compact_text}
use Rattle.sdb_dump.specs.laws.SoundData.{IsSafeNumber, IsSoundData}
use Rattle.sdb_dump.proofs.CompactText.{has_none, TextProperty, compact_has}
use Rattle.sdb_dump.proofs.HoldsLemmas.{cond_holds}

-- no byte is a line feed
abbrev pub HasNoLineFeed : List ℕ → Type 0
HasNoLineFeed [] = ⊤
HasNoLineFeed (x ∷ xs) = (x ≢ 10) × HasNoLineFeed xs

pub line_append : (xs ys : List ℕ) → HasNoLineFeed xs → HasNoLineFeed ys → HasNoLineFeed (xs ++ ys)
line_append [] ys h k = k
line_append (x ∷ xs) ys h k = (h.0, line_append xs ys h.1 k)

not_feed : (x : ℕ) → not (x == 10) ≡ true → x ≢ 10
not_feed x e h = grind (arith, nat_tests, e, h)

line_of : (xs : List ℕ) → has_none xs ≡ true → HasNoLineFeed xs
line_of [] e = tt
line_of (x ∷ xs) e = let p = and_parts (not (x == 10)) (has_none xs) e in (not_feed x p.0, line_of xs p.1)

-- the escapes of the bytes below n
abbrev clean_below : ℕ → Bool
clean_below zero = true
clean_below (suc n) = has_none (escape_byte n) && clean_below n

byte_below : (n : ℕ) → clean_below n ≡ true → (x : ℕ) → x < n → has_none (escape_byte x) ≡ true
byte_below zero e x h = absurd (omega arith)
byte_below (suc n) e x h =
    let p = and_parts (has_none (escape_byte n)) (clean_below n) e in
    elim (cases_eq x n) [ inl same ↦ subst (λ y. has_none (escape_byte y) ≡ true) (sym same) p.0 | inr other ↦ byte_below n p.1 x (omega arith) ]

all_clean : clean_below 128 ≡ true
unfolding escape_byte
all_clean = refl

byte_line : (x : ℕ) → HasNoLineFeed (escape_byte x)
byte_line x = elim (cases_lt x 128) [
  | inl small ↦ line_of (escape_byte x) (byte_below 128 all_clean x small)
  | inr big ↦ subst HasNoLineFeed (sym (escape_byte_plain x (λ e. omega arith) (λ e. omega arith) (omega arith))) ((λ e. omega arith), tt)
]

escape_line : (s : List ℕ) → HasNoLineFeed (escape s)
escape_line [] = tt
escape_line (x ∷ s) = line_append (escape_byte x) (escape s) (byte_line x) (escape_line s)

quoted_line : (s : List ℕ) → HasNoLineFeed (quoted s)
quoted_line s = ((λ e. omega arith), line_append (escape s) (34 ∷ []) (escape_line s) (line_of (34 ∷ []) refl))

glyph_line : (b : Bool) (d : ℕ) → (if b then 48 + d else 87 + d) ≢ 10
glyph_line true d e = omega (arith, e)
glyph_line false d e = omega (arith, e)

digits_line : (k n : ℕ) (ds : List ℕ) → HasNoLineFeed ds → HasNoLineFeed (digits_onto k 10 false n ds)
digits_line zero n ds h = h
digits_line (suc k) n ds h =
    let more : HasNoLineFeed (digit_glyph false (n % 10) ∷ ds) = (glyph_line (nat_lt (n % 10) 10) (n % 10), h) in
    cond_holds HasNoLineFeed (n / 10 == 0) (digit_glyph false (n % 10) ∷ ds) (digits_onto k 10 false (n / 10) (digit_glyph false (n % 10) ∷ ds)) more
    (digits_line k (n / 10) (digit_glyph false (n % 10) ∷ ds) more)

decimal_line : (n : ℕ) → HasNoLineFeed (decimal n)
unfolding digits
decimal_line n = digits_line 64 n [] tt

number_line : (n : Num) → IsSafeNumber n → HasNoLineFeed (number_text n)
number_line (unsigned n) h = decimal_line n
number_line (negative (pos n)) h = absurd h
number_line (negative (negsuc n)) h = ((λ e. omega arith), decimal_line (suc n))
number_line (float x) h = absurd h

line_feed_free : TextProperty HasNoLineFeed
line_feed_free = record { join = line_append; plain = λ xs e. line_of xs (and_parts (are_ascii xs) (has_none xs) e).1; number = number_line; quote = λ s h. quoted_line s }

pub compact_line : (d : Data) → IsSoundData d → HasNoLineFeed (compact_text d)
compact_line d h = compact_has HasNoLineFeed line_feed_free d h

-- an object of one number, however great
pub number_member_line : (k : List ℕ) (n : ℕ) → HasNoLineFeed (compact_text (object (member k (number (unsigned n)) no_members)))
number_member_line k n = (
  (λ e. omega arith),
  line_append (quoted k) _ (quoted_line k) ((λ e. omega arith), line_append (decimal n) _ (decimal_line n) (line_of (125 ∷ []) refl)),
)
