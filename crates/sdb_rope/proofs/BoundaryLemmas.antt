-- The end of a text that is contained in another.
use Rattle.std.proofs.Common.{◌≡◌, ℕ, zero, suc, ◌+◌, ◌-◌, ◌≤◌, ◌<◌, List, [], ◌∷◌, length, take, drop, sym, true, nat_eq, ap, subst, arith, length-take, length-drop}
use Rattle.std.specs.List.{starts_with}
use Rattle.std.specs.Str.{IsUtf8, IsCharBoundary}
use Rattle.std.specs.String.Boundary.{IsSplitPoint}
use Rattle.std.proofs.lemmas.List.{take_all}
use Rattle.std.proofs.lemmas.Slice.Eq.{bytes_eq-Decides}
use Rattle.std.specs.Char.{len_utf8}
use lib.Utf8.{encodes}
use Rattle.std.proofs.lemmas.Str.{len_utf8_bounds, IsCharBoundary-past_char, IsCharBoundary-start, IsCharBoundary-from_take, IsCharBoundary-from_rest, IsUtf8-drop}

pub char_boundary : (bs : List ℕ) (i : ℕ) → IsUtf8 bs → IsSplitPoint bs i → IsCharBoundary bs i
char_boundary bs zero u s = IsCharBoundary-start bs u
char_boundary bs (suc i) u s = (s.0, s.1 (omega arith))

pub split_point : (bs : List ℕ) (i : ℕ) → IsCharBoundary bs i → IsSplitPoint bs i
split_point bs i b = (b.0, λ _ inside. b.1 inside)

pub other_end : (bs old : List ℕ) (i : ℕ) → IsUtf8 bs → IsUtf8 old → IsSplitPoint bs i → starts_with nat_eq (drop i bs) old ≡ true → IsSplitPoint bs (i + length old)
other_end bs old i u v s h =
    let b : IsCharBoundary bs i = char_boundary bs i u s in
    let w : IsUtf8 (drop i bs) = IsUtf8-drop bs i u b in
    let same : old ≡ take (length old) (drop i bs) = (bytes_eq-Decides old (take (length old) (drop i bs))).0 h in
    let fits : length old ≤ length (drop i bs) = omega (arith, ap length same, length-take (length old) (drop i bs)) in
    split_point bs (i + length old) (IsCharBoundary-from_rest bs i (length old) b.0 (IsCharBoundary-from_take (drop i bs) (length old) w fits (subst IsUtf8 same v)))

char_after : (bs : List ℕ) (i : ℕ) (cs : List ℕ) → i < length bs → i ≤ length bs → IsUtf8 (drop i bs) → encodes cs ≡ drop i bs → (k : ℕ) × ((i < k) × (k ≤ i + 4) × IsCharBoundary bs k)
char_after bs i [] h l u e = absurd (omega (arith, ap length e, length-drop i bs))
char_after bs i (c ∷ cs) h l u e =
    let n = len_utf8_bounds c in
    (i + len_utf8 c, (omega (arith, n.0), omega (arith, n.1), IsCharBoundary-past_char bs (encodes cs) i c l u (sym e)))

-- the bytes from i to the end
pub to_end : (bs : List ℕ) (i : ℕ) → take (length bs - i) (drop i bs) ≡ drop i bs
to_end bs i = take_all (length bs - i) (drop i bs) (omega (arith, length-drop i bs))

-- the next character begins at most four bytes later
pub next_char : (bs : List ℕ) (i : ℕ) → IsUtf8 bs → IsCharBoundary bs i → i < length bs → (k : ℕ) × ((i < k) × (k ≤ i + 4) × IsCharBoundary bs k)
next_char bs i u b h =
    let v : IsUtf8 (drop i bs) = IsUtf8-drop bs i u b in
    char_after bs i v.0 h b.0 v v.1.1
