-- The lines of an input, continued by a chunk of it.
use Rattle.std.proofs.Common.{◌≡◌, ℕ, ◌+◌, ◌-◌, ◌≤◌, ◌<◌, List, [], ◌∷◌, ◌++◌, None, Some, length, take, drop, min, refl, ap, sym, ◌∙◌, append_assoc, append-nil, arith, All, ◌≢◌, length-append, inl, inr, Ok, Err, OnOk}
use Rattle.std.specs.Prelude.{is_ok}
use Rattle.std.specs.declared.result.Result.{Result}
use Rattle.std.specs.Prelude.{◌==◌, cond, if◌then◌else◌, Bool}
use Rattle.std.proofs.Math.Seq.{take-append-add}
use Rattle.std.proofs.Common.{subst}
use Rattle.std.proofs.lemmas.List.{take_all, take_rest, take-append-le, length-take}
use Rattle.std.proofs.lemmas.List.Elements.{All-head, All-tail}
use Rattle.std.proofs.lemmas.Bool.{lt-ltb, le-ltb, ne_eqb, cases_lt, cases_Bool}
use Rattle.std.specs.Str.{is_utf8, IsUtf8}
use Rattle.std.proofs.lemmas.Str.{is_utf8-from_IsUtf8, IsUtf8-from_is_utf8}
use Rattle.sdb_lines.specs.Lines.{lines_from, readable_text, readable_lines_from}
use Rattle.sdb_lines.specs.Chunks.{lines_ended_by, partial_line_after, kept_prefix}
use Rattle.sdb_lines.specs.Counts.{is_counted_step, step_count, counts_after}
use Rattle.sdb_lines.specs.declared.runner.Counts.{Counts}
use Rattle.std.specs.declared.option.Option.{Option}

pub reading-long : (l : List ℕ) → 1048576 < length l → readable_text l ≡ None
reading-long l h = rw (lt-ltb 1048576 (length l) h) refl

pub reading-good : (l : List ℕ) → length l ≤ 1048576 → IsUtf8 l → readable_text l ≡ Some l
reading-good l h u = rw (le-ltb 1048576 (length l) h, is_utf8-from_IsUtf8 l u) refl

pub reading-bad : (l : List ℕ) → length l ≤ 1048576 → ¬ (IsUtf8 l) → readable_text l ≡ None
reading-bad l h u = elim (cases_Bool (is_utf8 l)) [ inl e ↦ absurd (u (IsUtf8-from_is_utf8 l e)) | inr e ↦ rw (le-ltb 1048576 (length l) h, e) refl ]

-- bytes without a line feed are appended to the pending ones
pub lines-plain : (input rest line_buffer : List ℕ) → All (λ x. x ≢ 10) input → lines_from (input ++ rest) line_buffer ≡ lines_from rest (line_buffer ++ input)
lines-plain [] rest line_buffer h = rw append-nil refl
lines-plain (x ∷ xs) rest line_buffer h = rw (ne_eqb x 10 (All-head (λ x. x ≢ 10) x xs h)) (lines-plain xs rest (line_buffer ++ x ∷ []) (All-tail (λ x. x ≢ 10) x xs h) ∙ ap (lines_from rest) (append_assoc line_buffer (x ∷ []) xs))

-- lines with a common prefix longer than the limit have equal readings
pub reading-prefix : (k : ℕ) (p q : List ℕ) → 1048576 < k → take k p ≡ take k q → readable_text p ≡ readable_text q
reading-prefix k p q long e =
    let same = ap length e in
    let kp = length-take k p in
    let kq = length-take k q in
    elim (cases_lt 1048576 (length p)) [
      | inl h ↦ reading-long p h ∙ sym (reading-long q (omega (arith, h, long, same, kp, kq)))
      | inr h ↦ ap readable_text (sym (take_all k p (omega (arith, h, long))) ∙ e ∙ take_all k q (omega (arith, h, long, same, kp, kq)))
    ]

same-prefix : (k : ℕ) (p q : List ℕ) (x : ℕ) → take k p ≡ take k q → take k (p ++ x ∷ []) ≡ take k (q ++ x ∷ [])
same-prefix k p q x e =
    let same = ap length e in
    let kp = length-take k p in
    let kq = length-take k q in
    elim (cases_lt (length p) k) [
      | inl h ↦ ap (λ l. take k (l ++ x ∷ [])) (sym (take_all k p (omega (arith, h))) ∙ e ∙ take_all k q (omega (arith, h, same, kp, kq)))
      | inr h ↦ take-append-le k p (x ∷ []) h ∙ e ∙ sym (take-append-le k q (x ∷ []) (omega (arith, h, same, kp, kq)))
    ]

some-prefix : (k : ℕ) (q : List ℕ) (y : ℕ) → 0 < k → take k [] ≡ take k (y ∷ q) → ⊥
some-prefix k q y long e = omega (arith, ap length e, length-take k (y ∷ q), length-take {A = ℕ} k [], long)

-- only the kept prefix of the pending bytes matters
pub readings-prefix : (k : ℕ) (rest p q : List ℕ) → 1048576 < k → take k p ≡ take k q → readable_lines_from rest p ≡ readable_lines_from rest q
readings-prefix k [] [] [] long e = refl
readings-prefix k [] [] (y ∷ q) long e = absurd (some-prefix k q y (omega (arith, long)) e)
readings-prefix k [] (x ∷ p) [] long e = absurd (some-prefix k p x (omega (arith, long)) (sym e))
readings-prefix k [] (x ∷ p) (y ∷ q) long e = ap (λ r. r ∷ []) (reading-prefix k (x ∷ p) (y ∷ q) long e)
readings-prefix k (x ∷ xs) p q long e = elim (cases_Bool (x == 10)) [
  | inl t ↦ rw t (ap (λ r. r ∷ readable_lines_from xs []) (reading-prefix k p q long e))
  | inr t ↦ rw t (readings-prefix k xs (p ++ x ∷ []) (q ++ x ∷ []) long (same-prefix k p q x e))
]

prefix-again : (k : ℕ) (l : List ℕ) → take k (take k l) ≡ take k l
prefix-again k l = take_all k (take k l) (omega (arith, length-take k l))

-- the kept prefix of a line has the reading of the line
pub reading-partial : (line : List ℕ) → readable_text (kept_prefix line) ≡ readable_text line
reading-partial line = reading-prefix 1048577 (kept_prefix line) line (omega arith) (prefix-again 1048577 line)

pub readings-partial : (rest line : List ℕ) → readable_lines_from rest (kept_prefix line) ≡ readable_lines_from rest line
readings-partial rest line = readings-prefix 1048577 rest (kept_prefix line) line (omega arith) (prefix-again 1048577 line)

-- a chunk up to its first line feed
pub ended-line : (input rest line_buffer : List ℕ) → All (λ x. x ≢ 10) input → lines_ended_by (input ++ 10 ∷ rest) line_buffer ≡ readable_text (line_buffer ++ input) ∷ lines_ended_by rest []
ended-line [] rest line_buffer h = rw append-nil refl
ended-line (x ∷ xs) rest line_buffer h = rw (ne_eqb x 10 (All-head (λ x. x ≢ 10) x xs h)) (ended-line xs rest (line_buffer ++ x ∷ []) (All-tail (λ x. x ≢ 10) x xs h) ∙ ap (λ l. readable_text l ∷ lines_ended_by rest []) (append_assoc line_buffer (x ∷ []) xs))

pub unended-line : (input rest line_buffer : List ℕ) → All (λ x. x ≢ 10) input → partial_line_after (input ++ 10 ∷ rest) line_buffer ≡ partial_line_after rest []
unended-line [] rest line_buffer h = refl
unended-line (x ∷ xs) rest line_buffer h = rw (ne_eqb x 10 (All-head (λ x. x ≢ 10) x xs h)) (unended-line xs rest (line_buffer ++ x ∷ []) (All-tail (λ x. x ≢ 10) x xs h))

-- a chunk, the index of its first line feed, and the rest after it
module _ (rest partial partial' : List ℕ) (at : ℕ) (plain : All (λ x. x ≢ 10) (take at rest)) (e : rest ≡ take at rest ++ 10 ∷ drop (at + 1) rest) (f : partial' ≡ []) where
  pub ended-at : lines_ended_by rest partial ≡ readable_text (partial ++ take at rest) ∷ lines_ended_by (take (length rest - (at + 1)) (drop (at + 1) rest)) partial'
  ended-at = ap (λ l. lines_ended_by l partial) e ∙ ended-line (take at rest) (drop (at + 1) rest) partial plain
      ∙ ap (λ l. readable_text (partial ++ take at rest) ∷ lines_ended_by l []) (sym (take_rest rest (at + 1)))
      ∙ ap (λ l. readable_text (partial ++ take at rest) ∷ lines_ended_by (take (length rest - (at + 1)) (drop (at + 1) rest)) l) (sym f)

  pub unended-at : partial_line_after rest partial ≡ partial_line_after (take (length rest - (at + 1)) (drop (at + 1) rest)) partial'
  unended-at = ap (λ l. partial_line_after l partial) e ∙ unended-line (take at rest) (drop (at + 1) rest) partial plain
      ∙ ap (λ l. partial_line_after l []) (sym (take_rest rest (at + 1)))
      ∙ ap (λ l. partial_line_after (take (length rest - (at + 1)) (drop (at + 1) rest)) l) (sym f)

-- a chunk without a line feed
pub ended-plain : (input line_buffer : List ℕ) → All (λ x. x ≢ 10) input → lines_ended_by input line_buffer ≡ []
ended-plain [] line_buffer h = refl
ended-plain (x ∷ xs) line_buffer h = rw (ne_eqb x 10 (All-head (λ x. x ≢ 10) x xs h)) (ended-plain xs (line_buffer ++ x ∷ []) (All-tail (λ x. x ≢ 10) x xs h))

pub unended-plain : (input line_buffer : List ℕ) → All (λ x. x ≢ 10) input → partial_line_after input line_buffer ≡ line_buffer ++ input
unended-plain [] line_buffer h = sym (append-nil line_buffer)
unended-plain (x ∷ xs) line_buffer h = rw (ne_eqb x 10 (All-head (λ x. x ≢ 10) x xs h)) (unended-plain xs (line_buffer ++ x ∷ []) (All-tail (λ x. x ≢ 10) x xs h) ∙ append_assoc line_buffer (x ∷ []) xs)

-- a last line that is not empty
pub readings-last : (line : List ℕ) → 0 < length line → readable_lines_from [] line ≡ readable_text line ∷ []
readings-last [] h = absurd (omega arith)
readings-last (x ∷ xs) h = refl

pub readings-none : (line : List ℕ) → length line ≡ 0 → readable_lines_from [] line ≡ []
readings-none [] h = refl
readings-none (x ∷ xs) h = absurd (omega arith)

-- a chunk and the input after it
pub readings-input : (input rest line_buffer : List ℕ) → readable_lines_from (input ++ rest) line_buffer ≡ lines_ended_by input line_buffer ++ readable_lines_from rest (partial_line_after input line_buffer)
readings-input [] rest line_buffer = refl
readings-input (x ∷ xs) rest line_buffer = elim (cases_Bool (x == 10)) [
  | inl t ↦ rw t (ap (λ r. readable_text line_buffer ∷ r) (readings-input xs rest []))
  | inr t ↦ rw t (readings-input xs rest (line_buffer ++ x ∷ []))
]

pub ended-few : (input line_buffer : List ℕ) → length (lines_ended_by input line_buffer) ≤ length input
ended-few [] line_buffer = omega arith
ended-few (x ∷ xs) line_buffer = elim (cases_Bool (x == 10)) [
  | inl t ↦ rw t (omega (arith, ended-few xs []))
  | inr t ↦ rw t (omega (arith, ended-few xs (line_buffer ++ x ∷ [])))
]

-- the kept prefix of a line extended by a part of a chunk
pub hold-more : (partial input : List ℕ) (n : ℕ) → length partial ≤ 1048577 → n ≡ min (length input) (1048577 - length partial) → partial ++ take n input ≡ take 1048577 (partial ++ input)
hold-more partial input n h e = elim (cases_lt (1048577 - length partial) (length input)) [
  | inl l ↦ (let m : n ≡ 1048577 - length partial = omega (arith, e, l) in
      let k : length partial + n ≡ 1048577 = omega (arith, m, h) in
      subst (λ (i : ℕ). partial ++ take n input ≡ take i (partial ++ input)) k (sym (take-append-add partial input n)))
  | inr l ↦ (let m : length input ≤ n = omega (arith, e, l) in
      let k : length (partial ++ input) ≤ 1048577 = omega (arith, length-append partial input, l, h) in
      ap (λ i. partial ++ i) (take_all n input m) ∙ sym (take_all 1048577 (partial ++ input) k))
]

pub on_ok-if : {T E : Type 0} (r : Result T E) (new a b t : List ℕ) → new ≡ cond (is_ok r) a b → a ≡ t → OnOk r (new ≡ t)
on_ok-if (Ok x) new a b t e f = e ∙ f
on_ok-if (Err x) new a b t e f = tt

-- one more line counted
pub counted-one : (s : List ℕ → Bool) (old new : Counts) (line : Option (List ℕ)) → new.lines ≡ old.lines + 1 → new.steps ≡ old.steps + (if is_counted_step s line then 1 else 0) → new ≡ counts_after s old (line ∷ [])
counted-one s old new line e f =
    let a : new.lines ≡ old.lines + length (line ∷ []) = omega (arith, e) in
    let b : new.steps ≡ old.steps + step_count s (line ∷ []) = omega (arith, f) in
    let whole : ◌≡◌ {A = Counts} (record { lines = new.lines; steps = new.steps }) (counts_after s old (line ∷ [])) = cc (a, b) in
    whole

steps-append : (s : List ℕ → Bool) (a b : List (Option (List ℕ))) → step_count s (a ++ b) ≡ step_count s a + step_count s b
steps-append s [] b = omega arith
steps-append s (line ∷ a) b = omega (arith, steps-append s a b)

-- counting a list of lines after another counts their concatenation
pub counted-append : (s : List ℕ → Bool) (counts : Counts) (a b : List (Option (List ℕ))) → counts_after s (counts_after s counts a) b ≡ counts_after s counts (a ++ b)
counted-append s counts a b =
    let e : (counts.lines + length a) + length b ≡ counts.lines + length (a ++ b) = omega (arith, length-append a b) in
    let f : (counts.steps + step_count s a) + step_count s b ≡ counts.steps + step_count s (a ++ b) = omega (arith, steps-append s a b) in
    cc (e, f)
