-- States that a text is accepted if and only if it is a dump.
use Rattle.std.proofs.Common.{◌≡◌, ℕ, List, [], ◌∷◌, ◌++◌, length, map, Bool, true, false, ◌==◌, Ok, refl, sym, ap, ap₂, ◌∙◌, arith, append_assoc, append-nil, ne_eqb}
use Rattle.std.specs.Prelude.{⊤, codes, if◌then◌else◌}
use Rattle.std.proofs.lemmas.Bool.Decides.{nat_tests}
use Rattle.sdb_dump.specs.DumpText.{PlainLine, count_line, entry_line, dump_lines, ended_lines, dump_text, check}
use Rattle.sdb_dump.specs.DumpLaws.{AllInLimits, IsDumpOfLogs}
use Rattle.sdb_dump.proofs.AcceptLemmas.{AllLinesInLimits, all_fit, dumps_accepted, accepted_next}
use Rattle.sdb_dump.specs.DumpLine.{line_data}
use Rattle.sdb_dump.proofs.ReadBackEntries.{line_sound}
use Rattle.sdb_dump.specs.LineSplit.{cons_line, split_lines, check_text}
use Rattle.sdb_dump.proofs.LineFeedLemmas.{HasNoLineFeed}
use Rattle.sdb_dump.specs.EntryLimits.{AllKeysInLimits}
use Rattle.sdb_dump.proofs.LineFeedLemmas.{compact_line, number_member_line}
use Rattle.sdb_dump.proofs.LimitLemmas.{all_within}

-- ---- the lines concatenated are the text

joined_if : (b : Bool) (x : ℕ) (xs line_buffer : List ℕ) → (x == 10) ≡ b
    → ((p : List ℕ) → ended_lines (split_lines p xs).ended ++ (split_lines p xs).rest ≡ p ++ xs)
    → (let c = if b then cons_line line_buffer (split_lines [] xs) else split_lines (line_buffer ++ x ∷ []) xs in ended_lines c.ended ++ c.rest) ≡ line_buffer ++ x ∷ xs
joined_if true x xs line_buffer e below =
    let f : 10 ≡ x = grind (arith, nat_tests, e) in
    append_assoc line_buffer (10 ∷ ended_lines (split_lines [] xs).ended) (split_lines [] xs).rest ∙ ap (λ l. line_buffer ++ 10 ∷ l) (below []) ∙ ap (λ y. line_buffer ++ y ∷ xs) f
joined_if false x xs line_buffer e below = below (line_buffer ++ x ∷ []) ∙ append_assoc line_buffer (x ∷ []) xs

split_joins_back : (xs line_buffer : List ℕ) → ended_lines (split_lines line_buffer xs).ended ++ (split_lines line_buffer xs).rest ≡ line_buffer ++ xs
split_joins_back [] line_buffer = sym (append-nil line_buffer)
split_joins_back (x ∷ xs) line_buffer = joined_if (x == 10) x xs line_buffer refl (split_joins_back xs)

-- ---- the text of lines splits into them

split_of_line : (l rest line_buffer : List ℕ) → HasNoLineFeed l → split_lines line_buffer (l ++ 10 ∷ rest) ≡ cons_line (line_buffer ++ l) (split_lines [] rest)
split_of_line [] rest line_buffer h = ap (λ p. cons_line p (split_lines [] rest)) (sym (append-nil line_buffer))
split_of_line (x ∷ l) rest line_buffer h =
    ap (λ b. if b then cons_line line_buffer (split_lines [] (l ++ 10 ∷ rest)) else split_lines (line_buffer ++ x ∷ []) (l ++ 10 ∷ rest)) (ne_eqb x 10 h.0)
    ∙ split_of_line l rest (line_buffer ++ x ∷ []) h.1 ∙ ap (λ p. cons_line p (split_lines [] rest)) (append_assoc line_buffer (x ∷ []) l)

abbrev HaveNoLineFeeds : List (List ℕ) → Type 0
HaveNoLineFeeds [] = ⊤
HaveNoLineFeeds (l ∷ ls) = HasNoLineFeed l × HaveNoLineFeeds ls

cut_lines : (ls : List (List ℕ)) → HaveNoLineFeeds ls → split_lines [] (ended_lines ls) ≡ record { ended = ls; rest = [] }
cut_lines [] h = refl
cut_lines (l ∷ ls) h = split_of_line l (ended_lines ls) [] h.0 ∙ ap (cons_line l) (cut_lines ls h.1)

text_lines : (xs : List PlainLine) (last : List ℕ) → AllLinesInLimits xs → HasNoLineFeed last → HaveNoLineFeeds (map entry_line xs ++ last ∷ [])
text_lines [] last h k = (k, tt)
text_lines (x ∷ xs) last h k = (compact_line (line_data x.key x.entry) (line_sound x.key x.entry h.0 h.1), text_lines xs last h.2 k)

dump_are_lines : (xs : List PlainLine) → IsDumpOfLogs xs → AllInLimits xs → HaveNoLineFeeds (dump_lines xs)
dump_are_lines xs d f = (
  number_member_line (codes "dump") 2,
  text_lines xs (count_line (length xs)) (all_fit xs d f) (number_member_line (codes "entries") (length xs)),
)

pub text_accepted : (xs : List PlainLine) → IsDumpOfLogs xs → AllInLimits xs → check_text (dump_text xs) ≡ Ok xs
text_accepted xs d f = ap (λ c. check c.ended c.rest) (cut_lines (dump_lines xs) (dump_are_lines xs d f)) ∙ dumps_accepted xs d f

-- an accepted text is a dump, and within the limits if its keys and submissions are
pub text_next : (t : List ℕ) (xs : List PlainLine) → check_text t ≡ Ok xs
    → (t ≡ dump_text xs) × IsDumpOfLogs xs × (AllKeysInLimits xs → AllInLimits xs)
text_next t xs e =
    let d = accepted_next (split_lines [] t).ended (split_lines [] t).rest xs e in (
      sym (split_joins_back t []) ∙ ap₂ (λ a b. ended_lines a ++ b) d.0 d.1 ∙ append-nil (ended_lines (dump_lines xs)),
      d.3,
      λ h. all_within [] xs d.2 h,
    )

pub text_only : (t : List ℕ) (xs : List PlainLine) → check_text t ≡ Ok xs → (t ≡ dump_text xs) × IsDumpOfLogs xs
text_only t xs e = let d = text_next t xs e in (d.0, d.1)
