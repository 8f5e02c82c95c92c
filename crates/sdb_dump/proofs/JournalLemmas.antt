-- A journal's lines restore exactly its items.
use Rattle.std.proofs.Common.{◌≡◌, ℕ, ◌+◌, List, [], ◌∷◌, ◌++◌, length, Option, Some, None, Ok, Err, refl, sym, ap, ap₂, ◌∙◌, subst, arith, append-nil, append_assoc}
use Rattle.std.specs.Option.{option_map_or}
use Rattle.sdb_oplog.specs.Decide.{IsMadeFrom}
use Rattle.sdb_oplog.specs.Keys.{PlainKey}
use Rattle.sdb_dump.specs.DumpText.{log_of_lines}
use Rattle.sdb_dump.proofs.AcceptLemmas.{made_next}
use Rattle.sdb_dump.proofs.ReadBackEntries.{line_reads_back}
use Rattle.sdb_dump.specs.JournalText.{JournalItem, journal_entry, number_block, journal_lines, entries_of, accepted_item, restore_from}
use Rattle.sdb_dump.specs.JournalLaws.{AreNextItems, JournalIsExact, JournalLogsAreMade, ItemsAreNext}
use Rattle.sdb_dump.proofs.JournalItemLemmas.{accepted_next, next_accepted, number_next}

-- ---- lines of a journal

complete_from : (n : ℕ) (before xs : List JournalItem) (more : List (List ℕ)) → AreNextItems before xs
    → restore_from n before (journal_lines xs ++ more) ≡ restore_from (n + length xs) (before ++ xs) more
complete_from n before [] more h =
    let number : n ≡ n + 0 = omega arith in
    ap₂ (λ k b. restore_from k b more) number (sym (append-nil before))
complete_from n before (x ∷ xs) more h =
    let number : n + 1 + length xs ≡ n + length (x ∷ xs) = omega arith in
    ap (λ o. option_map_or (λ y. restore_from (n + 1) (before ++ y ∷ []) (journal_lines xs ++ more)) o (Err n)) (next_accepted before x h.0)
    ∙ complete_from (n + 1) (before ++ x ∷ []) xs more h.1
    ∙ ap₂ (λ k b. restore_from k b more) number (append_assoc before (x ∷ []) xs)

-- ---- all lines

record RestoredFrom (before xs : List JournalItem) (lines : List (List ℕ)) : Type 0 where
  pub more : List JournalItem
  pub all : xs ≡ before ++ more
  pub lines_are : lines ≡ journal_lines more
  pub next : AreNextItems before more

sound_line : (n : ℕ) (before xs : List JournalItem) (line : List ℕ) (lines : List (List ℕ)) (o : Option JournalItem) → accepted_item before line ≡ o
    → option_map_or (λ y. restore_from (n + 1) (before ++ y ∷ []) lines) o (Err n) ≡ Ok xs
    → ((y : List JournalItem) → restore_from (n + 1) y lines ≡ Ok xs → RestoredFrom y xs lines) → RestoredFrom before xs (line ∷ lines)
sound_line n before xs line lines None is e below = cc
sound_line n before xs line lines (Some x) is e below =
    let first = accepted_next before line x is in
    let rest = below (before ++ x ∷ []) e in
    record {
      more = x ∷ rest.more;
      all = rest.all ∙ append_assoc before (x ∷ []) rest.more;
      lines_are = ap₂ (λ l ls. l ∷ ls) first.0 rest.lines_are;
      next = (first.1, rest.next);
    }

sound_from : (n : ℕ) (before xs : List JournalItem) (lines : List (List ℕ)) → restore_from n before lines ≡ Ok xs → RestoredFrom before xs lines
sound_from n before xs [] e = let g : before ≡ xs = cc in record { more = []; all = sym g ∙ sym (append-nil before); lines_are = refl; next = tt }
sound_from n before xs (line ∷ lines) e = sound_line n before xs line lines (accepted_item before line) refl e (λ y. sound_from (n + 1) y xs lines)

-- ---- wrong lines

record WrongFrom (n k : ℕ) (before : List JournalItem) (lines : List (List ℕ)) : Type 0 where
  pub more : List JournalItem
  pub line : List ℕ
  pub rest : List (List ℕ)
  pub lines_are : lines ≡ journal_lines more ++ line ∷ rest
  pub next : AreNextItems before more
  pub number : k ≡ n + length more
  pub wrong : accepted_item (before ++ more) line ≡ None

wrong_line : (n k : ℕ) (before : List JournalItem) (line : List ℕ) (lines : List (List ℕ)) (o : Option JournalItem) → accepted_item before line ≡ o
    → option_map_or (λ y. restore_from (n + 1) (before ++ y ∷ []) lines) o (Err n) ≡ Err k
    → ((y : List JournalItem) → restore_from (n + 1) y lines ≡ Err k → WrongFrom (n + 1) k y lines) → WrongFrom n k before (line ∷ lines)
wrong_line n k before line lines None is e below =
    let g : n ≡ k = cc in
    record {
      more = [];
      line = line;
      rest = lines;
      lines_are = refl;
      next = tt;
      number = sym g ∙ omega arith;
      wrong = ap (λ b. accepted_item b line) (append-nil before) ∙ is;
    }
wrong_line n k before line lines (Some x) is e below =
    let first = accepted_next before line x is in
    let w = below (before ++ x ∷ []) e in
    record {
      more = x ∷ w.more;
      line = w.line;
      rest = w.rest;
      lines_are = ap₂ (λ l ls. l ∷ ls) first.0 w.lines_are;
      next = (first.1, w.next);
      number = w.number ∙ omega arith;
      wrong = ap (λ b. accepted_item b w.line) (sym (append_assoc before (x ∷ []) w.more)) ∙ w.wrong;
    }

wrong_from : (n k : ℕ) (before : List JournalItem) (lines : List (List ℕ)) → restore_from n before lines ≡ Err k → WrongFrom n k before lines
wrong_from n k before [] e = cc
wrong_from n k before (line ∷ lines) e = wrong_line n k before line lines (accepted_item before line) refl e (λ y. wrong_from (n + 1) k y lines)

pub journal_is_exact : JournalIsExact
journal_is_exact = record {
  complete = λ xs h. ap (restore_from 1 []) (sym (append-nil (journal_lines xs))) ∙ complete_from 1 [] xs [] h;
  sound = λ lines xs e. let r = sound_from 1 [] xs lines e in (r.lines_are ∙ ap journal_lines (sym r.all), subst (AreNextItems []) (sym r.all) r.next);
  wrong = λ lines n e.
      let w = wrong_from 1 n [] lines e in
      record { before = w.more; line = w.line; rest = w.rest; lines_are = w.lines_are; journal = w.next; number = w.number ∙ omega arith; wrong = w.wrong };
  refused = λ lines n w.
      let number : 1 + length w.before ≡ n = omega (arith, w.number) in
      ap (restore_from 1 []) w.lines_are ∙ complete_from 1 [] w.before (w.line ∷ w.rest) w.journal
      ∙ ap (λ o. option_map_or (λ y. restore_from (1 + length w.before + 1) (w.before ++ y ∷ []) w.rest) o (Err (1 + length w.before))) w.wrong
      ∙ ap Err number;
}

-- ---- made logs

pub entries_append : (xs ys : List JournalItem) → entries_of (xs ++ ys) ≡ entries_of xs ++ entries_of ys
entries_append [] ys = refl
entries_append (journal_entry x ∷ xs) ys = ap (λ zs. x ∷ zs) (entries_append xs ys)
entries_append (number_block n ∷ xs) ys = entries_append xs ys

made_from : (before xs : List JournalItem) → AreNextItems before xs → (k : PlainKey) → IsMadeFrom (log_of_lines (entries_of before) k) (log_of_lines (entries_of xs) k)
made_from before [] h k = tt
made_from before (number_block n ∷ xs) h k =
    let same : entries_of (before ++ number_block n ∷ []) ≡ entries_of before = entries_append before (number_block n ∷ []) ∙ append-nil (entries_of before) in
    subst (λ b. IsMadeFrom (log_of_lines b k) (log_of_lines (entries_of xs) k)) same (made_from (before ++ number_block n ∷ []) xs h.1 k)
made_from before (journal_entry x ∷ xs) h k =
    made_next (entries_of before) x k (log_of_lines (entries_of xs) k) h.0
    (subst (λ b. IsMadeFrom (log_of_lines b k) (log_of_lines (entries_of xs) k)) (entries_append before (journal_entry x ∷ [])) (made_from (before ++ journal_entry x ∷ []) xs h.1 k))

pub journal_logs_are_made : JournalLogsAreMade
journal_logs_are_made xs h k = made_from [] xs h k

pub items_are_next : ItemsAreNext
items_are_next = record {
  entries = λ before x decided key entry. record { decided = decided; read = line_reads_back x key entry };
  numbers = λ before n safe. number_next n safe;
}
