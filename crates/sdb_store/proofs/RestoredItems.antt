-- A restorer after one more item of a journal.
use Rattle.std.proofs.Common.{◌≡◌, ◌⊎◌, ℕ, ◌≤◌, List, [], ◌∷◌, ◌++◌, true, false, cond, Some, None, inl, inr, refl, sym, ap, ap₂, subst, ◌∙◌, append-nil}
use Rattle.std.specs.Prelude.{IfSome, max, option_map}
use Rattle.std.specs.Option.{option_map_or}
use Rattle.std.proofs.Math.Nat.{le-max_right}
use Rattle.std.proofs.lemmas.List.Sums.{fold-append}
use Rattle.sdb_desk.specs.laws.KeyLaws.{keys_equal_refl}
use Rattle.sdb_oplog.specs.Keys.{Logs, with_log}
use Rattle.sdb_dump.specs.DumpLine.{PlainLineContent, read_line}
use Rattle.sdb_dump.specs.DumpText.{PlainLine, log_of_lines, entry_of_read}
use Rattle.sdb_dump.specs.JournalText.{JournalItem, journal_entry, number_block, entries_of, logs_of_items, item_number, highest_number as highest_item_number, read_number, accepted_item}
use Rattle.sdb_dump.specs.StoreMachine.{IsIn}
use Rattle.sdb_dump.proofs.NextEntryLemmas.{entry_found}
use Rattle.sdb_dump.proofs.EnterLemmas.{logs_after}
use Rattle.sdb_dump.proofs.JournalLemmas.{entries_append}
use Rattle.sdb_store.specs.RestorerModel.{AppendsEntry, IsNumberRestored, restorer_logs, highest_number, number_of_line, IsWrongLine, HasRestored, HasRestoredLine, HasLineIn, HasContentOfLine}
use Rattle.sdb_store.specs.declared.restorer.Restorer.{Restorer}
use Rattle.sdb_store.proofs.BetweenLemmas.{last_in}

-- ---- one more item

highest_more : (xs : List JournalItem) (x : JournalItem) → highest_item_number (xs ++ x ∷ []) ≡ max (highest_item_number xs) (item_number x)
highest_more xs x = fold-append (λ n y. max n (item_number y)) 0 xs (x ∷ [])

module _ (old new : Restorer) (xs : List JournalItem) (line : List ℕ) (h : HasRestored old xs) where
  pub entry_restored : (r : PlainLineContent) → read_line line ≡ Some r → AppendsEntry line r (restorer_logs old) (restorer_logs new) true
      → highest_number new ≡ max (highest_number old) r.submission.by → HasRestoredLine new xs line
  entry_restored r read (e, found, logs) high =
      let x : PlainLine = record { key = r.key; entry = e } in
      let item = journal_entry x in
      let log = logs_of_items xs r.key in
      let here : entry_of_read log line r ≡ Some x = ap (λ (f : Logs). entry_of_read (f r.key) line r) (sym h.logs) ∙ found in
      let f = entry_found log line r x here in
      let more : entries_of xs ++ x ∷ [] ≡ entries_of (xs ++ item ∷ []) = sym (entries_append xs (item ∷ [])) in
      record {
        item = item;
        accepted = ap (λ o. option_map_or (λ s. option_map journal_entry (entry_of_read (logs_of_items xs s.key) line s)) o (option_map number_block (read_number line))) read ∙ ap (option_map journal_entry) here;
        restored = record {
          logs = logs ∙ ap (λ (f : Logs). with_log f r.key (f r.key ++ e ∷ [])) h.logs ∙ (λ i q. logs_after (logs_of_items xs) (entries_of xs) x log refl (λ k _. refl) q i) ∙ ap log_of_lines more;
          highest = high ∙ ap₂ max h.highest (ap (λ s. s.by) f.arrived) ∙ sym (highest_more xs item);
        };
      }

  entry_wrong : (r : PlainLineContent) → read_line line ≡ Some r → AppendsEntry line r (restorer_logs old) (restorer_logs new) false → accepted_item xs line ≡ None
  entry_wrong r read none =
      ap (λ o. option_map_or (λ s. option_map journal_entry (entry_of_read (logs_of_items xs s.key) line s)) o (option_map number_block (read_number line))) read
      ∙ ap (λ (f : Logs). option_map journal_entry (entry_of_read (f r.key) line r)) (sym h.logs)
      ∙ ap (option_map journal_entry) none

  -- a wrong line of an entry
  pub wrong_entry : (r : PlainLineContent) → read_line line ≡ Some r → (r.submission.by ≡ 0) ⊎ AppendsEntry line r (restorer_logs old) (restorer_logs new) false → IsWrongLine xs line
  wrong_entry r read (inl zero) = inr (ap (option_map (λ c. c.submission.by)) read ∙ ap Some zero)
  wrong_entry r read (inr none) = inl (entry_wrong r read none)

  pub number_restored : read_line line ≡ None → IsNumberRestored (read_number line) (highest_number old) (highest_number new)
      → restorer_logs new ≡ restorer_logs old → HasRestoredLine new xs line
  number_restored read (n, is, high) logs =
      let item = number_block n in
      let more : entries_of xs ≡ entries_of (xs ++ item ∷ []) = sym (append-nil (entries_of xs)) ∙ sym (entries_append xs (item ∷ [])) in
      record {
        item = item;
        accepted = ap (λ o. option_map_or (λ s. option_map journal_entry (entry_of_read (logs_of_items xs s.key) line s)) o (option_map number_block (read_number line))) read ∙ ap (option_map number_block) is;
        restored = record {
          logs = logs ∙ h.logs ∙ ap log_of_lines more;
          highest = high ∙ ap (λ m. max m n) h.highest ∙ sym (highest_more xs item);
        };
      }

pub number_wrong : (xs : List JournalItem) (line : List ℕ) → read_line line ≡ None → read_number line ≡ None → accepted_item xs line ≡ None
number_wrong xs line read none =
    ap (λ o. option_map_or (λ s. option_map journal_entry (entry_of_read (logs_of_items xs s.key) line s)) o (option_map number_block (read_number line))) read ∙ ap (option_map number_block) none

-- ---- the content of a line of an entry, and of a number

pub content_of_entry : (old new : Restorer) (line : List ℕ) (r : PlainLineContent) → read_line line ≡ Some r → AppendsEntry line r (restorer_logs old) (restorer_logs new) true
    → highest_number new ≡ max (highest_number old) r.submission.by → HasContentOfLine new line
content_of_entry old new line r read (e, found, logs) high =
    let log = restorer_logs old r.key in
    let named : number_of_line line ≡ Some r.submission.by = ap (λ o. option_map_or (λ c. Some c.submission.by) o (read_number line)) read in
    let here : restorer_logs new r.key ≡ log ++ e ∷ [] = ap (λ (f : Logs). f r.key) logs ∙ ap (λ b. cond b (log ++ e ∷ []) log) (keys_equal_refl r.key) in
    record {
      number = subst (λ o. IfSome o (λ n. n ≤ highest_number new)) (sym named) (subst (λ n. r.submission.by ≤ n) (sym high) (le-max_right (highest_number old) r.submission.by));
      stored = subst (λ o. IfSome o (λ c. HasLineIn (restorer_logs new c.key) c.key line)) (sym read) (record {
        entry = e;
        stored = subst (IsIn e) (sym here) (last_in e log);
        line_is = (entry_found log line r (record { key = r.key; entry = e }) found).text;
      });
    }

pub content_of_number : (old new : Restorer) (line : List ℕ) → read_line line ≡ None → IsNumberRestored (read_number line) (highest_number old) (highest_number new) → HasContentOfLine new line
content_of_number old new line read (n, is, high) =
    let named : number_of_line line ≡ Some n = ap (λ o. option_map_or (λ c. Some c.submission.by) o (read_number line)) read ∙ is in
    record {
      number = subst (λ o. IfSome o (λ m. m ≤ highest_number new)) (sym named) (subst (λ m. n ≤ m) (sym high) (le-max_right (highest_number old) n));
      stored = subst (λ o. IfSome o (λ c. HasLineIn (restorer_logs new c.key) c.key line)) (sym read) tt;
    }
