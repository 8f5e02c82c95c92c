-- The entry of a line that may be the next one.
use Rattle.std.proofs.Common.{◌≡◌, ℕ, List, [], ◌∷◌, ◌++◌, Bool, true, false, Option, Some, None, bytes_eq, refl, sym, ap, ap₂, ◌∙◌, subst, arith}
use Rattle.std.specs.Prelude.{if◌then◌else◌, ◌&&◌, nat_eq, option_and_then}
use Rattle.std.proofs.lemmas.Bool.{and_parts}
use Rattle.std.proofs.lemmas.Bool.Decides.{nat_tests}
use Rattle.std.proofs.lemmas.Slice.Eq.{bytes_eq-Decides}
use Rattle.sdb_oplog.specs.Plain.{PlainEntry}
use Rattle.sdb_oplog.specs.Decide.{decide}
use Rattle.sdb_dump.specs.DumpLine.{PlainLineContent, read_line}
use Rattle.sdb_dump.specs.DumpText.{PlainLine, entry_line, line_content, log_of_lines, decided_entry, line_of_entry_cond, entry_of_read, IsNextEntry}
use Rattle.sdb_dump.proofs.DecideLemmas.{stored_from, stored_is}

pub same_bytes : (xs : List ℕ) → bytes_eq xs xs ≡ true
same_bytes xs = (bytes_eq-Decides xs xs).1 refl

pub equal_bytes : (xs ys : List ℕ) → bytes_eq xs ys ≡ true → xs ≡ ys
equal_bytes xs ys e = (bytes_eq-Decides xs ys).0 e

same_number : (n : ℕ) → nat_eq n n ≡ true
same_number n = grind (arith, nat_tests)

equal_numbers : (n k : ℕ) → nat_eq n k ≡ true → n ≡ k
equal_numbers n k e = grind (arith, nat_tests, e)

-- the entry of a line that was found, and the decision that stores it
pub record FoundEntry (log : List PlainEntry) (line : List ℕ) (r : PlainLineContent) (x : PlainLine) : Type 0 where
  pub key : x.key ≡ r.key
  pub text : line ≡ entry_line x
  pub arrived : r.submission ≡ x.entry.arrived
  pub moment : x.entry.moment ≡ r.moment
  pub grows : (decide log r.submission r.moment).log ≡ log ++ x.entry ∷ []

module _ (log : List PlainEntry) (line : List ℕ) (r : PlainLineContent) (x : PlainLine) where
  found_at : (e : PlainEntry) (b : Bool) → (nat_eq e.moment r.moment && bytes_eq (entry_line (record { key = r.key; entry = e })) line) ≡ b
      → (if b then Some (record { key = r.key; entry = e }) else None) ≡ Some x → decided_entry log r.submission r.moment ≡ Some e → FoundEntry log line r x
  found_at e true same is by =
      let here : PlainLine = record { key = r.key; entry = e } in
      let both = and_parts (nat_eq e.moment r.moment) (bytes_eq (entry_line here) line) same in
      let g : here ≡ x = cc in
      let w = stored_is log r.submission r.moment e by in
      subst (FoundEntry log line r) g (record {
        key = refl;
        text = sym (equal_bytes (entry_line here) line both.1);
        arrived = sym (ap (λ y. y.arrived) w.entry);
        moment = equal_numbers e.moment r.moment both.0;
        grows = w.grows;
      })
  found_at e false same is by = cc

  found_in : (o : Option PlainEntry) → decided_entry log r.submission r.moment ≡ o → option_and_then (line_of_entry_cond line r) o ≡ Some x → FoundEntry log line r x
  found_in None by e = cc
  found_in (Some y) by e = found_at y _ refl e by

  pub entry_found : entry_of_read log line r ≡ Some x → FoundEntry log line r x
  entry_found e = found_in (decided_entry log r.submission r.moment) refl e

pub entry_is_next : (before : List PlainLine) (line : List ℕ) (r : PlainLineContent) (x : PlainLine) → read_line line ≡ Some r → FoundEntry (log_of_lines before r.key) line r x → IsNextEntry before x
entry_is_next before line r x read f = record {
  decided = subst (λ k. (decide (log_of_lines before k) x.entry.arrived x.entry.moment).log ≡ log_of_lines before k ++ x.entry ∷ []) (sym f.key)
      (ap₂ (λ s m. (decide (log_of_lines before r.key) s m).log) (sym f.arrived) f.moment ∙ f.grows);
  read = ap read_line (sym f.text) ∙ read ∙ (λ i. Some (record { key = sym f.key i; submission = f.arrived i; moment = sym f.moment i }));
}

pub entry_accepted : (before : List PlainLine) (x : PlainLine) → IsNextEntry before x → entry_of_read (log_of_lines before x.key) (entry_line x) (line_content x) ≡ Some x
entry_accepted before x h =
    let line = entry_line x in
    let by = stored_from (log_of_lines before x.key) x.entry.arrived x.entry.moment x.entry h.decided in
    ap (option_and_then (line_of_entry_cond line (line_content x))) by
    ∙ ap₂ (λ a b. if a && b then Some (record { key = x.key; entry = x.entry }) else None) (same_number x.entry.moment) (same_bytes line)
