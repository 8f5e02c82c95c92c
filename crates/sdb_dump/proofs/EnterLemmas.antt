-- A line that is accepted.
use Rattle.std.proofs.Common.{◌≡◌, ◌≢◌, ℕ, ◌+◌, List, [], ◌∷◌, ◌++◌, Bool, true, false, cond, Option, Some, None, Less, Equal, Greater, is_eq, IfSome, inl, inr, refl, sym, ap, ap₂, ◌∙◌, subst, arith, append-nil, length-append}
use Rattle.std.specs.Prelude.{if◌then◌else◌, option_map, option_and_then}
use Rattle.std.specs.BTreeMap.{insert_entry}
use Rattle.std.specs.Option.{option_map_or}
use Rattle.std.specs.Ordering.{is_lt, ordering_reverse}
use Rattle.std.proofs.lemmas.Bool.{cases_Bool}
use Rattle.sdb_desk.specs.laws.KeyLaws.{eq_of_keys_equal, keys_equal_refl}
use Rattle.sdb_desk.specs.laws.MapLaws.{keys_equal_comm, updated_of_insert}
use Rattle.sdb_oplog.specs.Keys.{PlainKey, Logs, plain_key, compare_keys, keys_equal, with_log}
use Rattle.sdb_oplog.specs.Plain.{PlainEntry}
use Rattle.sdb_oplog.specs.declared.keys.Key.{Key}
use Rattle.sdb_dump.specs.CheckerModel.{last_key, logs_of_map, logs_with_last, IsKeyAbove, AreNotEmpty, CheckerHolds, CheckerContinues, AcceptsOrRejects}
use Rattle.sdb_dump.specs.DumpText.{PlainLine, log_of_lines, key_not_below, decided_entry, is_text_of_entry, line_of_entry_cond, line_of_read}
use Rattle.sdb_dump.specs.DumpLine.{PlainLineContent}
use Rattle.sdb_dump.specs.EntryLimits.{KeyInLimits, SubmissionInLimits, AllKeysInLimits}
use Rattle.sdb_dump.specs.declared.checker.Checker.{Checker}
use Rattle.sdb_dump.specs.declared.checker.LastDocument.{LastDocument}
use Rattle.sdb_dump.proofs.AcceptLemmas.{log_more}
use Rattle.sdb_dump.proofs.DecideLemmas.{stored_is}
use Rattle.sdb_dump.proofs.StageLemmas.{follows_is, last_more}
use Rattle.sdb_dump.proofs.LogMapLemmas.{filled_insert}
use Rattle.sdb_dump.proofs.ListingLemmas.{compare_keys_reverse, keys_total}

-- ---- the document that a line extends

no_lines : (xs : List PlainLine) → last_key xs ≡ None → xs ≡ []
no_lines [] e = refl
no_lines (x ∷ []) e = cc
no_lines (x ∷ y ∷ xs) e = let none : y ∷ xs ≡ [] = no_lines (y ∷ xs) e in cc

pub takes_first : (old mid : Checker) (xs : List PlainLine) (k : PlainKey) → old.last ≡ None → mid.logs.entries ≡ old.logs.entries → CheckerHolds old xs → CheckerContinues xs k [] mid
takes_first old mid xs k is same h =
    let none : xs ≡ [] = no_lines xs (sym h.last ∙ ap (option_map (λ (l : LastDocument). plain_key l.key)) is) in
    record {
      follows = ap (λ l. key_not_below l k) none;
      begins = sym (ap (λ l. log_of_lines l k) none);
      others = λ q _. ap (λ es. logs_of_map es q) same ∙ subst (λ o. logs_with_last o (logs_of_map old.logs.entries) q ≡ log_of_lines xs q) is (h.logs q);
      filled = subst AreNotEmpty (sym same) h.filled.0;
      rest = λ q _. ap (λ l. log_of_lines l q) none;
    }

module _ (old mid : Checker) (l : LastDocument) (xs : List PlainLine) (k : PlainKey) (is : old.last ≡ Some l) (h : CheckerHolds old xs) where
  last_is : last_key xs ≡ Some (plain_key l.key)
  last_is = sym h.last ∙ ap (option_map (λ (m : LastDocument). plain_key m.key)) is

  logs_are : (q : PlainKey) → cond (keys_equal (plain_key l.key) q) l.document (logs_of_map old.logs.entries q) ≡ log_of_lines xs q
  logs_are q = subst (λ o. logs_with_last o (logs_of_map old.logs.entries) q ≡ log_of_lines xs q) is (h.logs q)

  follows_at : key_not_below xs k ≡ (if is_lt (compare_keys k (plain_key l.key)) then false else true)
  follows_at = follows_is xs k ∙ ap (λ o. option_map_or (λ m. if is_lt (compare_keys k m) then false else true) o true) last_is

  last_filled : l.document ≢ []
  last_filled = subst (λ o. IfSome o (λ m. m.document ≢ [])) is h.filled.1

  above_last : (q : PlainKey) → compare_keys q (plain_key l.key) ≡ Greater → log_of_lines xs q ≡ []
  above_last q g = h.rest q (subst (λ o. IsKeyAbove o q) (sym last_is) g)

  pub takes_below : compare_keys k (plain_key l.key) ≡ Less → key_not_below xs k ≡ false
  takes_below e = follows_at ∙ ap (λ o. if is_lt o then false else true) e

  pub takes_same : compare_keys k (plain_key l.key) ≡ Equal → mid.logs.entries ≡ old.logs.entries → CheckerContinues xs k l.document mid
  takes_same e same =
      let here : k ≡ plain_key l.key = eq_of_keys_equal k (plain_key l.key) (ap is_eq e) in
      record {
        follows = follows_at ∙ ap (λ o. if is_lt o then false else true) e;
        begins = sym (ap (λ b. cond b l.document (logs_of_map old.logs.entries (plain_key l.key))) (keys_equal_refl (plain_key l.key))) ∙ logs_are (plain_key l.key) ∙ ap (log_of_lines xs) (sym here);
        others = λ q n.
            ap (λ es. logs_of_map es q) same
            ∙ ap (λ b. cond b l.document (logs_of_map old.logs.entries q)) (sym (subst (λ y. keys_equal y q ≡ false) here n)) ∙ logs_are q;
        filled = subst AreNotEmpty (sym same) h.filled.0;
        rest = λ q g. above_last q (subst (λ y. compare_keys q y ≡ Greater) here g);
      }

  key_above_trans : (q : PlainKey) → compare_keys k (plain_key l.key) ≡ Greater → compare_keys q k ≡ Greater → compare_keys q (plain_key l.key) ≡ Greater
  key_above_trans q a b =
      compare_keys_reverse q (plain_key l.key)
      ∙ ap ordering_reverse (keys_total.trans (plain_key l.key) k q (compare_keys_reverse (plain_key l.key) k ∙ ap ordering_reverse a) (compare_keys_reverse k q ∙ ap ordering_reverse b))

  pub takes_above : compare_keys k (plain_key l.key) ≡ Greater
      → mid.logs.entries ≡ insert_entry (λ a b. compare_keys (plain_key a) (plain_key b)) old.logs.entries l.key l.document → CheckerContinues xs k [] mid
  takes_above e kept = record {
    follows = follows_at ∙ ap (λ o. if is_lt o then false else true) e;
    begins = sym (above_last k e);
    others = λ q n. ap (λ f. f q) (updated_of_insert [] old.logs.entries mid.logs.entries l.key l.document kept) ∙ logs_are q;
    filled = subst AreNotEmpty (sym kept) (filled_insert old.logs.entries l.key l.document h.filled.0 last_filled);
    rest = λ q g. above_last q (key_above_trans q e g);
  }

-- ---- the state after it

pub logs_after : (f : Logs) (xs : List PlainLine) (x : PlainLine) (log : List PlainEntry) → log ≡ log_of_lines xs x.key
    → ((q : PlainKey) → keys_equal x.key q ≡ false → f q ≡ log_of_lines xs q) → (q : PlainKey) → with_log f x.key (log ++ x.entry ∷ []) q ≡ log_of_lines (xs ++ x ∷ []) q
logs_after f xs x log is others q = elim (cases_Bool (keys_equal x.key q)) [
  | inl t ↦
      (let same : x.key ≡ q = eq_of_keys_equal x.key q t in
      let back : keys_equal q x.key ≡ true = keys_equal_comm q x.key ∙ t in
      ap (λ b. cond b (log ++ x.entry ∷ []) (f q)) t ∙ ap (λ l. l ++ x.entry ∷ []) (is ∙ ap (log_of_lines xs) same)
      ∙ sym (log_more xs x q ∙ ap (λ b. log_of_lines xs q ++ cond b (x.entry ∷ []) []) back))
  | inr n ↦
      ap (λ b. cond b (log ++ x.entry ∷ []) (f q)) n ∙ others q n ∙ sym (append-nil (log_of_lines xs q))
      ∙ sym (log_more xs x q ∙ ap (λ b. log_of_lines xs q ++ cond b (x.entry ∷ []) []) (keys_equal_comm q x.key ∙ n))
]

rest_after : (xs : List PlainLine) (x : PlainLine) → ((q : PlainKey) → compare_keys q x.key ≡ Greater → log_of_lines xs q ≡ [])
    → (q : PlainKey) → IsKeyAbove (last_key (xs ++ x ∷ [])) q → log_of_lines (xs ++ x ∷ []) q ≡ []
rest_after xs x rest q h =
    let g : compare_keys q x.key ≡ Greater = subst (λ o. IsKeyAbove o q) (last_more xs x) h in
    log_more xs x q ∙ ap₂ (λ l b. l ++ cond b (x.entry ∷ []) []) (rest q g) (ap is_eq g)

fits_after : (xs : List PlainLine) (x : PlainLine) → AllKeysInLimits xs → KeyInLimits x.key → SubmissionInLimits x.entry.arrived → AllKeysInLimits (xs ++ x ∷ [])
fits_after [] x h k s = (k, s, tt)
fits_after (y ∷ xs) x h k s = (h.0, h.1, fits_after xs x h.2 k s)

not_empty : (log : List PlainEntry) (e : PlainEntry) → (log ++ e ∷ []) ≢ []
not_empty [] e = λ h. cc
not_empty (x ∷ log) e = λ h. cc

module _ (xs : List PlainLine) (line : List ℕ) (r : PlainLineContent) (log : List PlainEntry) (mid : Checker) (w : CheckerContinues xs r.key log mid) where
  abbrev line_of_entry : PlainEntry → PlainLine
  line_of_entry e = record { key = r.key; entry = e }

  entered_is : (o : Option PlainEntry) → decided_entry log r.submission r.moment ≡ o → line_of_read xs line r ≡ option_and_then (line_of_entry_cond line r) o
  entered_is o by =
      ap (λ b. if b then option_and_then (line_of_entry_cond line r) (decided_entry (log_of_lines xs r.key) r.submission r.moment) else None) w.follows
      ∙ ap (option_and_then (line_of_entry_cond line r)) (ap (λ l. decided_entry l r.submission r.moment) (sym w.begins) ∙ by)

  pub not_entered : decided_entry log r.submission r.moment ≡ None → line_of_read xs line r ≡ None
  not_entered by = entered_is None by

  holds_more : (old new : Checker) (e : PlainEntry) (l : LastDocument) → CheckerHolds old xs → KeyInLimits r.key → SubmissionInLimits r.submission → decided_entry log r.submission r.moment ≡ Some e
      → new.logs.entries ≡ mid.logs.entries → new.last ≡ Some l → plain_key l.key ≡ r.key → l.document ≡ log ++ e ∷ [] → new.entries ≡ old.entries + 1 → CheckerHolds new (xs ++ line_of_entry e ∷ [])
  holds_more old new e l h k s by same is here grown counted =
      let come = ap (λ y. y.arrived) (stored_is log r.submission r.moment e by).entry in
      record {
        logs = λ q.
            ap₂ (λ o es. logs_with_last o (logs_of_map es) q) is same
            ∙ ap₂ (λ y d. with_log (logs_of_map mid.logs.entries) y d q) here grown
            ∙ logs_after (logs_of_map mid.logs.entries) xs (line_of_entry e) log w.begins w.others q;
        last = ap (option_map (λ (m : LastDocument). plain_key m.key)) is ∙ ap Some here ∙ sym (last_more xs (line_of_entry e));
        filled = (
          subst AreNotEmpty (sym same) w.filled,
          subst (λ o. IfSome o (λ m. m.document ≢ [])) (sym is) (subst (λ d. d ≢ []) (sym grown) (not_empty log e)),
        );
        rest = rest_after xs (line_of_entry e) w.rest;
        fits = fits_after xs (line_of_entry e) h.fits k (subst SubmissionInLimits (sym come) s);
        counted = omega (arith, counted, h.counted, length-append xs (line_of_entry e ∷ []));
      }

  pub enter_holds : (old new : Checker) (e : PlainEntry) (l : LastDocument) (b : Bool) → CheckerHolds old xs → KeyInLimits r.key → SubmissionInLimits r.submission → decided_entry log r.submission r.moment ≡ Some e
      → new.logs.entries ≡ mid.logs.entries → new.last ≡ Some l → plain_key l.key ≡ r.key → l.document ≡ log ++ e ∷ [] → new.entries ≡ old.entries + 1
      → b ≡ is_text_of_entry line r.key r.moment e → AcceptsOrRejects b (line_of_read xs line r) new xs
  enter_holds old new e l true h k s by same last here grown counted is =
      (line_of_entry e, entered_is (Some e) by ∙ ap (λ b. if b then Some (line_of_entry e) else None) (sym is), holds_more old new e l h k s by same last here grown counted)
  enter_holds old new e l false h k s by same last here grown counted is = entered_is (Some e) by ∙ ap (λ b. if b then Some (line_of_entry e) else None) (sym is)

-- ---- the accepted dump

pub accepted_none : (old : Checker) (es : List (Key × List PlainEntry)) (xs : List PlainLine) → old.last ≡ None → es ≡ old.logs.entries → CheckerHolds old xs
    → ((q : PlainKey) → logs_of_map es q ≡ log_of_lines xs q) × AreNotEmpty es
accepted_none old es xs is same h = (
  λ q. ap (λ l. logs_of_map l q) same ∙ subst (λ o. logs_with_last o (logs_of_map old.logs.entries) q ≡ log_of_lines xs q) is (h.logs q),
  subst AreNotEmpty (sym same) h.filled.0,
)

pub accepted_some : (old : Checker) (es : List (Key × List PlainEntry)) (l : LastDocument) (xs : List PlainLine) → old.last ≡ Some l
    → es ≡ insert_entry (λ a b. compare_keys (plain_key a) (plain_key b)) old.logs.entries l.key l.document → CheckerHolds old xs
    → ((q : PlainKey) → logs_of_map es q ≡ log_of_lines xs q) × AreNotEmpty es
accepted_some old es l xs is kept h = (
  λ q. ap (λ f. f q) (updated_of_insert [] old.logs.entries es l.key l.document kept) ∙ subst (λ o. logs_with_last o (logs_of_map old.logs.entries) q ≡ log_of_lines xs q) is (h.logs q),
  subst AreNotEmpty (sym kept) (filled_insert old.logs.entries l.key l.document h.filled.0 (subst (λ o. IfSome o (λ m. m.document ≢ [])) is h.filled.1)),
)
