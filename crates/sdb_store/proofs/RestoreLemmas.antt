-- A submission that a restorer decides.
use Rattle.std.proofs.Common.{◌≡◌, ◌≢◌, inl, inr, ℕ, ◌<◌, ◌≤◌, List, Bool, true, false, cond, length, Option, Some, None, Ok, Err, refl, sym, ap, subst, ◌∙◌, arith}
use Rattle.std.specs.Prelude.{slice_get, if◌then◌else◌, option_and_then, Result, OnOk, IfOk, IfErr}
use Rattle.std.specs.Result.{IsErrAnd}
use Rattle.std.specs.Option.{option_map_or}
use Rattle.std.proofs.lemmas.Option.{slice_get_past}
use Rattle.sdb_oplog.specs.Decide.{PlainReply, stored, refused, decide}
use Rattle.sdb_oplog.specs.Keys.{PlainKey, Logs, with_log}
use Rattle.sdb_oplog.specs.Plain.{PlainEntry, PlainSubmission}
use Rattle.sdb_oplog.specs.declared.codes.Code.{Code}
use Rattle.sdb_oplog.specs.declared.codes.Code.TheVariants.{E10}
use Rattle.sdb_desk.specs.Machine.{DecidesOrOutOfMemory}
use Rattle.sdb_desk.specs.laws.KeyLaws.{keys_equal_refl}
use Rattle.sdb_dump.specs.DumpLine.{PlainLineContent}
use Rattle.sdb_dump.specs.DumpText.{decided_entry, is_text_of_entry, line_of_entry_cond, entry_of_read}
use Rattle.sdb_dump.proofs.DecideLemmas.{stored_is}
use Rattle.sdb_backend.specs.RestorationModel.{HasNoShare, HasSameShare}
use Rattle.sdb_backend.specs.declared.restoration.Restoration.{Restoration}
use Rattle.sdb_store.specs.RestorerModel.{AppendsEntry, IsRestorer, highest_number}
use Rattle.sdb_store.specs.declared.restorer.Restorer.{Restorer}
use Rattle.sdb_backend.proofs.HistoryGrowth.{IsStoredReply, LogGainsEntry, decide_adds}
use Rattle.sdb_store.specs.declared.restorer.RestoreFault.{RestoreFault}
use Rattle.sdb_store.specs.declared.restorer.RestoreFault.TheVariants.{WrongLine, OutOfMemory}

-- ---- the shares of numbers

pub no_share_kept : (n : ℕ) (old new : Restoration) → HasSameShare n old new → HasNoShare n old → HasNoShare n new
no_share_kept n old new same none i h is = let g = same i h is in sym g.2 ∙ none i g.0 g.1

-- a restorer whose entries have numbers from 1 to this one
pub restorer_with : (r : Restorer) (n : ℕ) → highest_number r ≤ n → IsRestorer r → IsRestorer (record { alloc = r.alloc; restoration = r.restoration; highest = n })
restorer_with r n le is = record { zero = is.zero; above = λ k lt. is.above k (omega (arith, le, lt)) }

pub restorer_kept : (old new : Restorer) → new.restoration ≡ old.restoration → highest_number old ≤ highest_number new → IsRestorer old → IsRestorer new
restorer_kept old new same le is =
    record {
      zero = subst (HasNoShare 0) (sym same) is.zero;
      above = λ k lt. subst (HasNoShare k) (sym same) (is.above k (omega (arith, le, lt)));
    }

-- a submission under a number from 1 to the highest one
pub restorer_after : (old new : Restorer) (by : ℕ) → 0 < by → by ≤ highest_number old → highest_number new ≡ highest_number old
    → ((n : ℕ) → n ≢ by → HasSameShare n old.restoration new.restoration) → IsRestorer old → IsRestorer new
restorer_after old new by some le same shares is =
    record {
      zero = no_share_kept 0 old.restoration new.restoration (shares 0 (λ e. absurd (omega (arith, e, some)))) is.zero;
      above = λ k lt. no_share_kept k old.restoration new.restoration (shares k (λ e. absurd (omega (arith, e, le, lt, same)))) (is.above k (omega (arith, lt, same)));
    }

-- ---- the decision

module _ (logs new : Logs) (k : PlainKey) (s : PlainSubmission) (now : ℕ) where
  stored_by : (v : ℕ) (missed : List PlainEntry) → LogGainsEntry (logs k) s now (stored v missed) (decide (logs k) s now).log → v ≡ length (logs k)
  stored_by v missed (inl h) = absurd (h.0 tt)
  stored_by v missed (inr h) = version_of v (length (logs k)) missed _ h.1 where
    version_of : (v w : ℕ) (l m : List PlainEntry) → stored v l ≡ stored w m → v ≡ w
    version_of v w l m e = cc

  -- a reply `stored` has the version of the new entry
  pub stored_version : (r : PlainReply) (v : ℕ) (missed : List PlainEntry) → r ≡ stored v missed → DecidesOrOutOfMemory logs k s now r new
      → (v ≡ length (logs k)) × (new ≡ with_log logs k (decide (logs k) s now).log)
  stored_version r v missed is (inl h) = let no : stored v missed ≡ refused E10 = sym is ∙ h.0 in cc
  stored_version r v missed is (inr h) =
      (stored_by v missed (subst (λ (x : PlainReply). LogGainsEntry (logs k) s now x (decide (logs k) s now).log) (sym h.0 ∙ is) (decide_adds (logs k) s now)), h.1)

  none_of_gain : (r : PlainReply) → (IsStoredReply r → ⊥) → LogGainsEntry (logs k) s now r (decide (logs k) s now).log → decided_entry (logs k) s now ≡ None
  none_of_gain r isnt (inl h) = ap (λ (l : List PlainEntry). slice_get l (length (logs k))) h.1 ∙ slice_get_past (logs k) (length (logs k)) (omega arith)
  none_of_gain r isnt (inr h) = absurd (isnt (subst IsStoredReply (sym h.1) tt))

  -- any other reply stores no entry
  pub none_decided : (r : PlainReply) → (IsStoredReply r → ⊥) → r ≢ refused E10 → DecidesOrOutOfMemory logs k s now r new → decided_entry (logs k) s now ≡ None
  none_decided r isnt memory (inl h) = absurd (memory h.0)
  none_decided r isnt memory (inr h) =
      none_of_gain r isnt (subst (λ (x : PlainReply). LogGainsEntry (logs k) s now x (decide (logs k) s now).log) (sym h.0) (decide_adds (logs k) s now))

-- ---- the line of the entry

module _ (line : List ℕ) (r : PlainLineContent) (old new : Logs) where
  abbrev log : List PlainEntry
  log = old r.key

  abbrev after : List PlainEntry
  after = (decide log r.submission r.moment).log

  entry_if : (e : PlainEntry) → decided_entry log r.submission r.moment ≡ Some e → (b : Bool) → b ≡ is_text_of_entry line r.key r.moment e
      → entry_of_read log line r ≡ (if b then Some (record { key = r.key; entry = e }) else None)
  entry_if e by b is = ap (option_and_then (line_of_entry_cond line r)) by ∙ ap (λ t. if t then Some (record { key = r.key; entry = e }) else None) (sym is)

  module _ (wrote : new ≡ with_log old r.key after) where
    appends_or_none : (o : Option PlainEntry) (b : Bool) → decided_entry log r.submission r.moment ≡ o
        → b ≡ option_map_or (is_text_of_entry line r.key r.moment) o false → AppendsEntry line r old new b
    appends_or_none None b by is = subst (AppendsEntry line r old new) (sym is) (ap (option_and_then (line_of_entry_cond line r)) by)
    appends_or_none (Some e) true by is = (e, entry_if e by true is, wrote ∙ ap (with_log old r.key) (stored_is log r.submission r.moment e by).grows)
    appends_or_none (Some e) false by is = entry_if e by false is

    -- whether the entry that was stored at the version has the line
    pub entry_appended : (v : ℕ) (b : Bool) → v ≡ length log → b ≡ option_map_or (is_text_of_entry line r.key r.moment) (slice_get (new r.key) v) false → AppendsEntry line r old new b
    entry_appended v b at is =
        let here : new r.key ≡ after = ap (λ (f : Logs). f r.key) wrote ∙ ap (λ c. cond c after log) (keys_equal_refl r.key) in
        let found : slice_get (new r.key) v ≡ decided_entry log r.submission r.moment = ap (λ (l : List PlainEntry). slice_get l v) here ∙ ap (slice_get after) at in
        appends_or_none (decided_entry log r.submission r.moment) b refl (is ∙ ap (λ o. option_map_or (is_text_of_entry line r.key r.moment) o false) found)

  -- nothing is stored
  pub none_appended : decided_entry log r.submission r.moment ≡ None → AppendsEntry line r old new false
  none_appended by = ap (option_and_then (line_of_entry_cond line r)) by

-- ---- results

pub memory_isnt_wrong : {A : Type 0} (X : Type 0) (r : Result A RestoreFault) → IsErrAnd r (λ fault. fault ≡ OutOfMemory) → IfErr r (λ fault. fault ≡ WrongLine → X)
memory_isnt_wrong X (Ok x) h = tt
memory_isnt_wrong X (Err e) h = λ w. let no : OutOfMemory ≡ WrongLine = sym h ∙ w in cc

pub on_ok_map : {A E P Q : Type 0} (r : Result A E) → (P → Q) → OnOk r P → OnOk r Q
on_ok_map (Ok a) f h = f h
on_ok_map (Err e) f h = h

pub if_err_map : {A E : Type 0} {P Q : E → Type 0} (r : Result A E) → ((e : E) → P e → Q e) → IfErr r P → IfErr r Q
if_err_map (Ok a) f h = h
if_err_map (Err e) f h = f e h

module _ {A E : Type 0} (r : Result A E) where
  pub if_ok_at : (P : A → Type 0) (x : A) → r ≡ Ok x → P x → IfOk r P
  if_ok_at P x is h = subst (λ (y : Result A E). IfOk y P) (sym is) h

  pub if_ok_of_err : (P : A → Type 0) (e : E) → r ≡ Err e → IfOk r P
  if_ok_of_err P e is = subst (λ (y : Result A E). IfOk y P) (sym is) tt

  pub if_err_at : (P : E → Type 0) (e : E) → r ≡ Err e → P e → IfErr r P
  if_err_at P e is h = subst (λ (y : Result A E). IfErr y P) (sym is) h

  pub if_err_of_ok : (P : E → Type 0) (x : A) → r ≡ Ok x → IfErr r P
  if_err_of_ok P x is = subst (λ (y : Result A E). IfErr y P) (sym is) tt

pub refused_injective : (code other : Code) → refused code ≡ refused other → code ≡ other
refused_injective code other e = cc
