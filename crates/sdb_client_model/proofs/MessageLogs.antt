-- The entries of a made log by version, and a log after a decision.
use Rattle.std.proofs.Common.{◌≡◌, ℕ, zero, suc, ◌+◌, ◌<◌, ◌≤◌, List, [], ◌∷◌, ◌++◌, drop, length, slice_get, Bool, true, false, cond, Option, Some, None, option_map, Result, Ok, Err, All, Contains, is_some, drop_at, refl, sym, ap, ◌∙◌, subst, arith, append_assoc, length-append}
use Rattle.std.proofs.lemmas.Bool.{and_parts}
use Rattle.std.proofs.lemmas.List.Elements.{All-nil, All-cons, All-drop}
use Rattle.std.proofs.lemmas.Option.{get_or_from_slice_get}
use Rattle.std.specs.Option.{is_none}
use Rattle.sdb_oplog.specs.Plain.{PlainContent, PlainSubmission, PlainEntry}
use Rattle.sdb_oplog.specs.Snap.{has_identifier, stored_at, are_identifiers_new}
use Rattle.sdb_oplog.specs.Decide.{Decision, decide, stored, repeated, refused, rebased_content, missed_entries, new_entry, IsMadeFrom, IsMade}
use Rattle.sdb_oplog.specs.declared.codes.Code.{Code}
use Rattle.sdb_oplog.specs.laws.LogLaws.{append_changes, decides_repeat, decides_settled}
use Rattle.sdb_oplog.specs.laws.DecidedLogLaws.{same_last}
use Rattle.sdb_client_model.proofs.AppendLemmas.{identifier_parts, stored_append, stored_of_entry}
use Rattle.sdb_client_model.proofs.PendingLemmas.{same_some, map_step}
use Rattle.sdb_client_model.proofs.StoredOnceLemmas.{identifiers_new}

-- ---- the entry at a version

pub slice_get_append : (xs ys : List PlainEntry) (v : ℕ) (e : PlainEntry) → slice_get xs v ≡ Some e
    → slice_get (xs ++ ys) v ≡ Some e
slice_get_append [] ys v e h = cc
slice_get_append (x ∷ xs) ys zero e h = h
slice_get_append (x ∷ xs) ys (suc v) e h = slice_get_append xs ys v e h

pub drop_of_slice_get : (xs : List PlainEntry) (v : ℕ) (e : PlainEntry) → slice_get xs v ≡ Some e
    → drop v xs ≡ e ∷ drop (suc v) xs
drop_of_slice_get [] v e h = cc
drop_of_slice_get (x ∷ xs) zero e h = ap (λ y. y ∷ xs) (same_some x e h)
drop_of_slice_get (x ∷ xs) (suc v) e h = drop_of_slice_get xs v e h

pub slice_get_below : (xs : List PlainEntry) (v : ℕ) (e : PlainEntry) → slice_get xs v ≡ Some e → v < length xs
slice_get_below [] v e h = cc
slice_get_below (x ∷ xs) zero e h = omega arith
slice_get_below (x ∷ xs) (suc v) e h = let rest = slice_get_below xs v e h in omega arith

pub slice_get_of_below : (xs : List PlainEntry) (v : ℕ) → v < length xs → (e : PlainEntry) × (slice_get xs v ≡ Some e)
slice_get_of_below [] v h = absurd (omega arith)
slice_get_of_below (x ∷ xs) zero h = (x, refl)
slice_get_of_below (x ∷ xs) (suc v) h = slice_get_of_below xs v (omega arith)

pub slice_get_last : (xs : List PlainEntry) (e : PlainEntry) → slice_get (xs ++ e ∷ []) (length xs) ≡ Some e
slice_get_last [] e = refl
slice_get_last (x ∷ xs) e = slice_get_last xs e

slice_get_middle : (before : List PlainEntry) (x : PlainEntry) (es : List PlainEntry)
    → slice_get (before ++ x ∷ es) (length before) ≡ Some x
slice_get_middle [] x es = refl
slice_get_middle (y ∷ before) x es = slice_get_middle before x es

-- ---- the version of a source and seq

found_first : (b : Bool) (o p : Option ℕ) (i : ℕ) → cond b (Some 0) (option_map (λ k. k + 1) o) ≡ Some i
    → ((j : ℕ) → o ≡ Some j → p ≡ Some j) → cond b (Some 0) (option_map (λ k. k + 1) p) ≡ Some i
found_first true o p i h below = h
found_first false None p i h below = cc
found_first false (Some j) p i h below = ap (option_map (λ k. k + 1)) (below j refl) ∙ h

pub stored_at_append : (xs ys : List PlainEntry) (s : List ℕ) (n i : ℕ) → stored_at s n xs ≡ Some i
    → stored_at s n (xs ++ ys) ≡ Some i
stored_at_append [] ys s n i h = cc
stored_at_append (x ∷ xs) ys s n i h =
    found_first (has_identifier s n x) (stored_at s n xs) (stored_at s n (xs ++ ys)) i h
    (λ j k. stored_at_append xs ys s n j k)

-- the entry that is stored there
pub record StoredEntry (s : List ℕ) (n : ℕ) (xs : List PlainEntry) (v : ℕ) : Type 0 where
  pub entry : PlainEntry
  pub is : slice_get xs v ≡ Some entry
  pub identifier : has_identifier s n entry ≡ true

stored_entry_first : (b : Bool) (x : PlainEntry) (xs : List PlainEntry) (s : List ℕ) (n v : ℕ)
    → has_identifier s n x ≡ b → cond b (Some 0) (option_map (λ k. k + 1) (stored_at s n xs)) ≡ Some v
    → ((j : ℕ) → stored_at s n xs ≡ Some j → StoredEntry s n xs j) → StoredEntry s n (x ∷ xs) v
stored_entry_first true x xs s n v is h below =
    let first : 0 ≡ v = same_some 0 v h in
    record { entry = x; is = ap (slice_get (x ∷ xs)) (sym first); identifier = is }
stored_entry_first false x xs s n v is h below =
    let j = map_step (stored_at s n xs) (λ k. k + 1) v h in
    let k = j.2 in
    let next : v ≡ suc j.0 = omega arith in
    let r = below j.0 j.1 in
    record { entry = r.entry; is = ap (slice_get (x ∷ xs)) next ∙ r.is; identifier = r.identifier }

pub stored_entry : (xs : List PlainEntry) (s : List ℕ) (n v : ℕ) → stored_at s n xs ≡ Some v → StoredEntry s n xs v
stored_entry [] s n v h = cc
stored_entry (x ∷ xs) s n v h = stored_entry_first (has_identifier s n x) x xs s n v refl h
    (λ j k. stored_entry xs s n j k)

-- ---- entries of a made log

pub data DecisionCase (log : List PlainEntry) (s : PlainSubmission) (now : ℕ) : Type 0 where
  is_repeated :
      (i : ℕ) → stored_at s.src s.seq log ≡ Some i → decide log s now ≡ record { reply = repeated i; log = log }
      → DecisionCase log s now
  is_refused : (code : Code) → decide log s now ≡ record { reply = refused code; log = log } → DecisionCase log s now
  is_stored :
      (m : PlainContent) → stored_at s.src s.seq log ≡ None
      → decide log s now
      ≡ record { reply = stored (length log) (missed_entries log s); log = log ++ new_entry log s now m ∷ [] }
      → DecisionCase log s now

decision_settled : (log : List PlainEntry) (s : PlainSubmission) (now : ℕ) (r : Result PlainContent Code)
    → stored_at s.src s.seq log ≡ None → rebased_content log s ≡ r → DecisionCase log s now
decision_settled log s now (Ok m) new is = is_stored m new (decides_settled log s now (Ok m) new is)
decision_settled log s now (Err code) new is = is_refused code (decides_settled log s now (Err code) new is)

decision_at : (log : List PlainEntry) (s : PlainSubmission) (now : ℕ) (o : Option ℕ) → stored_at s.src s.seq log ≡ o
    → DecisionCase log s now
decision_at log s now (Some i) is = is_repeated i is (decides_repeat log s now i is)
decision_at log s now None is = decision_settled log s now (rebased_content log s) is refl

pub decision_case : (log : List PlainEntry) (s : PlainSubmission) (now : ℕ) → DecisionCase log s now
decision_case log s now = decision_at log s now (stored_at s.src s.seq log) refl

version_of_case : (log : List PlainEntry) (e : PlainEntry) → DecisionCase log e.arrived e.moment
    → (decide log e.arrived e.moment).log ≡ log ++ e ∷ [] → e.version ≡ length log
version_of_case log e (is_repeated i k is) h = absurd (append_changes log e (sym (ap (λ (d : Decision). d.log) is) ∙ h))
version_of_case log e (is_refused code is) h = absurd (append_changes log e (sym (ap (λ (d : Decision). d.log) is) ∙ h))
version_of_case log e (is_stored m k is) h =
    ap (λ (x : PlainEntry). x.version)
    (sym (same_last log (new_entry log e.arrived e.moment m) e (sym (ap (λ (d : Decision). d.log) is) ∙ h)))

version_from : (before es : List PlainEntry) (v : ℕ) (e : PlainEntry) → IsMadeFrom before es → slice_get es v ≡ Some e
    → e.version ≡ length before + v
version_from before [] v e h is = cc
version_from before (x ∷ es) zero e h is =
    let this = same_some x e is in
    let version = version_of_case before x (decision_case before x.arrived x.moment) h.0 in
    let k : x.version ≡ length before + zero = omega arith in
    subst (λ (y : PlainEntry). y.version ≡ length before + zero) this k
version_from before (x ∷ es) (suc v) e h is =
    let rest = version_from (before ++ x ∷ []) es v e h.1 is in
    omega (arith, rest, length-append before (x ∷ []))

-- an entry's version is its position
pub version_of_entry : (log : List PlainEntry) (v : ℕ) (e : PlainEntry) → IsMade log → slice_get log v ≡ Some e
    → e.version ≡ v
version_of_entry log v e made is = let k = version_from [] log v e made is in omega (arith, k)

-- ---- one entry for each source and seq

some_and_none : (o : Option ℕ) → is_some o ≡ true → is_none o ≡ true → ⊥
some_and_none None h k = cc
some_and_none (Some i) h k = cc

never_before : (before es : List PlainEntry) (s : List ℕ) (n v : ℕ) (e : PlainEntry)
    → are_identifiers_new before es ≡ true → slice_get es v ≡ Some e → has_identifier s n e ≡ true
    → is_some (stored_at s n before) ≡ true → ⊥
never_before before [] s n v e h is own k = cc
never_before before (x ∷ es) s n zero e h is own k =
    let first = (and_parts (is_none (stored_at x.arrived.src x.arrived.seq before))
    (are_identifiers_new (before ++ x ∷ []) es) h).0 in
    let none = subst (λ (y : PlainEntry). is_none (stored_at y.arrived.src y.arrived.seq before) ≡ true)
    (same_some x e is) first in
    let p = identifier_parts s n e own in
    some_and_none (stored_at s n before) k
    (subst (λ b. is_none (stored_at s b before) ≡ true) p.1
    (subst (λ a. is_none (stored_at a e.arrived.seq before) ≡ true) p.0 none))
never_before before (x ∷ es) s n (suc v) e h is own k =
    let rest = (and_parts (is_none (stored_at x.arrived.src x.arrived.seq before))
    (are_identifiers_new (before ++ x ∷ []) es) h).1 in
    never_before (before ++ x ∷ []) es s n v e rest is own (stored_append before x s n k)

stored_last : (before : List PlainEntry) (x : PlainEntry) (s : List ℕ) (n : ℕ) → has_identifier s n x ≡ true
    → is_some (stored_at s n (before ++ x ∷ [])) ≡ true
stored_last before x s n own = stored_of_entry (before ++ x ∷ []) (length before) x [] s n
    (drop_at before (x ∷ []) (length before) refl) own

stored_step : (b : Bool) (o : Option ℕ) (v : ℕ) → (b ≡ true → ⊥) → o ≡ Some v
    → cond b (Some 0) (option_map (λ k. k + 1) o) ≡ Some (suc v)
stored_step true o v never h = absurd (never refl)
stored_step false o v never h = let next : v + 1 ≡ suc v = omega arith in ap (option_map (λ k. k + 1)) h
    ∙ ap (λ k. Some k) next

stored_here : (b : Bool) (o : Option ℕ) → b ≡ true → cond b (Some 0) o ≡ Some 0
stored_here true o h = refl
stored_here false o h = cc

stored_at_position : (before es : List PlainEntry) (s : List ℕ) (n v : ℕ) (e : PlainEntry)
    → are_identifiers_new before es ≡ true → slice_get es v ≡ Some e → has_identifier s n e ≡ true
    → stored_at s n es ≡ Some v
stored_at_position before [] s n v e h is own = cc
stored_at_position before (x ∷ es) s n zero e h is own = stored_here (has_identifier s n x) _
    (ap (has_identifier s n) (same_some x e is) ∙ own)
stored_at_position before (x ∷ es) s n (suc v) e h is own =
    let rest = (and_parts (is_none (stored_at x.arrived.src x.arrived.seq before))
    (are_identifiers_new (before ++ x ∷ []) es) h).1 in
    stored_step (has_identifier s n x) (stored_at s n es) v
    (λ k. never_before (before ++ x ∷ []) es s n v e rest is own (stored_last before x s n k))
    (stored_at_position (before ++ x ∷ []) es s n v e rest is own)

pub stored_at_of_entry : (log : List PlainEntry) (s : List ℕ) (n v : ℕ) (e : PlainEntry) → IsMade log
    → slice_get log v ≡ Some e → has_identifier s n e ≡ true → stored_at s n log ≡ Some v
stored_at_of_entry log s n v e made is own = stored_at_position [] log s n v e (identifiers_new [] log made) is own

-- the new entry of a decision is stored at the end
stored_at_end_first : (b : Bool) (o p : Option ℕ) (n : ℕ) → cond b (Some 0) (option_map (λ k. k + 1) o) ≡ None
    → (o ≡ None → p ≡ Some n) → cond b (Some 0) (option_map (λ k. k + 1) p) ≡ Some (n + 1)
stored_at_end_first true o p n h below = cc
stored_at_end_first false None p n h below = ap (option_map (λ k. k + 1)) (below refl)
stored_at_end_first false (Some i) p n h below = cc

pub stored_at_end : (log : List PlainEntry) (e : PlainEntry) (s : List ℕ) (n : ℕ) → stored_at s n log ≡ None
    → has_identifier s n e ≡ true → stored_at s n (log ++ e ∷ []) ≡ Some (length log)
stored_at_end [] e s n new own = stored_here (has_identifier s n e) _ own
stored_at_end (x ∷ log) e s n new own =
    let next : length log + 1 ≡ length (x ∷ log) = omega arith in
    stored_at_end_first (has_identifier s n x) (stored_at s n log) (stored_at s n (log ++ e ∷ [])) (length log) new
    (λ k. stored_at_end log e s n k own)
    ∙ ap (λ k. Some k) next

-- ---- the entries from a version on

abbrev pub IsAtVersion : List PlainEntry → PlainEntry → Type 0
IsAtVersion log e = slice_get log e.version ≡ Some e

all_at_version : (before es : List PlainEntry) → IsMade (before ++ es) → All (IsAtVersion (before ++ es)) es
all_at_version before [] made = All-nil (IsAtVersion (before ++ []))
all_at_version before (x ∷ es) made =
    let here = slice_get_middle before x es in
    let version = version_of_entry (before ++ x ∷ es) (length before) x made here in
    All-cons (IsAtVersion (before ++ x ∷ es)) x es (ap (slice_get (before ++ x ∷ es)) version ∙ here)
    (subst (λ l. All (IsAtVersion l) es) (append_assoc before (x ∷ []) es)
    (all_at_version (before ++ x ∷ []) es (subst IsMade (sym (append_assoc before (x ∷ []) es)) made)))

pub entries_at_version : (log : List PlainEntry) (v : ℕ) → IsMade log → All (IsAtVersion log) (drop v log)
entries_at_version log v made = All-drop (IsAtVersion log) v log (all_at_version [] log made)

-- the entry at a version is among those from an earlier one on
pub contains_later : (log : List PlainEntry) (v i : ℕ) (e : PlainEntry) → v ≤ i → slice_get log i ≡ Some e
    → Contains (drop v log) e
contains_later [] v i e h is = cc
contains_later (x ∷ log) zero i e h is = (i, slice_get_below (x ∷ log) i e is, get_or_from_slice_get (x ∷ log) i e e is)
contains_later (x ∷ log) (suc v) zero e h is = absurd (omega arith)
contains_later (x ∷ log) (suc v) (suc i) e h is = contains_later log v i e (omega arith) is
