-- States that the check accepts the dumps of made logs within the limits, and no other lines.
use Rattle.std.proofs.Common.{◌≡◌, ℕ, ◌<◌, ◌≤◌, List, [], ◌∷◌, ◌++◌, length, Bool, true, false, cond, Ok, Err, refl, sym, ap, subst, arith, append-nil, length-append}
use Rattle.std.specs.Prelude.{⊤, if◌then◌else◌, nat_eq, nat_lt, Result}
use Rattle.std.proofs.lemmas.Bool.Decides.{nat_tests}
use Rattle.sdb_desk.specs.laws.KeyLaws.{eq_of_keys_equal, keys_equal_refl}
use Rattle.sdb_oplog.specs.Keys.{PlainKey, keys_equal}
use Rattle.sdb_oplog.specs.Plain.{PlainContent, PlainSubmission, PlainEntry}
use Rattle.sdb_oplog.specs.Rebase.{rebase}
use Rattle.sdb_oplog.specs.Refusal.{result_and_then}
use Rattle.sdb_oplog.specs.Snap.{apply_content, document_of}
use Rattle.sdb_oplog.specs.Decide.{decide, rebased_content, base_version, missed_entries, IsMadeFrom}
use Rattle.sdb_oplog.specs.declared.codes.Code.{Code}
use Rattle.sdb_oplog.specs.declared.codes.Code.TheVariants.{E4, E11}
use Rattle.sdb_dump.specs.ValueLimits.{IsSafeInteger}
use Rattle.sdb_dump.specs.EntryLimits.{KeyInLimits, ContentInLimits, SubmissionInLimits, EntryInLimits}
use Rattle.sdb_dump.specs.DumpText.{PlainLine, log_of_lines, IsNextEntry, IsNextLine, AreNextLines, dump_lines, check}
use Rattle.sdb_dump.proofs.CheckLemmas.{check_sound, check_complete}
use Rattle.sdb_dump.proofs.DecideLemmas.{stored_from, stored_is}
use Rattle.sdb_dump.proofs.ReadBackEntries.{line_reads_back}
use Rattle.sdb_dump.specs.DumpLaws.{KeysAscendFrom, AllInLimits, IsDumpOfLogs}
use Rattle.sdb_dump.proofs.HoldsLemmas.{IfOkHolds}
use Rattle.sdb_dump.proofs.CrossLimits.{AllContentsInLimits, settled_fits}

-- ---- the log of a key with one more line

cond_append : (b : Bool) (x : PlainLine) (es fs more : List PlainEntry) → fs ≡ es ++ more → cond b (x.entry ∷ fs) fs ≡ cond b (x.entry ∷ es) es ++ more
cond_append true x es fs more e = ap (λ l. x.entry ∷ l) e
cond_append false x es fs more e = e

pub log_append : (xs ys : List PlainLine) (k : PlainKey) → log_of_lines (xs ++ ys) k ≡ log_of_lines xs k ++ log_of_lines ys k
log_append [] ys k = refl
log_append (x ∷ xs) ys k = cond_append (keys_equal k x.key) x (log_of_lines xs k) (log_of_lines (xs ++ ys) k) (log_of_lines ys k) (log_append xs ys k)

pub log_more : (before : List PlainLine) (x : PlainLine) (k : PlainKey) → log_of_lines (before ++ x ∷ []) k ≡ log_of_lines before k ++ cond (keys_equal k x.key) (x.entry ∷ []) []
log_more before x k = log_append before (x ∷ []) k

-- ---- stored entries are within the limits

not_full : (b c : Bool) (r : Result PlainContent Code) (m : PlainContent) → (if b then Err E11 else (if c then Err E4 else r)) ≡ Ok m → b ≡ false
not_full true c r m e = cc
not_full false c r m e = refl

room_of_rebased : (log : List PlainEntry) (s : PlainSubmission) (m : PlainContent) → rebased_content log s ≡ Ok m → length log ≤ 9007199254740991 → length log < 9007199254740991
room_of_rebased log s m e h =
    let r = result_and_then (λ k. result_and_then (λ d. Ok k) (apply_content k (document_of log))) (rebase s.content (missed_entries log s)) in
    let f : nat_eq (length log) 9007199254740991 ≡ false = not_full (nat_eq (length log) 9007199254740991) (nat_lt (length log) (base_version log s)) r m e in
    grind (arith, nat_tests, f, h)

abbrev pub LogInLimits : List PlainEntry → Type 0
LogInLimits log = AllContentsInLimits log × (length log ≤ 9007199254740991)

in_limits_at : (P : PlainContent → Type 0) (r : Result PlainContent Code) (m : PlainContent) → r ≡ Ok m → IfOkHolds P r → P m
in_limits_at P r m e h = subst (IfOkHolds P) e h

pub record AppendInLimits (log : List PlainEntry) (e : PlainEntry) : Type 0 where
  pub fits : EntryInLimits e
  pub some_room : length log < 9007199254740991

pub append_in_limits : (log : List PlainEntry) (e : PlainEntry) → LogInLimits log → IsSafeInteger e.moment → SubmissionInLimits e.arrived
    → (decide log e.arrived e.moment).log ≡ log ++ e ∷ [] → AppendInLimits log e
append_in_limits log e h t f d =
    let w = stored_is log e.arrived e.moment e (stored_from log e.arrived e.moment e d) in
    let c = in_limits_at (ContentInLimits 100) (rebased_content log e.arrived) w.content w.settles (settled_fits log e.arrived h.0 f.content) in
    let r = room_of_rebased log e.arrived w.content w.settles h.1 in
    let version : e.version ≡ length log = ap (λ x. x.version) w.entry in
    let content : w.content ≡ e.content = sym (ap (λ x. x.content) w.entry) in
    record { fits = record { version = omega (arith, version, r); moment = t; content = subst (ContentInLimits 100) content c; arrived = f }; some_room = r }

-- ---- all lines

pub contents_more : (es : List PlainEntry) (e : PlainEntry) → AllContentsInLimits es → ContentInLimits 100 e.content → AllContentsInLimits (es ++ e ∷ [])
contents_more [] e h k = (k, tt)
contents_more (x ∷ es) e h k = (h.0, contents_more es e h.1 k)

log_in_limits_append : (b : Bool) (log : List PlainEntry) (x : PlainLine) → LogInLimits log → (b ≡ true → AppendInLimits log x.entry) → LogInLimits (log ++ cond b (x.entry ∷ []) [])
log_in_limits_append false log x h g = subst LogInLimits (sym (append-nil log)) h
log_in_limits_append true log x h g = let w = g refl in (contents_more log x.entry h.0 w.fits.content, omega (arith, length-append log (x.entry ∷ []), w.some_room))

made_more : (b : Bool) (log more : List PlainEntry) (x : PlainLine) → IsMadeFrom log (cond b (x.entry ∷ more) more) → IsMadeFrom (log ++ cond b (x.entry ∷ []) []) more
made_more true log more x h = h.1
made_more false log more x h = subst (λ l. IsMadeFrom l more) (sym (append-nil log)) h

first_made : (b : Bool) (log more : List PlainEntry) (x : PlainLine) → b ≡ true → IsMadeFrom log (cond b (x.entry ∷ more) more) → (decide log x.entry.arrived x.entry.moment).log ≡ log ++ x.entry ∷ []
first_made true log more x e h = h.0
first_made false log more x e h = cc

abbrev pub AllLinesInLimits : List PlainLine → Type 0
AllLinesInLimits [] = ⊤
AllLinesInLimits (x ∷ xs) = KeyInLimits x.key × EntryInLimits x.entry × AllLinesInLimits xs

-- all lines may follow each other, and all entries are within the limits
record LinesFollow (before xs : List PlainLine) : Type 0 where
  pub next : AreNextLines before xs
  pub fit : AllLinesInLimits xs

lines_follow : (before xs : List PlainLine) → KeysAscendFrom before xs → ((k : PlainKey) → IsMadeFrom (log_of_lines before k) (log_of_lines xs k)) → AllInLimits xs
    → ((k : PlainKey) → LogInLimits (log_of_lines before k)) → LinesFollow before xs
lines_follow before [] a m f h = record { next = tt; fit = tt }
lines_follow before (x ∷ xs) a m f h =
    let log = log_of_lines before x.key in
    let d = first_made (keys_equal x.key x.key) log (log_of_lines xs x.key) x (keys_equal_refl x.key) (m x.key) in
    let g = append_in_limits log x.entry (h x.key) f.1 f.2 d in
    let n : IsNextLine before x = record { ascends = a.0; is_next = record { decided = d; read = line_reads_back x f.0 g.fits } } in
    let m' : (k : PlainKey) → IsMadeFrom (log_of_lines (before ++ x ∷ []) k) (log_of_lines xs k) =
    λ k. subst (λ l. IsMadeFrom l (log_of_lines xs k)) (sym (log_more before x k)) (made_more (keys_equal k x.key) (log_of_lines before k) (log_of_lines xs k) x (m k)) in
    let h' : (k : PlainKey) → LogInLimits (log_of_lines (before ++ x ∷ []) k) =
    λ k. subst LogInLimits (sym (log_more before x k)) (log_in_limits_append (keys_equal k x.key) (log_of_lines before k) x (h k) (λ e. subst (λ q. AppendInLimits (log_of_lines before q) x.entry) (sym (eq_of_keys_equal k x.key e)) g)) in
    let rest = lines_follow (before ++ x ∷ []) xs a.1 m' f.3 h' in
    record { next = (n, rest.next); fit = (f.0, g.fits, rest.fit) }

dump_follows : (xs : List PlainLine) → IsDumpOfLogs xs → AllInLimits xs → LinesFollow [] xs
dump_follows xs d f = lines_follow [] xs d.ascends d.made f (λ k. (tt, omega arith))

pub all_fit : (xs : List PlainLine) → IsDumpOfLogs xs → AllInLimits xs → AllLinesInLimits xs
all_fit xs d f = (dump_follows xs d f).fit

pub dumps_accepted : (xs : List PlainLine) → IsDumpOfLogs xs → AllInLimits xs → check (dump_lines xs) [] ≡ Ok xs
dumps_accepted xs d f = check_complete xs (dump_follows xs d f).next

-- ---- no other lines are accepted

made_first : (b : Bool) (log more : List PlainEntry) (x : PlainLine) → (b ≡ true → (decide log x.entry.arrived x.entry.moment).log ≡ log ++ x.entry ∷ []) → IsMadeFrom (log ++ cond b (x.entry ∷ []) []) more
    → IsMadeFrom log (cond b (x.entry ∷ more) more)
made_first true log more x d h = (d refl, h)
made_first false log more x d h = subst (λ l. IsMadeFrom l more) (append-nil log) h

pub made_next : (before : List PlainLine) (x : PlainLine) (k : PlainKey) (more : List PlainEntry) → IsNextEntry before x → IsMadeFrom (log_of_lines (before ++ x ∷ []) k) more
    → IsMadeFrom (log_of_lines before k) (cond (keys_equal k x.key) (x.entry ∷ more) more)
made_next before x k more n h =
    made_first (keys_equal k x.key) (log_of_lines before k) more x
    (λ e. subst (λ q. (decide (log_of_lines before q) x.entry.arrived x.entry.moment).log ≡ log_of_lines before q ++ x.entry ∷ []) (sym (eq_of_keys_equal k x.key e)) n.decided)
    (subst (λ l. IsMadeFrom l more) (log_more before x k) h)

all_made : (before xs : List PlainLine) → AreNextLines before xs → (k : PlainKey) → IsMadeFrom (log_of_lines before k) (log_of_lines xs k)
all_made before [] h k = tt
all_made before (x ∷ xs) h k = made_next before x k (log_of_lines xs k) h.0.is_next (all_made (before ++ x ∷ []) xs h.1 k)

all_ascend : (before xs : List PlainLine) → AreNextLines before xs → KeysAscendFrom before xs
all_ascend before [] h = tt
all_ascend before (x ∷ xs) h = (h.0.ascends, all_ascend (before ++ x ∷ []) xs h.1)

pub accepted_next : (ls : List (List ℕ)) (rest : List ℕ) (xs : List PlainLine) → check ls rest ≡ Ok xs
    → (ls ≡ dump_lines xs) × (rest ≡ []) × AreNextLines [] xs × IsDumpOfLogs xs
accepted_next ls rest xs e =
    let lines = check_sound ls rest xs e in
    (lines.0, lines.1, lines.2, record { ascends = all_ascend [] xs lines.2; made = all_made [] xs lines.2 })

pub accepted_dumps : (ls : List (List ℕ)) (rest : List ℕ) (xs : List PlainLine) → check ls rest ≡ Ok xs
    → (ls ≡ dump_lines xs) × (rest ≡ []) × IsDumpOfLogs xs
accepted_dumps ls rest xs e = let d = accepted_next ls rest xs e in (d.0, d.1, d.3)
