-- States that the lines of made logs, key by key, are a dump of these logs.
use Rattle.std.proofs.Common.{◌≡◌, ℕ, List, [], ◌∷◌, ◌++◌, Bool, true, false, cond, Ordering, Less, Equal, Greater, nat_cmp, is_eq, length, Ok, refl, sym, ap, ap₂, ◌∙◌, subst, append-nil}
use Rattle.std.specs.Prelude.{⊤, ◌||◌, if◌then◌else◌}
use Rattle.std.specs.Ordering.{ordering_then, ordering_reverse, is_lt}
use Rattle.std.specs.Cmp.{IsTotalOrder, then_total, on_total}
use Rattle.std.specs.Cmp.Lexicographic.{slice_cmp}
use Rattle.std.proofs.lemmas.Cmp.{nat_list_cmp_total, tied_itself}
use Rattle.sdb_oplog.specs.Keys.{PlainKey, Logs, compare_keys, keys_equal}
use Rattle.sdb_oplog.specs.Plain.{PlainEntry}
use Rattle.sdb_oplog.specs.Decide.{IsMade}
use Rattle.sdb_dump.specs.DumpText.{PlainLine, log_of_lines, key_not_below, dump_text}
use Rattle.sdb_dump.specs.DumpLaws.{AllInLimits, KeysAscendFrom, IsDumpOfLogs}
use Rattle.sdb_dump.specs.LineSplit.{check_text}
use Rattle.sdb_dump.specs.LogListing.{lines_of_log, lines_of_logs, DumpText}
use Rattle.sdb_dump.specs.LogDumps.{AreDumpable, TextIsOfLogs}
use Rattle.sdb_dump.specs.ValueLimits.{IsSafeInteger}
use Rattle.sdb_dump.specs.EntryLimits.{KeyInLimits, SubmissionInLimits, AllKeysInLimits}
use Rattle.sdb_dump.specs.WriteModel.{HasEntryCount}
use Rattle.sdb_dump.proofs.AcceptLemmas.{log_append}
use Rattle.sdb_dump.proofs.StageLemmas.{follows_is, last_more}
use Rattle.sdb_desk.specs.laws.KeyLaws.{eq_of_keys_equal, keys_equal_refl}
use Rattle.std.specs.Option.{option_map_or}
use Rattle.sdb_dump.proofs.LineSplitLemmas.{text_accepted, text_only, text_next}
use Rattle.sdb_desk.specs.Machine.{is_nonempty}
use Rattle.sdb_desk.specs.StoredKeys.{IsKeyList}
use Rattle.std.specs.List.{AllByRecursion}
use Rattle.std.specs.List.Sorted.{IsStrictlySortedBy}
use Rattle.std.specs.Set.{is_member}

-- ---- keys

reverse_then : (o p : Ordering) → ordering_then (ordering_reverse o) (ordering_reverse p) ≡ ordering_reverse (ordering_then o p)
reverse_then Less p = refl
reverse_then Equal p = refl
reverse_then Greater p = refl

pub compare_keys_reverse : (a b : PlainKey) → compare_keys a b ≡ ordering_reverse (compare_keys b a)
compare_keys_reverse a b =
    ap₂ ordering_then (nat_list_cmp_total.antisymm a.collection b.collection) (nat_list_cmp_total.antisymm a.id b.id)
    ∙ reverse_then (slice_cmp nat_cmp b.collection a.collection) (slice_cmp nat_cmp b.id a.id)

compare_keys_refl : (a : PlainKey) → compare_keys a a ≡ Equal
compare_keys_refl a = rw (tied_itself nat_list_cmp_total a.collection, tied_itself nat_list_cmp_total a.id) refl

-- the key is less than each of these
abbrev IsKeyBelowEach : PlainKey → List PlainKey → Type 0
IsKeyBelowEach k ks = AllByRecursion (λ j. compare_keys k j ≡ Less) ks

abbrev KeysAscend : List PlainKey → Type 0
KeysAscend = IsStrictlySortedBy compare_keys

abbrev is_listed : List PlainKey → PlainKey → Bool
is_listed = is_member keys_equal

-- ---- the log of a key

log_of : (j : PlainKey) (es : List PlainEntry) (k : PlainKey) (b : Bool) → keys_equal k j ≡ b → log_of_lines (lines_of_log j es) k ≡ cond b es []
log_of j [] k true e = refl
log_of j [] k false e = refl
log_of j (x ∷ es) k true e = ap (λ b. cond b (x ∷ log_of_lines (lines_of_log j es) k) (log_of_lines (lines_of_log j es) k)) e ∙ ap (λ l. x ∷ l) (log_of j es k true e)
log_of j (x ∷ es) k false e = ap (λ b. cond b (x ∷ log_of_lines (lines_of_log j es) k) (log_of_lines (lines_of_log j es) k)) e ∙ log_of j es k false e

not_later : (k : PlainKey) (ks : List PlainKey) → IsKeyBelowEach k ks → is_listed ks k ≡ false
not_later k [] h = refl
not_later k (j ∷ ks) h = ap (λ o. is_eq o || is_listed ks k) h.0 ∙ not_later k ks h.1

log_first : (f : Logs) (j : PlainKey) (ks : List PlainKey) (k : PlainKey) (b : Bool) → keys_equal k j ≡ b → KeysAscend (j ∷ ks) → log_of_lines (lines_of_logs f ks) k ≡ cond (is_listed ks k) (f k) []
    → log_of_lines (lines_of_log j (f j)) k ++ log_of_lines (lines_of_logs f ks) k ≡ cond (b || is_listed ks k) (f k) []
unfolding IsStrictlySortedBy
log_first f j ks k true e h below =
    let g : k ≡ j = eq_of_keys_equal k j e in
    let none : is_listed ks k ≡ false = subst (λ q. is_listed ks q ≡ false) (sym g) (not_later j ks h.0) in
    ap₂ (λ a b. a ++ b) (log_of j (f j) k true e) (below ∙ ap (λ b. cond b (f k) []) none) ∙ append-nil (f j) ∙ ap f (sym g)
log_first f j ks k false e h below = ap₂ (λ a b. a ++ b) (log_of j (f j) k false e) below

log_all : (f : Logs) (ks : List PlainKey) (k : PlainKey) → KeysAscend ks → log_of_lines (lines_of_logs f ks) k ≡ cond (is_listed ks k) (f k) []
unfolding IsStrictlySortedBy
log_all f [] k h = refl
log_all f (j ∷ ks) k h =
    log_append (lines_of_log j (f j)) (lines_of_logs f ks) k ∙ log_first f j ks k (keys_equal k j) refl h (log_all f ks k h.1)

whole_log : (es : List PlainEntry) (b : Bool) → b ≡ is_nonempty es → cond b es [] ≡ es
whole_log es true e = refl
whole_log [] false e = refl
whole_log (x ∷ es) false e = cc

logs_are : (f : Logs) (ks : List PlainKey) → IsKeyList f ks → (k : PlainKey) → log_of_lines (lines_of_logs f ks) k ≡ f k
logs_are f ks h k = log_all f ks k h.in_order ∙ whole_log (f k) (is_listed ks k) (h.whole k)

-- ---- order

follows_last : (before : List PlainLine) (x : PlainLine) (k : PlainKey) → key_not_below (before ++ x ∷ []) k ≡ (if is_lt (compare_keys k x.key) then false else true)
follows_last before x k = follows_is (before ++ x ∷ []) k ∙ ap (λ o. option_map_or (λ l. if is_lt (compare_keys k l) then false else true) o true) (last_more before x)

abbrev ReadyToList : List PlainLine → List PlainKey → Type 0
ReadyToList before [] = ⊤
ReadyToList before (k ∷ ks) = (key_not_below before k ≡ true) × ReadyToList before ks

ready_after : (before : List PlainLine) (x : PlainLine) (ks : List PlainKey) → IsKeyBelowEach x.key ks → ReadyToList (before ++ x ∷ []) ks
ready_after before x [] h = tt
ready_after before x (k ∷ ks) h =
    let above : compare_keys k x.key ≡ Greater = compare_keys_reverse k x.key ∙ ap ordering_reverse h.0 in
    (follows_last before x k ∙ ap (λ o. if is_lt o then false else true) above, ready_after before x ks h.1)

ascend_log : (f : Logs) (k : PlainKey) (ks : List PlainKey) (es : List PlainEntry) (before : List PlainLine) → key_not_below before k ≡ true → ReadyToList before ks → IsKeyBelowEach k ks
    → ((b : List PlainLine) → ReadyToList b ks → KeysAscendFrom b (lines_of_logs f ks)) → KeysAscendFrom before (lines_of_log k es ++ lines_of_logs f ks)
ascend_log f k ks [] before h r a next = next before r
ascend_log f k ks (e ∷ es) before h r a next =
    let x : PlainLine = record { key = k; entry = e } in
    (h, ascend_log f k ks es (before ++ x ∷ []) (follows_last before x k ∙ ap (λ o. if is_lt o then false else true) (compare_keys_refl k)) (ready_after before x ks a) a next)

lines_ascend : (f : Logs) (ks : List PlainKey) (before : List PlainLine) → KeysAscend ks → ReadyToList before ks → KeysAscendFrom before (lines_of_logs f ks)
unfolding IsStrictlySortedBy
lines_ascend f [] before h r = tt
lines_ascend f (k ∷ ks) before h r = ascend_log f k ks (f k) before r.0 r.1 h.0 (λ b q. lines_ascend f ks b h.1 q)

ready_first : (ks : List PlainKey) → ReadyToList [] ks
ready_first [] = tt
ready_first (k ∷ ks) = (refl, ready_first ks)

pub logs_are_dumped : (f : Logs) (ks : List PlainKey) → IsKeyList f ks → ((k : PlainKey) → IsMade (f k))
    → IsDumpOfLogs (lines_of_logs f ks) × ((k : PlainKey) → log_of_lines (lines_of_logs f ks) k ≡ f k)
logs_are_dumped f ks h m = (
  record { ascends = lines_ascend f ks [] h.in_order (ready_first ks); made = λ k. subst IsMade (sym (logs_are f ks h k)) (m k) },
  logs_are f ks h,
)

-- ---- a dump is the dump of its logs

pub keys_total : IsTotalOrder compare_keys
keys_total = then_total (on_total (λ (k : PlainKey). k.collection) nat_list_cmp_total) (on_total (λ (k : PlainKey). k.id) nat_list_cmp_total)

-- no key is less than that of the line before
abbrev LinesRise : List PlainLine → Type 0
LinesRise [] = ⊤
LinesRise (x ∷ []) = ⊤
LinesRise (x ∷ y ∷ xs) = (is_lt (compare_keys y.key x.key) ≡ false) × LinesRise (y ∷ xs)

not_below : (b : Bool) → (if b then false else true) ≡ true → b ≡ false
not_below true e = cc
not_below false e = refl

lines_rise_of_ascend : (before : List PlainLine) (x : PlainLine) (xs : List PlainLine) → KeysAscendFrom (before ++ x ∷ []) xs → LinesRise (x ∷ xs)
lines_rise_of_ascend before x [] h = tt
lines_rise_of_ascend before x (y ∷ xs) h = (not_below (is_lt (compare_keys y.key x.key)) (sym (follows_last before x y.key) ∙ h.0), lines_rise_of_ascend (before ++ x ∷ []) y xs h.1)

less_of : (o : Ordering) → is_eq o ≡ false → is_lt (ordering_reverse o) ≡ false → o ≡ Less
less_of Less e h = refl
less_of Equal e h = cc
less_of Greater e h = cc

below_all : (a b : PlainKey) (ks : List PlainKey) → compare_keys a b ≡ Less → IsKeyBelowEach b ks → IsKeyBelowEach a ks
below_all a b [] e h = tt
below_all a b (k ∷ ks) e h = (keys_total.trans a b k e h.0, below_all a b ks e h.1)

same_logs : (f g : Logs) (j : PlainKey) (ks : List PlainKey) → IsKeyBelowEach j ks → ((k : PlainKey) → keys_equal k j ≡ false → f k ≡ g k) → lines_of_logs f ks ≡ lines_of_logs g ks
same_logs f g j [] h e = refl
same_logs f g j (k ∷ ks) h e =
    let other : keys_equal k j ≡ false = ap is_eq (compare_keys_reverse k j ∙ ap ordering_reverse h.0) in
    ap₂ (λ es l. lines_of_log k es ++ l) (e k other) (same_logs f g j ks h.1 e)

-- the keys are those of the entries, and the entries are those of their logs
record SortedLines (xs : List PlainLine) (ks : List PlainKey) : Type 0 where
  pub order : KeysAscend ks
  pub whole : (k : PlainKey) → is_listed ks k ≡ is_nonempty (log_of_lines xs k)
  pub list : lines_of_logs (log_of_lines xs) ks ≡ xs

filled_more : (b : Bool) (e : PlainEntry) (es : List PlainEntry) → is_nonempty (cond b (e ∷ es) es) ≡ (b || is_nonempty es)
filled_more true e es = refl
filled_more false e es = refl

or_twice : (b c : Bool) → (b || c) ≡ (b || (b || c))
or_twice true c = refl
or_twice false c = refl

empty_log : (es : List PlainEntry) → false ≡ is_nonempty es → es ≡ []
empty_log [] e = refl
empty_log (x ∷ es) e = cc

-- the log of the first entry's key, and the logs of other keys
log_here : (x : PlainLine) (xs : List PlainLine) → log_of_lines (x ∷ xs) x.key ≡ x.entry ∷ log_of_lines xs x.key
log_here x xs = ap (λ b. cond b (x.entry ∷ log_of_lines xs x.key) (log_of_lines xs x.key)) (keys_equal_refl x.key)

logs_there : (x : PlainLine) (xs : List PlainLine) (ks : List PlainKey) → IsKeyBelowEach x.key ks → lines_of_logs (log_of_lines (x ∷ xs)) ks ≡ lines_of_logs (log_of_lines xs) ks
logs_there x xs ks h = same_logs (log_of_lines (x ∷ xs)) (log_of_lines xs) x.key ks h (λ k e. ap (λ b. cond b (x.entry ∷ log_of_lines xs k) (log_of_lines xs k)) e)

sorted_same : (x : PlainLine) (xs : List PlainLine) (js : List PlainKey) → SortedLines xs (x.key ∷ js) → SortedLines (x ∷ xs) (x.key ∷ js)
unfolding IsStrictlySortedBy
sorted_same x xs js s = record {
  order = s.order;
  whole = λ k. or_twice (keys_equal k x.key) (is_listed js k) ∙ ap (λ c. keys_equal k x.key || c) (s.whole k) ∙ sym (filled_more (keys_equal k x.key) x.entry (log_of_lines xs k));
  list = ap₂ (λ es l. lines_of_log x.key es ++ l) (log_here x xs) (logs_there x xs js s.order.0) ∙ ap (λ l. x ∷ l) s.list;
}

sorted_new : (x : PlainLine) (xs : List PlainLine) (ks : List PlainKey) → IsKeyBelowEach x.key ks → SortedLines xs ks → SortedLines (x ∷ xs) (x.key ∷ ks)
unfolding IsStrictlySortedBy
sorted_new x xs ks h s =
    let none : log_of_lines xs x.key ≡ [] = empty_log (log_of_lines xs x.key) (sym (not_later x.key ks h) ∙ s.whole x.key) in
    record {
      order = (h, s.order);
      whole = λ k. ap (λ c. keys_equal k x.key || c) (s.whole k) ∙ sym (filled_more (keys_equal k x.key) x.entry (log_of_lines xs k));
      list = ap₂ (λ es l. lines_of_log x.key es ++ l) (log_here x xs ∙ ap (λ es. x.entry ∷ es) none) (logs_there x xs ks h) ∙ ap (λ l. x ∷ l) s.list;
    }

sorted_none : SortedLines [] []
unfolding IsStrictlySortedBy
sorted_none = record { order = tt; whole = λ k. refl; list = refl }

sorted_more : (x : PlainLine) (xs : List PlainLine) (j : PlainKey) (js : List PlainKey) (b : Bool) → keys_equal x.key j ≡ b → is_lt (compare_keys j x.key) ≡ false → SortedLines xs (j ∷ js) → (ks : List PlainKey) × SortedLines (x ∷ xs) (x.key ∷ ks)
unfolding IsStrictlySortedBy
sorted_more x xs j js true e h s = (js, sorted_same x xs js (subst (λ q. SortedLines xs (q ∷ js)) (sym (eq_of_keys_equal x.key j e)) s))
sorted_more x xs j js false e h s =
    let less = less_of (compare_keys x.key j) e (ap is_lt (sym (compare_keys_reverse j x.key)) ∙ h) in
    (j ∷ js, sorted_new x xs (j ∷ js) (less, below_all x.key j js less s.order.0) s)

sorted_all : (x : PlainLine) (xs : List PlainLine) → LinesRise (x ∷ xs) → (ks : List PlainKey) × SortedLines (x ∷ xs) (x.key ∷ ks)
sorted_all x [] r = ([], sorted_new x [] [] tt sorted_none)
sorted_all x (y ∷ ys) r =
    let (js, s) = sorted_all y ys r.1 in
    sorted_more x (y ∷ ys) y.key js (keys_equal x.key y.key) refl r.0 s

pub dump_of_logs : (xs : List PlainLine) → IsDumpOfLogs xs → DumpText (log_of_lines xs) (dump_text xs)
dump_of_logs [] d = ([], record { in_order = sorted_none.order; whole = sorted_none.whole }, refl)
dump_of_logs (x ∷ xs) d =
    let (ks, s) = sorted_all x xs (lines_rise_of_ascend [] x xs d.ascends.1) in
    (x.key ∷ ks, record { in_order = s.order; whole = s.whole }, ap dump_text (sym s.list))

within_append : (xs ys : List PlainLine) → AllInLimits xs → AllInLimits ys → AllInLimits (xs ++ ys)
within_append [] ys h k = k
within_append (x ∷ xs) ys h k = (h.0, h.1, h.2, within_append xs ys h.3 k)

within_logs : (f : Logs) (ks : List PlainKey) → ((k : PlainKey) → AllInLimits (lines_of_log k (f k))) → AllInLimits (lines_of_logs f ks)
within_logs f [] h = tt
within_logs f (k ∷ ks) h = within_append (lines_of_log k (f k)) (lines_of_logs f ks) (h k) (within_logs f ks h)

-- the log of each key is within the limits
within_or : (b : Bool) (k : PlainKey) (x : PlainLine) (es : List PlainEntry) → keys_equal k x.key ≡ b
    → KeyInLimits x.key → IsSafeInteger x.entry.moment → SubmissionInLimits x.entry.arrived → AllInLimits (lines_of_log k es) → AllInLimits (lines_of_log k (cond b (x.entry ∷ es) es))
within_or true k x es e key moment sent h = (subst KeyInLimits (sym (eq_of_keys_equal k x.key e)) key, moment, sent, h)
within_or false k x es e key moment sent h = h

within_log : (xs : List PlainLine) (k : PlainKey) → AllInLimits xs → AllInLimits (lines_of_log k (log_of_lines xs k))
within_log [] k h = tt
within_log (x ∷ xs) k h = within_or (keys_equal k x.key) k x (log_of_lines xs k) refl h.0 h.1 h.2 (within_log xs k h.3)

-- the number of entries is the number of lines
pub entries_of_lines : (xs : List PlainLine) → IsDumpOfLogs xs → HasEntryCount (log_of_lines xs) (length xs)
entries_of_lines [] d = ([], record { in_order = sorted_none.order; whole = sorted_none.whole }, refl)
entries_of_lines (x ∷ xs) d =
    let (ks, s) = sorted_all x xs (lines_rise_of_ascend [] x xs d.ascends.1) in
    (x.key ∷ ks, record { in_order = s.order; whole = s.whole }, ap length (sym s.list))

pub dumped_lines : (text : List ℕ) (xs : List PlainLine) → check_text text ≡ Ok xs → AllKeysInLimits xs
    → DumpText (log_of_lines xs) text × AreDumpable (log_of_lines xs) × HasEntryCount (log_of_lines xs) (length xs)
dumped_lines text xs e h =
    let d = text_next text xs e in (
      subst (DumpText (log_of_lines xs)) (sym d.0) (dump_of_logs xs d.1),
      record { made = d.1.made; within = λ k. within_log xs k (d.2 h) },
      entries_of_lines xs d.1,
    )

pub text_is_of_logs : TextIsOfLogs
text_is_of_logs = record {
  accepted = λ f text h (ks, stored, is).
      let xs = lines_of_logs f ks in
      let d = logs_are_dumped f ks stored h.made in
      (xs, ap check_text is ∙ text_accepted xs d.0 (within_logs f ks h.within), d.1);
  only = λ text xs e.
      let (is, d) = text_only text xs e in
      (subst (DumpText (log_of_lines xs)) (sym is) (dump_of_logs xs d), d.made);
  within = λ text xs e h. let d = dumped_lines text xs e h in (d.0, d.1);
}
