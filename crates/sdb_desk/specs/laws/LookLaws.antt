-- Laws of looks at a log or at a prefix of it.
use Rattle.std.proofs.Common.{◌≡◌, ◌<◌, ℕ, zero, suc, Bool, true, ◌||◌, List, [], ◌∷◌, ◌++◌, length, take, drop, Option, None, Some, length-append, append_assoc, refl, sym, ap, ◌∙◌, arith}
use Rattle.std.specs.Option.{is_some, unwrap_or}
use Rattle.std.proofs.Math.Seq.{take-length}
use Rattle.std.proofs.lemmas.List.{take-append-drop, take-append-le}
use Rattle.sdb_oplog.specs.Plain.{PlainEntry, PlainSubmission}
use Rattle.sdb_oplog.specs.Decide.{missed_entries}
use Rattle.sdb_oplog.specs.Snap.{document_of, stored_at}
use Rattle.sdb_desk.specs.Machine.{PlainAttempt, look_at, look_after, look_before, look_allocates, is_nonempty}
use Rattle.sdb_desk.specs.Looks.{IsLook, AreFirstMissed}

-- a look at the current log is a look
pub is_look_now : (log : List PlainEntry) (s : PlainSubmission)
    → IsLook log (record { submission = s; look = look_at log s })
is_look_now log s = record { within = omega arith; is = ap (λ l. look_at l s) (sym (take-length log)) }

-- a look stays a look while the log grows
pub is_look_extended : (log more : List PlainEntry) (a : PlainAttempt) → IsLook log a → IsLook (log ++ more) a
is_look_extended log more a h =
    let w = h.within in
    let n = length-append log more in
    record {
      within = omega (arith, w, n);
      is = h.is ∙ ap (λ l. look_at l a.submission) (sym (take-append-le a.look.version log more h.within));
    }

-- if the log hasn't grown since the look, the look is a current one
pub look_is_current : (log : List PlainEntry) (a : PlainAttempt) → IsLook log a → length log ≡ a.look.version
    → a.look ≡ look_at log a.submission
look_is_current log a h e =
    h.is ∙ ap (λ l. look_at l a.submission) (ap (λ n. take n log) (sym e) ∙ take-length log)

-- its missed entries are those of the submission
pub missed_is_current : (log : List PlainEntry) (a : PlainAttempt) → IsLook log a → length log ≡ a.look.version
    → a.look.missed ≡ missed_entries log a.submission
missed_is_current log a h e = ap (λ l. l.missed) (look_is_current log a h e)

-- its document is the current one
pub snapshot_is_current : (log : List PlainEntry) (a : PlainAttempt) → IsLook log a → length log ≡ a.look.version
    → a.look.snapshot ≡ document_of log
snapshot_is_current log a h e = ap (λ l. l.snapshot) (look_is_current log a h e)

-- it has no duplicate
pub repeat_is_current : (log : List PlainEntry) (a : PlainAttempt) → IsLook log a → length log ≡ a.look.version
    → stored_at a.submission.src a.submission.seq log ≡ None → a.look.repeat ≡ None
repeat_is_current log a h e new = ap (λ l. l.repeat) (look_is_current log a h e) ∙ new

-- ---- first missed entries

drop_of_append : (n : ℕ) (es more : List PlainEntry) → (m : List PlainEntry) × (drop n (es ++ more) ≡ drop n es ++ m)
drop_of_append zero es more = (more, refl)
drop_of_append (suc n) [] more = (drop (suc n) more, refl)
drop_of_append (suc n) (e ∷ es) more = drop_of_append n es more

drop_length : (es : List PlainEntry) → drop (length es) es ≡ []
drop_length [] = refl
drop_length (e ∷ es) = drop_length es

drop_first : (first more : List PlainEntry) → drop (length first) (first ++ more) ≡ more
drop_first [] more = refl
drop_first (e ∷ first) more = drop_first first more

missed_of_longer : (v : Option ℕ) (log more : List PlainEntry)
    → (m : List PlainEntry) × (drop (unwrap_or v (length (log ++ more))) (log ++ more) ≡ drop (unwrap_or v (length log)) log ++ m)
missed_of_longer None log more = ([], drop_length (log ++ more) ∙ ap (λ l. l ++ []) (sym (drop_length log)))
missed_of_longer (Some v) log more = drop_of_append v log more

-- a longer log has further missed entries
pub missed_extended : (log more : List PlainEntry) (s : PlainSubmission)
    → AreFirstMissed (log ++ more) s (missed_entries log s)
missed_extended log more s = missed_of_longer s.version log more

-- the first missed entries stay the first ones while the log grows
pub first_missed_extended : (log more : List PlainEntry) (s : PlainSubmission) (first : List PlainEntry) → AreFirstMissed log s first
    → AreFirstMissed (log ++ more) s first
first_missed_extended log more s first h =
    let longer = missed_extended log more s in
    (h.0 ++ longer.0, longer.1 ∙ ap (λ l. l ++ longer.0) h.1 ∙ append_assoc first h.0 longer.0)

-- an attempt has the first missed entries of its submission
pub look_has_first_missed : (log : List PlainEntry) (a : PlainAttempt) → IsLook log a → AreFirstMissed log a.submission a.look.missed
look_has_first_missed log a h =
    let v = a.look.version in
    let longer = missed_extended (take v log) (drop v log) a.submission in (
      longer.0,
      ap (λ l. missed_entries l a.submission) (sym (take-append-drop v log)) ∙ longer.1
          ∙ ap (λ l. l.missed ++ longer.0) (sym h.is),
    )

-- with the entries that follow they are the first ones again
pub first_missed_with_part : (log : List PlainEntry) (s : PlainSubmission) (first : List PlainEntry) (max : ℕ) (part : List PlainEntry)
    → AreFirstMissed log s first → part ≡ take max (drop (length first) (missed_entries log s)) → AreFirstMissed log s (first ++ part)
first_missed_with_part log s first max part h is =
    let others : drop (length first) (missed_entries log s) ≡ h.0 = ap (drop (length first)) h.1 ∙ drop_first first h.0 in (
      drop max h.0,
      h.1 ∙ ap (λ l. first ++ l) (sym (take-append-drop max h.0))
          ∙ sym (append_assoc first (take max h.0) (drop max h.0))
          ∙ ap (λ l. (first ++ l) ++ drop max h.0) (sym (is ∙ ap (take max) others)),
    )

-- with the look without them they are the look
pub look_of_parts : (log : List PlainEntry) (s : PlainSubmission) (first : List PlainEntry) → AreFirstMissed log s first
    → look_before first (look_after (length first) (look_at log s)) ≡ look_at log s
look_of_parts log s first h = λ i. record {
  version = length log;
  repeat = stored_at s.src s.seq log;
  missed = (ap (λ l. first ++ drop (length first) l) h.1 ∙ ap (λ l. first ++ l) (drop_first first h.0) ∙ sym h.1) i;
  snapshot = document_of log;
}

nonempty_if_some : (es : List PlainEntry) → 0 < length es → is_nonempty es ≡ true
nonempty_if_some [] some = absurd (omega (arith, some))
nonempty_if_some (e ∷ es) some = refl

allocates_if_missed : (es : List PlainEntry) (b : Bool) → 0 < length es → is_nonempty es || b ≡ true
allocates_if_missed es b some = ap (λ x. x || b) (nonempty_if_some es some)

-- a look allocates if there are missed entries
pub look_allocates_for_first : (log : List PlainEntry) (s : PlainSubmission) (first : List PlainEntry) → AreFirstMissed log s first → 0 < length first
    → look_allocates log s ≡ true
look_allocates_for_first log s first h some =
    let n = ap length h.1 in
    let m = length-append first h.0 in
    allocates_if_missed (missed_entries log s) (is_some (document_of log)) (omega (arith, n, m, some))
