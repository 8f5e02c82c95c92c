-- Reads in parts: what a pass knows after each part, and the answer after the last one.
use Rattle.std.proofs.Common.{◌≡◌, ◌<◌, ℕ, inl, true, List, [], length, drop, length-append, length-drop, append-nil, Some, None, Result, Ok, Err, IfOk, OnErr, refl, sym, ap, ◌∙◌, subst, arith}
use Rattle.std.specs.declared.alloc.AllocError.{AllocError}
use Rattle.sdb_oplog.specs.Decide.{refused, missed_entries}
use Rattle.sdb_oplog.specs.Keys.{Logs, PlainKey, shard_of}
use Rattle.sdb_oplog.specs.Plain.{PlainEntry, PlainSubmission}
use Rattle.sdb_oplog.specs.declared.codes.Code.TheVariants.{E10}
use Rattle.sdb_desk.specs.Looks.{IsLook, AreFirstMissed}
use Rattle.sdb_desk.specs.Machine.{PlainAttempt, PlainLook, IsUnchanged, decided, moved, look_at, look_after, look_before, look_allocates}
use Rattle.sdb_desk.specs.ShardView.{machine_of, logs_of}
use Rattle.sdb_desk.specs.View.{plain_look}
use Rattle.sdb_desk.specs.declared.work.Look.{Look}
use Rattle.sdb_desk.specs.laws.LookLaws.{is_look_now, first_missed_extended, look_has_first_missed, look_of_parts, look_allocates_for_first}
use Rattle.sdb_submit.specs.Calls.{PlainCall, look, commit, forget, CallAnswer, LooksOrOutOfMemory, look_view}
use Rattle.sdb_striped_lock.specs.laws.SeatLaws.{have_seen_unique}
use Rattle.sdb_backend.specs.CallAnswers.{RunsAtExtension, AnsweredAtExtension, IsLookSeenBy}
use Rattle.sdb_backend.specs.HistoryOrder.{IsExtension}
use Rattle.sdb_backend.specs.LooksInParts.{KnowsFirstMissed, HasGrown, IsLookOutdatedFor}
use Rattle.sdb_backend.specs.declared.shard_value.Held.{Held}
use Rattle.sdb_backend.specs.declared.pass.Pass.{Pass}
use Rattle.sdb_backend.proofs.StepLemmas.{run_at_same_history, answered_after_unchanged}

-- the pass has made calls that changed nothing: an answer to the later pass is one to the earlier pass
abbrev pub ContinuesAs : PlainKey → Pass → Pass → Type 0
ContinuesAs k p q = (c : PlainCall) (a : CallAnswer c) (r : Pass) → AnsweredAtExtension k c q a r → AnsweredAtExtension k c p a r

-- a run that changed nothing
pub continues_after_run : (k : PlainKey) (runs : Held → Held → Type 0) (p o q : Pass) (d : RunsAtExtension k runs o q)
    → IsUnchanged (machine_of d.history.shard) (machine_of d.next.shard) → ContinuesAs k p o → ContinuesAs k p q
continues_after_run k runs p o q d same before =
    λ c a r h. before c a r (answered_after_unchanged k forget c tt a o q r (run_at_same_history d same) same h)

-- ---- first missed entries

-- they are the first ones at the history of the next run
pub first_missed_at_history : (k : PlainKey) (s : PlainSubmission) (first : List PlainEntry) (runs : Held → Held → Type 0) (p q : Pass) (d : RunsAtExtension k runs p q)
    → KnowsFirstMissed p k s first → AreFirstMissed (logs_of d.history.shard k) s first
first_missed_at_history k s first runs p q d knows =
    let ext = d.extends.logs k in
    subst (λ (l : List PlainEntry). AreFirstMissed l s first) (sym ext.1) (first_missed_extended (logs_of d.observed.shard k) ext.0 s first (knows d.observed d.seen_before))

-- the pass knows them after a run that changed nothing
pub knows_after_run : (k : PlainKey) (s : PlainSubmission) (first : List PlainEntry) (runs : Held → Held → Type 0) (p q : Pass) (d : RunsAtExtension k runs p q)
    → IsUnchanged (machine_of d.history.shard) (machine_of d.next.shard) → AreFirstMissed (logs_of d.history.shard k) s first → KnowsFirstMissed q k s first
knows_after_run k s first runs p q d same at =
    λ x saw.
    let one : d.next ≡ x = have_seen_unique q.seats (shard_of k) d.next x d.seen_after saw in
    subst (λ (y : Held). AreFirstMissed (logs_of y.shard k) s first) one (subst (λ (f : Logs). AreFirstMissed (f k) s first) (sym same.0) at)

-- the pass knows the missed entries of an outdated look
pub knows_of_outdated : (p : Pass) (k : PlainKey) (a : PlainAttempt) → IsLookOutdatedFor p k a → KnowsFirstMissed p k a.submission a.look.missed
knows_of_outdated p k a old =
    λ x saw.
    let one : old.0 ≡ x = have_seen_unique p.seats (shard_of k) old.0 x old.1 saw in
    subst (λ (y : Held). AreFirstMissed (logs_of y.shard k) a.submission a.look.missed) one (look_has_first_missed (logs_of old.0.shard k) a old.2.look)

-- ---- the look

-- there are missed entries
look_allocates_if_missed : (log : List PlainEntry) (s : PlainSubmission) → 0 < length (missed_entries log s) → look_allocates log s ≡ true
look_allocates_if_missed log s some = look_allocates_for_first log s (missed_entries log s) ([], sym (append-nil (missed_entries log s))) some

-- there are more missed entries than these
pub look_allocates_if_more : (log : List PlainEntry) (s : PlainSubmission) (known max : ℕ) → max < length (drop known (missed_entries log s)) → look_allocates log s ≡ true
look_allocates_if_more log s known max more =
    let n = length-drop known (missed_entries log s) in
    look_allocates_if_missed log s (omega (arith, n, more))

pub if_err_from_some : {T : Type 0} {P Q : Type 0} (r : Result T AllocError) → (P → Q) → OnErr r P → OnErr r Q
if_err_from_some (Ok x) f p = tt
if_err_from_some (Err e) f p = f p

-- the last part with the others before it
pub look_of_last : (log : List PlainEntry) (s : PlainSubmission) (first : List PlainEntry) (known : ℕ) (part l : PlainLook) → AreFirstMissed log s first → known ≡ length first
    → part ≡ look_after known (look_at log s) → l ≡ look_before first part → l ≡ look_at log s
look_of_last log s first known part l at n last is =
    is ∙ ap (look_before first) (last ∙ ap (λ m. look_after m (look_at log s)) n) ∙ look_of_parts log s first at

looks_or_fails : (log : List PlainEntry) (s : PlainSubmission) (r : Result Look AllocError) → IfOk r (λ l. plain_look l ≡ look_at log s) → OnErr r (look_allocates log s ≡ true)
    → LooksOrOutOfMemory log s (look_view r)
looks_or_fails log s (Ok l) h t = h
looks_or_fails log s (Err e) h t = t

module _ (k : PlainKey) (s : PlainSubmission) {runs : Held → Held → Type 0} (p o q : Pass) (d : RunsAtExtension k runs o q)
    (same : IsUnchanged (machine_of d.history.shard) (machine_of d.next.shard)) where
  -- an allocation failed
  pub look_failed : look_allocates (logs_of d.history.shard k) s ≡ true → ContinuesAs k p o → AnsweredAtExtension k (look s) p None q
  look_failed takes before = before (look s) None q (run_at_same_history d (takes, same))

  pub look_answered : (r : Result Look AllocError) → IfOk r (λ l. plain_look l ≡ look_at (logs_of d.history.shard k) s)
      → OnErr r (look_allocates (logs_of d.history.shard k) s ≡ true) → ContinuesAs k p o → AnsweredAtExtension k (look s) p (look_view r) q
  look_answered r is takes before = before (look s) (look_view r) q (run_at_same_history d (looks_or_fails (logs_of d.history.shard k) s r is takes, same))

  -- the pass has observed the log of the look
  pub look_seen : (l : PlainLook) → l ≡ look_at (logs_of d.history.shard k) s → IsLookSeenBy q k (record { submission = s; look = l })
  look_seen l is =
      let a : PlainLook → PlainAttempt = λ x. record { submission = s; look = x } in
      let here : IsLook (logs_of d.history.shard k) (a l) = subst (λ (x : PlainLook). IsLook (logs_of d.history.shard k) (a x)) (sym is) (is_look_now (logs_of d.history.shard k) s) in
      (d.next, d.seen_after, subst (λ (f : Logs). IsLook (f k) (a l)) (sym same.0) here)

-- ---- a new look of a commit

still_grown : (log new : List PlainEntry) (a : PlainAttempt) → IsExtension new log → HasGrown log a → length new ≡ a.look.version → ⊥
still_grown log new a ext h e =
    let w = h.look.within in
    let n = ap length ext.1 in
    let m = length-append log ext.0 in
    h.grown (omega (arith, w, n, m, e))

module _ (k : PlainKey) (a : PlainAttempt) (now : ℕ) (p q : Pass) where
  grown_at_history : {runs : Held → Held → Type 0} (d : RunsAtExtension k runs p q) → IsLookOutdatedFor p k a → length (logs_of d.history.shard k) ≡ a.look.version → ⊥
  grown_at_history d old =
      let one : old.0 ≡ d.observed = have_seen_unique p.seats (shard_of k) old.0 d.observed old.1 d.seen_before in
      let h = subst (λ (y : Held). HasGrown (logs_of y.shard k) a) one old.2 in
      still_grown (logs_of d.observed.shard k) (logs_of d.history.shard k) a (d.extends.logs k) h

  -- the outcome is the look, or its allocation failure
  pub moved_by_look : (l : PlainLook) → AnsweredAtExtension k (look a.submission) p (Some l) q → IsLookOutdatedFor p k a → AnsweredAtExtension k (commit a now) p (moved l) q
  moved_by_look l d old = run_at_same_history d ((grown_at_history d old, d.ran.0, d.ran.1.0), d.ran.1.1)

  pub refused_by_look : AnsweredAtExtension k (look a.submission) p None q → IsLookOutdatedFor p k a → AnsweredAtExtension k (commit a now) p (decided (refused E10)) q
  refused_by_look d old = run_at_same_history d (inl (refl, d.ran.1.0, inl (grown_at_history d old, d.ran.0)), d.ran.1.1)
