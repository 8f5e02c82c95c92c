-- Attempts have at most eight tries before they decide.
use Rattle.std.proofs.Common.{◌≡◌, ℕ, ◌+◌, ◌<◌, List, [], ◌∷◌, ◌++◌, length, Bool, true, false, cond, ◌||◌, nat_eq, Option, Some, None, IfSome, Result, Ok, Err, refl, sym, subst, arith}
use Rattle.std.proofs.lemmas.Bool.Decides.{nat_tests}
use Rattle.std.specs.Option.{option_map_or}
use Rattle.sdb_oplog.specs.declared.codes.Code.{Code}
use Rattle.sdb_oplog.specs.declared.codes.Code.TheVariants.{E1, E2, E3, E4, E5, E6, E7, E8, E9, E10, E11}
use Rattle.sdb_steps.specs.QueuePosition.{QueuePosition}
use Rattle.sdb_oplog.specs.Keys.{PlainKey}
use Rattle.sdb_steps.specs.OneStep as machine
use Rattle.sdb_steps.specs.OneStep.{OneStep, Event, empty_machine, machine_after_events, start_result}
use Rattle.sdb_steps.specs.Picks as plain
use Rattle.sdb_steps.specs.Picks.{PlainOpenAttempt, SessionState, SessionStates, StepKind, PlainSessionStep, PlainStepAnswer, reply_answer, notice_answer, out_of_memory, Effect, event, notice, effect, IsEffectOutcome, PicksOne, PicksAfter, Picks, empty_sessions, with_session, with_attempt}

-- the attempt, if there is one, has had at most eight tries
abbrev TriesInRange : Option PlainOpenAttempt → Type 0
TriesInRange o = (a : PlainOpenAttempt) → o ≡ Some a → a.tries < 9

tries_none : TriesInRange None
tries_none a is = cc

tries_some : (b : PlainOpenAttempt) → b.tries < 9 → TriesInRange (Some b)
tries_some b h a is = let e : b ≡ a = cc in subst (λ (x : PlainOpenAttempt). x.tries < 9) e h

-- so has the session's attempt after an effect
abbrev TriesInRangeAfter : Effect → Type 0
TriesInRangeAfter (event e y) = TriesInRange y.attempt
TriesInRangeAfter (notice a y) = TriesInRange y.attempt

begin_tries : (x : SessionState) (b : PlainOpenAttempt) (o : Option PlainOpenAttempt) → TriesInRange x.attempt → b.tries < 9 → TriesInRangeAfter (option_map_or (λ a. notice plain.idle x) o (notice plain.began (with_attempt x (Some b))))
begin_tries x b None h few = tries_some b few
begin_tries x b (Some a) h few = h

worked_if : (x : SessionState) (a : PlainOpenAttempt) (b : Bool) → TriesInRange x.attempt → a.tries < 9 → TriesInRangeAfter (cond b (notice plain.idle x) (notice plain.worked (with_attempt x (Some (plain.mark_worked a)))))
worked_if x a true h few = h
worked_if x a false h few = tries_some (plain.mark_worked a) few

work_tries : (x : SessionState) (o : Option PlainOpenAttempt) → x.attempt ≡ o → TriesInRange x.attempt → TriesInRangeAfter (option_map_or (λ a. cond a.is_worked (notice plain.idle x) (notice plain.worked (with_attempt x (Some (plain.mark_worked a))))) o (notice plain.idle x))
work_tries x None is h = h
work_tries x (Some a) is h = worked_if x a a.is_worked h (h a is)

or_false : (b c : Bool) → (b || c) ≡ false → c ≡ false
or_false true c h = cc
or_false false c h = h

commits_if : (m : OneStep) (x : SessionState) (now : ℕ) (a : PlainOpenAttempt) (b : Bool) → plain.is_deciding m a ≡ b → a.tries < 9
    → TriesInRangeAfter (cond b (event (machine.submission a.key a.submission now) (with_attempt x None)) (notice plain.moved (with_attempt x (Some (plain.look_again m a)))))
commits_if m x now a true is few = tries_none
commits_if m x now a false is few =
    let other : nat_eq a.tries 8 ≡ false = or_false (nat_eq (length (m.logs a.key)) a.looked_version) (nat_eq a.tries 8) is in
    let less : a.tries + 1 < 9 = grind (arith, nat_tests) in
    tries_some (plain.look_again m a) less

commit_tries : (m : OneStep) (x : SessionState) (now : ℕ) (o : Option PlainOpenAttempt) → x.attempt ≡ o → TriesInRange x.attempt → TriesInRangeAfter (option_map_or (plain.commit_effect m x now) o (notice plain.idle x))
commit_tries m x now None is h = h
commit_tries m x now (Some a) is h = commits_if m x now a (plain.is_deciding m a) refl (h a is)

subscribe_tries : (x : SessionState) (k : PlainKey) (v : Option ℕ) (r : Result ℕ Code) → TriesInRange x.attempt → TriesInRangeAfter (plain.subscribe_effect x k v r)
subscribe_tries x k v (Ok start) h = h
subscribe_tries x k v (Err E1) h = h
subscribe_tries x k v (Err E2) h = h
subscribe_tries x k v (Err E3) h = h
subscribe_tries x k v (Err E4) h = h
subscribe_tries x k v (Err E5) h = h
subscribe_tries x k v (Err E6) h = h
subscribe_tries x k v (Err E7) h = h
subscribe_tries x k v (Err E8) h = h
subscribe_tries x k v (Err E9) h = h
subscribe_tries x k v (Err E10) h = h
subscribe_tries x k v (Err E11) h = h

take_tries : (m : OneStep) (x : SessionState) (k : PlainKey) (max : ℕ) (o : Option QueuePosition) → TriesInRange x.attempt → TriesInRangeAfter (option_map_or (plain.take_effect m x k max) o (notice plain.idle x))
take_tries m x k max None h = h
take_tries m x k max (Some q) h = h

close_tries : (x : SessionState) (k : PlainKey) (o : Option QueuePosition) → TriesInRange x.attempt → TriesInRangeAfter (option_map_or (λ q. notice plain.unsubscribed (plain.with_queue x k None)) o (notice plain.idle x))
close_tries x k None h = h
close_tries x k (Some q) h = h

tries_of_effect : (m : OneStep) (i : ℕ) (x : SessionState) (act : StepKind) → TriesInRange x.attempt → TriesInRangeAfter (effect m i x act)
tries_of_effect m i x (plain.begin k src seq v content) h = begin_tries x (plain.open_attempt m k (plain.submission_of_begin i k src seq v content)) x.attempt h (omega arith)
tries_of_effect m i x plain.work h = work_tries x x.attempt refl h
tries_of_effect m i x (plain.commit now) h = commit_tries m x now x.attempt refl h
tries_of_effect m i x (plain.fetch k) h = h
tries_of_effect m i x (plain.snapshot k v) h = h
tries_of_effect m i x (plain.snapshot_at_time k t) h = h
tries_of_effect m i x (plain.subscribe k v) h = subscribe_tries x k v (start_result m k v) h
tries_of_effect m i x (plain.take k max) h = take_tries m x k max (x.queues k) h
tries_of_effect m i x (plain.unsubscribe k) h = close_tries x k (x.queues k) h
tries_of_effect m i x (plain.forget k) h = h

-- ---- runs

tries_of_outcome : (d : Effect) (answer : PlainStepAnswer) (events : List Event) (x : SessionState) → IsEffectOutcome d answer events x → TriesInRangeAfter d → TriesInRange x.attempt
tries_of_outcome (event e y) answer events x h few = subst (λ (z : SessionState). TriesInRange z.attempt) (sym h.3) few
tries_of_outcome (notice a y) answer events x h few = subst (λ (z : SessionState). TriesInRange z.attempt) (sym h.2) few

abbrev AllTriesInRange : SessionStates → Type 0
AllTriesInRange w = (n : ℕ) → TriesInRange (w n).attempt

tries_at : (b : Bool) (w : SessionStates) (n : ℕ) (x : SessionState) → TriesInRange x.attempt → AllTriesInRange w → TriesInRange (cond b x (w n)).attempt
tries_at true w n x h all = h
tries_at false w n x h all = all n

tries_with : (m : OneStep) (w v : SessionStates) (s : PlainSessionStep) (answer : PlainStepAnswer) (events : List Event) (x : SessionState) → IsEffectOutcome (effect m s.session (w s.session) s.act) answer events x → v ≡ with_session w s.session x → AllTriesInRange w → AllTriesInRange v
tries_with m w v s answer events x done put all =
    let few : TriesInRange x.attempt = tries_of_outcome (effect m s.session (w s.session) s.act) answer events x done (tries_of_effect m s.session (w s.session) s.act (all s.session)) in
    subst AllTriesInRange (sym put) (λ n. tries_at (nat_eq s.session n) w n x few all)

tries_of_step : (m : OneStep) (w v : SessionStates) (s : PlainSessionStep) (answer : PlainStepAnswer) (events : List Event) → PicksOne m w s answer events v → AllTriesInRange w → AllTriesInRange v
tries_of_step m w v s out_of_memory events h all = subst AllTriesInRange (sym h.2) all
tries_of_step m w v s (reply_answer r) events (x, done, put) all = tries_with m w v s (reply_answer r) events x done put all
tries_of_step m w v s (notice_answer a) events (x, done, put) all = tries_with m w v s (notice_answer a) events x done put all

tries_after_step : (past : List Event) (w v : SessionStates) (steps : List PlainSessionStep) (answers : List PlainStepAnswer) (events : List Event) → PicksAfter past w steps answers events v → AllTriesInRange w → AllTriesInRange v
tries_after_step past w v [] [] events h all = subst AllTriesInRange (sym h.1) all
tries_after_step past w v [] (a ∷ answers) events h all = absurd h
tries_after_step past w v (s ∷ steps) [] events h all = absurd h
tries_after_step past w v (s ∷ steps) (a ∷ answers) events (more, mid, one, rest) all = tries_after_step (past ++ more) mid v steps answers events rest (tries_of_step (machine_after_events empty_machine past) w mid s a more one all)

some_of : (o : Option PlainOpenAttempt) → TriesInRange o → IfSome o (λ a. a.tries < 9)
some_of None h = tt
some_of (Some a) h = h a refl

pub tries_below_nine : (steps : List PlainSessionStep) (answers : List PlainStepAnswer) (events : List Event) (w : SessionStates) → Picks steps answers events w → (n : ℕ) → IfSome (w n).attempt (λ a. a.tries < 9)
tries_below_nine steps answers events w h n = some_of (w n).attempt (tries_after_step [] empty_sessions w steps answers events h (λ k. tries_none) n)
