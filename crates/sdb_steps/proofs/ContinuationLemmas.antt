-- Takes continue where the last one of that session and key ended.
use Rattle.std.proofs.Common.{◌≡◌, ℕ, ◌+◌, ◌≤◌, ◌<◌, List, [], ◌∷◌, ◌++◌, length, take, drop, Bool, true, false, cond, nat_eq, nat_lt, Option, Some, None, Result, Ok, Err, option_map, IfSome, refl, sym, ap, ◌∙◌, subst, length-append, length-drop, arith}
use Rattle.std.proofs.lemmas.List.{take-append-le, drop-append-le, length-take}
use Rattle.std.proofs.lemmas.Bool.{eqb-true}
use Rattle.std.proofs.lemmas.Bool.Decides.{nat_tests}
use Rattle.std.specs.Option.{option_map_or, unwrap_or}
use Rattle.sdb_oplog.specs.Plain.{PlainEntry, PlainContent}
use Rattle.sdb_oplog.specs.Keys.{PlainKey, Logs, keys_equal}
use Rattle.sdb_oplog.specs.Refusal.{result_and_then}
use Rattle.sdb_oplog.specs.declared.codes.Code.{Code}
use Rattle.sdb_oplog.specs.declared.codes.Code.TheVariants.{E1, E2, E3, E4, E5, E6, E7, E8, E9, E10, E11}
use Rattle.sdb_subscribe.specs.Queue.{queue}
use Rattle.sdb_steps.specs.QueuePosition.{QueuePosition, entries_at_position}
use Rattle.sdb_desk.specs.laws.KeyLaws.{eq_of_keys_equal}
use Rattle.sdb_steps.specs.OneStep as machine
use Rattle.sdb_steps.specs.OneStep.{OneStep, Event, Legal, empty_machine, start_result, subscribed}
use Rattle.sdb_steps.specs.Picks as plain
use Rattle.sdb_steps.specs.Picks.{PlainOpenAttempt, SessionState, SessionStates, StepKind, PlainSessionStep, PlainStepAnswer, reply_answer, notice_answer, out_of_memory, Effect, event, notice, effect, replies_in, Picks, empty_sessions, with_attempt, with_queue, with_session}
use Rattle.sdb_steps.proofs.StepLists.{AreSteps}
use Rattle.sdb_steps.specs.TakeContinuation.{position_after_take, position_after_step, AreNextEntries, ContinuesFromPosition, positions_after_step, ContinuedFrom, TakesContinue}
use Rattle.sdb_steps.proofs.EventLemmas.{EffectRelation, StepRelation, step_relation, legal_steps}
use Rattle.sdb_steps.proofs.GrowthLemmas.{LogExtends, grows_steps}
use Rattle.sdb_steps.proofs.TakenLemmas.{take_taken, start_not_late}

-- ---- lists

no_length : (l : List PlainEntry) → length l ≡ 0 → l ≡ []
no_length [] h = refl
no_length (e ∷ l) h = absurd (omega (arith, h))

-- entries read from a log are at the same positions in an extension of it
still_by : (b : Bool) (old more : List PlainEntry) (from max : ℕ) → nat_lt (length old) from ≡ b → take (length (queue old from max)) (drop from (old ++ more)) ≡ queue old from max
still_by true old more from max is =
    let past : length (drop from old) ≡ 0 = let k : length old < from = grind (arith, nat_tests) in omega (arith, k, length-drop from old) in
    let none : queue old from max ≡ [] = no_length (queue old from max) (omega (arith, past, length-take max (drop from old))) in
    ap (λ (l : List PlainEntry). take (length l) (drop from (old ++ more))) none ∙ sym none
still_by false old more from max is =
    let begin : from ≤ length old = grind (arith, nat_tests) in
    let few : length (queue old from max) ≤ length (drop from old) = omega (arith, length-take max (drop from old)) in
    ap (take (length (queue old from max))) (drop-append-le from old more begin) ∙ take-append-le (length (queue old from max)) (drop from old) more few ∙ take_taken max (drop from old)

next_is : (old end : List PlainEntry) (q : QueuePosition) (max : ℕ) → LogExtends old end → AreNextEntries end (Some q) max (entries_at_position old max q)
next_is old end q max g =
    let es = entries_at_position old max q in
    let same : queue end (q.start + q.taken) (length es) ≡ es =
    ap (λ (l : List PlainEntry). queue l (q.start + q.taken) (length es)) g.is ∙ still_by _ old g.more (q.start + q.taken) max refl in
    (sym same, omega (arith, length-take max (drop (q.start + q.taken) old)))

-- ---- one step of a session

-- the tracked positions of a session are those of its queues
abbrev TracksQueues : (PlainKey → Option QueuePosition) → SessionState → Type 0
TracksQueues f x = (j : PlainKey) → f j ≡ x.queues j

abbrev ExtendsTo : OneStep → Logs → Type 0
ExtendsTo m end = (k : PlainKey) → LogExtends (m.logs k) (end k)

record ContinuesAfterStep (f : PlainKey → Option QueuePosition) (act : StepKind) (a : PlainStepAnswer) (y : SessionState) (end : Logs) : Type 0 where
  pub tracks : (j : PlainKey) → position_after_step j act a (f j) ≡ y.queues j
  pub continued : ContinuesFromPosition end f act a

-- the statement for one step, by the step's effect
abbrev EffectContinues : OneStep → (PlainKey → Option QueuePosition) → StepKind → Effect → Logs → Type 0
EffectContinues m f act (event e y) end = ContinuesAfterStep f act (reply_answer (machine.reply_to_event m e)) y end
EffectContinues m f act (notice n y) end = ContinuesAfterStep f act (notice_answer n) y end

unchanged_follows : (m n : OneStep) (f : PlainKey → Option QueuePosition) (act : StepKind) (d : Effect) (a : PlainStepAnswer) (y : SessionState) (end : Logs) → EffectContinues m f act d end → EffectRelation m d a n y → ContinuesAfterStep f act a y end
unchanged_follows m n f act (event e z) a y end k h =
    subst (λ (c : PlainStepAnswer). ContinuesAfterStep f act c y end) (sym h.0) (subst (λ (x : SessionState). ContinuesAfterStep f act (reply_answer (machine.reply_to_event m e)) x end) (sym h.2) k)
unchanged_follows m n f act (notice c z) a y end k h =
    subst (λ (c : PlainStepAnswer). ContinuesAfterStep f act c y end) (sym h.0) (subst (λ (x : SessionState). ContinuesAfterStep f act (notice_answer c) x end) (sym h.2) k)

preserves_begin : (m : OneStep) (f : PlainKey → Option QueuePosition) (i : ℕ) (x : SessionState) (k : PlainKey) (src : List ℕ) (seq : ℕ) (v : Option ℕ) (content : PlainContent) (o : Option PlainOpenAttempt) (end : Logs) → TracksQueues f x
    → EffectContinues m f (plain.begin k src seq v content) (option_map_or (λ a. notice plain.idle x) o (notice plain.began (with_attempt x (Some (plain.open_attempt m k (plain.submission_of_begin i k src seq v content)))))) end
preserves_begin m f i x k src seq v content None end t = record { tracks = t; continued = tt }
preserves_begin m f i x k src seq v content (Some a) end t = record { tracks = t; continued = tt }

preserves_worked : (m : OneStep) (f : PlainKey → Option QueuePosition) (x : SessionState) (a : PlainOpenAttempt) (c : Bool) (end : Logs) → TracksQueues f x
    → EffectContinues m f plain.work (cond c (notice plain.idle x) (notice plain.worked (with_attempt x (Some (plain.mark_worked a))))) end
preserves_worked m f x a true end t = record { tracks = t; continued = tt }
preserves_worked m f x a false end t = record { tracks = t; continued = tt }

preserves_work : (m : OneStep) (f : PlainKey → Option QueuePosition) (x : SessionState) (o : Option PlainOpenAttempt) (end : Logs) → TracksQueues f x
    → EffectContinues m f plain.work (option_map_or (λ a. cond a.is_worked (notice plain.idle x) (notice plain.worked (with_attempt x (Some (plain.mark_worked a))))) o (notice plain.idle x)) end
preserves_work m f x None end t = record { tracks = t; continued = tt }
preserves_work m f x (Some a) end t = preserves_worked m f x a a.is_worked end t

preserves_tried : (m : OneStep) (f : PlainKey → Option QueuePosition) (x : SessionState) (now : ℕ) (a : PlainOpenAttempt) (c : Bool) (end : Logs) → TracksQueues f x
    → EffectContinues m f (plain.commit now) (cond c (event (machine.submission a.key a.submission now) (with_attempt x None)) (notice plain.moved (with_attempt x (Some (plain.look_again m a))))) end
preserves_tried m f x now a true end t = record { tracks = t; continued = tt }
preserves_tried m f x now a false end t = record { tracks = t; continued = tt }

preserves_commit : (m : OneStep) (f : PlainKey → Option QueuePosition) (x : SessionState) (now : ℕ) (o : Option PlainOpenAttempt) (end : Logs) → TracksQueues f x → EffectContinues m f (plain.commit now) (option_map_or (plain.commit_effect m x now) o (notice plain.idle x)) end
preserves_commit m f x now None end t = record { tracks = t; continued = tt }
preserves_commit m f x now (Some a) end t = preserves_tried m f x now a (plain.is_deciding m a) end t

-- equal values of another key stay equal, whatever the value at k
put_same : (b : Bool) (p o u : Option QueuePosition) → o ≡ u → cond b p o ≡ cond b p u
put_same true p o u e = refl
put_same false p o u e = e

unchanged_refused : (f : PlainKey → Option QueuePosition) (x : SessionState) (k : PlainKey) (v : Option ℕ) (c : Code) (r : Result ℕ Code) (end : Logs) → r ≡ Err c → TracksQueues f x
    → ContinuesAfterStep f (plain.subscribe k v) (reply_answer (subscribed r)) x end
unchanged_refused f x k v c r end is t = subst (λ (u : Result ℕ Code). ContinuesAfterStep f (plain.subscribe k v) (reply_answer (subscribed u)) x end) (sym is) (record { tracks = t; continued = tt })

-- a start is the requested version
start_is_named_version : (v : Option ℕ) (n start : ℕ) (b c : Bool) → result_and_then (λ s. cond c (Err E11) (Ok s)) (cond b (Err E4) (Ok (unwrap_or v n))) ≡ Ok start → IfSome v (λ w. start ≡ w)
start_is_named_version None n start b c h = tt
start_is_named_version (Some w) n start true c h = absurd (cc)
start_is_named_version (Some w) n start false true h = absurd (cc)
start_is_named_version (Some w) n start false false h = cc

start_is : (m : OneStep) (k : PlainKey) (v : Option ℕ) (start : ℕ) (end : Logs) → start_result m k v ≡ Ok start → LogExtends (m.logs k) (end k) → (start ≤ length (end k)) × IfSome v (λ n. start ≡ n)
start_is m k v start end is g =
    let within : start ≤ length (m.logs k) = start_not_late (length (m.logs k)) (unwrap_or v (length (m.logs k))) start _ _ refl is in
    let long : length (end k) ≡ length (m.logs k) + length g.more = ap length g.is ∙ length-append (m.logs k) g.more in
    (omega (arith, within, long), start_is_named_version v (length (m.logs k)) start _ _ is)

preserves_subscribe : (m : OneStep) (f : PlainKey → Option QueuePosition) (x : SessionState) (k : PlainKey) (v : Option ℕ) (r : Result ℕ Code) (end : Logs) → start_result m k v ≡ r → ExtendsTo m end → TracksQueues f x → EffectContinues m f (plain.subscribe k v) (plain.subscribe_effect x k v r) end
preserves_subscribe m f x k v (Ok start) end is g t =
    subst (λ (u : Result ℕ Code). ContinuesAfterStep f (plain.subscribe k v) (reply_answer (subscribed u)) (with_queue x k (Some (record { start = start; taken = 0 }))) end) (sym is)
    (record { tracks = λ j. put_same (keys_equal k j) (Some (record { start = start; taken = 0 })) (f j) (x.queues j) (t j); continued = start_is m k v start end is (g k) })
preserves_subscribe m f x k v (Err E1) end is g t = unchanged_refused f x k v E1 (start_result m k v) end is t
preserves_subscribe m f x k v (Err E2) end is g t = unchanged_refused f x k v E2 (start_result m k v) end is t
preserves_subscribe m f x k v (Err E3) end is g t = unchanged_refused f x k v E3 (start_result m k v) end is t
preserves_subscribe m f x k v (Err E4) end is g t = unchanged_refused f x k v E4 (start_result m k v) end is t
preserves_subscribe m f x k v (Err E5) end is g t = unchanged_refused f x k v E5 (start_result m k v) end is t
preserves_subscribe m f x k v (Err E6) end is g t = unchanged_refused f x k v E6 (start_result m k v) end is t
preserves_subscribe m f x k v (Err E7) end is g t = unchanged_refused f x k v E7 (start_result m k v) end is t
preserves_subscribe m f x k v (Err E8) end is g t = unchanged_refused f x k v E8 (start_result m k v) end is t
preserves_subscribe m f x k v (Err E9) end is g t = unchanged_refused f x k v E9 (start_result m k v) end is t
preserves_subscribe m f x k v (Err E10) end is g t = unchanged_refused f x k v E10 (start_result m k v) end is t
preserves_subscribe m f x k v (Err E11) end is g t = record { tracks = t; continued = tt }

-- the position of k advances, and those of other keys are unchanged
read_same : (f : PlainKey → Option QueuePosition) (x : SessionState) (k j : PlainKey) (es : List PlainEntry) (q : QueuePosition) (b : Bool) → keys_equal k j ≡ b → x.queues k ≡ Some q → TracksQueues f x
    → cond b (option_map (position_after_take es) (f j)) (f j) ≡ cond b (Some (position_after_take es q)) (x.queues j)
read_same f x k j es q true is has t = ap (option_map (position_after_take es)) (t j ∙ ap x.queues (sym (eq_of_keys_equal k j is)) ∙ has)
read_same f x k j es q false is has t = t j

preserves_take : (m : OneStep) (f : PlainKey → Option QueuePosition) (x : SessionState) (k : PlainKey) (max : ℕ) (o : Option QueuePosition) (end : Logs) → x.queues k ≡ o → ExtendsTo m end → TracksQueues f x
    → EffectContinues m f (plain.take k max) (option_map_or (plain.take_effect m x k max) o (notice plain.idle x)) end
preserves_take m f x k max None end has g t = record { tracks = t; continued = tt }
preserves_take m f x k max (Some q) end has g t =
    let es = entries_at_position (m.logs k) max q in
    record {
      tracks = λ j. read_same f x k j es q (keys_equal k j) refl has t;
      continued = subst (λ (r : Option QueuePosition). AreNextEntries (end k) r max es) (sym (t k ∙ has)) (next_is (m.logs k) (end k) q max (g k));
    }

preserves_close : (m : OneStep) (f : PlainKey → Option QueuePosition) (x : SessionState) (k : PlainKey) (o : Option QueuePosition) (end : Logs) → TracksQueues f x
    → EffectContinues m f (plain.unsubscribe k) (option_map_or (λ q. notice plain.unsubscribed (with_queue x k None)) o (notice plain.idle x)) end
preserves_close m f x k None end t = record { tracks = t; continued = tt }
preserves_close m f x k (Some q) end t = record { tracks = λ j. put_same (keys_equal k j) None (f j) (x.queues j) (t j); continued = tt }

preserves_deed : (m : OneStep) (f : PlainKey → Option QueuePosition) (i : ℕ) (x : SessionState) (act : StepKind) (end : Logs) → ExtendsTo m end → TracksQueues f x → EffectContinues m f act (effect m i x act) end
preserves_deed m f i x (plain.begin k src seq v content) end g t = preserves_begin m f i x k src seq v content x.attempt end t
preserves_deed m f i x plain.work end g t = preserves_work m f x x.attempt end t
preserves_deed m f i x (plain.commit now) end g t = preserves_commit m f x now x.attempt end t
preserves_deed m f i x (plain.fetch k) end g t = record { tracks = t; continued = tt }
preserves_deed m f i x (plain.snapshot k v) end g t = record { tracks = t; continued = tt }
preserves_deed m f i x (plain.snapshot_at_time k u) end g t = record { tracks = t; continued = tt }
preserves_deed m f i x (plain.subscribe k v) end g t = preserves_subscribe m f x k v (start_result m k v) end refl g t
preserves_deed m f i x (plain.take k max) end g t = preserves_take m f x k max (x.queues k) end refl g t
preserves_deed m f i x (plain.unsubscribe k) end g t = preserves_close m f x k (x.queues k) end t
preserves_deed m f i x (plain.forget k) end g t = record { tracks = t; continued = tt }

-- a step that fails to allocate reads nothing
unchanged_none : (f : PlainKey → Option QueuePosition) (act : StepKind) (end : Logs) → ((j : PlainKey) → position_after_step j act out_of_memory (f j) ≡ f j) × ContinuesFromPosition end f act out_of_memory
unchanged_none f (plain.begin k src seq v content) end = ((λ j. refl), tt)
unchanged_none f plain.work end = ((λ j. refl), tt)
unchanged_none f (plain.commit now) end = ((λ j. refl), tt)
unchanged_none f (plain.fetch k) end = ((λ j. refl), tt)
unchanged_none f (plain.snapshot k v) end = ((λ j. refl), tt)
unchanged_none f (plain.snapshot_at_time k t) end = ((λ j. refl), tt)
unchanged_none f (plain.subscribe k v) end = ((λ j. refl), tt)
unchanged_none f (plain.take k max) end = ((λ j. refl), tt)
unchanged_none f (plain.unsubscribe k) end = ((λ j. refl), tt)
unchanged_none f (plain.forget k) end = ((λ j. refl), tt)

-- ---- one step of all sessions, and runs

abbrev TracksAllQueues : (ℕ → PlainKey → Option QueuePosition) → SessionStates → Type 0
TracksAllQueues f w = (n : ℕ) → TracksQueues (f n) (w n)

-- the sessions after a step
record SessionsContinue (f : ℕ → PlainKey → Option QueuePosition) (s : PlainSessionStep) (a : PlainStepAnswer) (v : SessionStates) (end : Logs) : Type 0 where
  pub tracks : TracksAllQueues (positions_after_step f s a) v
  pub continued : ContinuesFromPosition end (f s.session) s.act a

-- the session of the step, or another one
track_at : (c : Bool) (i n : ℕ) (f : ℕ → PlainKey → Option QueuePosition) (act : StepKind) (a : PlainStepAnswer) (y x : SessionState) (j : PlainKey) → nat_eq i n ≡ c → ((j : PlainKey) → position_after_step j act a (f i j) ≡ y.queues j) → TracksQueues (f n) x
    → cond c (position_after_step j act a (f n j)) (f n j) ≡ (cond c y x).queues j
track_at true i n f act a y x j is h t = subst (λ (l : ℕ). position_after_step j act a (f l j) ≡ y.queues j) (eqb-true i n is) (h j)
track_at false i n f act a y x j is h t = t j

goes_with : (m n : OneStep) (f : ℕ → PlainKey → Option QueuePosition) (s : PlainSessionStep) (a : PlainStepAnswer) (w v : SessionStates) (y : SessionState) (end : Logs) → TracksAllQueues f w → EffectRelation m (effect m s.session (w s.session) s.act) a n y → v ≡ with_session w s.session y
    → ExtendsTo m end → SessionsContinue f s a v end
goes_with m n f s a w v y end t h put g =
    let d = effect m s.session (w s.session) s.act in
    let k : ContinuesAfterStep (f s.session) s.act a y end = unchanged_follows m n (f s.session) s.act d a y end (preserves_deed m (f s.session) s.session (w s.session) s.act end g (t s.session)) h in
    let all : TracksAllQueues (positions_after_step f s a) (with_session w s.session y) = λ i j. track_at (nat_eq s.session i) s.session i f s.act a y (w i) j refl k.tracks (t i) in
    record { tracks = subst (λ (u : SessionStates). TracksAllQueues (positions_after_step f s a) u) (sym put) all; continued = k.continued }

same_cond : (b : Bool) (o u : Option QueuePosition) → o ≡ u → cond b o u ≡ u
same_cond true o u e = e
same_cond false o u e = refl

sessions_continue : (m n : OneStep) (f : ℕ → PlainKey → Option QueuePosition) (s : PlainSessionStep) (a : PlainStepAnswer) (w v : SessionStates) (end : Logs) → TracksAllQueues f w → StepRelation m w s a n v → ExtendsTo m end → SessionsContinue f s a v end
sessions_continue m n f s (reply_answer r) w v end t h g = goes_with m n f s (reply_answer r) w v h.0 end t h.1 h.2 g
sessions_continue m n f s (notice_answer c) w v end t h g = goes_with m n f s (notice_answer c) w v h.0 end t h.1 h.2 g
sessions_continue m n f s out_of_memory w v end t h g =
    let all : TracksAllQueues (positions_after_step f s out_of_memory) w = λ i j. same_cond (nat_eq s.session i) (position_after_step j s.act out_of_memory (f i j)) (f i j) ((unchanged_none (f i) s.act end).0 j) ∙ t i j in
    record { tracks = subst (λ (u : SessionStates). TracksAllQueues (positions_after_step f s out_of_memory) u) (sym h.1) all; continued = (unchanged_none (f s.session) s.act end).1 }

continued_steps : (m n : OneStep) (f : ℕ → PlainKey → Option QueuePosition) (w v : SessionStates) (steps : List PlainSessionStep) (answers : List PlainStepAnswer) → TracksAllQueues f w → AreSteps m w steps answers n v → ContinuedFrom f steps answers n.logs
continued_steps m n f w v [] answers t h = tt
continued_steps m n f w v (s ∷ steps) [] t h = tt
continued_steps m n f w v (s ∷ steps) (a ∷ answers) t (o, mid, one, rest) =
    let g = sessions_continue m o f s a w mid n.logs t (step_relation m o w mid s a one) (λ k. grows_steps m n w v (s ∷ steps) (a ∷ answers) k (o, mid, one, rest)) in
    (g.continued, continued_steps o n (positions_after_step f s a) mid v steps answers g.tracks rest)

pub continued_all : (steps : List PlainSessionStep) (answers : List PlainStepAnswer) (events : List Event) (w : SessionStates) (logs : Logs) → Picks steps answers events w → Legal events (replies_in answers) logs → TakesContinue steps answers logs
continued_all steps answers events w logs picked legal =
    let run = legal_steps steps answers events w logs picked legal in
    subst (λ (l : Logs). TakesContinue steps answers l) run.2 (continued_steps empty_machine run.0 (λ n k. None) empty_sessions w steps answers (λ n k. refl) run.1)
