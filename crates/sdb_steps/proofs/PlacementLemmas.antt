-- Answers to commits are versions in the final logs.
use Rattle.std.proofs.Common.{◌≡◌, ℕ, ◌+◌, List, [], ◌∷◌, ◌++◌, Bool, true, false, cond, Option, Some, None, Result, Ok, Err, option_map, nat_eq, refl, sym, ap, ◌∙◌, subst}
use Rattle.std.proofs.lemmas.Bool.{eqb-true}
use Rattle.std.specs.Option.{option_map_or}
use Rattle.sdb_oplog.specs.Plain.{PlainEntry, PlainContent, PlainSubmission}
use Rattle.sdb_oplog.specs.Keys.{PlainKey, Logs}
use Rattle.sdb_oplog.specs.Snap.{stored_at, has_identifier}
use Rattle.sdb_oplog.specs.Decide.{decide, rebased_content, append_decided, PlainReply, stored, repeated, refused}
use Rattle.sdb_oplog.specs.laws.LogLaws.{decides_repeat}
use Rattle.sdb_oplog.specs.declared.codes.Code.{Code}
use Rattle.sdb_oplog.specs.declared.codes.Code.TheVariants.{E1, E2, E3, E4, E5, E6, E7, E8, E9, E10, E11}
use Rattle.sdb_steps.specs.QueuePosition.{QueuePosition}
use Rattle.sdb_desk.specs.laws.KeyLaws.{keys_equal_refl}
use Rattle.sdb_steps.specs.OneStep as machine
use Rattle.sdb_steps.specs.OneStep.{OneStep, Event, Legal, empty_machine, decided, start_result, machine_after_event}
use Rattle.sdb_steps.specs.Picks as plain
use Rattle.sdb_steps.specs.Picks.{PlainOpenAttempt, SessionState, SessionStates, StepKind, PlainSessionStep, PlainStepAnswer, reply_answer, notice_answer, out_of_memory, Effect, event, notice, effect, replies_in, Picks, empty_sessions, with_attempt, with_session}
use Rattle.sdb_steps.proofs.StepLists.{AreSteps}
use Rattle.sdb_steps.specs.Placement.{BegunSubmission, begun_after_step, IsPlacedAt, with_begun, PlacedFrom, SubmissionsArePlaced}
use Rattle.sdb_steps.proofs.EventLemmas.{EffectRelation, StepRelation, step_relation, legal_steps}
use Rattle.sdb_steps.proofs.GrowthLemmas.{LogExtends, grows_steps}
use Rattle.sdb_steps.proofs.MadeLemmas.{resent_all}

-- ---- one decision

-- a first position stays the first in a longer log
first_stays : (b : Bool) (o p : Option ℕ) (v : ℕ) → ((i : ℕ) → o ≡ Some i → p ≡ Some i) → cond b (Some 0) (option_map (λ i. i + 1) o) ≡ Some v → cond b (Some 0) (option_map (λ i. i + 1) p) ≡ Some v
first_stays true o p v f h = h
first_stays false None p v f h = cc
first_stays false (Some i) p v f h = ap (option_map (λ i. i + 1)) (f i refl) ∙ h

place_stays : (src : List ℕ) (seq : ℕ) (log more : List PlainEntry) (v : ℕ) → stored_at src seq log ≡ Some v → stored_at src seq (log ++ more) ≡ Some v
place_stays src seq [] more v h = cc
place_stays src seq (e ∷ log) more v h = first_stays (has_identifier src seq e) (stored_at src seq log) (stored_at src seq (log ++ more)) v (λ i k. place_stays src seq log more i k) h

never_repeats : (log : List PlainEntry) (s : PlainSubmission) (now : ℕ) (r : Result PlainContent Code) (v : ℕ) → (append_decided log s now r).reply ≡ repeated v → ⊥
never_repeats log s now (Ok m) v h = cc
never_repeats log s now (Err c) v h = cc

repeat_by : (log : List PlainEntry) (s : PlainSubmission) (now v : ℕ) (o : Option ℕ) → (option_map_or (λ i. record { reply = repeated i; log = log }) o (append_decided log s now (rebased_content log s))).reply ≡ repeated v → o ≡ Some v
repeat_by log s now v None h = absurd (never_repeats log s now (rebased_content log s) v h)
repeat_by log s now v (Some i) h = let same : i ≡ v = cc in ap Some same

-- a duplicate is at its answer's version
repeat_at : (log : List PlainEntry) (s : PlainSubmission) (now v : ℕ) → (decide log s now).reply ≡ repeated v → stored_at s.src s.seq log ≡ Some v
repeat_at log s now v h = repeat_by log s now v (stored_at s.src s.seq log) h

abbrev begun_of : PlainOpenAttempt → BegunSubmission
begun_of a = record { key = a.key; src = a.submission.src; seq = a.submission.seq }

-- a decision on a log, seen in a longer log
placed_reply : (k : PlainKey) (log more : List PlainEntry) (s : PlainSubmission) (now : ℕ) (end : Logs) (r : PlainReply) → (decide log s now).reply ≡ r → end k ≡ (decide log s now).log ++ more
    → IsPlacedAt end (Some (record { key = k; src = s.src; seq = s.seq })) (plain.commit now) (reply_answer (decided r))
placed_reply k log more s now end (stored v missed) h is =
    let again = resent_all log missed more s s now now v h refl refl in
    ap (stored_at s.src s.seq) is ∙ repeat_at ((decide log s now).log ++ more) s now v (ap (λ d. d.reply) again)
placed_reply k log more s now end (repeated v) h is =
    let there = repeat_at log s now v h in
    let same : (decide log s now).log ≡ log = ap (λ d. d.log) (decides_repeat log s now v there) in
    ap (stored_at s.src s.seq) (is ∙ ap (λ (l : List PlainEntry). l ++ more) same) ∙ place_stays s.src s.seq log more v there
placed_reply k log more s now end (refused c) h is = tt

placed_next : (m : OneStep) (now : ℕ) (a : PlainOpenAttempt) (end : Logs) → LogExtends ((machine_after_event m (machine.submission a.key a.submission now)).logs a.key) (end a.key)
    → IsPlacedAt end (Some (begun_of a)) (plain.commit now) (reply_answer (machine.reply_to_event m (machine.submission a.key a.submission now)))
placed_next m now a end g =
    let d = decide (m.logs a.key) a.submission now in
    let here : (machine_after_event m (machine.submission a.key a.submission now)).logs a.key ≡ d.log = ap (λ (b : Bool). cond b d.log (m.logs a.key)) (keys_equal_refl a.key) in
    placed_reply a.key (m.logs a.key) g.more a.submission now end d.reply refl (g.is ∙ ap (λ (l : List PlainEntry). l ++ g.more) here)

-- ---- one step of a session

-- the tracked submission of a session is its attempt's
abbrev TracksBegun : Option BegunSubmission → SessionState → Type 0
TracksBegun b x = b ≡ option_map begun_of x.attempt

abbrev ExtendsTo : OneStep → Logs → Type 0
ExtendsTo m end = (k : PlainKey) → LogExtends (m.logs k) (end k)

record PlacedAfterStep (b : Option BegunSubmission) (act : StepKind) (a : PlainStepAnswer) (y : SessionState) (end : Logs) : Type 0 where
  pub tracks : TracksBegun (begun_after_step act a b) y
  pub placed : IsPlacedAt end b act a

-- the statement for one step, by the step's effect
abbrev EffectPlaces : OneStep → Option BegunSubmission → StepKind → Effect → Logs → Type 0
EffectPlaces m b act (event e y) end = ExtendsTo (machine_after_event m e) end → PlacedAfterStep b act (reply_answer (machine.reply_to_event m e)) y end
EffectPlaces m b act (notice n y) end = PlacedAfterStep b act (notice_answer n) y end

unchanged_follows : (m n : OneStep) (b : Option BegunSubmission) (act : StepKind) (d : Effect) (a : PlainStepAnswer) (y : SessionState) (end : Logs) → EffectPlaces m b act d end → EffectRelation m d a n y → ExtendsTo n end → PlacedAfterStep b act a y end
unchanged_follows m n b act (event e z) a y end k h g =
    let now = k (subst (λ (o : OneStep). ExtendsTo o end) h.1 g) in
    subst (λ (c : PlainStepAnswer). PlacedAfterStep b act c y end) (sym h.0) (subst (λ (x : SessionState). PlacedAfterStep b act (reply_answer (machine.reply_to_event m e)) x end) (sym h.2) now)
unchanged_follows m n b act (notice c z) a y end k h g =
    subst (λ (c : PlainStepAnswer). PlacedAfterStep b act c y end) (sym h.0) (subst (λ (x : SessionState). PlacedAfterStep b act (notice_answer c) x end) (sym h.2) k)

preserves_begin : (m : OneStep) (b : Option BegunSubmission) (i : ℕ) (x : SessionState) (k : PlainKey) (src : List ℕ) (seq : ℕ) (v : Option ℕ) (content : PlainContent) (o : Option PlainOpenAttempt) (end : Logs) → TracksBegun b x
    → EffectPlaces m b (plain.begin k src seq v content) (option_map_or (λ a. notice plain.idle x) o (notice plain.began (with_attempt x (Some (plain.open_attempt m k (plain.submission_of_begin i k src seq v content)))))) end
preserves_begin m b i x k src seq v content None end t = record { tracks = refl; placed = tt }
preserves_begin m b i x k src seq v content (Some a) end t = record { tracks = t; placed = tt }

preserves_worked : (m : OneStep) (b : Option BegunSubmission) (x : SessionState) (a : PlainOpenAttempt) (c : Bool) (end : Logs) → x.attempt ≡ Some a → TracksBegun b x
    → EffectPlaces m b plain.work (cond c (notice plain.idle x) (notice plain.worked (with_attempt x (Some (plain.mark_worked a))))) end
preserves_worked m b x a true end is t = record { tracks = t; placed = tt }
preserves_worked m b x a false end is t = record { tracks = t ∙ ap (option_map begun_of) is; placed = tt }

preserves_work : (m : OneStep) (b : Option BegunSubmission) (x : SessionState) (o : Option PlainOpenAttempt) (end : Logs) → x.attempt ≡ o → TracksBegun b x
    → EffectPlaces m b plain.work (option_map_or (λ a. cond a.is_worked (notice plain.idle x) (notice plain.worked (with_attempt x (Some (plain.mark_worked a))))) o (notice plain.idle x)) end
preserves_work m b x None end is t = record { tracks = t; placed = tt }
preserves_work m b x (Some a) end is t = preserves_worked m b x a a.is_worked end is t

preserves_tried : (m : OneStep) (b : Option BegunSubmission) (x : SessionState) (now : ℕ) (a : PlainOpenAttempt) (c : Bool) (end : Logs) → b ≡ Some (begun_of a)
    → EffectPlaces m b (plain.commit now) (cond c (event (machine.submission a.key a.submission now) (with_attempt x None)) (notice plain.moved (with_attempt x (Some (plain.look_again m a))))) end
preserves_tried m b x now a true end is =
    λ g. record { tracks = refl; placed = subst (λ (c : Option BegunSubmission). IsPlacedAt end c (plain.commit now) (reply_answer (machine.reply_to_event m (machine.submission a.key a.submission now)))) (sym is) (placed_next m now a end (g a.key)) }
preserves_tried m b x now a false end is = record { tracks = is; placed = tt }

preserves_commit : (m : OneStep) (b : Option BegunSubmission) (x : SessionState) (now : ℕ) (o : Option PlainOpenAttempt) (end : Logs) → x.attempt ≡ o → TracksBegun b x
    → EffectPlaces m b (plain.commit now) (option_map_or (plain.commit_effect m x now) o (notice plain.idle x)) end
preserves_commit m b x now None end is t = record { tracks = t; placed = tt }
preserves_commit m b x now (Some a) end is t = preserves_tried m b x now a (plain.is_deciding m a) end (t ∙ ap (option_map begun_of) is)

preserves_subscribe : (m : OneStep) (b : Option BegunSubmission) (x : SessionState) (k : PlainKey) (v : Option ℕ) (r : Result ℕ Code) (end : Logs) → TracksBegun b x → EffectPlaces m b (plain.subscribe k v) (plain.subscribe_effect x k v r) end
preserves_subscribe m b x k v (Ok start) end t = λ g. record { tracks = t; placed = tt }
preserves_subscribe m b x k v (Err E1) end t = λ g. record { tracks = t; placed = tt }
preserves_subscribe m b x k v (Err E2) end t = λ g. record { tracks = t; placed = tt }
preserves_subscribe m b x k v (Err E3) end t = λ g. record { tracks = t; placed = tt }
preserves_subscribe m b x k v (Err E4) end t = λ g. record { tracks = t; placed = tt }
preserves_subscribe m b x k v (Err E5) end t = λ g. record { tracks = t; placed = tt }
preserves_subscribe m b x k v (Err E6) end t = λ g. record { tracks = t; placed = tt }
preserves_subscribe m b x k v (Err E7) end t = λ g. record { tracks = t; placed = tt }
preserves_subscribe m b x k v (Err E8) end t = λ g. record { tracks = t; placed = tt }
preserves_subscribe m b x k v (Err E9) end t = λ g. record { tracks = t; placed = tt }
preserves_subscribe m b x k v (Err E10) end t = λ g. record { tracks = t; placed = tt }
preserves_subscribe m b x k v (Err E11) end t = record { tracks = t; placed = tt }

preserves_take : (m : OneStep) (b : Option BegunSubmission) (x : SessionState) (k : PlainKey) (max : ℕ) (o : Option QueuePosition) (end : Logs) → TracksBegun b x → EffectPlaces m b (plain.take k max) (option_map_or (plain.take_effect m x k max) o (notice plain.idle x)) end
preserves_take m b x k max None end t = record { tracks = t; placed = tt }
preserves_take m b x k max (Some q) end t = λ g. record { tracks = t; placed = tt }

preserves_close : (m : OneStep) (b : Option BegunSubmission) (x : SessionState) (k : PlainKey) (o : Option QueuePosition) (end : Logs) → TracksBegun b x
    → EffectPlaces m b (plain.unsubscribe k) (option_map_or (λ q. notice plain.unsubscribed (plain.with_queue x k None)) o (notice plain.idle x)) end
preserves_close m b x k None end t = record { tracks = t; placed = tt }
preserves_close m b x k (Some q) end t = record { tracks = t; placed = tt }

preserves_deed : (m : OneStep) (b : Option BegunSubmission) (i : ℕ) (x : SessionState) (act : StepKind) (end : Logs) → TracksBegun b x → EffectPlaces m b act (effect m i x act) end
preserves_deed m b i x (plain.begin k src seq v content) end t = preserves_begin m b i x k src seq v content x.attempt end t
preserves_deed m b i x plain.work end t = preserves_work m b x x.attempt end refl t
preserves_deed m b i x (plain.commit now) end t = preserves_commit m b x now x.attempt end refl t
preserves_deed m b i x (plain.fetch k) end t = λ g. record { tracks = t; placed = tt }
preserves_deed m b i x (plain.snapshot k v) end t = λ g. record { tracks = t; placed = tt }
preserves_deed m b i x (plain.snapshot_at_time k u) end t = λ g. record { tracks = t; placed = tt }
preserves_deed m b i x (plain.subscribe k v) end t = preserves_subscribe m b x k v (start_result m k v) end t
preserves_deed m b i x (plain.take k max) end t = preserves_take m b x k max (x.queues k) end t
preserves_deed m b i x (plain.unsubscribe k) end t = preserves_close m b x k (x.queues k) end t
preserves_deed m b i x (plain.forget k) end t = record { tracks = t; placed = tt }

-- a step that fails to allocate begins and places nothing
unchanged_none : (b : Option BegunSubmission) (x : SessionState) (act : StepKind) (end : Logs) → TracksBegun b x → PlacedAfterStep b act out_of_memory x end
unchanged_none b x (plain.begin k src seq v content) end t = record { tracks = t; placed = tt }
unchanged_none b x plain.work end t = record { tracks = t; placed = tt }
unchanged_none b x (plain.commit now) end t = record { tracks = t; placed = tt }
unchanged_none b x (plain.fetch k) end t = record { tracks = t; placed = tt }
unchanged_none b x (plain.snapshot k v) end t = record { tracks = t; placed = tt }
unchanged_none b x (plain.snapshot_at_time k u) end t = record { tracks = t; placed = tt }
unchanged_none b x (plain.subscribe k v) end t = record { tracks = t; placed = tt }
unchanged_none b x (plain.take k max) end t = record { tracks = t; placed = tt }
unchanged_none b x (plain.unsubscribe k) end t = record { tracks = t; placed = tt }
unchanged_none b x (plain.forget k) end t = record { tracks = t; placed = tt }

-- ---- one step of all sessions, and runs

abbrev TracksAllBegun : (ℕ → Option BegunSubmission) → SessionStates → Type 0
TracksAllBegun f w = (n : ℕ) → TracksBegun (f n) (w n)

-- the sessions after a step that leaves its own session as y
record SessionsPlaced (f : ℕ → Option BegunSubmission) (s : PlainSessionStep) (a : PlainStepAnswer) (v : SessionStates) (end : Logs) : Type 0 where
  pub tracks : TracksAllBegun (with_begun f s.session (begun_after_step s.act a (f s.session))) v
  pub placed : IsPlacedAt end (f s.session) s.act a

track_at : (c : Bool) (b d : Option BegunSubmission) (y x : SessionState) → TracksBegun b y → TracksBegun d x → TracksBegun (cond c b d) (cond c y x)
track_at true b d y x t u = t
track_at false b d y x t u = u

goes_unchanged : (f : ℕ → Option BegunSubmission) (s : PlainSessionStep) (a : PlainStepAnswer) (w v : SessionStates) (y : SessionState) (end : Logs) → TracksAllBegun f w → v ≡ with_session w s.session y → PlacedAfterStep (f s.session) s.act a y end → SessionsPlaced f s a v end
goes_unchanged f s a w v y end t put k =
    let all : TracksAllBegun (with_begun f s.session (begun_after_step s.act a (f s.session))) (with_session w s.session y) =
    λ n. track_at (nat_eq s.session n) (begun_after_step s.act a (f s.session)) (f n) y (w n) k.tracks (t n) in
    record { tracks = subst (λ (u : SessionStates). TracksAllBegun (with_begun f s.session (begun_after_step s.act a (f s.session))) u) (sym put) all; placed = k.placed }

goes_with : (m n : OneStep) (f : ℕ → Option BegunSubmission) (s : PlainSessionStep) (a : PlainStepAnswer) (w v : SessionStates) (y : SessionState) (end : Logs) → TracksAllBegun f w → EffectRelation m (effect m s.session (w s.session) s.act) a n y → v ≡ with_session w s.session y → ExtendsTo n end → SessionsPlaced f s a v end
goes_with m n f s a w v y end t h put g =
    goes_unchanged f s a w v y end t put (unchanged_follows m n (f s.session) s.act (effect m s.session (w s.session) s.act) a y end (preserves_deed m (f s.session) s.session (w s.session) s.act end (t s.session)) h g)

-- a session replaced by itself
track_same : (c : Bool) (i n : ℕ) (b : Option BegunSubmission) (f : ℕ → Option BegunSubmission) (w : SessionStates) → nat_eq i n ≡ c → TracksBegun b (w i) → TracksAllBegun f w → TracksBegun (cond c b (f n)) (w n)
track_same true i n b f w is t all = subst (λ (j : ℕ). TracksBegun b (w j)) (eqb-true i n is) t
track_same false i n b f w is t all = all n

sessions_placed : (m n : OneStep) (f : ℕ → Option BegunSubmission) (s : PlainSessionStep) (a : PlainStepAnswer) (w v : SessionStates) (end : Logs) → TracksAllBegun f w → StepRelation m w s a n v → ExtendsTo n end → SessionsPlaced f s a v end
sessions_placed m n f s (reply_answer r) w v end t h g = goes_with m n f s (reply_answer r) w v h.0 end t h.1 h.2 g
sessions_placed m n f s (notice_answer c) w v end t h g = goes_with m n f s (notice_answer c) w v h.0 end t h.1 h.2 g
sessions_placed m n f s out_of_memory w v end t h g =
    let k = unchanged_none (f s.session) (w s.session) s.act end (t s.session) in
    let b = begun_after_step s.act out_of_memory (f s.session) in
    let all : TracksAllBegun (with_begun f s.session b) w = λ j. track_same (nat_eq s.session j) s.session j b f w refl k.tracks t in
    record { tracks = subst (λ (u : SessionStates). TracksAllBegun (with_begun f s.session b) u) (sym h.1) all; placed = k.placed }

placed_steps : (m n : OneStep) (f : ℕ → Option BegunSubmission) (w v : SessionStates) (steps : List PlainSessionStep) (answers : List PlainStepAnswer) → TracksAllBegun f w → AreSteps m w steps answers n v → PlacedFrom f steps answers n.logs
placed_steps m n f w v [] answers t h = tt
placed_steps m n f w v (s ∷ steps) [] t h = tt
placed_steps m n f w v (s ∷ steps) (a ∷ answers) t (o, mid, one, rest) =
    let g = sessions_placed m o f s a w mid n.logs t (step_relation m o w mid s a one) (λ k. grows_steps o n mid v steps answers k rest) in
    (g.placed, placed_steps o n (with_begun f s.session (begun_after_step s.act a (f s.session))) mid v steps answers g.tracks rest)

pub placed_all : (steps : List PlainSessionStep) (answers : List PlainStepAnswer) (events : List Event) (w : SessionStates) (logs : Logs) → Picks steps answers events w → Legal events (replies_in answers) logs → SubmissionsArePlaced steps answers logs
placed_all steps answers events w logs picked legal =
    let run = legal_steps steps answers events w logs picked legal in
    subst (λ (l : Logs). SubmissionsArePlaced steps answers l) run.2 (placed_steps empty_machine run.0 (λ n. None) empty_sessions w steps answers (λ n. refl) run.1)
