-- The entries that open queues have read.
use Rattle.std.proofs.Common.{◌≡◌, ℕ, ◌+◌, ◌≤◌, List, [], ◌∷◌, ◌++◌, length, take, drop, Bool, true, false, cond, nat_eq, nat_lt, Option, Some, None, Result, Ok, Err, IfSome, refl, sym, ap, ◌∙◌, subst, length-append, length-drop, arith}
use Rattle.std.proofs.lemmas.List.{take-append-le, drop-append-le, take-append-drop, length-take-le, drop-drop, length-take}
use Rattle.std.proofs.Math.Seq.{take-append_seam, take-append-add}
use Rattle.std.proofs.lemmas.Bool.{eqb-true}
use Rattle.std.proofs.lemmas.Bool.Decides.{nat_tests}
use Rattle.std.specs.Option.{option_map_or, unwrap_or}
use Rattle.sdb_oplog.specs.Plain.{PlainEntry}
use Rattle.sdb_oplog.specs.Keys.{PlainKey, Logs, keys_equal}
use Rattle.sdb_oplog.specs.Refusal.{result_and_then}
use Rattle.sdb_oplog.specs.declared.codes.Code.{Code}
use Rattle.sdb_oplog.specs.declared.codes.Code.TheVariants.{E1, E2, E3, E4, E5, E6, E7, E8, E9, E10, E11}
use Rattle.sdb_subscribe.specs.Queue.{queue}
use Rattle.sdb_steps.specs.QueuePosition.{QueuePosition, entries_at_position, advance_position}
use Rattle.sdb_desk.specs.laws.KeyLaws.{eq_of_keys_equal}
use Rattle.sdb_steps.specs.OneStep as machine
use Rattle.sdb_steps.specs.OneStep.{OneStep, Event, EventReply, subscribed, start_result, reply_to_event, machine_after_event}
use Rattle.sdb_steps.specs.Picks as plain
use Rattle.sdb_steps.specs.Picks.{SessionState, SessionStates, StepKind, PlainSessionStep, PlainStepAnswer, reply_answer, notice_answer, out_of_memory, Effect, event, notice, effect, replies_in, with_session, with_queue, with_attempt}
use Rattle.sdb_steps.proofs.StepLists.{AreSteps}
use Rattle.sdb_steps.specs.TakenEntries.{taken_after_step, taken_from, taken_entries, QueuesTakeAll}
use Rattle.sdb_steps.proofs.EventLemmas.{EffectRelation, StepRelation, step_relation, legal_steps}
use Rattle.sdb_steps.proofs.GrowthLemmas.{LogExtends, grows_next}

-- ---- lists

-- the queue has read these entries of the log
record HasTakenOfLog (log : List PlainEntry) (q : QueuePosition) (es : List PlainEntry) : Type 0 where
  pub within : q.start + q.taken ≤ length log
  pub same : es ≡ queue log q.start q.taken

on_grown : (old new : List PlainEntry) (q : QueuePosition) (es : List PlainEntry) → LogExtends old new → HasTakenOfLog old q es → HasTakenOfLog new q es
on_grown old new q es g h =
    let long : length new ≡ length old + length g.more = ap length g.is ∙ length-append old g.more in
    let begin : q.start ≤ length old = omega (arith, h.within) in
    let rest : q.taken ≤ length (drop q.start old) = omega (arith, h.within, length-drop q.start old) in
    record {
      within = omega (arith, h.within, long);
      same = h.same ∙ sym (ap (λ (l : List PlainEntry). take q.taken (drop q.start l)) g.is ∙ ap (take q.taken) (drop-append-le q.start old g.more begin) ∙ take-append-le q.taken (drop q.start old) g.more rest);
    }

pub take_taken : (max : ℕ) (xs : List PlainEntry) → take (length (take max xs)) xs ≡ take max xs
take_taken max xs = ap (take (length (take max xs))) (sym (take-append-drop max xs)) ∙ take-append_seam (take max xs) (drop max xs)

take_both : (t n : ℕ) (xs : List PlainEntry) → t ≤ length xs → take (t + n) xs ≡ take t xs ++ take n (drop t xs)
take_both t n xs h =
    let front : length (take t xs) ≡ t = length-take-le t xs h in
    ap (take (t + n)) (sym (take-append-drop t xs)) ∙ ap (λ (k : ℕ). take (k + n) (take t xs ++ drop t xs)) (sym front) ∙ take-append-add (take t xs) (drop t xs) n

on_taken : (log : List PlainEntry) (q : QueuePosition) (es : List PlainEntry) (max : ℕ) → HasTakenOfLog log q es → HasTakenOfLog log (advance_position log max q) (es ++ entries_at_position log max q)
on_taken log q es max h =
    let new = entries_at_position log max q in
    let rest : q.taken ≤ length (drop q.start log) = omega (arith, h.within, length-drop q.start log) in
    let few : length new ≤ length (drop (q.start + q.taken) log) = omega (arith, length-take max (drop (q.start + q.taken) log)) in
    let on : drop q.taken (drop q.start log) ≡ drop (q.start + q.taken) log = drop-drop q.taken q.start log in
    record {
      within = omega (arith, h.within, few, length-drop (q.start + q.taken) log);
      same =
          ap (λ (xs : List PlainEntry). xs ++ new) h.same
          ∙ sym (take_both q.taken (length new) (drop q.start log) rest ∙ ap (λ (xs : List PlainEntry). take q.taken (drop q.start log) ++ take (length new) xs) on ∙ ap (λ (xs : List PlainEntry). take q.taken (drop q.start log) ++ xs) (take_taken max (drop (q.start + q.taken) log)));
    }

-- ---- one step of a session

-- the entries of k that session x has read, for machine m
abbrev SessionHasTaken : OneStep → SessionState → PlainKey → List PlainEntry → Type 0
SessionHasTaken m x k es = (q : QueuePosition) → x.queues k ≡ Some q → HasTakenOfLog (m.logs k) q es

taken_of_extension : (m : OneStep) (e : Event) (x : SessionState) (k : PlainKey) (es : List PlainEntry) → SessionHasTaken m x k es → SessionHasTaken (machine_after_event m e) x k es
taken_of_extension m e x k es h q is = on_grown (m.logs k) ((machine_after_event m e).logs k) q es (grows_next m e k) (h q is)

-- an effect that neither opens nor advances a queue
abbrev QueuesUnchanged : SessionState → SessionState → Type 0
QueuesUnchanged x y = (k : PlainKey) (q : QueuePosition) → y.queues k ≡ Some q → x.queues k ≡ Some q

abbrev EffectKeepsQueues : SessionState → Effect → Type 0
EffectKeepsQueues x (event e y) = QueuesUnchanged x y
EffectKeepsQueues x (notice a y) = QueuesUnchanged x y

sub_follows : (m n : OneStep) (x y : SessionState) (d : Effect) (a : PlainStepAnswer) (k : PlainKey) (es : List PlainEntry) → EffectKeepsQueues x d → EffectRelation m d a n y → SessionHasTaken m x k es → SessionHasTaken n y k es
sub_follows m n x y (event e z) a k es sub h t =
    subst (λ (o : OneStep). SessionHasTaken o y k es) (sym h.1) (subst (λ (w : SessionState). SessionHasTaken (machine_after_event m e) w k es) (sym h.2) (λ q is. taken_of_extension m e x k es t q (sub k q is)))
sub_follows m n x y (notice b z) a k es sub h t =
    subst (λ (o : OneStep). SessionHasTaken o y k es) (sym h.1) (subst (λ (w : SessionState). SessionHasTaken m w k es) (sym h.2) (λ q is. t q (sub k q is)))

sub_begin : (x : SessionState) (new : plain.PlainOpenAttempt) (o : Option plain.PlainOpenAttempt) → EffectKeepsQueues x (option_map_or (λ a. notice plain.idle x) o (notice plain.began (with_attempt x (Some new))))
sub_begin x new None = λ j q is. is
sub_begin x new (Some a) = λ j q is. is

sub_worked : (x : SessionState) (a : plain.PlainOpenAttempt) (b : Bool) → EffectKeepsQueues x (cond b (notice plain.idle x) (notice plain.worked (with_attempt x (Some (plain.mark_worked a)))))
sub_worked x a true = λ j q is. is
sub_worked x a false = λ j q is. is

sub_work : (x : SessionState) (o : Option plain.PlainOpenAttempt) → EffectKeepsQueues x (option_map_or (λ a. cond a.is_worked (notice plain.idle x) (notice plain.worked (with_attempt x (Some (plain.mark_worked a))))) o (notice plain.idle x))
sub_work x None = λ j q is. is
sub_work x (Some a) = sub_worked x a a.is_worked

sub_commits : (m : OneStep) (x : SessionState) (now : ℕ) (a : plain.PlainOpenAttempt) (b : Bool) → EffectKeepsQueues x (cond b (event (machine.submission a.key a.submission now) (with_attempt x None)) (notice plain.moved (with_attempt x (Some (plain.look_again m a)))))
sub_commits m x now a true = λ j q is. is
sub_commits m x now a false = λ j q is. is

sub_commit : (m : OneStep) (x : SessionState) (now : ℕ) (o : Option plain.PlainOpenAttempt) → EffectKeepsQueues x (option_map_or (plain.commit_effect m x now) o (notice plain.idle x))
sub_commit m x now None = λ j q is. is
sub_commit m x now (Some a) = sub_commits m x now a (plain.is_deciding m a)

some_of_cond_none : (b : Bool) (o : Option QueuePosition) (q : QueuePosition) → cond b None o ≡ Some q → o ≡ Some q
some_of_cond_none true o q h = cc
some_of_cond_none false o q h = h

sub_unsubscribe : (x : SessionState) (k : PlainKey) (o : Option QueuePosition) → EffectKeepsQueues x (option_map_or (λ q. notice plain.unsubscribed (with_queue x k None)) o (notice plain.idle x))
sub_unsubscribe x k None = λ j q is. is
sub_unsubscribe x k (Some p) = λ j q is. some_of_cond_none (keys_equal k j) (x.queues j) q is

-- the queue at the key of the step, or another one
set_taken : (b : Bool) (log es new : List PlainEntry) (p q : QueuePosition) (o : Option QueuePosition) → (b ≡ true → HasTakenOfLog log p new) → ((r : QueuePosition) → o ≡ Some r → HasTakenOfLog log r es) → cond b (Some p) o ≡ Some q → HasTakenOfLog log q (cond b new es)
set_taken true log es new p q o f g h = let e : p ≡ q = cc in subst (λ (r : QueuePosition). HasTakenOfLog log r new) e (f refl)
set_taken false log es new p q o f g h = g q h

-- a start is at most the current version
pub start_not_late : (n v start : ℕ) (b c : Bool) → nat_lt n v ≡ b → result_and_then (λ s. cond c (Err E11) (Ok s)) (cond b (Err E4) (Ok v)) ≡ Ok start → start ≤ n
start_not_late n v start true c is h = absurd (cc)
start_not_late n v start false true is h = absurd (cc)
start_not_late n v start false false is h = let e : v ≡ start = cc in let k : v ≤ n = grind (arith, nat_tests) in omega arith

on_start : (m : OneStep) (e : Event) (k q : PlainKey) (start : ℕ) → keys_equal k q ≡ true → start ≤ length (m.logs k) → HasTakenOfLog ((machine_after_event m e).logs q) (record { start = start; taken = 0 }) []
on_start m e k q start is h =
    let here : start ≤ length (m.logs q) = subst (λ (x : PlainKey). start ≤ length (m.logs x)) (eq_of_keys_equal k q is) h in
    on_grown (m.logs q) ((machine_after_event m e).logs q) (record { start = start; taken = 0 }) [] (grows_next m e q) (record { within = omega arith; same = refl })

quiet_reply : (m : OneStep) (k j : PlainKey) (v : Option ℕ) (c : Code) (a : PlainStepAnswer) (es : List PlainEntry) → start_result m k v ≡ Err c → a ≡ reply_answer (reply_to_event m (machine.subscribe k v)) → taken_after_step j (plain.subscribe k v) a es ≡ es
quiet_reply m k j v c a es is h = ap (λ (b : PlainStepAnswer). taken_after_step j (plain.subscribe k v) b es) (h ∙ ap (λ (r : Result ℕ Code). reply_answer (subscribed r)) is)

refused_step : (m n : OneStep) (x y : SessionState) (k j : PlainKey) (v : Option ℕ) (c : Code) (a : PlainStepAnswer) (es : List PlainEntry) → start_result m k v ≡ Err c → EffectRelation m (plain.subscribe_effect x k v (Err c)) a n y
    → EffectKeepsQueues x (plain.subscribe_effect x k v (Err c)) × (taken_after_step j (plain.subscribe k v) a es ≡ es)
refused_step m n x y k j v E1 a es is h = ((λ i q p. p), quiet_reply m k j v E1 a es is h.0)
refused_step m n x y k j v E2 a es is h = ((λ i q p. p), quiet_reply m k j v E2 a es is h.0)
refused_step m n x y k j v E3 a es is h = ((λ i q p. p), quiet_reply m k j v E3 a es is h.0)
refused_step m n x y k j v E4 a es is h = ((λ i q p. p), quiet_reply m k j v E4 a es is h.0)
refused_step m n x y k j v E5 a es is h = ((λ i q p. p), quiet_reply m k j v E5 a es is h.0)
refused_step m n x y k j v E6 a es is h = ((λ i q p. p), quiet_reply m k j v E6 a es is h.0)
refused_step m n x y k j v E7 a es is h = ((λ i q p. p), quiet_reply m k j v E7 a es is h.0)
refused_step m n x y k j v E8 a es is h = ((λ i q p. p), quiet_reply m k j v E8 a es is h.0)
refused_step m n x y k j v E9 a es is h = ((λ i q p. p), quiet_reply m k j v E9 a es is h.0)
refused_step m n x y k j v E10 a es is h = ((λ i q p. p), quiet_reply m k j v E10 a es is h.0)
refused_step m n x y k j v E11 a es is h = ((λ i q p. p), ap (λ (b : PlainStepAnswer). taken_after_step j (plain.subscribe k v) b es) h.0)

subscribe_step : (m n : OneStep) (x y : SessionState) (k j : PlainKey) (v : Option ℕ) (r : Result ℕ Code) (a : PlainStepAnswer) (es : List PlainEntry) → start_result m k v ≡ r → EffectRelation m (plain.subscribe_effect x k v r) a n y → SessionHasTaken m x j es
    → SessionHasTaken n y j (taken_after_step j (plain.subscribe k v) a es)
subscribe_step m n x y k j v (Err c) a es is h t =
    let p = refused_step m n x y k j v c a es is h in
    subst (λ (l : List PlainEntry). SessionHasTaken n y j l) (sym p.1) (sub_follows m n x y (plain.subscribe_effect x k v (Err c)) a j es p.0 h t)
subscribe_step m n x y k j v (Ok start) a es is h t =
    let e = machine.subscribe k v in
    let z = with_queue x k (Some (record { start = start; taken = 0 })) in
    let within : start ≤ length (m.logs k) = start_not_late (length (m.logs k)) (unwrap_or v (length (m.logs k))) start _ _ refl is in
    let now : SessionHasTaken (machine_after_event m e) z j (cond (keys_equal k j) [] es) =
    λ q p. set_taken (keys_equal k j) ((machine_after_event m e).logs j) es [] (record { start = start; taken = 0 }) q (x.queues j) (λ b. on_start m e k j start b within) (taken_of_extension m e x j es t) p in
    let told : a ≡ reply_answer (subscribed (Ok start)) = h.0 ∙ ap (λ (r : Result ℕ Code). reply_answer (subscribed r)) is in
    subst (λ (b : PlainStepAnswer). SessionHasTaken n y j (taken_after_step j (plain.subscribe k v) b es)) (sym told)
    (subst (λ (o : OneStep). SessionHasTaken o y j (cond (keys_equal k j) [] es)) (sym h.1) (subst (λ (w : SessionState). SessionHasTaken (machine_after_event m e) w j (cond (keys_equal k j) [] es)) (sym h.2) now))

take_step : (m n : OneStep) (x y : SessionState) (k j : PlainKey) (max : ℕ) (o : Option QueuePosition) (a : PlainStepAnswer) (es : List PlainEntry) → x.queues k ≡ o → EffectRelation m (option_map_or (plain.take_effect m x k max) o (notice plain.idle x)) a n y
    → SessionHasTaken m x j es → SessionHasTaken n y j (taken_after_step j (plain.take k max) a es)
take_step m n x y k j max None a es is h t =
    subst (λ (b : PlainStepAnswer). SessionHasTaken n y j (taken_after_step j (plain.take k max) b es)) (sym h.0)
    (subst (λ (o : OneStep). SessionHasTaken o y j es) (sym h.1) (subst (λ (w : SessionState). SessionHasTaken m w j es) (sym h.2) t))
take_step m n x y k j max (Some p) a es is h t =
    let new = entries_at_position (m.logs k) max p in
    let on_by = advance_position (m.logs k) max p in
    let z = with_queue x k (Some on_by) in
    let on : keys_equal k j ≡ true → HasTakenOfLog (m.logs j) on_by (es ++ new) =
    λ b. subst (λ (i : PlainKey). HasTakenOfLog (m.logs i) on_by (es ++ new)) (eq_of_keys_equal k j b) (on_taken (m.logs k) p es max (subst (λ (i : PlainKey). SessionHasTaken m x i es) (sym (eq_of_keys_equal k j b)) t p is)) in
    let now : SessionHasTaken m z j (cond (keys_equal k j) (es ++ new) es) = λ q e. set_taken (keys_equal k j) (m.logs j) es (es ++ new) on_by q (x.queues j) on t e in
    subst (λ (b : PlainStepAnswer). SessionHasTaken n y j (taken_after_step j (plain.take k max) b es)) (sym h.0)
    (subst (λ (o : OneStep). SessionHasTaken o y j (cond (keys_equal k j) (es ++ new) es)) (sym h.1) (subst (λ (w : SessionState). SessionHasTaken m w j (cond (keys_equal k j) (es ++ new) es)) (sym h.2) now))

session_step : (m n : OneStep) (i : ℕ) (x y : SessionState) (act : StepKind) (a : PlainStepAnswer) (j : PlainKey) (es : List PlainEntry) → EffectRelation m (effect m i x act) a n y → SessionHasTaken m x j es → SessionHasTaken n y j (taken_after_step j act a es)
session_step m n i x y (plain.begin k src seq v content) a j es h t =
    sub_follows m n x y (effect m i x (plain.begin k src seq v content)) a j es (sub_begin x (plain.open_attempt m k (plain.submission_of_begin i k src seq v content)) x.attempt) h t
session_step m n i x y plain.work a j es h t = sub_follows m n x y (effect m i x plain.work) a j es (sub_work x x.attempt) h t
session_step m n i x y (plain.commit now) a j es h t = sub_follows m n x y (effect m i x (plain.commit now)) a j es (sub_commit m x now x.attempt) h t
session_step m n i x y (plain.fetch k) a j es h t = sub_follows m n x y (effect m i x (plain.fetch k)) a j es (λ i q p. p) h t
session_step m n i x y (plain.snapshot k v) a j es h t = sub_follows m n x y (effect m i x (plain.snapshot k v)) a j es (λ i q p. p) h t
session_step m n i x y (plain.snapshot_at_time k u) a j es h t = sub_follows m n x y (effect m i x (plain.snapshot_at_time k u)) a j es (λ i q p. p) h t
session_step m n i x y (plain.subscribe k v) a j es h t = subscribe_step m n x y k j v (start_result m k v) a es refl h t
session_step m n i x y (plain.take k max) a j es h t = take_step m n x y k j max (x.queues k) a es refl h t
session_step m n i x y (plain.unsubscribe k) a j es h t = sub_follows m n x y (effect m i x (plain.unsubscribe k)) a j es (sub_unsubscribe x k (x.queues k)) h t
session_step m n i x y (plain.forget k) a j es h t = sub_follows m n x y (effect m i x (plain.forget k)) a j es (λ i q p. p) h t

other_session : (m n : OneStep) (x z : SessionState) (d : Effect) (a : PlainStepAnswer) (j : PlainKey) (es : List PlainEntry) → EffectRelation m d a n x → SessionHasTaken m z j es → SessionHasTaken n z j es
other_session m n x z (event e y) a j es h t = subst (λ (o : OneStep). SessionHasTaken o z j es) (sym h.1) (taken_of_extension m e z j es t)
other_session m n x z (notice b y) a j es h t = subst (λ (o : OneStep). SessionHasTaken o z j es) (sym h.1) t

-- ---- one step of all sessions, and runs

abbrev SessionsHaveTaken : OneStep → SessionStates → (ℕ → PlainKey → List PlainEntry) → Type 0
SessionsHaveTaken m w f = (i : ℕ) (k : PlainKey) → SessionHasTaken m (w i) k (f i k)

abbrev taken_after : PlainSessionStep → PlainStepAnswer → (ℕ → PlainKey → List PlainEntry) → ℕ → PlainKey → List PlainEntry
taken_after s a f i k = cond (nat_eq s.session i) (taken_after_step k s.act a (f i k)) (f i k)

one_session : (m n : OneStep) (w : SessionStates) (s : PlainSessionStep) (a : PlainStepAnswer) (x : SessionState) (f : ℕ → PlainKey → List PlainEntry) (i : ℕ) (k : PlainKey) (b : Bool) → nat_eq s.session i ≡ b
    → EffectRelation m (effect m s.session (w s.session) s.act) a n x → SessionsHaveTaken m w f → SessionHasTaken n (cond b x (w i)) k (cond b (taken_after_step k s.act a (f i k)) (f i k))
one_session m n w s a x f i k true is h t =
    let here : SessionHasTaken m (w s.session) k (f i k) = subst (λ (j : ℕ). SessionHasTaken m (w j) k (f i k)) (sym (eqb-true s.session i is)) (t i k) in
    session_step m n s.session (w s.session) x s.act a k (f i k) h here
one_session m n w s a x f i k false is h t = other_session m n x (w i) (effect m s.session (w s.session) s.act) a k (f i k) h (t i k)

taken_done : (m n : OneStep) (w v : SessionStates) (s : PlainSessionStep) (a : PlainStepAnswer) (f : ℕ → PlainKey → List PlainEntry) (x : SessionState) → EffectRelation m (effect m s.session (w s.session) s.act) a n x → v ≡ with_session w s.session x
    → SessionsHaveTaken m w f → SessionsHaveTaken n v (taken_after s a f)
taken_done m n w v s a f x h put t =
    let new : SessionsHaveTaken n (with_session w s.session x) (taken_after s a f) = λ i k. one_session m n w s a x f i k (nat_eq s.session i) refl h t in
    subst (λ (u : SessionStates). SessionsHaveTaken n u (taken_after s a f)) (sym put) new

quiet_none : (k : PlainKey) (act : StepKind) (es : List PlainEntry) → taken_after_step k act out_of_memory es ≡ es
quiet_none k (plain.begin q src seq v content) es = refl
quiet_none k plain.work es = refl
quiet_none k (plain.commit now) es = refl
quiet_none k (plain.fetch q) es = refl
quiet_none k (plain.snapshot q v) es = refl
quiet_none k (plain.snapshot_at_time q t) es = refl
quiet_none k (plain.subscribe q v) es = refl
quiet_none k (plain.take q max) es = refl
quiet_none k (plain.unsubscribe q) es = refl
quiet_none k (plain.forget q) es = refl

same_cond : (b : Bool) (xs ys : List PlainEntry) → xs ≡ ys → cond b xs ys ≡ ys
same_cond true xs ys e = e
same_cond false xs ys e = refl

taken_comes : (m n : OneStep) (w v : SessionStates) (s : PlainSessionStep) (a : PlainStepAnswer) (f : ℕ → PlainKey → List PlainEntry) → StepRelation m w s a n v → SessionsHaveTaken m w f → SessionsHaveTaken n v (taken_after s a f)
taken_comes m n w v s (reply_answer r) f h t = taken_done m n w v s (reply_answer r) f h.0 h.1 h.2 t
taken_comes m n w v s (notice_answer b) f h t = taken_done m n w v s (notice_answer b) f h.0 h.1 h.2 t
taken_comes m n w v s out_of_memory f h t =
    let before : SessionsHaveTaken m w (taken_after s out_of_memory f) = λ i k. subst (λ (l : List PlainEntry). SessionHasTaken m (w i) k l) (sym (same_cond (nat_eq s.session i) (taken_after_step k s.act out_of_memory (f i k)) (f i k) (quiet_none k s.act (f i k)))) (t i k) in
    let there : SessionsHaveTaken m v (taken_after s out_of_memory f) = subst (λ (u : SessionStates). SessionsHaveTaken m u (taken_after s out_of_memory f)) (sym h.1) before in
    subst (λ (o : OneStep). SessionsHaveTaken o v (taken_after s out_of_memory f)) (sym h.0) there

taken_steps : (m n : OneStep) (w v : SessionStates) (steps : List PlainSessionStep) (answers : List PlainStepAnswer) (f : ℕ → PlainKey → List PlainEntry) → AreSteps m w steps answers n v → SessionsHaveTaken m w f
    → SessionsHaveTaken n v (λ i k. taken_from i k (f i k) steps answers)
taken_steps m n w v [] [] f h t = subst (λ (o : OneStep). SessionsHaveTaken o v f) (sym h.0) (subst (λ (u : SessionStates). SessionsHaveTaken m u f) (sym h.1) t)
taken_steps m n w v [] (a ∷ answers) f h t = absurd h
taken_steps m n w v (s ∷ steps) [] f h t = absurd h
taken_steps m n w v (s ∷ steps) (a ∷ answers) f (o, mid, one, rest) t = taken_steps o n mid v steps answers (taken_after s a f) rest (taken_comes m o w mid s a f (step_relation m o w mid s a one) t)

if_some : {A : Type 0} (o : Option A) (P : A → Type 0) → ((x : A) → o ≡ Some x → P x) → IfSome o P
if_some None P f = tt
if_some (Some x) P f = f x refl

pub took_all : (steps : List PlainSessionStep) (answers : List PlainStepAnswer) (events : List Event) (w : SessionStates) (logs : Logs) → plain.Picks steps answers events w → machine.Legal events (replies_in answers) logs → QueuesTakeAll steps answers w logs
took_all steps answers events w logs picked legal n k =
    let none : SessionsHaveTaken machine.empty_machine plain.empty_sessions (λ i k. []) = λ i k q e. absurd (cc) in
    let run = legal_steps steps answers events w logs picked legal in
    let t = taken_steps machine.empty_machine run.0 plain.empty_sessions w steps answers (λ i k. []) run.1 none n k in
    if_some ((w n).queues k) (λ q. taken_entries n k steps answers ≡ queue (logs k) q.start q.taken) (λ q is. (t q is).same ∙ ap (λ (f : Logs). queue (f k) q.start q.taken) run.2)
