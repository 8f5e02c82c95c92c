-- Logs only grow.
use Rattle.std.proofs.Common.{◌≡◌, ◌++◌, List, [], ◌∷◌, Bool, true, false, cond, refl, sym, ap, ◌∙◌, subst, append_assoc}
use Rattle.std.specs.Result.{is_ok}
use Rattle.sdb_oplog.specs.Plain.{PlainEntry}
use Rattle.sdb_oplog.specs.Keys.{PlainKey, Logs, keys_equal}
use Rattle.sdb_oplog.specs.Decide.{decide, IsMade}
use Rattle.sdb_oplog.specs.laws.LogLaws.{decide_extends, made_of_decide}
use Rattle.sdb_desk.specs.laws.KeyLaws.{eq_of_keys_equal}
use Rattle.sdb_steps.specs.OneStep as machine
use Rattle.sdb_steps.specs.OneStep.{OneStep, Event, start_result, machine_after_event, machine_after_events, empty_machine}
use Rattle.sdb_steps.specs.Picks.{SessionState, SessionStates, PlainSessionStep, PlainStepAnswer, reply_answer, notice_answer, out_of_memory, Effect, event, notice, effect}
use Rattle.sdb_steps.specs.Runs.{IsStep}
use Rattle.sdb_steps.proofs.StepLists.{AreSteps}
use Rattle.sdb_steps.proofs.RunLemmas.{append_nil}
use Rattle.sdb_steps.proofs.EventLemmas.{EffectRelation, StepRelation, step_relation}

pub record LogExtends (old new : List PlainEntry) : Type 0 where
  pub more : List PlainEntry
  pub is : new ≡ old ++ more

pub same_log : (log : List PlainEntry) → LogExtends log log
same_log log = record { more = []; is = sym (append_nil log) }

grows_then : (a b c : List PlainEntry) → LogExtends a b → LogExtends b c → LogExtends a c
grows_then a b c g h = record { more = g.more ++ h.more; is = h.is ∙ ap (λ (l : List PlainEntry). l ++ h.more) g.is ∙ append_assoc a g.more h.more }

-- ---- one event

grows_at : (b : Bool) (k q : PlainKey) (m : OneStep) (l : List PlainEntry) → keys_equal k q ≡ b → LogExtends (m.logs k) l → LogExtends (m.logs q) (cond b l (m.logs q))
grows_at true k q m l is h = subst (λ (x : PlainKey). LogExtends (m.logs x) l) (eq_of_keys_equal k q is) h
grows_at false k q m l is h = same_log (m.logs q)

same_logs : (b : Bool) (m n : OneStep) → n.logs ≡ m.logs → (cond b n m).logs ≡ m.logs
same_logs true m n e = e
same_logs false m n e = refl

-- a subscribe changes no log
assigned_logs : (m : OneStep) (k : PlainKey) (b : Bool) → (cond b (record { logs = m.logs; issued_ids = machine.with_id_issued m.issued_ids k }) m).logs ≡ m.logs
assigned_logs m k b = same_logs b m _ refl

pub grows_next : (m : OneStep) (e : Event) (k : PlainKey) → LogExtends (m.logs k) ((machine_after_event m e).logs k)
grows_next m (machine.submission q s now) k = let g = decide_extends (m.logs q) s now in grows_at (keys_equal q k) q k m (decide (m.logs q) s now).log refl (record { more = g.0; is = g.1 })
grows_next m (machine.fetch q) k = same_log (m.logs k)
grows_next m (machine.snapshot q v) k = same_log (m.logs k)
grows_next m (machine.snapshot_at_time q t) k = same_log (m.logs k)
grows_next m (machine.subscribe q v) k =
    let same : (machine_after_event m (machine.subscribe q v)).logs ≡ m.logs = assigned_logs m q (is_ok (start_result m q v)) in
    subst (λ (f : Logs). LogExtends (m.logs k) (f k)) (sym same) (same_log (m.logs k))
grows_next m (machine.take_from q from n) k = same_log (m.logs k)

-- ---- one step, and many

grows_follows : (m n : OneStep) (d : Effect) (a : PlainStepAnswer) (x : SessionState) (k : PlainKey) → EffectRelation m d a n x → LogExtends (m.logs k) (n.logs k)
grows_follows m n (event e y) a x k h = subst (λ (o : OneStep). LogExtends (m.logs k) (o.logs k)) (sym h.1) (grows_next m e k)
grows_follows m n (notice b y) a x k h = subst (λ (o : OneStep). LogExtends (m.logs k) (o.logs k)) (sym h.1) (same_log (m.logs k))

grows_comes : (m n : OneStep) (w v : SessionStates) (s : PlainSessionStep) (a : PlainStepAnswer) (k : PlainKey) → StepRelation m w s a n v → LogExtends (m.logs k) (n.logs k)
grows_comes m n w v s (reply_answer r) k h = grows_follows m n (effect m s.session (w s.session) s.act) (reply_answer r) h.0 k h.1
grows_comes m n w v s (notice_answer b) k h = grows_follows m n (effect m s.session (w s.session) s.act) (notice_answer b) h.0 k h.1
grows_comes m n w v s out_of_memory k h = subst (λ (o : OneStep). LogExtends (m.logs k) (o.logs k)) (sym h.0) (same_log (m.logs k))

pub grows_step : (m n : OneStep) (w v : SessionStates) (s : PlainSessionStep) (a : PlainStepAnswer) (k : PlainKey) → IsStep m w s a n v → LogExtends (m.logs k) (n.logs k)
grows_step m n w v s a k h = grows_comes m n w v s a k (step_relation m n w v s a h)

pub grows_steps : (m n : OneStep) (w v : SessionStates) (steps : List PlainSessionStep) (answers : List PlainStepAnswer) (k : PlainKey) → AreSteps m w steps answers n v → LogExtends (m.logs k) (n.logs k)
grows_steps m n w v [] [] k h = subst (λ (o : OneStep). LogExtends (m.logs k) (o.logs k)) (sym h.0) (same_log (m.logs k))
grows_steps m n w v [] (a ∷ answers) k h = absurd h
grows_steps m n w v (s ∷ steps) [] k h = absurd h
grows_steps m n w v (s ∷ steps) (a ∷ answers) k (o, mid, one, rest) = grows_then (m.logs k) (o.logs k) (n.logs k) (grows_step m o w mid s a k one) (grows_steps o n mid v steps answers k rest)

-- ---- made logs

made_at : (b : Bool) (l old : List PlainEntry) → IsMade l → IsMade old → IsMade (cond b l old)
made_at true l old h k = h
made_at false l old h k = k

made_next : (m : OneStep) (e : Event) → ((k : PlainKey) → IsMade (m.logs k)) → (k : PlainKey) → IsMade ((machine_after_event m e).logs k)
made_next m (machine.submission q s now) h k = made_at (keys_equal q k) (decide (m.logs q) s now).log (m.logs k) (made_of_decide (m.logs q) s now (h q)) (h k)
made_next m (machine.fetch q) h k = h k
made_next m (machine.snapshot q v) h k = h k
made_next m (machine.snapshot_at_time q t) h k = h k
made_next m (machine.subscribe q v) h k =
    let same : (machine_after_event m (machine.subscribe q v)).logs ≡ m.logs = assigned_logs m q (is_ok (start_result m q v)) in
    subst (λ (f : Logs). IsMade (f k)) (sym same) (h k)
made_next m (machine.take_from q from n) h k = h k

made_after : (m : OneStep) (events : List Event) → ((k : PlainKey) → IsMade (m.logs k)) → (k : PlainKey) → IsMade ((machine_after_events m events).logs k)
made_after m [] h k = h k
made_after m (e ∷ events) h k = made_after (machine_after_event m e) events (made_next m e h) k

pub made_all : (events : List Event) (k : PlainKey) → IsMade ((machine_after_events empty_machine events).logs k)
made_all events k = made_after empty_machine events (λ q. tt) k
