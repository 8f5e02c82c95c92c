-- The outcome of a step, and runs step by step.
use Rattle.std.proofs.Common.{◌≡◌, List, [], ◌∷◌, ◌++◌, refl, sym, ap, ◌∙◌, subst, append_assoc}
use Rattle.sdb_oplog.specs.Keys.{Logs}
use Rattle.sdb_steps.specs.OneStep.{OneStep, Event, EventReply, Legal, empty_machine, reply_to_event, machine_after_event, replies_to_events, machine_after_events}
use Rattle.sdb_steps.specs.Picks.{SessionState, SessionStates, PlainSessionStep, PlainStepAnswer, reply_answer, notice_answer, out_of_memory, reply_in, replies_in, Effect, event, notice, effect, IsEffectOutcome, PicksOne, PicksAfter, Picks, with_session, empty_sessions}
use Rattle.sdb_steps.specs.Runs.{IsStep}
use Rattle.sdb_steps.proofs.StepLists.{AreSteps}
use Rattle.sdb_steps.proofs.RunLemmas.{after_more, replies_more, append_nil}

-- ---- runs by the events after each step

abbrev PicksAt : OneStep → SessionStates → List PlainSessionStep → List PlainStepAnswer → List Event → SessionStates → Type 0
PicksAt m w [] [] events v = (events ≡ []) × (v ≡ w)
PicksAt m w [] (answer ∷ answers) events v = ⊥
PicksAt m w (s ∷ steps) [] events v = ⊥
PicksAt m w (s ∷ steps) (answer ∷ answers) events v =
    (now : List Event) × (later : List Event) × (mid : SessionStates) × (events ≡ now ++ later) × PicksOne m w s answer now mid × PicksAt (machine_after_events m now) mid steps answers later v

record PicksSplit (past : List Event) (w : SessionStates) (steps : List PlainSessionStep) (answers : List PlainStepAnswer) (events : List Event) (v : SessionStates) : Type 0 where
  pub later : List Event
  pub split : events ≡ past ++ later
  pub picks : PicksAt (machine_after_events empty_machine past) w steps answers later v

picks_split : (past : List Event) (w v : SessionStates) (steps : List PlainSessionStep) (answers : List PlainStepAnswer) (events : List Event) → PicksAfter past w steps answers events v → PicksSplit past w steps answers events v
picks_split past w v [] [] events h = record { later = []; split = h.0 ∙ sym (append_nil past); picks = (refl, h.1) }
picks_split past w v [] (a ∷ answers) events h = absurd h
picks_split past w v (s ∷ steps) [] events h = absurd h
picks_split past w v (s ∷ steps) (a ∷ answers) events (more, mid, one, rest) =
    let f = picks_split (past ++ more) mid v steps answers events rest in
    let on : PicksAt (machine_after_events (machine_after_events empty_machine past) more) mid steps answers f.later v = subst (λ (m : OneStep). PicksAt m mid steps answers f.later v) (after_more empty_machine past more) f.picks in
    record { later = more ++ f.later; split = f.split ∙ append_assoc past more f.later; picks = (more, f.later, mid, refl, one, on) }

-- ---- runs step by step

record RepliesSplit (m : OneStep) (a : PlainStepAnswer) (now : List Event) (rs ts : List EventReply) : Type 0 where
  pub told : replies_to_events m now ≡ reply_in a
  pub rest : rs ≡ ts

replies_split_done : (m : OneStep) (d : Effect) (a : PlainStepAnswer) (now : List Event) (x : SessionState) (rs ts : List EventReply) → IsEffectOutcome d a now x → replies_to_events m now ++ rs ≡ reply_in a ++ ts → RepliesSplit m a now rs ts
replies_split_done m (event e y) a now x rs ts (r, is, one, put) h =
    let k : reply_to_event m e ∷ rs ≡ r ∷ ts = ap (λ (es : List Event). replies_to_events m es ++ rs) (sym one) ∙ h ∙ ap (λ (b : PlainStepAnswer). reply_in b ++ ts) is in
    let same : reply_to_event m e ≡ r = cc in
    let rest : rs ≡ ts = cc in
    record { told = ap (replies_to_events m) one ∙ ap (λ (q : EventReply). q ∷ []) same ∙ sym (ap reply_in is); rest = rest }
replies_split_done m (notice b y) a now x rs ts (is, none, put) h =
    let rest : rs ≡ ts = ap (λ (es : List Event). replies_to_events m es ++ rs) (sym none) ∙ h ∙ ap (λ (b : PlainStepAnswer). reply_in b ++ ts) is in
    record { told = ap (replies_to_events m) none ∙ sym (ap reply_in is); rest = rest }

replies_split_one : (m : OneStep) (w v : SessionStates) (s : PlainSessionStep) (a : PlainStepAnswer) (now : List Event) (rs ts : List EventReply) → PicksOne m w s a now v → replies_to_events m now ++ rs ≡ reply_in a ++ ts → RepliesSplit m a now rs ts
replies_split_one m w v s (reply_answer r) now rs ts p h = replies_split_done m (effect m s.session (w s.session) s.act) (reply_answer r) now p.0 rs ts p.1 h
replies_split_one m w v s (notice_answer b) now rs ts p h = replies_split_done m (effect m s.session (w s.session) s.act) (notice_answer b) now p.0 rs ts p.1 h
replies_split_one m w v s out_of_memory now rs ts p h = record { told = ap (replies_to_events m) p.1; rest = ap (λ (es : List Event). replies_to_events m es ++ rs) (sym p.1) ∙ h }

steps_from : (m : OneStep) (w v : SessionStates) (steps : List PlainSessionStep) (answers : List PlainStepAnswer) (events : List Event) → PicksAt m w steps answers events v → replies_to_events m events ≡ replies_in answers
    → AreSteps m w steps answers (machine_after_events m events) v
steps_from m w v [] [] events h r = (ap (machine_after_events m) h.0, h.1)
steps_from m w v [] (a ∷ answers) events h r = absurd h
steps_from m w v (s ∷ steps) [] events h r = absurd h
steps_from m w v (s ∷ steps) (a ∷ answers) events (now, later, mid, split, one, rest) r =
    let both : replies_to_events m now ++ replies_to_events (machine_after_events m now) later ≡ reply_in a ++ replies_in answers = sym (replies_more m now later) ∙ ap (replies_to_events m) (sym split) ∙ r in
    let t = replies_split_one m w mid s a now (replies_to_events (machine_after_events m now) later) (replies_in answers) one both in
    let on : AreSteps (machine_after_events m now) mid steps answers (machine_after_events m events) v =
    subst (λ (n : OneStep). AreSteps (machine_after_events m now) mid steps answers n v) (sym (ap (machine_after_events m) split ∙ after_more m now later)) (steps_from (machine_after_events m now) mid v steps answers later rest t.rest) in
    (machine_after_events m now, mid, (now, one, t.told, refl), on)

-- a run step by step, and its final logs
pub legal_steps : (steps : List PlainSessionStep) (answers : List PlainStepAnswer) (events : List Event) (w : SessionStates) (logs : Logs) → Picks steps answers events w → Legal events (replies_in answers) logs
    → (n : OneStep) × AreSteps empty_machine empty_sessions steps answers n w × (n.logs ≡ logs)
legal_steps steps answers events w logs picked legal =
    let f = picks_split [] empty_sessions w steps answers events picked in
    let told : replies_to_events empty_machine f.later ≡ replies_in answers = ap (replies_to_events empty_machine) (sym f.split) ∙ legal.replies_are in
    (machine_after_events empty_machine f.later, steps_from empty_machine empty_sessions w steps answers f.later f.picks told, ap (λ (es : List Event). (machine_after_events empty_machine es).logs) (sym f.split) ∙ legal.logs_are)

-- ---- the outcome of a step

-- the answer, the machine and the session that follow from an effect
abbrev pub EffectRelation : OneStep → Effect → PlainStepAnswer → OneStep → SessionState → Type 0
EffectRelation m (event e y) answer n x = (answer ≡ reply_answer (reply_to_event m e)) × (n ≡ machine_after_event m e) × (x ≡ y)
EffectRelation m (notice a y) answer n x = (answer ≡ notice_answer a) × (n ≡ m) × (x ≡ y)

-- the outcome of a step; if an allocation fails, all is unchanged
abbrev pub StepRelation : OneStep → SessionStates → PlainSessionStep → PlainStepAnswer → OneStep → SessionStates → Type 0
StepRelation m w s out_of_memory n v = (n ≡ m) × (v ≡ w)
StepRelation m w s answer n v = (x : SessionState) × EffectRelation m (effect m s.session (w s.session) s.act) answer n x × (v ≡ with_session w s.session x)

effect_relation : (m n : OneStep) (d : Effect) (a : PlainStepAnswer) (events : List Event) (x : SessionState) → IsEffectOutcome d a events x → replies_to_events m events ≡ reply_in a → machine_after_events m events ≡ n → EffectRelation m d a n x
effect_relation m n (event e y) a events x (r, is, one, put) told ends =
    let k : reply_to_event m e ∷ [] ≡ r ∷ [] = ap (replies_to_events m) (sym one) ∙ told ∙ ap reply_in is in
    let same : r ≡ reply_to_event m e = cc in
    (is ∙ ap reply_answer same, sym ends ∙ ap (machine_after_events m) one, put)
effect_relation m n (notice b y) a events x (is, none, put) told ends = (is, sym ends ∙ ap (machine_after_events m) none, put)

pub step_relation : (m n : OneStep) (w v : SessionStates) (s : PlainSessionStep) (a : PlainStepAnswer) → IsStep m w s a n v → StepRelation m w s a n v
step_relation m n w v s (reply_answer r) (events, one, told, ends) = (one.0, effect_relation m n (effect m s.session (w s.session) s.act) (reply_answer r) events one.0 one.1 told ends, one.2)
step_relation m n w v s (notice_answer b) (events, one, told, ends) = (one.0, effect_relation m n (effect m s.session (w s.session) s.act) (notice_answer b) events one.0 one.1 told ends, one.2)
step_relation m n w v s out_of_memory (events, one, told, ends) = (sym ends ∙ ap (machine_after_events m) one.1, one.2)
