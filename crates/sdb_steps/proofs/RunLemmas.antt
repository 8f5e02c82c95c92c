-- Runs extended by one step or by many.
use Rattle.std.proofs.Common.{◌≡◌, List, [], ◌∷◌, ◌++◌, refl, sym, ap, ◌∙◌, subst, append_assoc}
use Rattle.sdb_steps.specs.OneStep.{OneStep, Event, EventReply, Legal, empty_machine, reply_to_event, machine_after_event, replies_to_events, machine_after_events}
use Rattle.sdb_steps.specs.Picks.{SessionStates, PlainSessionStep, PlainStepAnswer, reply_in, replies_in, PicksOne, PicksAfter, Picks, empty_sessions}
use Rattle.sdb_steps.specs.Runs.{IsStep, IsRun}
use Rattle.sdb_steps.proofs.StepLists.{AreSteps}

pub after_more : (m : OneStep) (es fs : List Event) → machine_after_events m (es ++ fs) ≡ machine_after_events (machine_after_events m es) fs
after_more m [] fs = refl
after_more m (e ∷ es) fs = after_more (machine_after_event m e) es fs

pub replies_more : (m : OneStep) (es fs : List Event) → replies_to_events m (es ++ fs) ≡ replies_to_events m es ++ replies_to_events (machine_after_events m es) fs
replies_more m [] fs = refl
replies_more m (e ∷ es) fs = ap (λ rs. reply_to_event m e ∷ rs) (replies_more (machine_after_event m e) es fs)

pub append_nil : {A : Type 0} (xs : List A) → xs ++ [] ≡ xs
append_nil [] = refl
append_nil (x ∷ xs) = ap (λ ys. x ∷ ys) (append_nil xs)

told_more : (answers : List PlainStepAnswer) (a : PlainStepAnswer) → replies_in (answers ++ a ∷ []) ≡ replies_in answers ++ reply_in a
told_more [] a = append_nil (reply_in a)
told_more (x ∷ xs) a = ap (λ rs. reply_in x ++ rs) (told_more xs a) ∙ sym (append_assoc (reply_in x) (replies_in xs) (reply_in a))

picks_more : (past : List Event) (w u v : SessionStates) (steps : List PlainSessionStep) (answers : List PlainStepAnswer) (s : PlainSessionStep) (a : PlainStepAnswer) (es fs : List Event)
    → PicksAfter past w steps answers es u → PicksOne (machine_after_events empty_machine es) u s a fs v → PicksAfter past w (steps ++ s ∷ []) (answers ++ a ∷ []) (es ++ fs) v
picks_more past w u v [] [] s a es fs h k =
    let one : PicksOne (machine_after_events empty_machine past) w s a fs v = subst (λ (x : SessionStates). PicksOne (machine_after_events empty_machine past) x s a fs v) h.1 (subst (λ (xs : List Event). PicksOne (machine_after_events empty_machine xs) u s a fs v) h.0 k) in
    (fs, v, one, (ap (λ (xs : List Event). xs ++ fs) h.0, refl))
picks_more past w u v [] (x ∷ answers) s a es fs h k = absurd h
picks_more past w u v (x ∷ steps) [] s a es fs h k = absurd h
picks_more past w u v (t ∷ steps) (b ∷ answers) s a es fs (now, mid, one, rest) k = (now, mid, one, picks_more (past ++ now) mid u v steps answers s a es fs rest k)

-- no step is a run
pub run_none : (n : OneStep) (w : SessionStates) (answers : List PlainStepAnswer) → answers ≡ [] → n ≡ empty_machine → w ≡ empty_sessions → IsRun [] answers n w
run_none n w answers none new is = subst (λ (xs : List PlainStepAnswer). IsRun [] xs n w) (sym none) ([], (refl, is), refl, sym new)

-- a run and one more step
pub run_more : (n o : OneStep) (u v : SessionStates) (steps : List PlainSessionStep) (answers : List PlainStepAnswer) (s : PlainSessionStep) (a : PlainStepAnswer) → IsRun steps answers n u → IsStep n u s a o v → IsRun (steps ++ s ∷ []) (answers ++ a ∷ []) o v
run_more n o u v steps answers s a (es, picked, told, ends) (fs, one, tells, goes) = (
  es ++ fs,
  picks_more [] empty_sessions u v steps answers s a es fs picked (subst (λ (x : OneStep). PicksOne x u s a fs v) (sym ends) one),
  replies_more empty_machine es fs ∙ ap (λ (rs : List EventReply). rs ++ replies_to_events (machine_after_events empty_machine es) fs) told ∙ ap (λ (x : OneStep). replies_in answers ++ replies_to_events x fs) ends ∙ ap (λ (rs : List EventReply). replies_in answers ++ rs) tells ∙ sym (told_more answers a),
  after_more empty_machine es fs ∙ ap (λ (x : OneStep). machine_after_events x fs) ends ∙ goes,
)

-- a run and many more steps
pub run_on : (n o : OneStep) (u v : SessionStates) (steps more : List PlainSessionStep) (answers told : List PlainStepAnswer) → IsRun steps answers n u → AreSteps n u more told o v → IsRun (steps ++ more) (answers ++ told) o v
run_on n o u v steps [] answers [] r h =
    let ended : IsRun steps answers o v = subst (λ (x : OneStep). IsRun steps answers x v) (sym h.0) (subst (λ (w : SessionStates). IsRun steps answers n w) (sym h.1) r) in
    subst (λ (xs : List PlainSessionStep). IsRun xs (answers ++ []) o v) (sym (append_nil steps)) (subst (λ (xs : List PlainStepAnswer). IsRun steps xs o v) (sym (append_nil answers)) ended)
run_on n o u v steps [] answers (a ∷ told) r h = absurd h
run_on n o u v steps (s ∷ more) answers [] r h = absurd h
run_on n o u v steps (s ∷ more) answers (a ∷ told) r (m, w, one, rest) =
    let all : IsRun ((steps ++ s ∷ []) ++ more) ((answers ++ a ∷ []) ++ told) o v = run_on m o w v (steps ++ s ∷ []) more (answers ++ a ∷ []) told (run_more n m u w steps answers s a r one) rest in
    subst (λ (xs : List PlainSessionStep). IsRun xs (answers ++ a ∷ told) o v) (append_assoc steps (s ∷ []) more) (subst (λ (xs : List PlainStepAnswer). IsRun ((steps ++ s ∷ []) ++ more) xs o v) (append_assoc answers (a ∷ []) told) all)

-- a run, with its logs only
pub legal_run : (steps : List PlainSessionStep) (answers : List PlainStepAnswer) (n : OneStep) (v : SessionStates) → IsRun steps answers n v → (events : List Event) × Picks steps answers events v × Legal events (replies_in answers) n.logs
legal_run steps answers n v (events, picked, told, ends) = (events, picked, record { replies_are = told; logs_are = ap (λ (x : OneStep). x.logs) ends })
