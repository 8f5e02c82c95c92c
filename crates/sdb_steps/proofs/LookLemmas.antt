-- Looks stay valid while logs grow.
use Rattle.std.proofs.Common.{◌≡◌, ℕ, zero, suc, ◌<◌, ◌++◌, List, [], ◌∷◌, length, get_or, slice_get, Option, Some, None, inl, inr, refl, sym, ◌∙◌, subst}
use Rattle.std.specs.List.{slice_set}
use Rattle.std.proofs.lemmas.Option.{slice_get_read}
use Rattle.sdb_oplog.specs.declared.codes.Code.TheVariants.{E10}
use Rattle.sdb_oplog.specs.Plain.{PlainEntry, PlainSubmission}
use Rattle.sdb_oplog.specs.Keys.{PlainKey, Logs}
use Rattle.sdb_oplog.specs.Decide.{PlainReply, refused}
use Rattle.sdb_oplog.specs.laws.LogLaws.{decide_not_out_of_memory}
use Rattle.sdb_desk.specs.Looks.{IsLook}
use Rattle.sdb_desk.specs.laws.LookLaws.{is_look_now, is_look_extended}
use Rattle.sdb_desk.specs.Machine.{PlainAttempt, PlainLook, look_at, decided, moved, CommitsOrOutOfMemory, DecidesOrOutOfMemory}
use Rattle.sdb_submit.specs.laws.SubmitLaws.{moved_is_look, out_of_memory_unchanged}
use Rattle.sdb_steps.specs.OneStep.{OneStep}
use Rattle.sdb_steps.specs.Picks as plain
use Rattle.sdb_steps.specs.Picks.{StepKind, PlainStepAnswer, Effect, event, notice, reply_answer, notice_answer, out_of_memory, effect}
use Rattle.sdb_steps.specs.Dispatch.{FollowsEffect, DispatchesAct}
use Rattle.sdb_steps.specs.LookInvariant.{HasLookAt, SessionHasLookAt, AllHaveLookAt}
use Rattle.sdb_steps.specs.declared.session_data.OpenAttempt.{OpenAttempt}
use Rattle.sdb_steps.specs.declared.session_data.Session.{Session}
use Rattle.sdb_steps.proofs.GrowthLemmas.{LogExtends, grows_next, same_log}

-- ---- one attempt

pub looked_opened : (logs : Logs) (k j : PlainKey) (s : PlainSubmission) (l : PlainLook) → j ≡ k → l ≡ look_at (logs k) s → IsLook (logs j) (record { submission = s; look = l })
looked_opened logs k j s l e is =
    subst (λ (x : PlainKey). IsLook (logs x) (record { submission = s; look = l })) (sym e)
    (subst (λ (x : PlainLook). IsLook (logs k) (record { submission = s; look = x })) (sym is) (is_look_now (logs k) s))

is_look_unchanged : (logs new : Logs) (k : PlainKey) (a w : PlainAttempt) → new ≡ logs → a ≡ w → IsLook (logs k) w → IsLook (new k) a
is_look_unchanged logs new k a w same is h = subst (λ (f : Logs). IsLook (f k) a) (sym same) (subst (λ (x : PlainAttempt). IsLook (logs k) x) (sym is) h)

pub looked_out_of_memory : (logs new : Logs) (k : PlainKey) (a w : PlainAttempt) (now : ℕ) (r : PlainReply) → r ≡ refused E10 → CommitsOrOutOfMemory logs k w now (decided r) new → a ≡ w → IsLook (logs k) w → IsLook (new k) a
looked_out_of_memory logs new k a w now r e h is look =
    is_look_unchanged logs new k a w (out_of_memory_unchanged logs new k w now (subst (λ (x : PlainReply). CommitsOrOutOfMemory logs k w now (decided x) new) e h)) is look

pub looked_moved : (logs new : Logs) (k : PlainKey) (a w : PlainAttempt) (now : ℕ) (l : PlainLook) → CommitsOrOutOfMemory logs k w now (moved l) new → a ≡ record { submission = w.submission; look = l } → IsLook (new k) a
looked_moved logs new k a w now l h is = subst (λ (x : PlainAttempt). IsLook (new k) x) (sym is) (moved_is_look logs new k w now (moved l) h)

now_unchanged : (logs new : Logs) (k : PlainKey) (s : PlainSubmission) (now : ℕ) (r : PlainReply) → r ≡ refused E10 → DecidesOrOutOfMemory logs k s now r new → new ≡ logs
now_unchanged logs new k s now r e (inl h) = h.1
now_unchanged logs new k s now r e (inr h) = absurd (decide_not_out_of_memory (logs k) s now (sym h.0 ∙ e))

pub looked_now_out_of_memory : (logs new : Logs) (k : PlainKey) (a : PlainAttempt) (s : PlainSubmission) (now : ℕ) (r : PlainReply) → r ≡ refused E10 → DecidesOrOutOfMemory logs k s now r new → IsLook (logs k) a → IsLook (new k) a
looked_now_out_of_memory logs new k a s now r e h look = is_look_unchanged logs new k a a (now_unchanged logs new k s now r e h) refl look

-- ---- all sessions

abbrev LogsExtend : Logs → Logs → Type 0
LogsExtend logs new = (k : PlainKey) → LogExtends (logs k) (new k)

grown_look : (log new : List PlainEntry) (a : PlainAttempt) → LogExtends log new → IsLook log a → IsLook new a
grown_look log new a g h = subst (λ (l : List PlainEntry). IsLook l a) (sym g.is) (is_look_extended log g.more a h)

grown_attempt : (logs new : Logs) (o : Option OpenAttempt) → LogsExtend logs new → HasLookAt logs o → HasLookAt new o
grown_attempt logs new None g h = tt
grown_attempt logs new (Some t) g h = grown_look _ _ _ (g _) h

grown_in : (logs new : Logs) (o : Option Session) → LogsExtend logs new → SessionHasLookAt logs o → SessionHasLookAt new o
grown_in logs new None g h = tt
grown_in logs new (Some x) g h = grown_attempt logs new x.attempt g h

put_in : (logs : Logs) (xs : List Session) (i j : ℕ) (y : Session) → HasLookAt logs y.attempt → AllHaveLookAt logs xs → SessionHasLookAt logs (slice_get (slice_set xs i y) j)
put_in logs [] i j y h all = all j
put_in logs (x ∷ xs) zero zero y h all = h
put_in logs (x ∷ xs) zero (suc j) y h all = all (suc j)
put_in logs (x ∷ xs) (suc i) zero y h all = all zero
put_in logs (x ∷ xs) (suc i) (suc j) y h all = put_in logs xs i j y h (λ k. all (suc k))

-- one session runs a step, and the others are unchanged
pub looked_set : (logs new : Logs) (xs : List Session) (i : ℕ) (y : Session) → LogsExtend logs new → AllHaveLookAt logs xs → HasLookAt new y.attempt → AllHaveLookAt new (slice_set xs i y)
looked_set logs new xs i y g all h j = put_in new xs i j y h (λ k. grown_in logs new (slice_get xs k) g (all k))

pub looked_read : (logs : Logs) (xs : List Session) (i : ℕ) (x : Session) → i < length xs → x ≡ get_or xs i x → AllHaveLookAt logs xs → HasLookAt logs x.attempt
looked_read logs xs i x within is all = subst (λ (o : Option Session). SessionHasLookAt logs o) (slice_get_read xs (length xs) i x refl within is) (all i)

pub looked_none : (logs : Logs) (o : Option OpenAttempt) → o ≡ None → HasLookAt logs o
looked_none logs o e = subst (λ (p : Option OpenAttempt). HasLookAt logs p) (sym e) tt

pub looked_more : (logs : Logs) (xs : List Session) (x : Session) → HasLookAt logs x.attempt → AllHaveLookAt logs xs → AllHaveLookAt logs (xs ++ x ∷ [])
looked_more logs [] x h all zero = h
looked_more logs [] x h all (suc n) = tt
looked_more logs (y ∷ xs) x h all zero = all zero
looked_more logs (y ∷ xs) x h all (suc n) = looked_more logs xs x h (λ m. all (suc m)) n

-- ---- a step extends logs

grows_effect : (m n : OneStep) (d : Effect) (a : PlainStepAnswer) (x : plain.SessionState) (k : PlainKey) → FollowsEffect m d a n x → LogExtends (m.logs k) (n.logs k)
grows_effect m n (event e y) a x k h = subst (λ (o : OneStep). LogExtends (m.logs k) (o.logs k)) (sym h.1) (grows_next m e k)
grows_effect m n (notice b y) a x k h = subst (λ (o : OneStep). LogExtends (m.logs k) (o.logs k)) (sym h.1) (same_log (m.logs k))

pub grows_dispatched : (i : ℕ) (m n : OneStep) (x y : plain.SessionState) (act : StepKind) (a : PlainStepAnswer) → DispatchesAct i m x act a n y → (k : PlainKey) → LogExtends (m.logs k) (n.logs k)
grows_dispatched i m n x y act (reply_answer r) h k = grows_effect m n (effect m i x act) (reply_answer r) y k h
grows_dispatched i m n x y act (notice_answer b) h k = grows_effect m n (effect m i x act) (notice_answer b) y k h
grows_dispatched i m n x y act out_of_memory h k = subst (λ (o : OneStep). LogExtends (m.logs k) (o.logs k)) (sym h.1) (same_log (m.logs k))
