-- Reads are replays of the final logs.
use Rattle.std.proofs.Common.{◌≡◌, ℕ, ◌+◌, ◌≤◌, List, [], ◌∷◌, ◌++◌, suc, length, take, Bool, true, false, cond, nat_lt, Option, Some, None, Ok, Err, IfSome, refl, sym, ap, ◌∙◌, subst, length-append, arith}
use Rattle.std.proofs.lemmas.List.{take-append-le}
use Rattle.std.proofs.lemmas.Bool.Decides.{nat_tests}
use Rattle.std.specs.Option.{unwrap_or}
use Rattle.sdb_oplog.specs.Plain.{PlainEntry}
use Rattle.sdb_oplog.specs.Keys.{PlainKey, Logs}
use Rattle.sdb_oplog.specs.laws.LogLaws.{version_at_within}
use Rattle.sdb_oplog.specs.Moments.{version_at}
use Rattle.sdb_oplog.specs.Snap.{document_of}
use Rattle.sdb_oplog.specs.declared.codes.Code.TheVariants.{E4}
use Rattle.sdb_desk.specs.Machine as desk
use Rattle.sdb_desk.specs.Machine.{PlainFetchResult}
use Rattle.sdb_steps.specs.OneStep.{OneStep, Event, Legal, empty_machine, snapshot_fetched, moment_fetched}
use Rattle.sdb_steps.specs.Picks as plain
use Rattle.sdb_steps.specs.Picks.{SessionState, SessionStates, StepKind, PlainSessionStep, PlainStepAnswer, reply_answer, notice_answer, out_of_memory, effect, replies_in, Picks, empty_sessions}
use Rattle.sdb_steps.proofs.StepLists.{AreSteps}
use Rattle.sdb_steps.specs.ReplayLaws.{IsReplayOf, IsReplay, ReadsAreReplays}
use Rattle.sdb_steps.proofs.EventLemmas.{EffectRelation, StepRelation, step_relation, legal_steps}
use Rattle.sdb_steps.proofs.GrowthLemmas.{LogExtends, grows_steps}

-- a prefix of a log is a prefix of each extension
take_of_extension : (old new : List PlainEntry) (v : ℕ) → LogExtends old new → v ≤ length old → (v ≤ length new) × (document_of (take v old) ≡ document_of (take v new))
take_of_extension old new v g h =
    let long : length new ≡ length old + length g.more = ap length g.is ∙ length-append old g.more in
    (omega (arith, long, h), ap document_of (sym (ap (take v) g.is ∙ take-append-le v old g.more h)))

take_all : (xs : List PlainEntry) → take (length xs) xs ≡ xs
take_all [] = refl
take_all (x ∷ xs) = ap (λ l. x ∷ l) (take_all xs)

fetched_is : (old end : Logs) (k : PlainKey) → LogExtends (old k) (end k) → IsReplayOf end k (desk.fetch_result (old k))
fetched_is old end k g =
    let e = take_of_extension (old k) (end k) (length (old k)) g (omega arith) in
    (e.0, ap document_of (sym (take_all (old k))) ∙ e.1)

version_is_named : (v : Option ℕ) (n : ℕ) → IfSome v (λ m. unwrap_or v n ≡ m)
version_is_named None n = tt
version_is_named (Some m) n = refl

snapped_is : (old end : Logs) (k : PlainKey) (v : Option ℕ) (b : Bool) → LogExtends (old k) (end k) → nat_lt (length (old k)) (unwrap_or v (length (old k))) ≡ b
    → IsReplay end (plain.snapshot k v) (reply_answer (snapshot_fetched (cond b (Err E4) (Ok (record { version = unwrap_or v (length (old k)); snapshot = document_of (take (unwrap_or v (length (old k))) (old k)) })))))
snapped_is old end k v true g is = tt
snapped_is old end k v false g is =
    let within : unwrap_or v (length (old k)) ≤ length (old k) = grind (arith, nat_tests) in
    (take_of_extension (old k) (end k) (unwrap_or v (length (old k))) g within, version_is_named v (length (old k)))

counted_if : (b : Bool) (n k : ℕ) → n ≤ k → cond b n (suc n) ≤ cond b k (suc k)
counted_if true n k h = h
counted_if false n k h = omega (arith, h)

-- a longer log has at least as many entries up to a moment
version_at_mono : (old more : List PlainEntry) (t : ℕ) → version_at old t ≤ version_at (old ++ more) t
version_at_mono [] more t = omega arith
version_at_mono (e ∷ es) more t = counted_if (nat_lt t e.moment) (version_at es t) (version_at (es ++ more) t) (version_at_mono es more t)

counted_in : (old new : List PlainEntry) (t : ℕ) → LogExtends old new → version_at old t ≤ version_at new t
counted_in old new t g = subst (λ (l : List PlainEntry). version_at old t ≤ version_at l t) (sym g.is) (version_at_mono old g.more t)

timed_is : (old end : Logs) (k : PlainKey) (t : Option ℕ) → LogExtends (old k) (end k) → IsReplay end (plain.snapshot_at_time k t) (reply_answer (moment_fetched (desk.fetch_at_moment (old k) t)))
timed_is old end k None g = (take_of_extension (old k) (end k) (length (old k)) g (omega arith), tt)
timed_is old end k (Some t) g = (take_of_extension (old k) (end k) (version_at (old k) t) g (version_at_within (old k) t), counted_in (old k) (end k) t g)

-- ---- one step, and many

read_is_replay : (m n : OneStep) (i : ℕ) (x y : SessionState) (act : StepKind) (a : PlainStepAnswer) (end : Logs) → EffectRelation m (effect m i x act) a n y → ((k : PlainKey) → LogExtends (m.logs k) (end k)) → IsReplay end act a
read_is_replay m n i x y (plain.begin k src seq v content) a end h g = tt
read_is_replay m n i x y plain.work a end h g = tt
read_is_replay m n i x y (plain.commit now) a end h g = tt
read_is_replay m n i x y (plain.fetch k) a end h g = subst (λ (b : PlainStepAnswer). IsReplay end (plain.fetch k) b) (sym h.0) (fetched_is m.logs end k (g k))
read_is_replay m n i x y (plain.snapshot k v) a end h g =
    subst (λ (b : PlainStepAnswer). IsReplay end (plain.snapshot k v) b) (sym h.0) (snapped_is m.logs end k v (nat_lt (length (m.logs k)) (unwrap_or v (length (m.logs k)))) (g k) refl)
read_is_replay m n i x y (plain.snapshot_at_time k t) a end h g = subst (λ (b : PlainStepAnswer). IsReplay end (plain.snapshot_at_time k t) b) (sym h.0) (timed_is m.logs end k t (g k))
read_is_replay m n i x y (plain.subscribe k v) a end h g = tt
read_is_replay m n i x y (plain.take k max) a end h g = tt
read_is_replay m n i x y (plain.unsubscribe k) a end h g = tt
read_is_replay m n i x y (plain.forget k) a end h g = tt

read_none : (end : Logs) (act : StepKind) → IsReplay end act out_of_memory
read_none end (plain.begin k src seq v content) = tt
read_none end plain.work = tt
read_none end (plain.commit now) = tt
read_none end (plain.fetch k) = tt
read_none end (plain.snapshot k v) = tt
read_none end (plain.snapshot_at_time k t) = tt
read_none end (plain.subscribe k v) = tt
read_none end (plain.take k max) = tt
read_none end (plain.unsubscribe k) = tt
read_none end (plain.forget k) = tt

read_comes : (m n : OneStep) (w v : SessionStates) (s : PlainSessionStep) (a : PlainStepAnswer) (end : Logs) → StepRelation m w s a n v → ((k : PlainKey) → LogExtends (m.logs k) (end k)) → IsReplay end s.act a
read_comes m n w v s (reply_answer r) end h g = read_is_replay m n s.session (w s.session) h.0 s.act (reply_answer r) end h.1 g
read_comes m n w v s (notice_answer b) end h g = read_is_replay m n s.session (w s.session) h.0 s.act (notice_answer b) end h.1 g
read_comes m n w v s out_of_memory end h g = read_none end s.act

read_steps : (m n : OneStep) (w v : SessionStates) (steps : List PlainSessionStep) (answers : List PlainStepAnswer) → AreSteps m w steps answers n v → ReadsAreReplays steps answers n.logs
read_steps m n w v [] answers h = tt
read_steps m n w v (s ∷ steps) [] h = tt
read_steps m n w v (s ∷ steps) (a ∷ answers) (o, mid, one, rest) =
    (read_comes m o w mid s a n.logs (step_relation m o w mid s a one) (λ k. grows_steps m n w v (s ∷ steps) (a ∷ answers) k (o, mid, one, rest)), read_steps o n mid v steps answers rest)

pub replays_all : (steps : List PlainSessionStep) (answers : List PlainStepAnswer) (events : List Event) (w : SessionStates) (logs : Logs) → Picks steps answers events w → Legal events (replies_in answers) logs → ReadsAreReplays steps answers logs
replays_all steps answers events w logs picked legal =
    let run = legal_steps steps answers events w logs picked legal in
    subst (λ (l : Logs). ReadsAreReplays steps answers l) run.2 (read_steps empty_machine run.0 empty_sessions w steps answers run.1)
