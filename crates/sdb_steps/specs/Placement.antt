-- Answers to commits as versions in the final logs.
use Rattle.std.specs.Prelude.{◌≡◌, ℕ, List, [], ◌∷◌, cond, nat_eq, Option, Some, None, ⊤}
use Rattle.sdb_oplog.specs.Keys.{PlainKey, Logs}
use Rattle.sdb_oplog.specs.Snap.{stored_at}
use Rattle.sdb_oplog.specs.Decide.{stored, repeated}
use Rattle.sdb_steps.specs.OneStep.{decided}
use Rattle.sdb_steps.specs.Picks as plain
use Rattle.sdb_steps.specs.Picks.{StepKind, PlainSessionStep, PlainStepAnswer, reply_answer, notice_answer}

-- a submission that was begun: its key, source and seq
pub record BegunSubmission : Type 0 where
  pub key : PlainKey
  pub src : List ℕ
  pub seq : ℕ

-- a session's undecided submission after one more step
abbrev pub begun_after_step : StepKind → PlainStepAnswer → Option BegunSubmission → Option BegunSubmission
begun_after_step (plain.begin k src seq v content) (notice_answer plain.began) b = Some (record { key = k; src = src; seq = seq })
begun_after_step (plain.commit now) (reply_answer r) b = None
begun_after_step act answer b = b

-- the first entry with the submission's source and seq is at version v; false without a submission
abbrev pub IsFirstEntryAt : Logs → Option BegunSubmission → ℕ → Type 0
IsFirstEntryAt logs (Some b) v = stored_at b.src b.seq (logs b.key) ≡ Some v
IsFirstEntryAt logs None v = ⊥

-- a commit answered with a version, stored or duplicate, for the session's submission b
abbrev pub IsPlacedAt : Logs → Option BegunSubmission → StepKind → PlainStepAnswer → Type 0
IsPlacedAt logs b (plain.commit now) (reply_answer (decided (stored v missed))) = IsFirstEntryAt logs b v
IsPlacedAt logs b (plain.commit now) (reply_answer (decided (repeated v))) = IsFirstEntryAt logs b v
IsPlacedAt logs b act answer = ⊤

-- the submission of each session, with session n's replaced by b
abbrev pub with_begun : (ℕ → Option BegunSubmission) → ℕ → Option BegunSubmission → ℕ → Option BegunSubmission
with_begun f n b k = cond (nat_eq n k) b (f k)

-- all steps with their answers, from these submissions on
abbrev pub PlacedFrom : (ℕ → Option BegunSubmission) → List PlainSessionStep → List PlainStepAnswer → Logs → Type 0
PlacedFrom f [] answers logs = ⊤
PlacedFrom f (s ∷ steps) [] logs = ⊤
PlacedFrom f (s ∷ steps) (a ∷ answers) logs =
    IsPlacedAt logs (f s.session) s.act a
    × PlacedFrom (with_begun f s.session (begun_after_step s.act a (f s.session))) steps answers logs

-- all steps with their answers, from sessions without submissions on
abbrev pub SubmissionsArePlaced : List PlainSessionStep → List PlainStepAnswer → Logs → Type 0
SubmissionsArePlaced = PlacedFrom (λ n. None)
