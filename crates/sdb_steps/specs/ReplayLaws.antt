-- Answers to reads as replays of the final logs.
use Rattle.std.specs.Prelude.{◌≡◌, ◌≤◌, List, [], ◌∷◌, length, take, Ok, IfSome, ⊤}
use Rattle.sdb_oplog.specs.Keys.{PlainKey, Logs}
use Rattle.sdb_oplog.specs.Moments.{version_at}
use Rattle.sdb_oplog.specs.Snap.{document_of}
use Rattle.sdb_desk.specs.Machine.{PlainFetchResult}
use Rattle.sdb_steps.specs.OneStep.{fetched, snapshot_fetched, moment_fetched}
use Rattle.sdb_steps.specs.Picks as plain
use Rattle.sdb_steps.specs.Picks.{StepKind, PlainSessionStep, PlainStepAnswer, reply_answer}

-- the document is the replay of the first `version` entries of k
abbrev pub IsReplayOf : Logs → PlainKey → PlainFetchResult → Type 0
IsReplayOf logs k f = (f.version ≤ length (logs k)) × (f.snapshot ≡ document_of (take f.version (logs k)))

-- the answer to a read is a replay, at the requested version and of no entry later than the requested moment
abbrev pub IsReplay : Logs → StepKind → PlainStepAnswer → Type 0
IsReplay logs (plain.fetch k) (reply_answer (fetched f)) = IsReplayOf logs k f
IsReplay logs (plain.snapshot k v) (reply_answer (snapshot_fetched (Ok f))) = IsReplayOf logs k f × IfSome v (λ n. f.version ≡ n)
IsReplay logs (plain.snapshot_at_time k t) (reply_answer (moment_fetched f)) =
    IsReplayOf logs k f × IfSome t (λ n. f.version ≤ version_at (logs k) n)
IsReplay logs act answer = ⊤

-- all steps with their answers
abbrev pub ReadsAreReplays : List PlainSessionStep → List PlainStepAnswer → Logs → Type 0
ReadsAreReplays [] answers logs = ⊤
ReadsAreReplays (s ∷ steps) [] logs = ⊤
ReadsAreReplays (s ∷ steps) (a ∷ answers) logs = IsReplay logs s.act a × ReadsAreReplays steps answers logs
