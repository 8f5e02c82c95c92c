-- The output of a run over lines that starts with an empty world.
use Rattle.std.specs.Prelude.{◌≡◌, ◌≢◌, ℕ, ◌⊎◌, List, [], map, All, Option, Result, Ok, Err}
use Rattle.std.specs.Io.KnownBytes.{Appends}
use Rattle.sdb_dump.specs.WriteModel as dumps
use Rattle.sdb_dump.specs.WriteModel.{WroteDump, HasEntryCount}
use Rattle.sdb_lines.specs.Prefixes.{IsPrefix, AppendsPrefix}
use Rattle.sdb_oplog.specs.Keys.{Logs}
use Rattle.sdb_oplog.specs.declared.codes.Code.{Code}
use Rattle.sdb_steps.specs.Lines.{reading_step, step_answer_text, step_refusal_text, line_of, steps_in, lines_text}
use Rattle.sdb_steps.specs.OneStep.{OneStep, Event, Legal}
use Rattle.sdb_steps.specs.Picks.{SessionStates, PlainSessionStep, PlainStepAnswer, Picks, out_of_memory, replies_in}
use Rattle.sdb_steps.specs.Runs.{IsStep}

-- one line: a step is answered, and any other line is refused and changes nothing
abbrev pub StepOrRefusal : Result PlainSessionStep Code → OneStep → SessionStates → List ℕ → OneStep → SessionStates → Type 0
StepOrRefusal (Ok s) m w bytes n v = (a : PlainStepAnswer) × IsStep m w s a n v × (bytes ≡ line_of (step_answer_text s.session a))
StepOrRefusal (Err code) m w bytes n v = (bytes ≡ line_of (step_refusal_text code)) × (n ≡ m) × (v ≡ w)

-- the steps are answered as by the reference machine, each submission at its deciding commit
pub record RunText (readings : List (Result PlainSessionStep Code)) (text : List ℕ) : Type 0 where
  pub answers : List PlainStepAnswer
  pub events : List Event
  pub sessions : SessionStates
  pub logs : Logs
  pub picks : Picks (steps_in readings) answers events sessions
  pub legal : Legal events (replies_in answers) logs
  pub shown : text ≡ lines_text readings answers

-- the output is extended by one line for each input line
abbrev pub WroteRun : List (Option (List ℕ)) → Option (List ℕ) → Option (List ℕ) → Type 0
WroteRun lines old new = (text : List ℕ) × RunText (map reading_step lines) text × Appends old new text

-- the output is extended by a prefix of the answers to a prefix of the lines
abbrev pub WroteRunPrefix : List (Option (List ℕ)) → Option (List ℕ) → Option (List ℕ) → Type 0
WroteRunPrefix lines old new =
    (taken : List (Option (List ℕ))) × (text : List ℕ) × IsPrefix taken lines × RunText (map reading_step taken) text
    × AppendsPrefix old new text

-- ---- the dump of the last world

-- one line without a written answer; a step doesn't fail to allocate
abbrev pub StepWithoutAnswer : Result PlainSessionStep Code → OneStep → SessionStates → List ℕ → OneStep → SessionStates → Type 0
StepWithoutAnswer (Ok s) m w bytes n v = (bytes ≡ []) × ((a : PlainStepAnswer) × (a ≢ out_of_memory) × IsStep m w s a n v)
StepWithoutAnswer (Err code) m w bytes n v = (bytes ≡ []) × (n ≡ m) × (v ≡ w)

-- the steps end with these logs by the reference machine, each submission at its deciding commit, and none fails to allocate
pub record EndsWithLogs (readings : List (Result PlainSessionStep Code)) (logs : Logs) : Type 0 where
  pub answers : List PlainStepAnswer
  pub events : List Event
  pub sessions : SessionStates
  pub allocated : All (λ a. a ≢ out_of_memory) answers
  pub picks : Picks (steps_in readings) answers events sessions
  pub legal : Legal events (replies_in answers) logs

-- the output is extended by the dump of the logs that the lines make, with this number of entries
pub record WroteWorldDump (lines : List (Option (List ℕ))) (old new : Option (List ℕ)) (entries : ℕ) : Type 0 where
  pub logs : Logs
  pub left : EndsWithLogs (map reading_step lines) logs
  pub wrote : WroteDump logs old new
  pub counted : HasEntryCount logs entries

-- the output is unchanged or extended by a prefix of that dump
abbrev pub WroteWorldDumpPrefix : List (Option (List ℕ)) → Option (List ℕ) → Option (List ℕ) → Type 0
WroteWorldDumpPrefix lines old new =
    Appends old new [] ⊎ ((logs : Logs) × EndsWithLogs (map reading_step lines) logs × dumps.WroteDumpPrefix logs old new)
