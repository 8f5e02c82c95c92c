-- The output of a run over lines.
use Rattle.std.proofs.Common.{◌≡◌, ℕ, List, [], ◌∷◌, ◌++◌, map, Option, None, Some, IfSome, Result, Ok, Err, OnOk, OnErr, refl, sym, ap, ◌∙◌, subst, append-nil}
use Rattle.std.specs.Io.KnownBytes.{Appends}
use Rattle.sdb_lines.specs.Runs as lines
use Rattle.sdb_lines.specs.Runs.{AppendsAnswers, AppendsAnswerPrefix}
use Rattle.sdb_oplog.specs.declared.codes.Code.{Code}
use Rattle.sdb_steps.specs.WorldView.{one_step_of_world, sessions_of}
use Rattle.sdb_steps.specs.Lines.{reading_step, steps_in, lines_text, line_of, step_answer_text, step_refusal_text}
use Rattle.sdb_steps.specs.OneStep.{OneStep, empty_machine}
use Rattle.sdb_steps.specs.Picks.{SessionStates, PlainSessionStep, PlainStepAnswer, empty_sessions}
use Rattle.sdb_steps.specs.Runs.{IsRun}
use Rattle.sdb_steps.proofs.StepLists.{AreSteps}
use Rattle.sdb_steps.specs.RunOutput.{StepOrRefusal, RunText, WroteRun, WroteRunPrefix}
use Rattle.sdb_steps.specs.declared.world.World.{World}
use Rattle.sdb_steps.proofs.RunLemmas.{run_none, run_on, legal_run}

-- a line that a world runs
abbrev pub WorldTakesLine : World → Option (List ℕ) → List ℕ → World → Type 0
WorldTakesLine w line answer v = StepOrRefusal (reading_step line) (one_step_of_world w) (sessions_of w) answer (one_step_of_world v) (sessions_of v)

-- the steps among these readings, with their answers and the output
record RunOutputSplit (m : OneStep) (w : SessionStates) (readings : List (Result PlainSessionStep Code)) (text : List ℕ) (n : OneStep) (v : SessionStates) : Type 0 where
  pub answers : List PlainStepAnswer
  pub steps : AreSteps m w (steps_in readings) answers n v
  pub shown : text ≡ lines_text readings answers

one_more : (r : Result PlainSessionStep Code) (m o n : OneStep) (w u v : SessionStates) (readings : List (Result PlainSessionStep Code)) (answer more text : List ℕ) → StepOrRefusal r m w answer o u → text ≡ answer ++ more → RunOutputSplit o u readings more n v → RunOutputSplit m w (r ∷ readings) text n v
one_more (Ok s) m o n w u v readings answer more text (a, step, shown) is t = record {
  answers = a ∷ t.answers;
  steps = (o, u, step, t.steps);
  shown = is ∙ ap (λ (b : List ℕ). b ++ more) shown ∙ ap (λ (b : List ℕ). line_of (step_answer_text s.session a) ++ b) t.shown;
}
one_more (Err code) m o n w u v readings answer more text (shown, same, kept) is t = record {
  answers = t.answers;
  steps = subst (λ (x : OneStep). AreSteps x w (steps_in readings) t.answers n v) same (subst (λ (x : SessionStates). AreSteps o x (steps_in readings) t.answers n v) kept t.steps);
  shown = is ∙ ap (λ (b : List ℕ). b ++ more) shown ∙ ap (λ (b : List ℕ). line_of (step_refusal_text code) ++ b) t.shown;
}

run_output_split : (s t : World) (input : List (Option (List ℕ))) (text : List ℕ) → lines.Handles WorldTakesLine s input text t → RunOutputSplit (one_step_of_world s) (sessions_of s) (map reading_step input) text (one_step_of_world t) (sessions_of t)
run_output_split s t [] text h = record { answers = []; steps = (ap one_step_of_world h.1, ap sessions_of h.1); shown = h.0 }
run_output_split s t (line ∷ input) text (answer, next, more, takes, rest, is) =
    one_more (reading_step line) (one_step_of_world s) (one_step_of_world next) (one_step_of_world t) (sessions_of s) (sessions_of next) (sessions_of t) (map reading_step input) answer more text takes is (run_output_split next t input more rest)

appends_nil : (a : Option (List ℕ)) → Appends a a []
appends_nil None = tt
appends_nil (Some x) = sym (append-nil x)

-- from an empty world on
run_from_empty : (s t : World) (input : List (Option (List ℕ))) (text : List ℕ) → one_step_of_world s ≡ empty_machine → sessions_of s ≡ empty_sessions → lines.Handles WorldTakesLine s input text t → RunText (map reading_step input) text
run_from_empty s t input text new fresh h =
    let r = run_output_split s t input text h in
    let steps = steps_in (map reading_step input) in
    let first = run_none (one_step_of_world s) (sessions_of s) [] refl new fresh in
    let all : IsRun steps r.answers (one_step_of_world t) (sessions_of t) = run_on (one_step_of_world s) (one_step_of_world t) (sessions_of s) (sessions_of t) [] steps [] r.answers first r.steps in
    let l = legal_run steps r.answers (one_step_of_world t) (sessions_of t) all in
    record { answers = r.answers; events = l.0; sessions = sessions_of t; logs = (one_step_of_world t).logs; picks = l.1; legal = l.2; shown = r.shown }

pub wrote_all : (s t : World) (input : List (Option (List ℕ))) (old new : Option (List ℕ)) → one_step_of_world s ≡ empty_machine → sessions_of s ≡ empty_sessions → AppendsAnswers WorldTakesLine s input t [] old new → WroteRun input old new
wrote_all s t input old new first fresh h = (h.bytes, run_from_empty s t input h.bytes first fresh h.run, h.wrote)

pub wrote_prefix : (s : World) (input : List (Option (List ℕ))) (old new : Option (List ℕ)) → one_step_of_world s ≡ empty_machine → sessions_of s ≡ empty_sessions → AppendsAnswerPrefix WorldTakesLine s input [] old new → WroteRunPrefix input old new
wrote_prefix s input old new first fresh h = (h.taken, h.bytes, h.from_first, run_from_empty s h.last h.taken h.bytes first fresh h.run, h.wrote)

-- without lines there is no output
pub wrote_nothing : (input : List (Option (List ℕ))) (old : Option (List ℕ)) → WroteRunPrefix input old old
wrote_nothing input old =
    let l = legal_run [] [] empty_machine empty_sessions (run_none empty_machine empty_sessions [] refl refl refl) in
    let none : RunText [] [] = record { answers = []; events = l.0; sessions = empty_sessions; logs = empty_machine.logs; picks = l.1; legal = l.2; shown = refl } in
    ([], [], (input, refl), none, ([], appends_nil old, ([], refl)))

pub if_any_some : {A : Type 0} (a : Option A) (P : A → Type 0) → ((x : A) → P x) → IfSome a P
if_any_some None P f = tt
if_any_some (Some x) P f = f x

pub on_any_err : {A E P : Type 0} (r : Result A E) → P → OnErr r P
on_any_err (Ok x) p = tt
on_any_err (Err e) p = p

pub on_ok : {A E P Q : Type 0} (r : Result A E) → (P → Q) → OnOk r P → OnOk r Q
on_ok (Ok x) f h = f h
on_ok (Err e) f h = tt

pub on_err : {A E P Q : Type 0} (r : Result A E) → (P → Q) → OnErr r P → OnErr r Q
on_err (Ok x) f h = tt
on_err (Err e) f h = f h
