-- The dump of the last world.
use Rattle.std.proofs.Common.{◌≡◌, ◌≢◌, All, ℕ, ◌⊎◌, inl, inr, List, [], ◌∷◌, ◌++◌, map, Option, Result, Ok, Err, OnOk, IfOk, IsErrOf, refl, sym, ap, ◌∙◌, subst}
use Rattle.std.proofs.lemmas.List.Elements.{All-nil, All-cons}
use Rattle.std.specs.Io.KnownBytes.{Appends}
use Rattle.std.proofs.KnownBytes.{Appends-nil, Appends-trans}
use Rattle.sdb_lines.specs.Prefixes.{AppendsPrefix}
use Rattle.sdb_lines.specs.Runs as lines
use Rattle.sdb_lines.specs.Runs.{AppendsAnswers, AppendsAnswerPrefix}
use Rattle.sdb_lines.specs.Streams.{ReadFaultIsCounted, WriteFaultIsCounted}
use Rattle.sdb_lines.specs.declared.runner.RunFault.{RunFault}
use Rattle.sdb_lines.specs.declared.runner.RunFault.TheVariants.{ReadFailed, WriteFailed}
use Rattle.sdb_dump.specs.WriteModel as dumps
use Rattle.sdb_dump.specs.WriteModel.{WroteDump, HasEntryCount}
use Rattle.sdb_oplog.specs.declared.codes.Code.{Code}
use Rattle.sdb_steps.specs.WorldView.{one_step_of_world, sessions_of}
use Rattle.sdb_steps.specs.Lines.{reading_step, steps_in}
use Rattle.sdb_steps.specs.OneStep.{OneStep, empty_machine}
use Rattle.sdb_steps.specs.Picks.{SessionStates, PlainSessionStep, PlainStepAnswer, out_of_memory, empty_sessions}
use Rattle.sdb_steps.specs.Runs.{IsStep, IsRun}
use Rattle.sdb_steps.proofs.StepLists.{AreSteps}
use Rattle.sdb_steps.specs.RunOutput.{StepWithoutAnswer, EndsWithLogs, WroteWorldDump, WroteWorldDumpPrefix}
use Rattle.sdb_steps.specs.declared.world_dump.SilentRunner.{SilentRunner}
use Rattle.sdb_steps.proofs.RunLemmas.{run_none, run_on, legal_run}

-- a line that a world runs without answering
abbrev pub WorldTakesLine : SilentRunner → Option (List ℕ) → List ℕ → SilentRunner → Type 0
WorldTakesLine w line answer v =
    StepWithoutAnswer (reading_step line) (one_step_of_world w.world) (sessions_of w.world) answer (one_step_of_world v.world) (sessions_of v.world)

-- a step is run, whatever its answer
pub step_without_answer : (r : Result PlainSessionStep Code) (s : PlainSessionStep) (m n : OneStep) (w v : SessionStates) (a : PlainStepAnswer) → r ≡ Ok s → a ≢ out_of_memory → IsStep m w s a n v → StepWithoutAnswer r m w [] n v
step_without_answer r s m n w v a e some h = subst (λ (q : Result PlainSessionStep Code). StepWithoutAnswer q m w [] n v) (sym e) (refl, (a, some, h))

-- the steps among these readings, with some answers, and no output
record RunWithoutAnswers (m : OneStep) (w : SessionStates) (readings : List (Result PlainSessionStep Code)) (text : List ℕ) (n : OneStep) (v : SessionStates) : Type 0 where
  pub answers : List PlainStepAnswer
  pub allocated : All (λ a. a ≢ out_of_memory) answers
  pub steps : AreSteps m w (steps_in readings) answers n v
  pub nothing : text ≡ []

one_more : (r : Result PlainSessionStep Code) (m o n : OneStep) (w u v : SessionStates) (readings : List (Result PlainSessionStep Code)) (answer more text : List ℕ) → StepWithoutAnswer r m w answer o u → text ≡ answer ++ more → RunWithoutAnswers o u readings more n v → RunWithoutAnswers m w (r ∷ readings) text n v
one_more (Ok s) m o n w u v readings answer more text (none, (a, some, step)) is t = record {
  answers = a ∷ t.answers;
  allocated = All-cons (λ (x : PlainStepAnswer). x ≢ out_of_memory) a t.answers some t.allocated;
  steps = (o, u, step, t.steps);
  nothing = is ∙ ap (λ (b : List ℕ). b ++ more) none ∙ t.nothing;
}
one_more (Err code) m o n w u v readings answer more text (none, same, kept) is t = record {
  answers = t.answers;
  allocated = t.allocated;
  steps = subst (λ (x : OneStep). AreSteps x w (steps_in readings) t.answers n v) same (subst (λ (x : SessionStates). AreSteps o x (steps_in readings) t.answers n v) kept t.steps);
  nothing = is ∙ ap (λ (b : List ℕ). b ++ more) none ∙ t.nothing;
}

run_without_answers : (s t : SilentRunner) (input : List (Option (List ℕ))) (text : List ℕ) → lines.Handles WorldTakesLine s input text t → RunWithoutAnswers (one_step_of_world s.world) (sessions_of s.world) (map reading_step input) text (one_step_of_world t.world) (sessions_of t.world)
run_without_answers s t [] text h = record { answers = []; allocated = All-nil (λ (x : PlainStepAnswer). x ≢ out_of_memory); steps = (ap (λ u. one_step_of_world u.world) h.1, ap (λ u. sessions_of u.world) h.1); nothing = h.0 }
run_without_answers s t (line ∷ input) text (answer, next, more, takes, rest, is) =
    one_more (reading_step line) (one_step_of_world s.world) (one_step_of_world next.world) (one_step_of_world t.world) (sessions_of s.world) (sessions_of next.world) (sessions_of t.world) (map reading_step input) answer more text takes is (run_without_answers next t input more rest)

-- from an empty world on
run_leaves_logs : (s t : SilentRunner) (input : List (Option (List ℕ))) (text : List ℕ) → one_step_of_world s.world ≡ empty_machine → sessions_of s.world ≡ empty_sessions → lines.Handles WorldTakesLine s input text t → EndsWithLogs (map reading_step input) (one_step_of_world t.world).logs
run_leaves_logs s t input text new fresh h =
    let r = run_without_answers s t input text h in
    let steps = steps_in (map reading_step input) in
    let first = run_none (one_step_of_world s.world) (sessions_of s.world) [] refl new fresh in
    let all : IsRun steps r.answers (one_step_of_world t.world) (sessions_of t.world) = run_on (one_step_of_world s.world) (one_step_of_world t.world) (sessions_of s.world) (sessions_of t.world) [] steps [] r.answers first r.steps in
    let l = legal_run steps r.answers (one_step_of_world t.world) (sessions_of t.world) all in
    record { answers = r.answers; allocated = r.allocated; events = l.0; sessions = sessions_of t.world; picks = l.1; legal = l.2 }

-- without answers the output is unchanged
pub nothing_written : (s t : SilentRunner) (input : List (Option (List ℕ))) (old new : Option (List ℕ)) → AppendsAnswers WorldTakesLine s input t [] old new → Appends old new []
nothing_written s t input old new h = subst (Appends old new) (run_without_answers s t input h.bytes h.run).nothing h.wrote

prefix_none : (bytes rest : List ℕ) → [] ≡ bytes ++ rest → bytes ≡ []
prefix_none [] rest e = refl
prefix_none (x ∷ bytes) rest e = cc

pub unwritten_prefix : (s : SilentRunner) (input : List (Option (List ℕ))) (old new : Option (List ℕ)) → AppendsAnswerPrefix WorldTakesLine s input [] old new → WroteWorldDumpPrefix input old new
unwritten_prefix s input old new h =
    let (bytes, w, (rest, is)) = h.wrote in
    inl (subst (Appends old new) (prefix_none bytes rest (sym (run_without_answers s h.last h.taken h.bytes h.run).nothing ∙ is)) w)

-- the dump is appended to the output
pub dump_written : (s t : SilentRunner) (input : List (Option (List ℕ))) (old mid new : Option (List ℕ)) (n : ℕ) → one_step_of_world s.world ≡ empty_machine → sessions_of s.world ≡ empty_sessions → AppendsAnswers WorldTakesLine s input t [] old mid
    → WroteDump (one_step_of_world t.world).logs mid new → HasEntryCount (one_step_of_world t.world).logs n → WroteWorldDump input old new n
dump_written s t input old mid new n first fresh h (text, is, w) counted = record {
  logs = (one_step_of_world t.world).logs;
  left = run_leaves_logs s t input h.bytes first fresh h.run;
  wrote = (text, is, Appends-trans old mid new [] text (nothing_written s t input old mid h) w);
  counted = counted;
}

pub dumped_prefix : (s t : SilentRunner) (input : List (Option (List ℕ))) (old mid new : Option (List ℕ)) → one_step_of_world s.world ≡ empty_machine → sessions_of s.world ≡ empty_sessions → AppendsAnswers WorldTakesLine s input t [] old mid
    → dumps.WroteDumpPrefix (one_step_of_world t.world).logs mid new → WroteWorldDumpPrefix input old new
dumped_prefix s t input old mid new first fresh h (inl w) = inl (Appends-trans old mid new [] [] (nothing_written s t input old mid h) w)
dumped_prefix s t input old mid new first fresh h (inr (text, is, (bytes, w, front))) = inr (
  (one_step_of_world t.world).logs,
  run_leaves_logs s t input h.bytes first fresh h.run,
  inr (text, is, (bytes, Appends-trans old mid new [] bytes (nothing_written s t input old mid h) w, front)),
)

-- ---- faults

-- a result with a property unless it is this error has it if it is a success
no_error : {A E P : Type 0} {x : A} {e : E} → P ⊎ (◌≡◌ {A = Result A E} (Ok x) (Err e)) → P
no_error (inl p) = p
no_error (inr q) = cc

pub writes_on : {A B : Type 0} {x : A} (r : Result B RunFault) (f g h : ℕ) → WriteFaultIsCounted {A = A} (Ok x) f g → WriteFaultIsCounted r g h → WriteFaultIsCounted r f h
writes_on r f g h a b = let e : g ≡ f = no_error a.others in subst (λ i. WriteFaultIsCounted r i h) e b

pub reads_on : {A B : Type 0} {x : A} (r : Result B RunFault) (c f d g : ℕ) → ReadFaultIsCounted {A = A} (Ok x) c f d g → (IsErrOf r ReadFailed → ⊥) → ReadFaultIsCounted r c f d g
reads_on r c f d g a none = record { few = a.few; others = inl (no_error a.others); fault = λ e. absurd (none e) }

pub if_ok_both : {A E P : Type 0} (r : Result A E) (Q R : A → Type 0) → (P → (x : A) → Q x → R x) → OnOk r P → IfOk r Q → IfOk r R
if_ok_both (Ok x) Q R f p q = f p x q
if_ok_both (Err e) Q R f p q = tt
