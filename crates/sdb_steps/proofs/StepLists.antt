-- Steps in sequence, each on the machine that the step before leaves.
use Rattle.std.specs.Prelude.{◌≡◌, List, [], ◌∷◌}
use Rattle.sdb_steps.specs.OneStep.{OneStep}
use Rattle.sdb_steps.specs.Picks.{SessionStates, PlainSessionStep, PlainStepAnswer}
use Rattle.sdb_steps.specs.Runs.{IsStep}

-- steps in sequence, from m and these sessions on
abbrev pub AreSteps : OneStep → SessionStates → List PlainSessionStep → List PlainStepAnswer → OneStep → SessionStates → Type 0
AreSteps m w [] [] n v = (n ≡ m) × (v ≡ w)
AreSteps m w [] (answer ∷ answers) n v = ⊥
AreSteps m w (s ∷ steps) [] n v = ⊥
AreSteps m w (s ∷ steps) (answer ∷ answers) n v =
    (o : OneStep) × (mid : SessionStates) × IsStep m w s answer o mid × AreSteps o mid steps answers n v
