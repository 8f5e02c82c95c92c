-- Steps as a run of the reference machine: `Picks` and the machine's replies, with the state at the end.
use Rattle.std.specs.Prelude.{◌≡◌, List, [], ◌∷◌}
use Rattle.sdb_steps.specs.OneStep.{OneStep, Event, empty_machine, replies_to_events, machine_after_events}
use Rattle.sdb_steps.specs.Picks.{SessionStates, PlainSessionStep, PlainStepAnswer, reply_in, replies_in, PicksOne, Picks}

-- one step on machine m: its events by `Picks`, none or one, get the machine's replies and lead to machine n
abbrev pub IsStep : OneStep → SessionStates → PlainSessionStep → PlainStepAnswer → OneStep → SessionStates → Type 0
IsStep m w s answer n v =
    (events : List Event) × PicksOne m w s answer events v × (replies_to_events m events ≡ reply_in answer) × (machine_after_events m events ≡ n)

-- steps from the empty machine and fresh sessions on
abbrev pub IsRun : List PlainSessionStep → List PlainStepAnswer → OneStep → SessionStates → Type 0
IsRun steps answers n v =
    (events : List Event) × Picks steps answers events v × (replies_to_events empty_machine events ≡ replies_in answers)
    × (machine_after_events empty_machine events ≡ n)
