use Rattle.std.proofs.Common.{◌≡◌, List, [], ◌∷◌, ◌++◌, map, take, subst, sym, ap, ◌∙◌}
use Rattle.std.proofs.lemmas.List.{take_more, take_all, map-append}
use Rattle.sdb_oplog.specs.Keys.{Logs}
use Rattle.sdb_oplog.specs.Decide.{IsMade}
use Rattle.sdb_steps.specs.WorldView.{one_step_of_world, sessions_of, caches_of_world}
use Rattle.sdb_steps.specs.Picks.{PlainSessionStep, PlainStepAnswer}
use Rattle.sdb_steps.specs.Runs.{IsRun}
use Rattle.sdb_steps.specs.View.{plain_session_step, plain_step_answer}
use Rattle.sdb_desk.specs.laws.CachesLaws.{no_caches}
use Rattle.sdb_steps.proofs.CacheLemmas.{caches_after_step}
use Rattle.sdb_steps.proofs.RunLemmas.{run_more, run_none, legal_run}
use Rattle.sdb_steps.proofs.runner.run_steps.Goals as goal

pub returns-clause-headline : goal.returns-clause-headline
returns-clause-headline c =
    let n = one_step_of_world c.loop-step.world in
    let v = sessions_of c.loop-step.world in
    let told = map plain_step_answer c.loop-step.answers.items in
    let whole : take c.loop-step.step-index c.args.steps.now ≡ c.args.steps.now = take_all c.loop-step.step-index c.args.steps.now c.loop-step-test.false in
    legal_run _ told n v (subst (λ xs. IsRun (map plain_session_step xs) told n v) whole c.loop-step.invariant.run)

pub returns-clause-goes_on : goal.returns-clause-goes_on
returns-clause-goes_on c =
    let n = one_step_of_world c.loop-step.world in
    let v = sessions_of c.loop-step.world in
    let told = map plain_step_answer c.loop-step.answers.items in
    let whole : take c.loop-step.step-index c.args.steps.now ≡ c.args.steps.now = take_all c.loop-step.step-index c.args.steps.now c.loop-step-test.false in
    subst (λ xs. IsRun (map plain_session_step xs) told n v) whole c.loop-step.invariant.run

pub returns-clause-made : goal.returns-clause-made
returns-clause-made c = λ k.
    let run = c.loop-step.invariant.run in
    subst (λ (f : Logs). IsMade (f k)) (ap (λ m. m.logs) run.3) (c.logs_are_made.ensures run.0 k)

pub returns-clause-once : goal.returns-clause-once
returns-clause-once c = λ k.
    let run = c.loop-step.invariant.run in
    c.stored_once.ensures ((one_step_of_world c.loop-step.world).logs k) (subst (λ (f : Logs). IsMade (f k)) (ap (λ m. m.logs) run.3) (c.logs_are_made.ensures run.0 k))

pub returns-clause-continued : goal.returns-clause-continued
returns-clause-continued c =
    let n = one_step_of_world c.loop-step.world in
    let v = sessions_of c.loop-step.world in
    let told = map plain_step_answer c.loop-step.answers.items in
    let whole : take c.loop-step.step-index c.args.steps.now ≡ c.args.steps.now = take_all c.loop-step.step-index c.args.steps.now c.loop-step-test.false in
    let h = legal_run _ told n v (subst (λ xs. IsRun (map plain_session_step xs) told n v) whole c.loop-step.invariant.run) in
    c.takes_continue.ensures (map plain_session_step c.args.steps.now) told h.0 v n.logs h.1 h.2

pub returns-clause-placed : goal.returns-clause-placed
returns-clause-placed c =
    let n = one_step_of_world c.loop-step.world in
    let v = sessions_of c.loop-step.world in
    let told = map plain_step_answer c.loop-step.answers.items in
    let whole : take c.loop-step.step-index c.args.steps.now ≡ c.args.steps.now = take_all c.loop-step.step-index c.args.steps.now c.loop-step-test.false in
    let h = legal_run _ told n v (subst (λ xs. IsRun (map plain_session_step xs) told n v) whole c.loop-step.invariant.run) in
    c.submissions_are_placed.ensures (map plain_session_step c.args.steps.now) told h.0 v n.logs h.1 h.2

pub returns-clause-replays : goal.returns-clause-replays
returns-clause-replays c =
    let n = one_step_of_world c.loop-step.world in
    let v = sessions_of c.loop-step.world in
    let told = map plain_step_answer c.loop-step.answers.items in
    let whole : take c.loop-step.step-index c.args.steps.now ≡ c.args.steps.now = take_all c.loop-step.step-index c.args.steps.now c.loop-step-test.false in
    let h = legal_run _ told n v (subst (λ xs. IsRun (map plain_session_step xs) told n v) whole c.loop-step.invariant.run) in
    c.reads_are_replays.ensures (map plain_session_step c.args.steps.now) told h.0 v n.logs h.1 h.2

pub returns-clause-taken : goal.returns-clause-taken
returns-clause-taken c =
    let n = one_step_of_world c.loop-step.world in
    let v = sessions_of c.loop-step.world in
    let told = map plain_step_answer c.loop-step.answers.items in
    let whole : take c.loop-step.step-index c.args.steps.now ≡ c.args.steps.now = take_all c.loop-step.step-index c.args.steps.now c.loop-step-test.false in
    let h = legal_run _ told n v (subst (λ xs. IsRun (map plain_session_step xs) told n v) whole c.loop-step.invariant.run) in
    c.queues_take_all.ensures (map plain_session_step c.args.steps.now) told h.0 v n.logs h.1 h.2

pub returns-clause-cached : goal.returns-clause-cached
returns-clause-cached c = c.loop-step.invariant.cached

pub loop-step-init : goal.loop-step-init
loop-step-init c = record {
  run = run_none _ _ _ (ap (map plain_step_answer) c.new-answers.ensures.items) (ap (λ w. w.machine) c.in_ok-world.ensures) (ap (λ w. w.sessions) c.in_ok-world.ensures);
  cached = no_caches _ _ (ap (λ w. w.caches) c.in_ok-world.ensures);
}

pub loop-step-preserved : goal.loop-step-preserved
loop-step-preserved c =
    let i = c.loop-step.step-index in
    let steps = c.args.steps.now in
    let answers = c.loop-step.answers.items in
    let s = c.step-item.result in
    let n = one_step_of_world c.loop-step.world in
    let u = sessions_of c.loop-step.world in
    let o = one_step_of_world c.apply_step.new.self in
    let v = sessions_of c.apply_step.new.self in
    let more = ap (map plain_session_step) (take_more steps i s c.loop-step-test.true ∙ ap (λ x. take i steps ++ x ∷ []) (sym c.step-item.is)) ∙ map-append plain_session_step (take i steps) (s ∷ []) in
    let pushed = ap (map plain_step_answer) c.in_ok-push.ensures.items ∙ map-append plain_step_answer answers (c.apply_step.result ∷ []) in
    let ran = run_more n o u v (map plain_session_step (take i steps)) (map plain_step_answer answers) (plain_session_step s) (plain_step_answer c.apply_step.result) c.loop-step.invariant.run c.apply_step.ensures.step in
    record {
      run = subst (λ (xs : List PlainSessionStep). IsRun xs (map plain_step_answer c.push.new.self.items) o v) (sym more) (subst (λ (xs : List PlainStepAnswer). IsRun (map plain_session_step (take i steps) ++ plain_session_step s ∷ []) xs o v) (sym pushed) ran);
      cached = caches_after_step n o u v (plain_session_step s) (plain_step_answer c.apply_step.result) (caches_of_world c.loop-step.world) (caches_of_world c.apply_step.new.self) c.apply_step.ensures.step c.apply_step.ensures.caches c.loop-step.invariant.cached;
    }
