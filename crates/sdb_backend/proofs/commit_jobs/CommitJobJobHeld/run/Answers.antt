use Rattle.std.proofs.Common.{sym, subst, refl, ◌∙◌}
use Rattle.sdb_oplog.specs.Keys.{plain_key}
use Rattle.sdb_desk.specs.ShardView.{state_of, machine_of}
use Rattle.sdb_desk.specs.View.{outcome_of_decision}
use Rattle.sdb_desk.specs.StateChanges.{StateAfterCommit}
use Rattle.sdb_submit.specs.laws.ShardLaws.{commit_call}
use Rattle.sdb_backend.proofs.HistoryGrowth.{MachineGrows, call_grown}
use Rattle.sdb_backend.proofs.commit_jobs.CommitJobJobHeld.run.Goals as goal

pub returns-then-version-clause-postcondition : goal.returns-then-version-clause-postcondition
returns-then-version-clause-postcondition c = (record { look = c.requires.1; grown = λ e. c.if-version.true (c.version.ensures ∙ e ∙ sym c.version-2.ensures) }, (refl, refl))

pub returns-clause-extends : goal.returns-clause-extends
returns-clause-extends c =
    let e = sym c.list_decision.ensures.shard in
    let m = machine_of c.args.held.now.shard in
    let decides = subst (λ h. StateAfterCommit (plain_key c.args.self.key.now) c.args.self.work.now c.args.self.now (outcome_of_decision c.args.self.work.now c.decide-decision.result) (state_of h) (state_of c.decide-decision.new.self)) c.in-Ok.ensures.shard c.decide-decision.ensures in
    (subst (λ s. MachineGrows c.args._number m (machine_of s)) e (call_grown _ _ _ _ _ _ c.requires.0 (commit_call c.args._number (plain_key c.args.self.key.now) (state_of c.args.held.now.shard) (state_of c.decide-decision.new.self) c.args.self.work.now c.args.self.now (outcome_of_decision c.args.self.work.now c.decide-decision.result) decides))).extends

pub returns-clause-others_unchanged : goal.returns-clause-others_unchanged
returns-clause-others_unchanged c =
    let e = sym c.list_decision.ensures.shard in
    let m = machine_of c.args.held.now.shard in
    let decides = subst (λ h. StateAfterCommit (plain_key c.args.self.key.now) c.args.self.work.now c.args.self.now (outcome_of_decision c.args.self.work.now c.decide-decision.result) (state_of h) (state_of c.decide-decision.new.self)) c.in-Ok.ensures.shard c.decide-decision.ensures in
    (subst (λ s. MachineGrows c.args._number m (machine_of s)) e (call_grown _ _ _ _ _ _ c.requires.0 (commit_call c.args._number (plain_key c.args.self.key.now) (state_of c.args.held.now.shard) (state_of c.decide-decision.new.self) c.args.self.work.now c.args.self.now (outcome_of_decision c.args.self.work.now c.decide-decision.result) decides))).others
