use Rattle.std.proofs.Common.{refl, sym, ◌∙◌}
use Rattle.sdb_oplog.specs.Keys.{plain_key}
use Rattle.sdb_steps.specs.StateView.{one_step_of_shard, plain_open_attempt}
use Rattle.sdb_steps.proofs.CommitLemmas.{work_of_attempt, unworked_out_of_memory, same_decides}
use Rattle.sdb_steps.proofs.session_data.OpenAttempt.commit_unworked.Goals as goal

pub returns-then-version-look_version-clause-commits : goal.returns-then-version-look_version-clause-commits
returns-then-version-look_version-clause-commits c =
    unworked_out_of_memory c.args.shard.now (plain_open_attempt c.args.self) (plain_open_attempt c.args.self) c.args.now c.requires.bound (λ e. c.if-version-look_version.true (c.version.ensures ∙ e ∙ sym c.look_version.ensures)) refl c.requires.memory.0
    (work_of_attempt (one_step_of_shard c.args.shard.now) (plain_key c.args.self.key) c.args.self.phase c.args.self.tries c.requires.has_look c.requires.memory.1)

pub commit_now-requires-clause-is_deciding : goal.commit_now-requires-clause-is_deciding
commit_now-requires-clause-is_deciding c =
    same_decides c.args.shard.now (plain_open_attempt c.args.self) (sym c.version.ensures ∙ c.if-version-look_version.false ∙ c.look_version.ensures)
