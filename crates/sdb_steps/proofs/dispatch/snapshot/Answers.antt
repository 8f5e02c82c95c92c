use Rattle.std.proofs.Common.{length, unwrap_or, Result, refl, sym, ap, ◌∙◌, subst}
use Rattle.sdb_oplog.specs.Keys.{plain_key}
use Rattle.sdb_oplog.specs.declared.codes.Code.{Code}
use Rattle.sdb_steps.specs.Picks.{PlainStepAnswer, snapshot}
use Rattle.sdb_steps.specs.Dispatch.{DispatchesAct}
use Rattle.sdb_desk.specs.Machine.{PlainFetchResult}
use Rattle.sdb_desk.specs.ShardView.{state_of, log_at}
use Rattle.sdb_desk.specs.StateChanges.{StateAfterRead}
use Rattle.sdb_desk.specs.laws.StateLaws.{machine_of_cache_change}
use Rattle.sdb_steps.specs.Caches.{read_result}
use Rattle.sdb_steps.specs.StateView.{one_step_of_shard}
use Rattle.sdb_steps.specs.View.{plain_fetched}
use Rattle.sdb_steps.proofs.CacheLemmas.{refused_read}
use Rattle.sdb_steps.proofs.CommitLemmas.{same_core}
use Rattle.sdb_steps.proofs.QueueStepLemmas.{snapshot_refused, snapshot_read}
use Rattle.sdb_steps.proofs.dispatch.snapshot.Goals as goal

pub returns-in-Err-clause-dispatches : goal.returns-in-Err-clause-dispatches
returns-in-Err-clause-dispatches c =
    let m = one_step_of_shard c.args.shard.now in
    let n = one_step_of_shard c.snapshot_at.new.self in
    let k = plain_key c.args.key.now in
    let same = machine_of_cache_change k (state_of c.args.shard.now) (state_of c.snapshot_at.new.self) c.snapshot_at.ensures.cache.1 in
    let told = c.in-Err.ensures in
    λ i x. subst (λ (z : PlainStepAnswer). DispatchesAct i m x (snapshot k c.args.version) z n x) (sym c.refused_snapshot.ensures) (snapshot_refused i m n x x k c.args.version c.in-Err.code told.snapshot (same_core c.args.shard.now c.snapshot_at.new.self same.0 same.1) refl)

pub returns-in-Ok-clause-dispatches : goal.returns-in-Ok-clause-dispatches
returns-in-Ok-clause-dispatches c =
    let m = one_step_of_shard c.args.shard.now in
    let n = one_step_of_shard c.snapshot_at.new.self in
    let k = plain_key c.args.key.now in
    let same = machine_of_cache_change k (state_of c.args.shard.now) (state_of c.snapshot_at.new.self) c.snapshot_at.ensures.cache.1 in
    let told = c.in-Ok.ensures in
    λ i x. snapshot_read i m n x x k c.args.version (plain_fetched c.in-Ok.fetched) told.snapshot (same_core c.args.shard.now c.snapshot_at.new.self same.0 same.1) refl

pub returns-in-Err-clause-cache : goal.returns-in-Err-clause-cache
returns-in-Err-clause-cache c =
    let v = unwrap_or c.args.version (length (log_at c.args.shard.now c.args.key.now)) in
    subst (λ (r : Result PlainFetchResult Code). StateAfterRead (plain_key c.args.key.now) v r (state_of c.args.shard.now) (state_of c.snapshot_at.new.self))
    (sym (ap read_result c.refused_snapshot.ensures ∙ refused_read c.in-Err.code)) c.in-Err.ensures.cache
