use Rattle.std.proofs.Common.{inl, refl, arith}
use Rattle.sdb_oplog.specs.Keys.{plain_key}
use Rattle.sdb_desk.specs.Reads.{CacheAfterUse}
use Rattle.sdb_desk.specs.ShardView.{state_of, logs_of}
use Rattle.sdb_desk.proofs.StateLemmas.{only_cache_of_unchanged}
use Rattle.sdb_desk.proofs.shard.Shard.replay_base.Goals as goal

pub returns-then-version-clause-cache : goal.returns-then-version-clause-cache
returns-then-version-clause-cache c =
    let k = plain_key c.args.key.now in
    let s = state_of c.args.self.now in
    only_cache_of_unchanged (CacheAfterUse (logs_of c.args.self.now k) c.args.version) k s s refl (inl (omega (arith, c.version.ensures, c.if-version.true), refl))
