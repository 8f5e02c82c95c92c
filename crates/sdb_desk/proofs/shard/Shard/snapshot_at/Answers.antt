use Rattle.std.proofs.Common.{inl, unwrap_or, Result, Err, refl, ap, ◌∙◌, arith}
use Rattle.sdb_oplog.specs.Keys.{plain_key}
use Rattle.sdb_oplog.specs.declared.codes.Code.{Code}
use Rattle.sdb_oplog.specs.declared.codes.Code.TheVariants.{E4}
use Rattle.sdb_desk.specs.Machine.{PlainFetchResult}
use Rattle.sdb_desk.specs.Reads.{CacheAfterRead}
use Rattle.sdb_desk.specs.ShardView.{state_of, logs_of}
use Rattle.sdb_desk.proofs.StateLemmas.{only_cache_of_unchanged}
use Rattle.sdb_desk.proofs.shard.Shard.snapshot_at.Goals as goal

pub returns-then-present-version-clause-cache : goal.returns-then-present-version-clause-cache
returns-then-present-version-clause-cache c =
    let k = plain_key c.args.key.now in
    let s = state_of c.args.self.now in
    let is = c.unwrap_or-version.ensures ∙ ap (unwrap_or c.args.version) c.version-present.ensures in
    let above : Result PlainFetchResult Code = Err E4 in
    only_cache_of_unchanged (CacheAfterRead (logs_of c.args.self.now k) _ above) k s s refl (inl (omega (arith, c.if-present-version.true, c.version-present.ensures, is), refl))
