use Rattle.std.proofs.Common.{◌≡◌, ◌+◌, ◌<◌, true, nat_lt, map, sum, arith, rules, sym, subst, ◌∙◌}
use Rattle.std.proofs.Math.Nat.{mod-lt}
use Rattle.std.proofs.lemmas.Grind.{common_steps}
use Rattle.std.proofs.lemmas.Result.{IfOk-weaker}
use Rattle.sdb_oplog.specs.Keys.{PlainKey, plain_key, shard_of}
use Rattle.sdb_desk.specs.Machine.{is_nonempty}
use Rattle.sdb_desk.specs.StoredKeys.{IsKeyList}
use Rattle.sdb_backend.specs.AuditModel.{logs_of_shards}
use Rattle.sdb_backend.specs.GatheredKeys.{is_gathered}
use Rattle.sdb_backend.proofs.GatherLemmas.{true_and, in_order}
use Rattle.sdb_backend.proofs.audit.Audit.documents.Goals as goal

pub returns : goal.returns
returns c =
    let shards = c.args.self.now.shards.items in
    let all = c.loop-number.all in
    let under : (k : PlainKey) → nat_lt (shard_of k) c.loop-number.number ≡ true = λ k. let h : shard_of k < 8 = mod-lt (sum k.collection + sum k.id) (search rules) in grind (arith, common_steps, h, c.loop-number-test.false) in
    let whole : (k : PlainKey) → is_gathered all k ≡ is_nonempty (logs_of_shards shards k) = λ k. c.loop-number.invariant k ∙ true_and (nat_lt (shard_of k) c.loop-number.number) (is_nonempty (logs_of_shards shards k)) (under k) in
    let stored : IsKeyList (logs_of_shards shards) (map plain_key all.keys) = record { in_order = in_order all.keys c.into_iter.ensures.into_iter_gives.4; whole = whole } in
    IfOk-weaker c.collect.result (λ v. v.items ≡ all.keys) (λ v. IsKeyList (logs_of_shards shards) (map plain_key v.items))
    (λ v e. subst (λ ks. IsKeyList (logs_of_shards shards) (map plain_key ks)) (sym e) stored) (search rules)
