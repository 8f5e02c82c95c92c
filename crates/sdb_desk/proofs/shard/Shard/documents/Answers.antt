use Rattle.std.proofs.Common.{◌≡◌, [], ◌++◌, ◌∙◌, sym, subst, map, ap, append-nil}
use Rattle.sdb_oplog.specs.Keys.{plain_key}
use Rattle.sdb_desk.proofs.KeyListLemmas.{nonempty_keys, nonempty_keys_are_key_list}
use Rattle.sdb_desk.specs.ShardView.{logs_of}
use Rattle.sdb_desk.specs.StoredKeys.{IsKeyList}
use Rattle.sdb_desk.proofs.shard.Shard.documents.Goals as goal

pub returns : goal.returns
returns c =
    let end : c.loop-key.key-iterator ≡ [] = c.in-None.ensures.steps.0 in
    let whole : map plain_key c.loop-key.keys.items ≡ nonempty_keys c.args.self.now.slots.entries =
    sym (append-nil (map plain_key c.loop-key.keys.items)) ∙ sym (ap (λ r. map plain_key c.loop-key.keys.items ++ nonempty_keys r) end) ∙ c.loop-key.invariant in
    subst (IsKeyList (logs_of c.args.self.now)) (sym whole) (nonempty_keys_are_key_list c.args.self.now.slots.entries c.iter-key-items.ensures.ordered)
