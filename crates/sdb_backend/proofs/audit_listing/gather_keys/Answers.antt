use Rattle.std.proofs.Common.{◌≡◌, ◌||◌, ◌&&◌, [], ◌∷◌, nat_eq, ap, sym, ◌∙◌}
use Rattle.std.proofs.lemmas.List.{nil_from_length}
use Rattle.std.specs.Vec.Iter.{into_iter_items}
use Rattle.sdb_oplog.specs.Keys.{shard_of}
use Rattle.sdb_backend.specs.GatheredKeys.{is_gathered}
use Rattle.sdb_backend.proofs.GatherLemmas.{has_own, gathered_of_put, own_is, or_false}
use Rattle.sdb_backend.proofs.audit_listing.gather_keys.Goals as goal

pub loop-key-preserved-in_ok-insert : goal.loop-key-preserved-in_ok-insert
loop-key-preserved-in_ok-insert c = λ k.
    let n = c.args.number in
    let steps : into_iter_items c.loop-key.key-iterator ≡ c.in-Some.key ∷ into_iter_items c.next.new.self = c.in-Some.ensures.steps.0 in
    gathered_of_put n c.loop-key.all.keys c.insert.new.self.keys (into_iter_items c.next.new.self) c.in-Some.key k (sym c.shard.ensures.shard ∙ c.if-shard-number.true) c.in_ok-insert.ensures.keys
    ∙ ap (λ xs. is_gathered c.loop-key.all k || has_own n xs k) (sym steps) ∙ c.loop-key.invariant k

pub returns : goal.returns
returns c = λ k.
    let n = c.args.number in
    let end : into_iter_items c.loop-key.key-iterator ≡ [] = nil_from_length (into_iter_items c.loop-key.key-iterator) (sym c.loop-key.key-iterator.rest.ok.0 ∙ c.in-None.ensures.steps.0) in
    let items : into_iter_items c.into_iter-key-iterator.result ≡ c.in_ok-key-items.key-items.items = c.into_iter-key-iterator.ensures.into_iter_gives.0 in
    or_false (is_gathered c.loop-key.all k) ∙ ap (λ xs. is_gathered c.loop-key.all k || has_own n xs k) (sym end) ∙ c.loop-key.invariant k
    ∙ ap (λ xs. is_gathered c.args.all.now k || has_own n xs k) items ∙ ap (λ b. is_gathered c.args.all.now k || b) (own_is n c.in_ok-key-items.key-items.items k)
    ∙ ap (λ b. is_gathered c.args.all.now k || (nat_eq (shard_of k) n && b)) (c.in_ok-key-items.ensures.whole k)
