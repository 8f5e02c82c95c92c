use Rattle.std.proofs.Common.{◌≡◌, ◌+◌, ◌<◌, ◌≤◌, List, ◌∷◌, length, drop, get_or, sym, subst, ap, ◌∙◌}
use Rattle.std.proofs.lemmas.List.{drop_more, drop_all}
use Rattle.sdb_backend.proofs.OpenCountLemmas.{IsCountSoFar, count_so_far_nil, count_so_far_cons, count_so_far_all}
use Rattle.sdb_backend.specs.declared.shard_value.Held.{Held}
use Rattle.sdb_backend.proofs.audit.Audit.queues.Goals as goal

pub loop-held-init : goal.loop-held-init
loop-held-init c = count_so_far_nil c.args.self.now.shards.items

pub loop-held-preserved : goal.loop-held-preserved
loop-held-preserved c =
    let xs = c.args.self.now.shards.items in
    let i = c.loop-held.held-index in
    let h = c.held-item.result in
    let value = c.deref-held-items.ensures.value in
    let lt : i < length xs = subst (λ (ys : List Held). i < length ys) value c.loop-held-test.true in
    let at : get_or xs i h ≡ h = ap (λ (ys : List Held). get_or ys i h) (sym value) ∙ sym c.held-item.is in
    let front : drop i xs ≡ h ∷ drop (i + 1) xs = drop_more xs i h lt ∙ ap (λ (x : Held). x ∷ drop (i + 1) xs) at in
    count_so_far_cons xs (drop (i + 1) xs) h c.loop-held.count c.queues.result c.saturating_add-count.result
    (subst (λ (ys : List Held). IsCountSoFar xs ys c.loop-held.count) front c.loop-held.invariant) c.queues.ensures c.saturating_add-count.ensures

pub returns : goal.returns
returns c =
    let xs = c.args.self.now.shards.items in
    let i = c.loop-held.held-index in
    let over = subst (λ (ys : List Held). length ys ≤ i) c.deref-held-items.ensures.value c.loop-held-test.false in
    count_so_far_all xs c.loop-held.count (subst (λ (ys : List Held). IsCountSoFar xs ys c.loop-held.count) (drop_all i xs over) c.loop-held.invariant)
