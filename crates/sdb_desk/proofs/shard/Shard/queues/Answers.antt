use Rattle.std.proofs.Common.{◌≡◌, [], ◌∙◌, sym, subst, ap, min}
use Rattle.std.specs.Map.{values_of}
use Rattle.sdb_desk.proofs.OpenQueueLemmas.{IsCountSoFar, keys_distinct, no_queue_of_other_key, open_of_total, plain_keys, count_so_far_all}
use Rattle.sdb_desk.proofs.shard.Shard.queues.Goals as goal

pub returns : goal.returns
returns c =
    let es = c.args.self.now.slots.entries in
    let order = c.values-slot-items.ensures.ordered in
    let end : c.loop-slot.slot-iterator ≡ [] = c.in-None.ensures.steps.0 in
    record {
      keys = plain_keys es;
      distinct = keys_distinct es order;
      others = no_queue_of_other_key es;
      count_saturated = count_so_far_all (values_of es) c.loop-slot.count (subst (λ r. IsCountSoFar (values_of es) r c.loop-slot.count) end c.loop-slot.invariant)
          ∙ ap (λ n. min n 18446744073709551615) (sym (open_of_total es order));
    }
