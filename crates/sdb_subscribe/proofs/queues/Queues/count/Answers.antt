use Rattle.std.proofs.Common.{nat_eq, subst}
use Rattle.std.specs.List.{IsDistinct}
use Rattle.sdb_subscribe.specs.Queue.{queue_ids}
use Rattle.sdb_subscribe.specs.Ring.{RingedQueues, without_rings}
use Rattle.sdb_subscribe.proofs.QueueMapLemmas.{ids_distinct}
use Rattle.sdb_subscribe.proofs.queues.Queues.count.Goals as goal

pub returns-clause-distinct : goal.returns-clause-distinct
returns-clause-distinct c = let P : RingedQueues → Type 0 = λ q. IsDistinct nat_eq (queue_ids (without_rings q).queues) in subst P c.self.view_is (ids_distinct c.self.inside.queues.entries c.len.ensures.ordered)
