use Rattle.std.proofs.Common.{subst}
use Rattle.sdb_subscribe.specs.Queue.{AreBelowNext, queue_ids}
use Rattle.sdb_subscribe.specs.Ring.{RingedQueues, without_rings}
use Rattle.sdb_subscribe.proofs.QueueMapLemmas.{assigned_bare}
use Rattle.sdb_subscribe.proofs.queues.Queues.next_id.Goals as goal

pub returns-clause-below : goal.returns-clause-below
returns-clause-below c =
    let P : RingedQueues → Type 0 = λ q. AreBelowNext (without_rings q).next (queue_ids (without_rings q).queues) in
    subst P c.self.view_is (assigned_bare c.self.inside.next c.self.inside.queues.entries c.self.invariant)
