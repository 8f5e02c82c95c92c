use Rattle.std.proofs.Common.{◌≡◌, ◌++◌, drop, option_map}
use Rattle.sdb_client_model.specs.Client.{cross_pending}
use Rattle.sdb_client.proofs.pending.cross_pending.Given as goal

abbrev pub invariant-loop-op : goal.invariant-loop-op
invariant-loop-op l =
    option_map (λ x. x.pending) (cross_pending l.pending l.fn.received)
    ≡ option_map (λ x. l.transformed.items ++ x.pending)
    (cross_pending (drop l.op-index l.pending) l.received)
