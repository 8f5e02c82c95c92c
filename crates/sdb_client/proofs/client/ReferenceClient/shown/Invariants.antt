use Rattle.std.proofs.Common.{◌≡◌, drop}
use Rattle.sdb_value.specs.View.{value_of}
use Rattle.sdb_client_model.specs.Client.{apply_all}
use Rattle.sdb_client.proofs.client.ReferenceClient.shown.Given as goal

abbrev pub invariant-loop-op : goal.invariant-loop-op
invariant-loop-op l =
    apply_all l.self.pending.items (value_of l.self.document)
    ≡ apply_all (drop l.op-index l.self.pending.items) (value_of l.document)
