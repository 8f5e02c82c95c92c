-- The faults of a client.
use Rattle.std.specs.Prelude.{◌≡◌, Option, None, ⊤}
use Rattle.sdb_apply.specs.declared.op_apply.ApplyFault.{ApplyFault}
use Rattle.sdb_apply.specs.declared.op_apply.ApplyFault.TheVariants as apply
use Rattle.sdb_transform.specs.declared.side.Fault.{Fault}
use Rattle.sdb_transform.specs.declared.side.Fault.TheVariants as transform
use Rattle.sdb_client_model.specs.Client.{Client}
use Rattle.sdb_client.specs.declared.fault.ProcessFault.{ProcessFault}
use Rattle.sdb_client.specs.declared.fault.ProcessFault.TheVariants.{NotProcessed, VersionLimit, OutOfMemory}

abbrev pub fault_of_apply : ApplyFault → ProcessFault
fault_of_apply apply.NotApplied = NotProcessed
fault_of_apply apply.OutOfMemory = OutOfMemory

abbrev pub fault_of_transform : Fault → ProcessFault
fault_of_transform transform.NotTransformed = NotProcessed
fault_of_transform transform.OutOfMemory = OutOfMemory

-- the client has no next state, or its version can't increase, or an allocation failed
abbrev pub IsProcessFault : ProcessFault → Client → Option Client → Type 0
IsProcessFault NotProcessed c next = next ≡ None
IsProcessFault VersionLimit c next = c.version ≡ 18446744073709551615
IsProcessFault OutOfMemory c next = ⊤
