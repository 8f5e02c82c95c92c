-- The code for each fault of a lower crate.
use Rattle.sdb_value.specs.declared.from_json.ValueFault.{ValueFault}
use Rattle.sdb_value.specs.declared.from_json.ValueFault.TheVariants as value
use Rattle.sdb_component.specs.declared.from_json.OpFault.{OpFault}
use Rattle.sdb_component.specs.declared.from_json.OpFault.TheVariants as op
use Rattle.sdb_apply.specs.declared.op_apply.ApplyFault.{ApplyFault}
use Rattle.sdb_apply.specs.declared.op_apply.ApplyFault.TheVariants as apply
use Rattle.sdb_transform.specs.declared.side.Fault.{Fault}
use Rattle.sdb_transform.specs.declared.side.Fault.TheVariants as transform
use Rattle.sdb_oplog.specs.declared.codes.Code.{Code}
use Rattle.sdb_oplog.specs.declared.codes.Code.TheVariants.{E3, E8, E10}

abbrev pub code_of_value_fault : ValueFault → Code
code_of_value_fault value.NumberOutOfRange = E3
code_of_value_fault value.TooDeep = E3
code_of_value_fault value.OutOfMemory = E10

abbrev pub code_of_op_fault : OpFault → Code
code_of_op_fault op.BadlyFormed = E3
code_of_op_fault op.OutOfMemory = E10

abbrev pub code_of_apply_fault : ApplyFault → Code
code_of_apply_fault apply.NotApplied = E8
code_of_apply_fault apply.OutOfMemory = E10

abbrev pub code_of_transform_fault : Fault → Code
code_of_transform_fault transform.NotTransformed = E8
code_of_transform_fault transform.OutOfMemory = E10
