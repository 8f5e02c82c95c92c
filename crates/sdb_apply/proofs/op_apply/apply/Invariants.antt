use Rattle.std.proofs.Common.{◌≡◌, take, true, Some}
use Rattle.sdb_value.specs.Uniqueness.{is_unique}
use Rattle.sdb_value.specs.View.{value_of}
use Rattle.sdb_apply.specs.Apply.{apply}
use Rattle.sdb_apply.proofs.op_apply.apply.Given as goal

abbrev pub invariant-loop-at : goal.invariant-loop-at
invariant-loop-at l = record {
  applied : apply (take l.at l.op) (value_of l.initial.value) ≡ Some (value_of l.value);
  own : is_unique l.initial.value ≡ true → is_unique l.value ≡ true;
}
