-- In each arm both texts are the same bytes.
use Rattle.std.proofs.Common.{ap, sym}
use Rattle.sdb_wire.specs.Answers.{code_name}
use Rattle.sdb_wire.proofs.codes.code_name.Goals as goal

pub returns-in-E1 : goal.returns-in-E1
returns-in-E1 c = ap code_name (sym c.in-E1.is)

pub returns-in-E2 : goal.returns-in-E2
returns-in-E2 c = ap code_name (sym c.in-E2.is)

pub returns-in-E3 : goal.returns-in-E3
returns-in-E3 c = ap code_name (sym c.in-E3.is)

pub returns-in-E4 : goal.returns-in-E4
returns-in-E4 c = ap code_name (sym c.in-E4.is)

pub returns-in-E5 : goal.returns-in-E5
returns-in-E5 c = ap code_name (sym c.in-E5.is)

pub returns-in-E6 : goal.returns-in-E6
returns-in-E6 c = ap code_name (sym c.in-E6.is)

pub returns-in-E7 : goal.returns-in-E7
returns-in-E7 c = ap code_name (sym c.in-E7.is)

pub returns-in-E8 : goal.returns-in-E8
returns-in-E8 c = ap code_name (sym c.in-E8.is)

pub returns-in-E9 : goal.returns-in-E9
returns-in-E9 c = ap code_name (sym c.in-E9.is)

pub returns-in-E10 : goal.returns-in-E10
returns-in-E10 c = ap code_name (sym c.in-E10.is)

pub returns-in-E11 : goal.returns-in-E11
returns-in-E11 c = ap code_name (sym c.in-E11.is)
