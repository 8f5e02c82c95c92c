use Rattle.std.proofs.Common.{Result, Ok, Err, IfErr}
use Rattle.serde_json.specs.Data.{Data}
use Rattle.sdb_value.specs.FromJson.{IsReadFault}
use Rattle.sdb_value.specs.declared.from_json.ValueFault.{ValueFault}
use Rattle.sdb_value.proofs.DepthLemmas.{read_fault_of_depth}
use Rattle.sdb_value.proofs.from_json.from_value.Goals as goal

of_err : {A : Type 0} {P Q : ValueFault → Type 0} (r : Result A ValueFault) → ((f : ValueFault) → P f → Q f) → IfErr r P → IfErr r Q
of_err (Ok x) h e = tt
of_err (Err f) h e = h f e

pub returns-clause-err : goal.returns-clause-err
returns-clause-err g c =
    let d : Data = g.D.JsonData.json c.args.value.now in
    of_err {P = IsReadFault 50 d} c.read_value.result (read_fault_of_depth d) c.read_value.ensures.err
