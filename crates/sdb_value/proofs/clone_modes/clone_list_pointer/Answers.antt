use Rattle.std.proofs.Common.{◌≡◌, true}
use Rattle.sdb_chunks.specs.ChunkedVec.{is_shared_vec}
use Rattle.sdb_value.specs.Uniqueness.{is_unique}
use Rattle.sdb_value.proofs.CloneLemmas.{some_of, found_of, none_of, list_again, list_pointed}
use Rattle.sdb_value.proofs.clone_modes.clone_list_pointer.Goals as goal

pub returns-in_default : goal.returns-in_default
returns-in_default c =
    let l = c.args.items.now in
    let e = c.clone_shared.ensures in
    record {
      items = some_of c.clone_shared.result (list_again l) e.equal;
      unique = found_of {P = λ x. is_shared_vec x ≡ true} c.clone_shared.result (is_shared_vec l) (λ x was now. list_pointed is_unique c.args.mode l x c.in_default.not-Unique was now) e.found e.shared;
      none = none_of c.clone_shared.result (is_shared_vec l) e.found (λ h _. h);
    }
