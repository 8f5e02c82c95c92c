use Rattle.std.proofs.Common.{◌≡◌, true}
use Rattle.sdb_sorted_map.specs.SortedMap.{is_shared_map, map_chunks}
use Rattle.sdb_value.proofs.CloneLemmas.{some_of, found_of, none_of, list_pointed, members_again, value_own}
use Rattle.sdb_value.proofs.clone_modes.clone_members_pointer.Goals as goal

pub returns-in_default : goal.returns-in_default
returns-in_default c =
    let m = c.args.members.now in
    let e = c.clone_shared.ensures in
    record {
      members = some_of c.clone_shared.result (members_again m) e.equal;
      unique = found_of {P = λ x. is_shared_map x ≡ true} c.clone_shared.result (is_shared_map m)
          (λ x was now. list_pointed value_own c.args.mode (map_chunks m) (map_chunks x) c.in_default.not-Unique was now) e.found e.shared;
      none = none_of c.clone_shared.result (is_shared_map m) e.found (λ h _. h);
    }
