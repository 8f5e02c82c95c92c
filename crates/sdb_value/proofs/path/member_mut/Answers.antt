use Rattle.sdb_value.proofs.PutLemmas.{both_first, object_found, object_shared, unique_found}
use Rattle.sdb_sorted_map.specs.SortedMap.{is_unique_map, map_chunks}
use Rattle.sdb_chunks.specs.ChunkedVec.{vec_items}
use Rattle.sdb_value.specs.Uniqueness.{members_unique}
use Rattle.sdb_value.proofs.path.member_mut.Goals as goal

pub returns : goal.returns
returns c =
    let m = c.args.members.now in
    let k = c.args.name.now in (
      λ own. object_found c.get_mut.result (λ x. x.now) m k (c.get_mut.ensures.unique (both_first (is_unique_map m) (members_unique (vec_items (map_chunks m))) own)),
      (
        λ own. unique_found c.get_mut.result (λ x. x.now) m k (c.get_mut.ensures.unique (both_first (is_unique_map m) (members_unique (vec_items (map_chunks m))) own)) own,
        object_shared c.get_mut.result (λ x. x.now) m k c.get_mut.ensures.found,
      ),
    )
