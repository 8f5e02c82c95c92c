use Rattle.std.proofs.Common.{◌≡◌, ◌≤◌, ◌+◌, ◌*◌, List, ◌++◌, drop, map, true, option_map}
use Rattle.serde_json.specs.Data as raw
use Rattle.serde_json.specs.View as data-view
use Rattle.sdb_sorted_map.specs.MapEntry.{key_value}
use Rattle.sdb_value.specs.Uniqueness.{items_unique}
use Rattle.sdb_value.specs.Value.{append_items, items_depth, members_depth}
use Rattle.sdb_value.specs.FromJson.{items_of_data}
use Rattle.sdb_value.specs.View.{items_value, members_value}
use Rattle.sdb_value.proofs.ReadLemmas.{ReadEntry, AreReadMembers, entries_own}
use Rattle.sdb_value.proofs.from_json.+read_value.Given as goal

abbrev pub invariant-read_items-loop-item : goal.invariant-read_items-loop-item
invariant-read_items-loop-item g l =
    let f = g.D.JsonData.json in record {
      reads : items_of_data (data-view.items_of (map f l.items)) ≡ option_map (append_items (items_value l.done.items)) (items_of_data (data-view.items_of (map f (drop l.item-index l.items))));
      low : items_depth (items_value l.done.items) ≤ l.left;
      rest : raw.items_depth (data-view.items_of (map f (drop l.item-index l.items))) ≤ raw.items_depth (data-view.items_of (map f l.items));
      own : items_unique l.done.items ≡ true;
    }

abbrev pub invariant-read_members-loop-key : goal.invariant-read_members-loop-key
invariant-read_members-loop-key g l = record {
  done : List (ReadEntry g.row.D.Denot);
  split : l.members.entries ≡ done ++ l.key-iterator;
  reads : AreReadMembers g.D.JsonData.json done (map key_value l.entries.items);
  low : members_depth (members_value (map key_value l.entries.items)) ≤ l.left;
  own : entries_own (map key_value l.entries.items) ≡ true;
}

abbrev pub decreases-read_value : goal.decreases-read_value
decreases-read_value g l = 2 * l.left

abbrev pub decreases-read_items : goal.decreases-read_items
decreases-read_items g l = 2 * l.left + 1

abbrev pub decreases-read_members : goal.decreases-read_members
decreases-read_members g l = 2 * l.left + 1
