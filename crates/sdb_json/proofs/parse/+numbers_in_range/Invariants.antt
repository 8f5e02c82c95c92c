use Rattle.std.proofs.Common.{◌≡◌, drop, is_some}
use Rattle.json.specs.Value.{items_view, members_view}
use Rattle.serde_json.specs.Data.{no_members}
use Rattle.serde_json.specs.Read.{of_items, of_members}
use Rattle.sdb_json.proofs.parse.+numbers_in_range.Given as goal

abbrev pub invariant-have_numbers_in_range-loop-item :
    goal.invariant-have_numbers_in_range-loop-item
invariant-have_numbers_in_range-loop-item l =
    is_some (of_items (items_view l.items)) ≡ is_some (of_items (items_view (drop l.item-index l.items)))

abbrev pub invariant-members_have_numbers_in_range-loop-member :
    goal.invariant-members_have_numbers_in_range-loop-member
invariant-members_have_numbers_in_range-loop-member l =
    is_some (of_members (members_view l.members) no_members) ≡ is_some (of_members (members_view (drop l.member-index l.members)) no_members)
