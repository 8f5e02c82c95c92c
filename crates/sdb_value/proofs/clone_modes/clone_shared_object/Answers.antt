use Rattle.std.proofs.Common.{◌≡◌, true, sym, ap, ◌∙◌}
use Rattle.std.specs.Option.{is_some}
use Rattle.sdb_sorted_map.specs.SortedMap.{map_entries, is_shared_map, map_chunks}
use Rattle.sdb_value.specs.Uniqueness.{is_unique}
use Rattle.sdb_value.proofs.CloneLemmas.{if_some_at, value_object, members_again, shared_list_unique, value_own}
use Rattle.sdb_value.proofs.UniquenessLemmas.{unique_object, pointer_object}
use Rattle.sdb_value.proofs.clone_modes.clone_shared_object.Goals as goal

pub returns-in-Some-clause-value : goal.returns-in-Some-clause-value
returns-in-Some-clause-value c =
    let m = c.in-Object.members in
    let new = c.in-Some.members in
    let o = c.in_ok-members-in-Object.field-0 in
    value_object c.args.value.now m new c.in-Object.is (members_again m new (if_some_at (λ n. map_entries n ≡ map_entries m) o new c.in-Some.is c.in_ok-members-in-Object.ensures.equal))

pub returns-in-Some-clause-unique : goal.returns-in-Some-clause-unique
returns-in-Some-clause-unique c =
    let m = c.in-Object.members in
    let new = c.in-Some.members in
    let o = c.in_ok-members-in-Object.field-0 in
    let now = if_some_at (λ n. is_shared_map n ≡ true) o new c.in-Some.is c.in_ok-members-in-Object.ensures.shared in
    let was : is_shared_map m ≡ true = sym c.in_ok-members-in-Object.ensures.found ∙ ap is_some c.in-Some.is in
    unique_object new ∙ shared_list_unique value_own (map_chunks new) now ∙ sym (ap is_unique c.in-Object.is ∙ unique_object m ∙ shared_list_unique value_own (map_chunks m) was)

pub returns-in-Some-clause-frozen : goal.returns-in-Some-clause-frozen
returns-in-Some-clause-frozen c =
    pointer_object c.in-Some.members
    ∙ if_some_at (λ n. is_shared_map n ≡ true) c.in_ok-members-in-Object.field-0 c.in-Some.members c.in-Some.is c.in_ok-members-in-Object.ensures.shared
