use Rattle.std.proofs.Common.{◌≡◌, List, [], ◌∷◌, ℕ, subst, sym, ap, ◌∙◌, arith}
use Rattle.sdb_sorted_map.specs.Iter.{remaining_entries}
use Rattle.sdb_sorted_map.specs.SortedMap.{map_entries, entry_keys}
use Rattle.sdb_sorted_map.specs.KeyOrder.{IsAscending}
use Rattle.sdb_value.specs.View.{members_value}
use Rattle.sdb_value.specs.WellFormed.{IsKeyBelowAll, MembersWellFormed}
use Rattle.sdb_value.proofs.KeyOrderLemmas.{NamedEntry, IsBelowAllNames, first_is_least}
use Rattle.sdb_value.proofs.WeightLemmas.{members_rest_below, members_weight}
use Rattle.sdb_value.proofs.laws.+well_formed.Goals as goal

below_all : (k : List ℕ) (es : List NamedEntry) → IsBelowAllNames k es → IsKeyBelowAll k (members_value es)
below_all k [] h = tt
below_all k (e ∷ es) h = (h.0, below_all k es h.1)

pub members_well_formed-loop-key-init : goal.members_well_formed-loop-key-init
members_well_formed-loop-key-init t c =
    let m = c.args.members.now in
    let all : remaining_entries c.into_iter-key-iterator.result ≡ map_entries m = ap remaining_entries c.into_iter-key-iterator.ensures.into_iter_gives ∙ c.iter-key-items.ensures.members in
    let same : members_weight (remaining_entries c.into_iter-key-iterator.result) ≡ members_weight (map_entries m) = ap members_weight all in
    record {
      sorted = subst (λ es. IsAscending (entry_keys es)) (sym all) c.iter-key-items.ensures.ordered;
      well_formed = subst (λ es. MembersWellFormed (members_value es)) all;
      below = omega (arith, same);
    }

pub members_well_formed-loop-key-preserved : goal.members_well_formed-loop-key-preserved
members_well_formed-loop-key-preserved t c =
    let e : NamedEntry = (c.in-Some.key.now, c.in-Some.member.now) in
    let left = remaining_entries c.next.new.self in
    let before = c.loop-key.invariant in
    let split = first_is_least e left (subst (λ es. IsAscending (entry_keys es)) c.in-Some.ensures.steps before.sorted) in
    record {
      sorted = split.rest;
      well_formed = λ h. before.well_formed (subst (λ es. MembersWellFormed (members_value es)) (sym c.in-Some.ensures.steps)
          (c.key_is_text.ensures, c.all_well_formed.ensures, below_all e.0 left split.below, h));
      below = members_rest_below _ left e _ c.in-Some.ensures.steps before.below;
    }
