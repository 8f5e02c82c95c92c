-- Visible members, one by one.
use Rattle.std.proofs.Common.{◌≡◌, ℕ, List, [], ◌∷◌, ◌++◌, Bool, true, false, cond, Less, Greater, sym, ap, ◌∙◌}
use Rattle.std.proofs.lemmas.Cmp.{nat_list_cmp_total}
use Rattle.std.specs.List.{AllByRecursion}
use Rattle.std.specs.List.Sorted.{IsStrictlySortedBy}
use Rattle.std.specs.Ordering.{match_ordering, ordering_reverse}
use Rattle.sdb_sorted_map.specs.SortedMap.{entry_keys}
use Rattle.sdb_sorted_map.specs.KeyOrder.{compare_bytes, IsAscending}
use Rattle.sdb_value.specs.Value.{Value, Members, no_members, member, put_member}
use Rattle.sdb_value.specs.View.{value_of, members_value}
use Rattle.sdb_value.specs.declared.value.Json.{Json}
use Rattle.sdb_projection.specs.ProjectionModel.{is_field, project_members}

abbrev pub MemberEntry : Type 0
MemberEntry = List ℕ × Json

all_before_entry : (k : List ℕ) (es : List MemberEntry) (e : MemberEntry) (more : List MemberEntry) → AllByRecursion (λ y. compare_bytes k y ≡ Less) (entry_keys (es ++ e ∷ more)) → compare_bytes k e.0 ≡ Less
all_before_entry k [] e more h = h.0
all_before_entry k (x ∷ es) e more h = all_before_entry k es e more h.1

put_after : (b : Bool) (k l : List ℕ) (u d : Value) (rest all : Members) → compare_bytes k l ≡ Greater → put_member k u rest ≡ all → put_member k u (cond b (member l d rest) rest) ≡ cond b (member l d all) all
put_after true k l u d rest all above h = ap (λ o. match_ordering o (member k u (member l d rest)) (member l u rest) (member l d (put_member k u rest))) above ∙ ap (member l d) h
put_after false k l u d rest all above h = h

-- a field with the greatest key goes last
pub one_shown : (fields : List (List ℕ)) (done : List MemberEntry) (e : MemberEntry) (more : List MemberEntry) → IsAscending (entry_keys (done ++ e ∷ more)) → is_field fields e.0 ≡ true
    → put_member e.0 (value_of e.1) (project_members fields (members_value done)) ≡ project_members fields (members_value (done ++ e ∷ []))
unfolding IsStrictlySortedBy
one_shown fields [] e more h is = ap (λ b. cond b (member e.0 (value_of e.1) no_members) no_members) (sym is)
one_shown fields (first ∷ done) e more h is =
    let above : compare_bytes e.0 first.0 ≡ Greater = nat_list_cmp_total.antisymm e.0 first.0 ∙ ap ordering_reverse (all_before_entry first.0 done e more h.0) in
    put_after (is_field fields first.0) e.0 first.0 (value_of e.1) (value_of first.1) (project_members fields (members_value done)) (project_members fields (members_value (done ++ e ∷ []))) above (one_shown fields done e more h.1 is)

-- any other key is left out
pub one_hidden : (fields : List (List ℕ)) (done : List MemberEntry) (e : MemberEntry) → is_field fields e.0 ≡ false → project_members fields (members_value done) ≡ project_members fields (members_value (done ++ e ∷ []))
one_hidden fields [] e is = ap (λ b. cond b (member e.0 (value_of e.1) no_members) no_members) (sym is)
one_hidden fields (first ∷ done) e is = ap (λ r. cond (is_field fields first.0) (member first.0 (value_of first.1) r) r) (one_hidden fields done e is)
