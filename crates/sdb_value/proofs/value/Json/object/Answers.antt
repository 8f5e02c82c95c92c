use Rattle.std.proofs.Common.{◌≡◌, ℕ, List, [], ◌∷◌, map, false, cond, String, Global, string_bytes, refl, sym, ap, ◌∙◌}
use Rattle.sdb_sorted_map.specs.SortedMap.{is_unique_map, map_chunks}
use Rattle.sdb_chunks.specs.ChunkedVec.{vec_items}
use Rattle.sdb_value.specs.Uniqueness.{all_true, is_unique, map_unique, members_unique}
use Rattle.sdb_value.specs.Value.{object}
use Rattle.sdb_value.specs.View.{members_value}
use Rattle.sdb_value.specs.declared.value.Json.{Json}
use Rattle.sdb_value.proofs.ListLemmas.{and_intro}
use Rattle.sdb_value.proofs.ReadLemmas.{owns_of}
use Rattle.sdb_value.proofs.value.Json.object.Goals as goal

seconds : (es : List (String Global × Json)) → all_true (map (λ (e : List ℕ × Json). is_unique e.1) (map (λ (e : String Global × Json). (string_bytes e.0, e.1)) es)) ≡ map_unique es
seconds [] = refl
seconds (e ∷ es) = ap (λ b. cond (is_unique e.1) b false) (seconds es)

pub returns-clause-value : goal.returns-clause-value
returns-clause-value c = c.from_members.ensures.value ∙ ap (λ es. object (members_value es)) c.in_ok-from_map.ensures.members

pub returns-clause-unique : goal.returns-clause-unique
returns-clause-unique c own =
    let m = c.in_ok-from_map.field-0 in
    c.from_members.ensures.unique ∙ and_intro (is_unique_map m) (members_unique (vec_items (map_chunks m))) c.in_ok-from_map.ensures.unique
    (owns_of (vec_items (map_chunks m)) ∙ ap (λ (es : List (List ℕ × Json)). all_true (map (λ (e : List ℕ × Json). is_unique e.1) es)) c.in_ok-from_map.ensures.members ∙ seconds c.args.members.entries ∙ own)
