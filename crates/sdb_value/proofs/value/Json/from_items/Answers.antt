use Rattle.std.proofs.Common.{ap, ◌∙◌}
use Rattle.sdb_chunks.specs.ChunkedVec.{is_unique_vec, vec_items}
use Rattle.sdb_value.specs.Uniqueness.{items_unique}
use Rattle.sdb_value.specs.Value.{list}
use Rattle.sdb_value.specs.View.{items_value}
use Rattle.sdb_value.proofs.UniquenessLemmas.{unique_list}
use Rattle.sdb_value.proofs.ListLemmas.{and_intro as both_own}
use Rattle.sdb_value.proofs.ViewLemmas.{seen_list}
use Rattle.sdb_value.proofs.value.Json.from_items.Goals as goal

pub returns-clause-value : goal.returns-clause-value
returns-clause-value c =
    let l = c.in_ok-from_vec_chunked.field-0 in
    seen_list l ∙ ap (λ vs. list (items_value vs)) c.in_ok-from_vec_chunked.ensures.items

pub returns-clause-unique : goal.returns-clause-unique
returns-clause-unique c =
    let l = c.in_ok-from_vec_chunked.field-0 in
    λ h. unique_list l ∙ both_own (is_unique_vec l) (items_unique (vec_items l)) c.in_ok-from_vec_chunked.ensures.unique (ap items_unique c.in_ok-from_vec_chunked.ensures.items ∙ h)
