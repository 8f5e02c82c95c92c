use Rattle.std.proofs.Common.{false, cond, ap, ◌∙◌}
use Rattle.sdb_chunks.specs.ChunkedVec.{vec_items}
use Rattle.sdb_value.specs.Uniqueness.{items_unique}
use Rattle.sdb_value.specs.Value.{list}
use Rattle.sdb_value.specs.View.{items_value}
use Rattle.sdb_value.proofs.UniquenessLemmas.{of_one, unique_list}
use Rattle.sdb_value.proofs.ViewLemmas.{seen_list}
use Rattle.sdb_value.proofs.value.Json.list.Goals as goal

pub returns-clause-value : goal.returns-clause-value
returns-clause-value c = seen_list c.from_vec.result ∙ ap (λ vs. list (items_value vs)) (of_one c.from_vec.result c.args.items.items c.from_vec.ensures.items)

pub returns-clause-unique : goal.returns-clause-unique
returns-clause-unique c h =
    unique_list c.from_vec.result ∙ ap (λ b. cond b (items_unique (vec_items c.from_vec.result)) false) c.from_vec.ensures.unique
    ∙ ap items_unique (of_one c.from_vec.result c.args.items.items c.from_vec.ensures.items) ∙ h
