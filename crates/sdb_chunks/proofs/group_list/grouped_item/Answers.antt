use Rattle.std.proofs.Common.{ap, sym, ◌∙◌, slice_get}
use Rattle.sdb_chunks.specs.ChunkGroup.{group_models, flatten_group_models}
use Rattle.sdb_chunks.proofs.FlattenLemmas.{joined_get, get_none}
use Rattle.sdb_chunks.proofs.group_list.grouped_item.Goals as goal

pub returns-in-Some : goal.returns-in-Some
returns-in-Some g c =
    let s = group_models g.T.TryClone.model in
    let i = c.in-Some.inside in
    let d = c.index-groups-at.result in
    c.get.ensures ∙ ap (λ x. slice_get (s x) i) c.index-groups-at.is ∙ joined_get s c.args.groups.now c.args.index c.in-Some.at i d c.in-Some.ensures.item

pub returns-in-None : goal.returns-in-None
returns-in-None g c = sym (get_none (flatten_group_models g.T.TryClone.model c.args.groups.now) c.args.index c.in-None.ensures.none)
