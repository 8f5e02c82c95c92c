use Rattle.sdb_chunks.specs.laws.ChunkLaws.{second_if_ok, first_on_err, second_on_err}
use Rattle.sdb_value.proofs.ListLemmas.{surely_set, own_result}
use Rattle.sdb_value.proofs.list_edits.put_item_back.Goals as goal

pub returns-clause-items : goal.returns-clause-items
returns-clause-items c =
    surely_set c.replace.result c.args.items.now c.replace.new.self c.args.index c.args.item (second_if_ok _ _ c.replace.result c.replace.ensures.ok) (second_on_err _ _ c.replace.result c.replace.ensures.err) c.requires

pub returns-clause-unique : goal.returns-clause-unique
returns-clause-unique c =
    own_result c.replace.result c.args.items.now c.replace.new.self c.args.index c.args.item (second_if_ok _ _ c.replace.result c.replace.ensures.ok) (first_on_err _ _ c.replace.result c.replace.ensures.err) c.replace.ensures.unique
