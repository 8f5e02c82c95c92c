use Rattle.sdb_chunks.specs.laws.ChunkLaws.{first_if_ok, second_if_ok}
use Rattle.sdb_value.proofs.ListLemmas.{list_inserted, list_unchanged, unique_inserted}
use Rattle.sdb_value.proofs.list_edits.insert_item.Goals as goal

pub returns-clause-ok : goal.returns-clause-ok
returns-clause-ok c = list_inserted c.insert.result c.args.items.now c.insert.new.self c.args.index c.args.new (second_if_ok _ _ c.insert.result c.insert.ensures.ok) (first_if_ok _ _ c.insert.result c.insert.ensures.ok)

pub returns-clause-err : goal.returns-clause-err
returns-clause-err c = list_unchanged c.insert.result c.args.items.now c.insert.new.self c.insert.ensures.err

pub returns-clause-unique : goal.returns-clause-unique
returns-clause-unique c =
    unique_inserted c.insert.result c.args.items.now c.insert.new.self c.args.index c.args.new (second_if_ok _ _ c.insert.result c.insert.ensures.ok) c.insert.ensures.err c.insert.ensures.unique
