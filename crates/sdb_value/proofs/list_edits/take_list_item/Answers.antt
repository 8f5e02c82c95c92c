use Rattle.sdb_chunks.specs.laws.ChunkLaws.{first_if_ok, second_if_ok, first_on_err}
use Rattle.sdb_value.proofs.ListLemmas.{taken_result, none_result, null_left, unchanged_result, own_result, taken_unique}
use Rattle.sdb_value.specs.declared.value.Json as json
use Rattle.sdb_value.proofs.UniquenessLemmas.{unique_null}
use Rattle.sdb_value.proofs.list_edits.take_list_item.Goals as goal

pub returns-clause-item : goal.returns-clause-item
returns-clause-item c = taken_result c.replace.result c.args.items.now c.args.index (first_if_ok _ _ c.replace.result c.replace.ensures.ok)

pub returns-clause-none : goal.returns-clause-none
returns-clause-none c = none_result c.replace.result c.args.items.now c.replace.new.self c.args.index json.Null (first_if_ok _ _ c.replace.result c.replace.ensures.ok) (second_if_ok _ _ c.replace.result c.replace.ensures.ok)

pub returns-clause-left : goal.returns-clause-left
returns-clause-left c = null_left c.replace.result c.args.items.now c.replace.new.self c.args.index (second_if_ok _ _ c.replace.result c.replace.ensures.ok)

pub returns-clause-err : goal.returns-clause-err
returns-clause-err c = unchanged_result c.replace.result c.args.items.now c.replace.new.self (first_on_err _ _ c.replace.result c.replace.ensures.err)

pub returns-clause-unique : goal.returns-clause-unique
returns-clause-unique c own =
    own_result c.replace.result c.args.items.now c.replace.new.self c.args.index json.Null (second_if_ok _ _ c.replace.result c.replace.ensures.ok) (first_on_err _ _ c.replace.result c.replace.ensures.err) c.replace.ensures.unique own unique_null

pub returns-clause-item_unique : goal.returns-clause-item_unique
returns-clause-item_unique c = taken_unique c.replace.result c.args.items.now c.args.index (first_if_ok _ _ c.replace.result c.replace.ensures.ok)
