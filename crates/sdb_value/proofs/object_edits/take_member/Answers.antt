use Rattle.std.proofs.Common.{[], refl, ◌∙◌}
use Rattle.sdb_chunks.specs.laws.ChunkLaws.{first_if_ok, second_if_ok, first_on_err}
use Rattle.sdb_value.specs.declared.value.Json as json
use Rattle.sdb_value.proofs.ObjectLemmas.{value_taken, name_taken, none_taken, none_names, null_left, name_left, unchanged_values, unchanged_names, unique_replaced, unique_taken}
use Rattle.sdb_value.proofs.UniquenessLemmas.{unique_null}
use Rattle.sdb_value.proofs.object_edits.take_member.Goals as goal

pub returns-clause-value : goal.returns-clause-value
returns-clause-value c = value_taken c.replace.result c.args.entries.now c.args.index (first_if_ok _ _ c.replace.result c.replace.ensures.ok)

pub returns-clause-key : goal.returns-clause-key
returns-clause-key c = name_taken c.replace.result c.args.entries.now c.args.index (first_if_ok _ _ c.replace.result c.replace.ensures.ok)

pub returns-clause-none : goal.returns-clause-none
returns-clause-none c = none_taken c.replace.result c.args.entries.now c.replace.new.self c.args.index (record { key = c.new-2.result; value = json.Null }) (first_if_ok _ _ c.replace.result c.replace.ensures.ok) (second_if_ok _ _ c.replace.result c.replace.ensures.ok)

pub returns-clause-none_names : goal.returns-clause-none_names
returns-clause-none_names c = none_names c.replace.result c.args.entries.now c.replace.new.self c.args.index (record { key = c.new-2.result; value = json.Null }) (first_if_ok _ _ c.replace.result c.replace.ensures.ok) (second_if_ok _ _ c.replace.result c.replace.ensures.ok)

pub returns-clause-left : goal.returns-clause-left
returns-clause-left c = null_left c.replace.result c.args.entries.now c.replace.new.self c.args.index (record { key = c.new-2.result; value = json.Null }) refl (second_if_ok _ _ c.replace.result c.replace.ensures.ok)

pub returns-clause-names : goal.returns-clause-names
returns-clause-names c = name_left c.replace.result c.args.entries.now c.replace.new.self c.args.index [] (record { key = c.new-2.result; value = json.Null }) (c.new-2.ensures ∙ c.new.ensures.bytes) (second_if_ok _ _ c.replace.result c.replace.ensures.ok)

pub returns-clause-err : goal.returns-clause-err
returns-clause-err c = unchanged_values c.replace.result c.args.entries.now c.replace.new.self (first_on_err _ _ c.replace.result c.replace.ensures.err)

pub returns-clause-err_names : goal.returns-clause-err_names
returns-clause-err_names c = unchanged_names c.replace.result c.args.entries.now c.replace.new.self (first_on_err _ _ c.replace.result c.replace.ensures.err)

pub returns-clause-unique : goal.returns-clause-unique
returns-clause-unique c own =
    unique_replaced c.replace.result c.args.entries.now c.replace.new.self c.args.index (record { key = c.new-2.result; value = json.Null }) (second_if_ok _ _ c.replace.result c.replace.ensures.ok) (first_on_err _ _ c.replace.result c.replace.ensures.err) c.replace.ensures.unique own unique_null

pub returns-clause-value_unique : goal.returns-clause-value_unique
returns-clause-value_unique c = unique_taken c.replace.result c.args.entries.now c.args.index (first_if_ok _ _ c.replace.result c.replace.ensures.ok)
