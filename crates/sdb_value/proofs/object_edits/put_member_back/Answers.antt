use Rattle.sdb_chunks.specs.laws.ChunkLaws.{second_if_ok, first_on_err, second_on_err}
use Rattle.sdb_value.proofs.ObjectLemmas.{surely_set, surely_named, unique_replaced}
use Rattle.sdb_value.proofs.object_edits.put_member_back.Goals as goal

pub returns-clause-values : goal.returns-clause-values
returns-clause-values c =
    surely_set c.replace.result c.args.entries.now c.replace.new.self c.args.index c.args.member (second_if_ok _ _ c.replace.result c.replace.ensures.ok) (second_on_err _ _ c.replace.result c.replace.ensures.err) c.requires

pub returns-clause-names : goal.returns-clause-names
returns-clause-names c =
    surely_named c.replace.result c.args.entries.now c.replace.new.self c.args.index c.args.member (second_if_ok _ _ c.replace.result c.replace.ensures.ok) (second_on_err _ _ c.replace.result c.replace.ensures.err) c.requires

pub returns-clause-unique : goal.returns-clause-unique
returns-clause-unique c =
    unique_replaced c.replace.result c.args.entries.now c.replace.new.self c.args.index c.args.member (second_if_ok _ _ c.replace.result c.replace.ensures.ok) (first_on_err _ _ c.replace.result c.replace.ensures.err) c.replace.ensures.unique
