use Rattle.sdb_value.specs.View.{value_of}
use Rattle.sdb_value_text.proofs.HasTextLemmas.{inside_has_text}
use Rattle.sdb_value_text.proofs.level.write_inside.Goals as goal

pub returns-in-Inner-clause-own_has_text : goal.returns-in-Inner-clause-own_has_text
returns-in-Inner-clause-own_has_text c = inside_has_text (value_of c.args.value) c.args.index _ c.requires
