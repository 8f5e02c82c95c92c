use Rattle.std.proofs.Common.{◌∙◌}
use Rattle.sdb_projection.proofs.FieldLemmas.{any_field}
use Rattle.sdb_projection.proofs.projection.Projection.is_field.Goals as goal

pub returns : goal.returns
returns c = c.contains.ensures ∙ any_field c.args.key.now c.args.self.now.fields.keys
