-- The documents of a collection name: its own, or another collection's through a projection.
use Rattle.std.specs.Prelude.{List, Bool, true, Option, Some, None}
use Rattle.sdb_value.specs.Value.{Value}
use Rattle.sdb_oplog.specs.Plain.{PlainContent, PlainEntry}
use Rattle.sdb_oplog.specs.Keys.{PlainKey}
use Rattle.sdb_projection.specs.ProjectionModel.{proj, proj_content, allowed}
use Rattle.sdb_projection.specs.Table.{PlainProjection, projection_of}
use Rattle.sdb_wire.specs.Answers.{with_content}

-- the base document of a client's key
abbrev pub base_of : Option PlainProjection → PlainKey → PlainKey
base_of None k = k
base_of (Some p) k = record { collection = p.base; id = k.id }

abbrev pub projected_value : Option PlainProjection → Value → Value
projected_value None d = d
projected_value (Some p) d = proj p.fields d

abbrev pub projected_content : Option PlainProjection → PlainContent → PlainContent
projected_content None m = m
projected_content (Some p) m = proj_content p.fields m

-- the entry with its content as seen through the projection
abbrev pub projected_entry : Option PlainProjection → PlainEntry → PlainEntry
projected_entry o e = with_content e (projected_content o e.content)

-- whether a content may be submitted
abbrev pub is_permitted : Option PlainProjection → PlainContent → Bool
is_permitted None m = true
is_permitted (Some p) m = allowed p.fields m

-- the projection through which a key is seen
abbrev pub projection_of_key : List PlainProjection → PlainKey → Option PlainProjection
projection_of_key t k = projection_of k.collection t

abbrev pub base_key : List PlainProjection → PlainKey → PlainKey
base_key t k = base_of (projection_of_key t k) k
