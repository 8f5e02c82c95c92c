-- Projections as plain data.
use Rattle.std.specs.Prelude.{ℕ, List, map, string_bytes}
use Rattle.sdb_projection.specs.Table.{PlainProjection}
use Rattle.sdb_projection.specs.declared.projection.Projection.{Projection}

abbrev pub fields_of : Projection → List (List ℕ)
fields_of p = map string_bytes p.fields.keys

abbrev pub plain_projection : Projection → PlainProjection
plain_projection p = record { name = string_bytes p.name; base = string_bytes p.base; fields = fields_of p }
