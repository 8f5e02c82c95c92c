-- The view of a kind of content.
use Rattle.std.specs.Arc.{arc_value}
use Rattle.sdb_value.specs.View.{value_of}
use Rattle.sdb_oplog.specs.Plain.{PlainContent, create, delete, edit}
use Rattle.sdb_oplog.specs.declared.content.Kind.{Kind}
use Rattle.sdb_oplog.specs.declared.content.Kind.TheVariants.{Create, Delete, Edit}

abbrev pub plain_kind : Kind → PlainContent
plain_kind (Create v) = create (value_of (arc_value v))
plain_kind Delete = delete
plain_kind (Edit op) = edit (arc_value op)
