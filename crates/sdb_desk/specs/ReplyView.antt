-- The view of a reply.
use Rattle.sdb_oplog.specs.Decide.{PlainReply, stored, repeated, refused}
use Rattle.sdb_desk.specs.declared.document.Reply.{Reply}
use Rattle.sdb_desk.specs.declared.document.Reply.TheVariants.{Stored, Repeat, Refused}

abbrev pub plain_reply : Reply → PlainReply
plain_reply (Stored v missed) = stored v missed.items
plain_reply (Repeat v) = repeated v
plain_reply (Refused code) = refused code
