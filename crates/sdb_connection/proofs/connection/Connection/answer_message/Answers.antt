use Rattle.std.proofs.Common.{refl}
use Rattle.sdb_connection.proofs.connection.Connection.answer_message.Goals as goal

pub returns-in-Binary : goal.returns-in-Binary
returns-in-Binary g c =
    let p = c.answer_binary.new.self.pass in
    (refl, c.args.context.now.names_backend.0 p.pass p.belongs, c.answer_binary.ensures)
