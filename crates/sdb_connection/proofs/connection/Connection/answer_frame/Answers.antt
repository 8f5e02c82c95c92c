use Rattle.std.proofs.Common.{refl}
use Rattle.sdb_connection.proofs.connection.Connection.answer_frame.Goals as goal

pub returns-in-Err : goal.returns-in-Err
returns-in-Err g c =
    let p = c.args.self.now.pass in
    (refl, c.args.context.now.names_backend.0 p.pass p.belongs, refl)

pub returns-in-None : goal.returns-in-None
returns-in-None g c =
    let p = c.record_fragment.new.self.pass in
    (refl, c.args.context.now.names_backend.0 p.pass p.belongs, c.record_fragment.ensures)
