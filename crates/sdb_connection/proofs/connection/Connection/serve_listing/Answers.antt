use Rattle.std.proofs.Common.{refl, ◌∙◌}
use Rattle.sdb_connection.proofs.connection.Connection.serve_listing.Goals as goal

pub returns-in_err-send : goal.returns-in_err-send
returns-in_err-send g c =
    let p = c.send.new.self.pass in
    (refl, c.args.context.now.names_backend.0 p.pass p.belongs, c.send.ensures ∙ c.continue_listing.ensures.2)

pub returns : goal.returns
returns g c =
    let p = c.send.new.self.pass in
    (refl, c.args.context.now.names_backend.0 p.pass p.belongs, c.send.ensures ∙ c.continue_listing.ensures.2)
