use Rattle.std.proofs.Common.{refl, ◌∙◌}
use Rattle.sdb_connection.proofs.connection.Connection.serve.Goals as goal

pub returns-then-is_some : goal.returns-then-is_some
returns-then-is_some g c =
    let p = c.serve_document.new.self.pass in
    (refl, c.args.context.now.names_backend.0 p.pass p.belongs, c.serve_document.ensures)

pub returns-in_err-receive : goal.returns-in_err-receive
returns-in_err-receive g c =
    let p = c.receive.new.self.pass in
    (refl, c.args.context.now.names_backend.0 p.pass p.belongs, c.receive.ensures)

pub returns-in_err-release_input : goal.returns-in_err-release_input
returns-in_err-release_input g c =
    let p = c.release_input.new.self.pass in
    let number = c.release_input.ensures ∙ c.answer_frames.ensures.2 ∙ c.receive.ensures in
    (refl, c.args.context.now.names_backend.0 p.pass p.belongs, number)

pub returns-in_err-send : goal.returns-in_err-send
returns-in_err-send g c =
    let p = c.send.new.self.pass in
    let answered = c.release_input.ensures ∙ c.answer_frames.ensures.2 ∙ c.receive.ensures in
    (refl, c.args.context.now.names_backend.0 p.pass p.belongs, c.send.ensures ∙ c.record_partial.ensures ∙ answered)

pub returns-then-is_answering : goal.returns-then-is_answering
returns-then-is_answering g c =
    let p = c.send.new.self.pass in
    let answered = c.release_input.ensures ∙ c.answer_frames.ensures.2 ∙ c.receive.ensures in
    (refl, c.args.context.now.names_backend.0 p.pass p.belongs, c.send.ensures ∙ c.record_partial.ensures ∙ answered)

pub returns : goal.returns
returns g c =
    let p = c.send.new.self.pass in
    let answered = c.release_input.ensures ∙ c.answer_frames.ensures.2 ∙ c.receive.ensures in
    (refl, c.args.context.now.names_backend.0 p.pass p.belongs, c.send.ensures ∙ c.record_partial.ensures ∙ answered)
