use Rattle.std.proofs.Common.{ap, ◌∙◌}
use Rattle.sdb_desk.specs.ShardView.{machine_of}
use Rattle.sdb_session.specs.Dialogue.{State}
use Rattle.sdb_session.specs.Sessions.{PlainSession}
use Rattle.sdb_session.specs.Output.{answer_line}
use Rattle.sdb_session.specs.View.{plain_session, WroteAnswers}
use Rattle.sdb_session.specs.laws.SessionLaws.{pumps_output}
use Rattle.sdb_server.specs.LineView.{line_state}
use Rattle.sdb_server.proofs.LineSessionLemmas.{unreadable_line}
use Rattle.sdb_server.proofs.line_session.LineSessionLineHandler.handle_unreadable.Goals as goal

pub returns : goal.returns
returns g c =
    let ahead = g.C.Clock.remaining_moments in
    let before = c.args.self.now in
    let t = before.table.now in
    let old = c.args.out.now.items in
    let between = c.refuse_unreadable_to.new.out.items in
    let new = c.pump_to.new.out.items in
    let s = plain_session c.refuse_unreadable_to.new.self in
    let p = pumps_output machine_of t s before.shard _ (WroteAnswers answer_line between new) c.pump_to.new.pass c.in_ok-pump_to.ensures.pumped in
    let mid : State = record { machine = machine_of before.shard; session = s } in
    let last : State = record { machine = machine_of c.pump_to.new.pass; session = plain_session c.pump_to.new.self } in
    unreadable_line (line_state ahead before) c.now.result (ahead c.now.new.self) old between new mid last c.in_ok-refuse_unreadable_to.ensures.output
    (ap (λ (x : PlainSession). record { machine = machine_of before.shard; session = x }) c.refuse_unreadable_to.ensures.session) p.0
    (ap (λ (x : PlainSession). record { machine = machine_of c.pump_to.new.pass; session = x }) c.pump_to.ensures.session ∙ p.1) c.now.ensures
