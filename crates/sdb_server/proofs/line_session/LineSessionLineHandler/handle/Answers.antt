use Rattle.std.proofs.Common.{[], Some, Result, Ok, refl, sym, ap, ◌∙◌, subst}
use Rattle.sdb_session.specs.declared.session.Ended.{Ended}
use Rattle.sdb_lines.specs.Runs.{AppendsWhere, AnswersLine}
use Rattle.sdb_lines.specs.declared.line_handler.LineProgress.{LineProgress}
use Rattle.sdb_desk.specs.ShardView.{machine_of}
use Rattle.sdb_session.specs.Dialogue.{State}
use Rattle.sdb_session.specs.Sessions.{PlainSession}
use Rattle.sdb_session.specs.Output.{answer_line}
use Rattle.sdb_session.specs.View.{plain_session, WroteAnswers}
use Rattle.sdb_session.specs.Listing.{TextPart}
use Rattle.sdb_session.specs.PolicyModel.{table_policy}
use Rattle.sdb_session.specs.ProgressView.{progress_result}
use Rattle.sdb_session.specs.declared.session.Progress.{Progress}
use Rattle.sdb_session.specs.laws.SessionLaws.{MachineActs, pumps_output}
use Rattle.sdb_server.specs.LineView.{IsListing, line_state}
use Rattle.sdb_server.specs.Runs.{HandlesLine}
use Rattle.sdb_server.specs.declared.line_session.LineSession.{LineSession}
use Rattle.sdb_server.proofs.LineSessionLemmas.{line_part, line_whole, wrote_first}
use Rattle.sdb_server.proofs.line_session.LineSessionLineHandler.handle.Goals as goal

pub returns-in_ok-pump_to-in-Done-clause-answer : goal.returns-in_ok-pump_to-in-Done-clause-answer
returns-in_ok-pump_to-in-Done-clause-answer g c =
    let ahead = g.C.Clock.remaining_moments in
    let before = c.args.self.now in
    let t = before.table.now in
    let old = c.args.out.now.items in
    let between = c.begin_to.new.out.items in
    let new = c.pump_to.new.out.items in
    let says = WroteAnswers answer_line old between in
    let s = plain_session c.begin_to.new.self in
    let q = c.begin_to.new.pass in
    let part : Progress → Type 0 = λ x.
    (let r : Result Progress Ended = Ok x in TextPart (MachineActs machine_of) c.args.line.now (table_policy t) 0 c.now.result (plain_session before.session) before.shard (progress_result r) says s q) in
    let p = pumps_output machine_of t s q _ (WroteAnswers answer_line between new) c.pump_to.new.pass c.in_ok-pump_to-in-Done.ensures.pumped in
    let mid : State = record { machine = machine_of q; session = s } in
    let last : State = record { machine = machine_of c.pump_to.new.pass; session = plain_session c.pump_to.new.self } in
    let after : LineSession g.row.C.Denot = record { table = before.table; clock = c.now.new.self; shard = c.pump_to.new.pass; session = c.pump_to.new.self; listing = before.listing } in
    let whole = line_whole ahead (line_state ahead before) c.args.line.now c.now.result before.shard refl [] old between new says (wrote_first old between) mid last after q s
    (subst part c.in-Done.is c.in_ok-is_request.ensures.outcome) refl p.0
    (ap (λ (x : PlainSession). record { machine = machine_of c.pump_to.new.pass; session = x }) c.pump_to.ensures.session ∙ p.1) refl refl c.now.ensures in
    subst (λ (x : LineProgress). AppendsWhere old new (λ bytes. AnswersLine HandlesLine (IsListing ahead) (line_state ahead) x.is_done (line_state ahead before) (Some c.args.line.now) bytes after)) (sym c.done.ensures) whole

pub returns-in-Listing-clause-answer : goal.returns-in-Listing-clause-answer
returns-in-Listing-clause-answer g c =
    let ahead = g.C.Clock.remaining_moments in
    let before = c.args.self.now in
    let t = before.table.now in
    let old = c.args.out.now.items in
    let new = c.begin_to.new.out.items in
    let says = WroteAnswers answer_line old new in
    let s = plain_session c.begin_to.new.self in
    let q = c.begin_to.new.pass in
    let part : Progress → Type 0 = λ x.
    (let r : Result Progress Ended = Ok x in TextPart (MachineActs machine_of) c.args.line.now (table_policy t) 0 c.now.result (plain_session before.session) before.shard (progress_result r) says s q) in
    let begun = subst part c.in-Listing.is c.in_ok-is_request.ensures.outcome in
    let after : LineSession g.row.C.Denot = record { table = before.table; clock = c.now.new.self; shard = q; session = c.begin_to.new.self; listing = Some c.in-Listing.rest } in
    line_part ahead (line_state ahead before) c.args.line.now c.now.result before.shard refl [] old new says (wrote_first old new) after c.in-Listing.rest refl begun.1 refl c.now.ensures begun.0
