use Rattle.std.proofs.Common.{◌≡◌, List, ◌++◌, true, false, Option, Some, None, option_map, Result, Ok, refl, sym, ap, ◌∙◌, subst}
use Rattle.sdb_session.specs.declared.session.Ended.{Ended}
use Rattle.std.specs.Prelude.{⊤}
use Rattle.sdb_lines.specs.Runs.{AppendsWhere, AnswersLine}
use Rattle.sdb_projection.specs.Table.{PlainProjection}
use Rattle.sdb_desk.specs.ShardView.{machine_of}
use Rattle.sdb_session.specs.Dialogue.{State, pump_transition}
use Rattle.sdb_session.specs.Sessions.{PlainSession}
use Rattle.sdb_session.specs.Output.{answer_line, answer_lines}
use Rattle.sdb_session.specs.View.{plain_session, WroteAnswers}
use Rattle.sdb_session.specs.Listing.{ListingPart, PlainListing}
use Rattle.sdb_session.specs.ListingView.{plain_listing}
use Rattle.sdb_session.specs.declared.listing.Listing.{Listing}
use Rattle.sdb_session.specs.PolicyModel.{table_policy}
use Rattle.sdb_session.specs.laws.ListingLaws.{message_continues}
use Rattle.sdb_session.specs.laws.SessionLaws.{MachineActs, pumps_output}
use Rattle.sdb_wire.specs.Wire.{parse_message}
use Rattle.sdb_server.specs.LineView.{IsListing, line_state}
use Rattle.sdb_server.specs.Runs.{HandlesLine}
use Rattle.sdb_server.specs.declared.line_session.LineSession.{LineSession}
use Rattle.sdb_server.proofs.LineSessionLemmas.{WroteMore, line_part, line_whole, wrote_more}
use Rattle.sdb_server.proofs.line_session.LineSessionLineHandler.continue_answer.Goals as goal

pub returns-in-Some-2-clause-answer : goal.returns-in-Some-2-clause-answer
returns-in-Some-2-clause-answer g c = λ s line front a.
    let ahead = g.C.Clock.remaining_moments in
    let before = c.args.self.now in
    let old = c.args.out.now.items in
    let between = c.continue_to.new.out.items in
    let acts = MachineActs machine_of in
    let says = WroteAnswers answer_line old between in
    let session = plain_session c.continue_to.new.self in
    let q = c.continue_to.new.pass in
    let part : List PlainProjection → PlainSession → Listing → Option Listing → Type 0 = λ t x l o.
    (let r : Result (Option PlainListing) Ended = Ok (option_map plain_listing o) in ListingPart acts t (plain_listing l) x before.shard r says session q) in
    let zero = subst (part before.table.now (plain_session before.session) c.in-Some.rest) c.in-Some-2.is c.in_ok-rest.ensures.outcome in
    let same : c.in-Some.rest ≡ a.rest = (let was = c.take.ensures.value in let left = a.is_left in let is = c.in-Some.is in cc) in
    let one = subst (λ t. part t (plain_session before.session) c.in-Some.rest (Some c.in-Some-2.rest)) a.table zero in
    let two = subst (λ x. part s.table x c.in-Some.rest (Some c.in-Some-2.rest)) a.session one in
    let three = subst (λ l. part s.table s.timed.state.session l (Some c.in-Some-2.rest)) same two in
    let request = (parse_message a.text).request in
    let echo = (parse_message a.text).echo in
    let whole = message_continues acts (table_policy s.table) s.timed.state.session echo 0 a.now a.before Ended Ended request (plain_listing a.rest) before.shard (λ x. front ≡ answer_lines x) says (WroteMore front old between) (wrote_more front old between) (λ x y. ⊤) (λ x y. ⊤) (Some (plain_listing c.in-Some-2.rest))
    session q a.begins three in
    let after : LineSession g.row.C.Denot = record { table = before.table; clock = before.clock; shard = q; session = c.continue_to.new.self; listing = Some c.in-Some-2.rest } in
    subst (λ l. AppendsWhere old between (λ bytes. AnswersLine HandlesLine (IsListing ahead) (line_state ahead) false s l (front ++ bytes) after)) (sym a.is_text)
    (line_part ahead s a.text a.now a.before a.machine front old between (WroteMore front old between) (λ x h. h) after c.in-Some-2.rest refl whole.1 a.table a.clock whole.0)

pub returns-in_ok-pump_to-in-None-clause-answer : goal.returns-in_ok-pump_to-in-None-clause-answer
returns-in_ok-pump_to-in-None-clause-answer g c = λ s line front a.
    let ahead = g.C.Clock.remaining_moments in
    let before = c.args.self.now in
    let old = c.args.out.now.items in
    let between = c.continue_to.new.out.items in
    let acts = MachineActs machine_of in
    let says = WroteAnswers answer_line old between in
    let session = plain_session c.continue_to.new.self in
    let q = c.continue_to.new.pass in
    let part : List PlainProjection → PlainSession → Listing → Option Listing → Type 0 = λ t x l o.
    (let r : Result (Option PlainListing) Ended = Ok (option_map plain_listing o) in ListingPart acts t (plain_listing l) x before.shard r says session q) in
    let zero = subst (part before.table.now (plain_session before.session) c.in-Some.rest) c.in-None.is c.in_ok-rest.ensures.outcome in
    let same : c.in-Some.rest ≡ a.rest = (let was = c.take.ensures.value in let left = a.is_left in let is = c.in-Some.is in cc) in
    let one = subst (λ t. part t (plain_session before.session) c.in-Some.rest None) a.table zero in
    let two = subst (λ x. part s.table x c.in-Some.rest None) a.session one in
    let three = subst (λ l. part s.table s.timed.state.session l None) same two in
    let request = (parse_message a.text).request in
    let echo = (parse_message a.text).echo in
    let whole = message_continues acts (table_policy s.table) s.timed.state.session echo 0 a.now a.before Ended Ended request (plain_listing a.rest) before.shard (λ x. front ≡ answer_lines x) says (WroteMore front old between) (wrote_more front old between) (λ x y. ⊤) (λ x y. ⊤) None
    session q a.begins three in
    let new = c.pump_to.new.out.items in
    let after : LineSession g.row.C.Denot = record { table = before.table; clock = before.clock; shard = c.pump_to.new.pass; session = c.pump_to.new.self; listing = None } in
    let p = pumps_output machine_of before.table.now session q _ (WroteAnswers answer_line between new) c.pump_to.new.pass c.in_ok-pump_to-in-None.ensures.pumped in
    let mid : State = record { machine = machine_of q; session = session } in
    let last : State = record { machine = machine_of c.pump_to.new.pass; session = plain_session c.pump_to.new.self } in
    let is_last = ap (λ (x : PlainSession). record { machine = machine_of c.pump_to.new.pass; session = x }) c.pump_to.ensures.session ∙ p.1 in
    subst (λ l. AppendsWhere old new (λ bytes. AnswersLine HandlesLine (IsListing ahead) (line_state ahead) true s l (front ++ bytes) after)) (sym a.is_text)
    (line_whole ahead s a.text a.now a.before a.machine front old between new (WroteMore front old between) (λ x h. h) mid last after q session whole refl
    (p.0 ∙ ap (λ t. between ++ answer_lines (pump_transition t mid).answers) a.table) (is_last ∙ ap (λ t. (pump_transition t mid).state) a.table) refl a.table a.clock)
