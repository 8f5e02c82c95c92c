use Rattle.std.proofs.Common.{◌∷◌, [], subst, refl, Err}
use Rattle.std.specs.declared.alloc.AllocError.{AllocError}
use Rattle.sdb_session.specs.ListingView.{plain_listing, PartOrFault}
use Rattle.sdb_oplog.specs.declared.codes.Code.TheVariants.{E10}
use Rattle.sdb_session.specs.View.{plain_session, echo_of_message, OutputUnlessFailed, WroteAnswers}
use Rattle.sdb_session.specs.declared.listing.BatchFault.{BatchFault}
use Rattle.sdb_session.specs.Handlers.{policy_of_context}
use Rattle.sdb_session.proofs.ListingPartLemmas.{part_begins, part_refused, part_breaks, output_join}
use Rattle.sdb_session.proofs.ResponseLemmas.{answered, equal_part, on_output}
use Rattle.sdb_wire.specs.Answers.{failed}
use Rattle.sdb_session.proofs.session.Session.begin_listing.Goals as goal

pub returns-in-Ok-clause-outcome : goal.returns-in-Ok-clause-outcome
returns-in-Ok-clause-outcome g c = λ r p by opens.
    part_begins (g.D.Desk.step c.args.context.now.desk.now) (policy_of_context g.P.Policy.plain_policy c.args.context.now) (plain_session c.args.self.now) r p (plain_listing c.args.listing) c.args.pass.now opens (echo_of_message c.args.context.now.message) by c.args.context.now.moment AllocError c.in-Ok.rest
    (plain_session c.continue_listing.new.self) c.continue_listing.new.pass (WroteAnswers g.O.AnswerSink.items (g.O.AnswerSink.contents c.args.out.now) (g.O.AnswerSink.contents c.continue_listing.new.out)) _ c.in-Ok.ensures.outcome

pub returns-in-Err-NotRead-clause-outcome : goal.returns-in-Err-NotRead-clause-outcome
returns-in-Err-NotRead-clause-outcome g c = λ r p by opens.
    let acts = g.D.Desk.step c.args.context.now.desk.now in
    let f = g.O.AnswerSink.items in
    let old = g.O.AnswerSink.contents c.args.out.now in
    let mid = g.O.AnswerSink.contents c.continue_listing.new.out in
    let new = g.O.AnswerSink.contents c.write_refusal-refused.new.out in
    let s = plain_session c.args.self.now in
    let after = plain_session c.continue_listing.new.self in
    let q = c.continue_listing.new.pass in
    let l = plain_listing c.args.listing in
    let t = c.args.context.now.table.now in
    let e = echo_of_message c.args.context.now.message in
    let w = c.write_refusal-refused.result in
    let T : BatchFault → Type 0 = λ x. PartOrFault acts t l s c.args.pass.now (Err x) (WroteAnswers f old mid) after q in
    equal_part _ _ _ _ _ s _ (WroteAnswers f old new) after _ _ _ _ _ refl c.without_listing.ensures
    (answered _ _ _ _ _ s _ (WroteAnswers f old new) after _ _ w
    (part_refused acts (policy_of_context g.P.Policy.plain_policy c.args.context.now) s r p l c.args.pass.now opens e by c.args.context.now.moment c.in-Err-NotRead.field-0-0 after q
    (WroteAnswers f old mid) (OutputUnlessFailed w (WroteAnswers f mid new)) (OutputUnlessFailed w (WroteAnswers f old new)) (output_join w f old mid new) (subst T c.in-Err-NotRead.field-0-is c.in-Err-NotRead.ensures.outcome)
    (on_output w (WroteAnswers f mid new) (failed e E10 ∷ []) c.write_refusal-refused.ensures)))

pub returns-in-Err-NotWritten-clause-outcome : goal.returns-in-Err-NotWritten-clause-outcome
returns-in-Err-NotWritten-clause-outcome g c = λ r p by opens.
    let acts = g.D.Desk.step c.args.context.now.desk.now in
    let says = WroteAnswers g.O.AnswerSink.items (g.O.AnswerSink.contents c.args.out.now) (g.O.AnswerSink.contents c.continue_listing.new.out) in
    let s = plain_session c.args.self.now in
    let l = plain_listing c.args.listing in
    let T : BatchFault → Type 0 = λ x. PartOrFault acts c.args.context.now.table.now l s c.args.pass.now (Err x) says (plain_session c.continue_listing.new.self) c.continue_listing.new.pass in
    part_breaks acts (policy_of_context g.P.Policy.plain_policy c.args.context.now) s r p l c.args.pass.now opens (echo_of_message c.args.context.now.message) by c.args.context.now.moment c.in-Err-NotWritten.error (plain_session c.continue_listing.new.self) c.continue_listing.new.pass says
    (subst T c.in-Err-NotWritten.field-0-is c.in-Err-NotWritten.ensures.outcome)
