use Rattle.std.proofs.Common.{◌≡◌, false, true, Result, Option, Ok, option_map}
use Rattle.std.specs.Result.{is_ok}
use Rattle.std.specs.declared.alloc.AllocError.{AllocError}
use Rattle.sdb_session.specs.Listing.{PlainListing, TextPart}
use Rattle.sdb_session.specs.ListingView.{plain_listing}
use Rattle.sdb_submit.specs.PassModel.{IsNextPass}
use Rattle.sdb_session.specs.View.{WroteAnswers, has_ended, plain_session}
use Rattle.sdb_wire.specs.Wire.{parse_message}
use Rattle.sdb_session.proofs.ListingPartLemmas.{left_to_write}
use Rattle.sdb_session.proofs.session.Session.handle_to.Given as goal

abbrev pub invariant-loop-rest : goal.invariant-loop-rest
invariant-loop-rest g l =
    let rest : Result (Option PlainListing) AllocError = Ok (option_map plain_listing l.rest) in
    record {
      pass : IsNextPass g.D.Desk.accepts g.D.Desk.pass_number l.desk l.fn.pass l.pass;
      alive : has_ended l.self ≡ false;
      request : is_ok (parse_message l.text).request ≡ true;
      outcome : TextPart (g.D.Desk.step l.desk) l.text (g.P.Policy.plain_policy l.policy) (g.D.Desk.pass_number l.desk l.fn.pass) l.fn.now (plain_session l.fn.self) l.fn.pass rest
          (WroteAnswers g.O.AnswerSink.items (g.O.AnswerSink.contents l.fn.out) (g.O.AnswerSink.contents l.out)) (plain_session l.self) l.pass;
    }

abbrev pub decreases-loop-rest : goal.decreases-loop-rest
decreases-loop-rest g l = left_to_write l.rest
