use Rattle.std.proofs.Common.{◌+◌, ◌*◌, ◌≤◌, length, map}
use Rattle.sdb_submit.specs.PassModel.{IsNextPass}
use Rattle.sdb_session.specs.View.{plain_subscription, plain_session, WroteAnswers}
use Rattle.sdb_session.proofs.PumpLemmas.{PumpedSoFar}
use Rattle.sdb_session.proofs.session.Session.take_from_each.Given as goal

abbrev pub invariant-loop-key : goal.invariant-loop-key
invariant-loop-key g l =
    record {
      pass : IsNextPass g.D.Desk.accepts g.D.Desk.pass_number l.desk l.fn.pass l.pass;
      small : l.taken + length l.key-iterator * 18446744073709551615 ≤ length l.self.subscriptions.entries * 18446744073709551615;
      so_far : PumpedSoFar (g.D.Desk.step l.desk) l.max l.table (g.D.Desk.pass_number l.desk l.fn.pass) (plain_session l.self) l.fn.pass l.taken (map plain_subscription l.key-iterator)
          (WroteAnswers g.O.AnswerSink.items (g.O.AnswerSink.contents l.fn.out) (g.O.AnswerSink.contents l.out)) l.pass;
    }
