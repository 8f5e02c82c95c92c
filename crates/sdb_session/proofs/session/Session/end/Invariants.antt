use Rattle.std.proofs.Common.{◌≡◌, List, ◌++◌, map}
use Rattle.sdb_submit.specs.PassModel.{IsNextPass}
use Rattle.sdb_session.specs.PumpModel.{CloseAllCalls}
use Rattle.sdb_session.specs.Sessions.{PlainSubscription}
use Rattle.sdb_session.specs.View.{plain_subscription}
use Rattle.sdb_session.proofs.session.Session.end.Given as goal

abbrev pub invariant-loop-queue : goal.invariant-loop-queue
invariant-loop-queue g l =
    record {
      pass : IsNextPass g.D.Desk.accepts g.D.Desk.pass_number l.desk l.fn.pass l.pass;
      so_far : (subs : List PlainSubscription) × ((subs ++ map plain_subscription l.queue-iterator ≡ map plain_subscription l.fn.self.subscriptions.entries) × CloseAllCalls (g.D.Desk.step l.desk) subs l.fn.pass l.pass);
    }
