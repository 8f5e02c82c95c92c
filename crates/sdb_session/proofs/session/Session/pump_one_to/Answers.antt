use Rattle.sdb_session.specs.PumpModel.{only_sub_at}
use Rattle.sdb_session.specs.View.{plain_session}
use Rattle.sdb_session.proofs.PumpLemmas.{stops_at_once}
use Rattle.sdb_session.proofs.session.Session.pump_one_to.Goals as goal

pub returns-in-Some-clause-pumped : goal.returns-in-Some-clause-pumped
returns-in-Some-clause-pumped g c = stops_at_once (g.D.Desk.step c.args.desk.now) c.args.max (only_sub_at c.args.position (plain_session c.args.self.now)) c.args.pass.now
