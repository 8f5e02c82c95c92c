use Rattle.std.proofs.Common.{ap, ◌∙◌}
use Rattle.sdb_desk.specs.ShardState.{plain_queues}
use Rattle.sdb_desk.specs.ShardView.{machine_of}
use Rattle.sdb_session.specs.View.{plain_session}
use Rattle.sdb_server.proofs.LineSessionLemmas.{first_line}
use Rattle.sdb_server.proofs.line_session.LineSession.new.Goals as goal

pub returns : goal.returns
returns g c =
    first_line (machine_of c.new.result) (plain_session c.new-2.result) (ap (λ s. s.logs) c.new.ensures) (ap plain_queues c.new.ensures) (c.new-2.ensures.source ∙ c.in_ok-from_str.ensures.ok) c.new-2.ensures.subs c.args.table.now (g.C.Clock.remaining_moments c.args.clock)
