use Rattle.std.proofs.Common.{take}
use Rattle.sdb_oplog.specs.Keys.{plain_key}
use Rattle.sdb_session.specs.PumpModel.{entries_of_others}
use Rattle.sdb_session.specs.ProjectionModel.{projection_of_key}
use Rattle.sdb_session.specs.View.{plain_session, WroteAnswers}
use Rattle.sdb_session.specs.Responses.{entry_answers}
use Rattle.sdb_session.proofs.session.Session.write_entries_of_others.Given as goal

abbrev pub invariant-loop-entry : goal.invariant-loop-entry
invariant-loop-entry g l =
    WroteAnswers g.O.AnswerSink.items (g.O.AnswerSink.contents l.initial.out) (g.O.AnswerSink.contents l.out)
    (entry_answers (projection_of_key l.table (plain_key l.key)) (plain_key l.key) (entries_of_others l.by (plain_session l.self).source (plain_key l.key) (take l.entry-index l.entries)))
