use Rattle.std.proofs.Common.{sym, subst}
use Rattle.sdb_backend.specs.PassModel.{IsPassOfBackend}
use Rattle.sdb_service_tests.proofs.saver.a_moved_journal_ends_the_rounds.Goals as goal

pub save_until_closed-saved-requires : goal.save_until_closed-saved-requires
save_until_closed-saved-requires g c =
    subst (λ p. IsPassOfBackend p c.expect-backend.result.0) (sym c.new-saver.ensures.pass) c.list_unsaved.ensures.pass
