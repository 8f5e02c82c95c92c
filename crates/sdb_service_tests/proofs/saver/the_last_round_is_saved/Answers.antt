use Rattle.std.proofs.Common.{sym, subst}
use Rattle.sdb_backend.specs.PassModel.{IsPassOfBackend}
use Rattle.sdb_service_tests.proofs.saver.the_last_round_is_saved.Goals as goal

pub save_until_closed-saved-requires : goal.save_until_closed-saved-requires
save_until_closed-saved-requires g c = subst (λ p. IsPassOfBackend p c.expect-backend.result.0) (sym c.new-saver.ensures.pass) c.list_unsaved.ensures.pass
