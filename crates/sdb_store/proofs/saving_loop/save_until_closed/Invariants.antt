use Rattle.sdb_backend.specs.PassModel.{IsPassOfBackend}
use Rattle.sdb_store.specs.SaverModel.{saver_pass}
use Rattle.sdb_store.proofs.saving_loop.save_until_closed.Given as goal

abbrev pub invariant-loop : goal.invariant-loop
invariant-loop g l =
    (goal.iterator-loop g).can_next l.iterator' × (goal.iterator-loop g).is_finite l.iterator'
    × IsPassOfBackend (saver_pass l.saver) l.backend
