use Rattle.sdb_event_loop.proofs.listen.listen_on_loops.Given as goal

abbrev pub ghosts-listen_as : goal.ghosts-listen_as
ghosts-listen_as g a = record { locks = a.state.now.value.backend.locks.locks.items }
