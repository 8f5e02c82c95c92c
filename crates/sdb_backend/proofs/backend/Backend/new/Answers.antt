use Rattle.sdb_backend.proofs.backend.Backend.new.Goals as goal

pub returns-clause-host : goal.returns-clause-host
returns-clause-host g c = (c.in_ok-locks.ensures.belongs.0, λ i lt. let x = c.in_ok-locks.ensures.seen i lt in (x.0, x.1, x.2 0))

pub returns-clause-empty : goal.returns-clause-empty
returns-clause-empty g c = λ i lt. let x = c.in_ok-locks.ensures.seen i lt in (x.0, x.1, x.2)
