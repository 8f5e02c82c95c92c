use Rattle.sdb_linefile.proofs.contents.connect.Goals as goal

pub returns-in-Ok-clause-found : goal.returns-in-Ok-clause-found
returns-in-Ok-clause-found c clean =
    let found = c.in-Ok.ensures.found clean in
    rw (← c.in_ok-log.ensures.bytes, ← c.in_ok-db.ensures.bytes) (record { holds = found.holds; reads = found.reads })
