use Rattle.sdb_server_cli.proofs.store_file.restore.Goals as goal

pub returns-in-Ok-clause-lines : goal.returns-in-Ok-clause-lines
returns-in-Ok-clause-lines g c = λ clean lines unread.
    let read = c.in_ok-file.ensures.lines clean lines unread in
    (read.0, record { restorer = _; from_lines = read.1; backend = c.in-Ok.ensures.ok })
