use Rattle.std.specs.Prelude.{[]}
use Rattle.sdb_server_cli.proofs.RestoredLines.{restored_from}
use Rattle.sdb_server_cli.proofs.store_file.restore_lines.Goals as goal

pub returns-in-Ok-restore-clause-lines : goal.returns-in-Ok-restore-clause-lines
returns-in-Ok-restore-clause-lines g c = λ clean lines unread.
    let read = c.in-Ok-restore.ensures.ok clean lines unread in
    let all = restored_from 1 [] lines _ _ c.in-Ok.ensures.items read.1 in
    (read.0, record { items = all.items; are_read = all.are_read; restored = all.restored })
