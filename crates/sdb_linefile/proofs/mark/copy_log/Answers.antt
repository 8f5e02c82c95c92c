use Rattle.sqlite.proofs.Callers.{finds_again}
use Rattle.sdb_linefile.proofs.mark.copy_log.Goals as goal

pub returns-in-Ok-open_files-clause-clean : goal.returns-in-Ok-open_files-clause-clean
returns-in-Ok-open_files-clause-clean g c clean = (c.in-Ok.ensures.copied (c.in-Ok-open_files.ensures.found clean).honest).was_clean

pub returns-in-Ok-open_files-clause-alone : goal.returns-in-Ok-open_files-clause-alone
returns-in-Ok-open_files-clause-alone g c clean = let found = c.in-Ok-open_files.ensures.found clean in (c.in-Ok.files, found, (c.in-Ok.ensures.copied found.honest).seen)

pub returns-in-Ok-open_files-clause-same : goal.returns-in-Ok-open_files-clause-same
returns-in-Ok-open_files-clause-same g c clean =
    finds_again c.args.conn c.in-Ok-open_files.again c.in-Ok.files c.in-Ok.ensures.copied (c.in-Ok-open_files.ensures.found clean)
