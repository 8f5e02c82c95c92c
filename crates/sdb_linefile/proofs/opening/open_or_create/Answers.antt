use Rattle.sqlite.specs.Files.{file_state}
use Rattle.sqlite_wal.specs.Files.{image_at}
use Rattle.sdb_linefile.proofs.Opened.{stores_image, schema_found, schema_of_empty}
use Rattle.sdb_linefile.proofs.opening.open_or_create.Goals as goal

pub returns-in-Ok-adopt-clause-ok : goal.returns-in-Ok-adopt-clause-ok
returns-in-Ok-adopt-clause-ok g c clean lines files =
    let adopted = c.in-Ok-adopt.ensures.ok clean in
    let early = adopted.clean in
    let opened = c.in-Ok.ensures.opened early in
    adopted.lines lines (stores_image (file_state c.in-Ok.conn) lines (image_at g.S.Start) (c.in-Ok.ensures.found early) opened.0 opened.1 c.settle.ensures files)

pub returns-in-Ok-adopt-clause-created : goal.returns-in-Ok-adopt-clause-created
returns-in-Ok-adopt-clause-created g c clean files =
    let adopted = c.in-Ok-adopt.ensures.ok clean in
    let early = adopted.clean in
    let opened = c.in-Ok.ensures.opened early in
    adopted.created (schema_of_empty (file_state c.in-Ok.conn) (image_at g.S.Start) (c.in-Ok.ensures.found early) opened.0 opened.1 files)

pub returns-in-Ok-adopt-clause-only : goal.returns-in-Ok-adopt-clause-only
returns-in-Ok-adopt-clause-only g c clean db schema holds sound =
    let early = (c.in-Ok-adopt.ensures.ok clean).clean in
    let opened = c.in-Ok.ensures.opened early in
    let is = schema_found (file_state c.in-Ok.conn) db schema opened.0 opened.1 ((c.in-Ok.ensures.found early).holds db holds) sound in
    rw is at c.in-Ok-adopt.ensures.only
