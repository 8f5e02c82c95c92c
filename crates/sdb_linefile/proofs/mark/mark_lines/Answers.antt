use Rattle.std.proofs.Common.{◌≡◌, ◌∙◌, sym, subst}
use Rattle.sqlite.specs.Files.{file_state}
use Rattle.sqlite.specs.State.{HasCleanDisk}
use Rattle.sdb_linefile.specs.LineTable.{HasMark}
use Rattle.sdb_linefile.specs.LineFile.{StoresLines}
use Rattle.sdb_linefile.proofs.Opened.{stores_opened}
use Rattle.sdb_linefile.proofs.mark.mark_lines.Goals as goal

pub returns-clause-clean : goal.returns-clause-clean
returns-clause-clean g c clean =
    let late : HasCleanDisk (file_state c.in_ok-conn.conn) = rw c.new.ensures.0 at clean in
    let same : c.into_connection-conn.result ≡ c.args.file.conn =
    c.into_connection-conn.ensures.same ∙ c.in_ok-adopt_lines.ensures.1 ∙ c.into_connection.ensures in
    rw same at (c.put_mark.ensures.clean (c.in_ok-conn.ensures.clean late))

pub returns-clause-ok : goal.returns-clause-ok
returns-clause-ok g c clean lines has =
    let is : c.new.result.conn ≡ c.in_ok-conn.conn = c.new.ensures.0 in
    let late : HasCleanDisk (file_state c.in_ok-conn.conn) = rw is at clean in
    let mid = c.in_ok-conn.ensures.clean late in
    let same : c.into_connection-conn.result ≡ c.args.file.conn =
    c.into_connection-conn.ensures.same ∙ c.in_ok-adopt_lines.ensures.1 ∙ c.into_connection.ensures in
    let before : StoresLines lines (file_state c.into_connection-conn.result) = rw same has.0 in
    let put = c.in_ok-put_mark.ensures.ok mid lines before in
    let opens = c.in_ok-conn.ensures.opened late in
    let committed = c.in_ok-conn.ensures.same late in
    let stores = stores_opened (file_state c.in_ok-conn.conn) lines _ opens.0 opens.1 c.settle.ensures committed put.0 in
    let alone = c.in_ok-conn.ensures.alone late in
    record {
      contents = (rw is stores, c.new.ensures.1 ∙ has.1);
      crash = rw is (λ db may. subst HasMark (sym (c.settle.ensures opens.0.is_open db may ∙ committed)) put.1);
      file = record { files = alone.0; found = rw is alone.1; db = _; alone = alone.2; mark = put.1 };
    }
