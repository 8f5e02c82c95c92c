use Rattle.sqlite.specs.Files.{file_state}
use Rattle.sdb_linefile.specs.Contents.{image_of_contents}
use Rattle.sdb_linefile.proofs.Opened.{stores_image, line_file_found, map_ok}
use Rattle.sdb_linefile.proofs.contents.open_contents.Goals as goal

pub returns : goal.returns
returns c = map_ok c.adopt_lines.result c.adopt_lines.ensures λ opened is clean.
    let conn = c.in_ok-conn.conn in
    let image = image_of_contents c.args.contents in
    let early = rw is.1 at clean in
    let opens = c.in_ok-conn.ensures.opened early in
    let found = c.in_ok-conn.ensures.found early in
    record {
      table = line_file_found (file_state conn) image found opens.0 opens.1 is.0;
      lines = λ lines files. rw is.1 (stores_image (file_state conn) lines image found opens.0 opens.1 c.settle.ensures files);
    }
