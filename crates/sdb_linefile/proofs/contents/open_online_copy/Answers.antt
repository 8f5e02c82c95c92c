use Rattle.sdb_linefile.specs.Contents.{image_of_contents}
use Rattle.sdb_linefile.proofs.Opened.{map_ok}
use Rattle.sdb_linefile.proofs.contents.open_online_copy.Goals as goal

pub returns : goal.returns
returns c = map_ok c.open_contents.result c.open_contents.ensures λ opened reads clean. (image_of_contents c.in_ok-contents.contents, c.in_ok-contents.ensures, reads clean)
