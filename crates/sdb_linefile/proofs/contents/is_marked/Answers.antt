use Rattle.std.proofs.Common.{◌≡◌, ◌∙◌, [], ◌++◌, ap, sym, refl}
use Rattle.sqlite_trees.proofs.Doubt.{no_doubt}
use Rattle.sqlite_pool.proofs.StateLemmas.{clean_is}
use Rattle.sqlite_wal.specs.Recovery.{Image}
use Rattle.sqlite.specs.Files.{file_state}
use Rattle.sqlite.specs.Start.{FindsIn}
use Rattle.sqlite.specs.State.{HasCleanDisk}
use Rattle.sdb_linefile.proofs.Opened.{lost_shows, lost_lists, lost_if_marked}
use Rattle.sdb_linefile.proofs.contents.is_marked.Goals as goal

pub returns-then-is_empty_schema : goal.returns-then-is_empty_schema
returns-then-is_empty_schema c =
    let s = file_state c.in_ok-conn.conn in
    let clean : HasCleanDisk s = no_doubt _ (clean_is c.in_ok-conn.conn.store.pool) in
    let image : Image = record { log = []; db = c.args.file.now } in
    let copied : c.extend_from_slice.new.self.items ≡ c.args.file.now = c.in_ok-extend_from_slice.ensures.items ∙ ap (λ xs. xs ++ c.args.file.now) c.new-copy.ensures.items in
    let found : FindsIn image s = rw (copied, c.new-log.ensures.items) at (c.in_ok-conn.ensures.found clean) in
    let opens = c.in_ok-conn.ensures.opened clean in
    record {
      some = λ is. absurd (cc);
      none = λ is lost. lost_lists s image found opens.0 opens.1 lost (sym c.schema.ensures.value ∙ c.if-is_empty_schema.ensures refl);
    }

pub returns : goal.returns
returns c =
    let s = file_state c.in_ok-conn.conn in
    let clean : HasCleanDisk s = no_doubt _ (clean_is c.in_ok-conn.conn.store.pool) in
    let late : HasCleanDisk (file_state c.has_mark.new.conn) = no_doubt _ (clean_is c.has_mark.new.conn.store.pool) in
    let image : Image = record { log = []; db = c.args.file.now } in
    let copied : c.extend_from_slice.new.self.items ≡ c.args.file.now = c.in_ok-extend_from_slice.ensures.items ∙ ap (λ xs. xs ++ c.args.file.now) c.new-copy.ensures.items in
    let found : FindsIn image s = rw (copied, c.new-log.ensures.items) at (c.in_ok-conn.ensures.found clean) in
    let opens = c.in_ok-conn.ensures.opened clean in
    record {
      some = λ is lines files. lost_if_marked s image found opens.0 lines refl files (c.in_ok-has_mark.ensures.some late is lines) opens.1;
      none = λ is lost. c.in_ok-has_mark.ensures.none late is (lost_shows s image found opens.0 lost);
    }
