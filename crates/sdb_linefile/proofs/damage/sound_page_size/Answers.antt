use Rattle.std.proofs.Common.{◌∙◌, sym}
use Rattle.std.proofs.lemmas.Bool.{false≢true}
use Rattle.sqlite_wal.proofs.FormatLemmas.{part_front}
use Rattle.sdb_linefile.proofs.LostFrames.{sound_header, none_invalid}
use Rattle.sdb_linefile.proofs.damage.sound_page_size.Goals.{else-is_signed-via-then-is_signed+else-read_number-eq-VERSION, else-is_signed-via-else-is_signed}
use Rattle.sdb_linefile.proofs.damage.sound_page_size.Goals as goal

pub returns-then-read_number-eq-VERSION-clause-some : goal.returns-then-read_number-eq-VERSION-clause-some
returns-then-read_number-eq-VERSION-clause-some c =
    sound_header _ _ _ _ (part_front c.args.log.now 32) (c.is_signed.ensures.0 c.if-is_signed.true) c.read_number-then-read_number-eq-VERSION.ensures
    (sym c.read_number.ensures ∙ c.if-read_number-eq-VERSION.true) c.new.ensures.valid c.new.ensures.value

pub returns-then-read_number-eq-VERSION-clause-none : goal.returns-then-read_number-eq-VERSION-clause-none
returns-then-read_number-eq-VERSION-clause-none c none sound =
    let size = rw (part_front c.args.log.now 32) at sound.1 in
    none_invalid _ _ none c.new.ensures.valid (rw c.read_number-then-read_number-eq-VERSION.ensures size)

pub returns-else-is_signed-clause-none : goal.returns-else-is_signed-clause-none
returns-else-is_signed-clause-none c none sound =
    let header = rw (part_front c.args.log.now 32) at sound.0 in
    elim c.else-is_signed.branch [
      | else-is_signed-via-then-is_signed+else-read_number-eq-VERSION w ↦ w.if-read_number-eq-VERSION.false (w.read_number.ensures ∙ header.version)
      | else-is_signed-via-else-is_signed w ↦ false≢true (sym w.if-is_signed.false ∙ c.is_signed.ensures.1 header.signed)
    ]
