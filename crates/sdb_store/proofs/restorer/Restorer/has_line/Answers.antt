use Rattle.std.proofs.Common.{◌≡◌, List, [], slice_get, option_map, Some, sym, ap, ◌∙◌}
use Rattle.std.specs.Prelude.{unwrap_or, false}
use Rattle.std.specs.Option.{option_map_or}
use Rattle.sdb_oplog.specs.Keys.{plain_key}
use Rattle.sdb_oplog.specs.Plain.{PlainEntry}
use Rattle.sdb_dump.specs.DumpText.{is_text_of_entry}
use Rattle.sdb_store.specs.RestorerModel.{restorer_logs}
use Rattle.sdb_store.proofs.BetweenLemmas.{map_if_ok}
use Rattle.sdb_store.proofs.restorer.Restorer.has_line.Goals as goal

pub returns-in-Some-get : goal.returns-in-Some-get
returns-in-Some-get c =
    let k = plain_key c.args.key.now in
    let log = c.in-Some.log.now in
    let e = c.in-Some-get.entry.now in
    let logs_is : log ≡ restorer_logs c.args.self.now k = ap (λ o. unwrap_or (option_map (λ l. l.now) o) []) (sym c.in-Some.is) ∙ c.log.ensures.log in
    let found : slice_get (restorer_logs c.args.self.now k) c.args.version ≡ Some e = ap (λ (l : List PlainEntry). slice_get l c.args.version) (sym logs_is) ∙ sym c.in-Some-get.ensures in
    map_if_ok c.is_line_of.result
    (λ b h. h ∙ ap (λ o. option_map_or (is_text_of_entry c.args.line.now k c.args.moment) o false) (sym found))
    c.is_line_of.ensures
