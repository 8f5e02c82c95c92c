use Rattle.std.proofs.Common.{◌≡◌, List, Some, slice_get, subst}
use Rattle.sdb_backend.specs.declared.unsaved.EntryAt.{EntryAt}
use Rattle.sdb_store.proofs.BetweenLemmas.{get_is, map_if_ok}
use Rattle.sdb_store.proofs.saver.Saver.next_line.Goals as goal

pub returns-clause-line : goal.returns-clause-line
returns-clause-line g c =
    let s = c.args.self.now in
    let place = c.in-Some.place.now in
    let found = c.in-Some.ensures.lookup in
    let at = subst (λ (l : List EntryAt). slice_get l s.position ≡ Some place) c.deref.ensures.value
    (get_is s.position c.deref.result.now place found.3.0 found.1) in
    map_if_ok c.read_line.result (λ line h. (place, at, h)) c.read_line.ensures.line
