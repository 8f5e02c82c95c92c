use Rattle.std.proofs.Common.{◌≤◌, length, take, Some, option_map, sym, ap, ◌∙◌, subst}
use Rattle.sdb_value.specs.View.{value_of}
use Rattle.sdb_oplog.specs.Snap.{document_of}
use Rattle.sdb_oplog.specs.laws.DecidedLogLaws.{alive_of_made}
use Rattle.sdb_snapcache.specs.SnapInvariant.{IsSnapOf}
use Rattle.sdb_desk.proofs.CacheLemmas.{with_unchanged, offered_or}
use Rattle.sdb_desk.proofs.ReplayLemmas.{document_at}
use Rattle.sdb_desk.proofs.document.Document.offer.Goals as goal

pub invariant_of-self : goal.invariant_of-self
invariant_of-self c =
    let log = c.self.inside.decided in
    let v = c.args.version in
    let is : IsSnapOf log (record { version = v; value = value_of c.in-Ok-Some.copy }) = record {
      within = subst (λ d. v ≤ length d.log) (sym c.self.view_is) c.requires.bound;
      is = document_at log v (alive_of_made log c.self.invariant.is_made)
          ∙ ap Some (ap (λ d. document_of (take v d.log)) c.self.view_is ∙ c.requires.snapshot ∙ sym c.in-Ok-Some.ensures.copy ∙ ap (option_map value_of) c.in-Ok-Some.field-0-is);
    } in
    with_unchanged log c.self.inside.cache _ (offered_or log v (value_of c.in-Ok-Some.copy) c.self.inside.cache _ c.offer.result is c.self.invariant.cache_is_snaps c.offer.ensures.ok c.offer.ensures.err) c.self.invariant
