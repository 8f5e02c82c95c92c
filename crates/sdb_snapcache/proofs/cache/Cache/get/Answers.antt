use Rattle.std.proofs.Common.{option_map, sym, ap, ◌∙◌}
use Rattle.sdb_value.specs.View.{value_of}
use Rattle.sdb_snapcache.specs.CacheModel.{snapshot_at_version}
use Rattle.sdb_snapcache.proofs.LruLemmas.{value_at_entries, unchanged_of}
use Rattle.sdb_snapcache.proofs.NearestLemmas.{view_of}
use Rattle.sdb_snapcache.proofs.cache.Cache.get.Goals as goal

pub returns : goal.returns
returns c =
    let k = c.in_ok-as_ref.field-0.now in
    view_of c.peek.result ∙ ap (option_map value_of) c.peek.ensures ∙ sym (value_at_entries c.args.version k.entries)
    ∙ ap (λ l. option_map (λ s. s.value) (snapshot_at_version c.args.version l)) (unchanged_of c.self.inside.snapshots k c.in_ok-as_ref.ensures.value ∙ c.self.view_is)
