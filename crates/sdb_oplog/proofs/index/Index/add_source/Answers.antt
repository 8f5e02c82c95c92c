use Rattle.std.proofs.Common.{◌≡◌, ◌&&◌, ℕ, List, Some, bytes_eq, cond, nat_eq, sym, ap, ◌∙◌, string_bytes}
use Rattle.std.specs.BTreeMap.{get_by_text}
use Rattle.std.proofs.lemmas.Map.Text.{btree_map_updates_text}
use Rattle.sdb_oplog.proofs.IndexUpdates.{get_insert, none_in, version_in, version_inserted, sources_have_entries, inserted_is_some}
use Rattle.sdb_oplog.proofs.index.Index.add_source.Goals as goal

pub returns-clause-ok : goal.returns-clause-ok
returns-clause-ok c =
    let bs = string_bytes c.in_ok-source.source in
    let old = c.args.self.now.by_source in
    let versions = c.insert.new.self in
    let new = c.insert-2.new.self in
    let same = c.in_ok-source.ensures.ok in
    let inserted : (s : List ℕ) (n : ℕ) → version_in (get_by_text new) s n ≡ cond (nat_eq c.args.seq n && bytes_eq bs s) (Some c.args.at) (version_in (get_by_text old) s n) =
    version_inserted (get_by_text old) (get_by_text new) bs versions (btree_map_updates_text bs old new (Some versions) c.in_ok-insert-2.ensures.updates) c.args.seq c.args.at
    (λ n. get_insert c.new-first_version.result versions c.args.seq c.args.at c.in_ok-insert.ensures.updates.0 n
    ∙ ap (cond (nat_eq c.args.seq n) (Some c.args.at)) (none_in c.new-first_version.result n c.new-first_version.ensures.empty ∙ sym (ap (λ t. version_in (get_by_text old) t n) same ∙ c.requires n))) in
    λ s n. inserted s n ∙ ap (λ t. cond (nat_eq c.args.seq n && bytes_eq t s) (Some c.args.at) (version_in (get_by_text old) s n)) same

pub returns-clause-has_entries : goal.returns-clause-has_entries
returns-clause-has_entries c =
    let bs = string_bytes c.in_ok-source.source in
    let old = c.args.self.now.by_source in
    let versions = c.insert.new.self in
    let new = c.insert-2.new.self in
    sources_have_entries (get_by_text old) (get_by_text new) bs versions (btree_map_updates_text bs old new (Some versions) c.in_ok-insert-2.ensures.updates)
    (c.args.seq, inserted_is_some versions c.args.seq c.args.at _ (get_insert c.new-first_version.result versions c.args.seq c.args.at c.in_ok-insert.ensures.updates.0 c.args.seq))
