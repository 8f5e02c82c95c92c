use Rattle.std.proofs.Common.{◌≡◌, ℕ, true, Some, Result, Ok, Err, OnErr, cond, nat_eq, sym, ap, ◌∙◌, rules}
use Rattle.std.specs.BTreeMap.{get, get_by_text, is_at}
use Rattle.std.specs.Map.{lookup}
use Rattle.std.specs.Option.{is_some}
use Rattle.std.specs.Ordering.{nat_cmp}
use Rattle.std.proofs.lemmas.Map.Text.{btree_map_updates_text}
use Rattle.sdb_oplog.proofs.IndexUpdates.{get_insert, version_in, version_inserted, version_unchanged, sources_have_entries, inserted_is_some}
use Rattle.sdb_oplog.proofs.index.Index.insert.Goals as goal

on_err : {A E P : Type 0} (r : Result A E) → P → OnErr r P
on_err (Ok x) p = tt
on_err (Err e) p = p

pub returns-clause-ok : goal.returns-clause-ok
returns-clause-ok c =
    let src = c.args.src.now in
    let old = c.args.self.now.by_source in
    let versions = c.insert.new.self in
    let new = c.get_mut.follows.lender versions in
    version_inserted (get_by_text old) (get_by_text new) src versions (btree_map_updates_text src old new (Some versions) ((c.get_mut.follows.holds versions).3 (search rules))) c.args.seq c.args.at
    (λ n. get_insert c.in-Some.versions.now versions c.args.seq c.args.at c.in_ok-insert.ensures.updates.0 n
    ∙ ap (λ o. cond (nat_eq c.args.seq n) (Some c.args.at) (version_in (λ _. o) src n)) c.in-Some.ensures.value)

pub returns-clause-has_entries : goal.returns-clause-has_entries
returns-clause-has_entries c =
    let src = c.args.src.now in
    let old = c.args.self.now.by_source in
    let versions = c.insert.new.self in
    let new = c.get_mut.follows.lender versions in
    sources_have_entries (get_by_text old) (get_by_text new) src versions (btree_map_updates_text src old new (Some versions) ((c.get_mut.follows.holds versions).3 (search rules)))
    (c.args.seq, inserted_is_some versions c.args.seq c.args.at _ (get_insert c.in-Some.versions.now versions c.args.seq c.args.at c.in_ok-insert.ensures.updates.0 c.args.seq))

pub returns-in_err-insert-clause-err : goal.returns-in_err-insert-clause-err
returns-in_err-insert-clause-err c =
    let src = c.args.src.now in
    let old = c.args.self.now.by_source in
    let versions = c.insert.new.self in
    let new = c.get_mut.follows.lender versions in
    let same : (n : ℕ) → get nat_cmp versions n ≡ version_in (get_by_text old) src n = λ n.
    ap (lookup (is_at (nat_cmp n))) c.in_err-insert.ensures.err ∙ ap (λ o. version_in (λ _. o) src n) c.in-Some.ensures.value in
    on_err c.from_residual.result
    (version_unchanged (get_by_text old) (get_by_text new) src versions (btree_map_updates_text src old new (Some versions) ((c.get_mut.follows.holds versions).3 (search rules))) same)

pub returns-in_err-insert-clause-has_entries : goal.returns-in_err-insert-clause-has_entries
returns-in_err-insert-clause-has_entries c = λ all.
    let src = c.args.src.now in
    let old = c.args.self.now.by_source in
    let versions = c.insert.new.self in
    let new = c.get_mut.follows.lender versions in
    let same : (n : ℕ) → get nat_cmp versions n ≡ version_in (get_by_text old) src n = λ n.
    ap (lookup (is_at (nat_cmp n))) c.in_err-insert.ensures.err ∙ ap (λ o. version_in (λ _. o) src n) c.in-Some.ensures.value in
    let found : is_some (get_by_text old src) ≡ true = ap is_some (sym c.in-Some.ensures.value) in
    let used = all src found in
    sources_have_entries (get_by_text old) (get_by_text new) src versions (btree_map_updates_text src old new (Some versions) ((c.get_mut.follows.holds versions).3 (search rules)))
    (used.0, ap is_some (same used.0) ∙ used.1) all
