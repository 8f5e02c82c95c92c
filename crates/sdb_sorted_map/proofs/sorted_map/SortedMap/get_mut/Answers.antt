use Rattle.std.proofs.Common.{Option, Some, None, IfSome, option_map, ap, sym, ◌∙◌}
use Rattle.sdb_chunks.specs.laws.ChunkLaws.{unique_vec_at_of_all}
use Rattle.sdb_sorted_map.specs.laws.SortedMapLaws.{lookup_of_key_index, lookup_none_of_insert_index}
use Rattle.sdb_sorted_map.specs.SortedMap.{map_entry_models}
use Rattle.sdb_sorted_map.proofs.EditLemmas.{ascending_unchanged, length_unchanged, found_seen, gap_seen, unique_flat}
use Rattle.sdb_sorted_map.proofs.sorted_map.SortedMap.get_mut.Goals as goal

pub invariant_of-self-lent : goal.invariant_of-self-lent
invariant_of-self-lent g c r =
    let m = c.args.self.now in
    let f = g.V.TryClone.model in
    let k = c.args.key.now in
    let i = c.in-Ok.index in
    let held = c.entry_value_mut.follows in (
      λ w. let e = held.holds w in (length_unchanged f m.entries (held.lender w) k i e m.small, (ascending_unchanged f m.entries (held.lender w) k i e m.keys_ascending, tt)),
      let e = held.holds-at-none in (length_unchanged f m.entries held.lender-at-none k i e m.small, (ascending_unchanged f m.entries held.lender-at-none k i e m.keys_ascending, tt)),
    )

some_then : {T : Type 0} (o : Option T) (P Q : T → Type 0) → ((x : T) → P x → Q x) → IfSome o P → IfSome o Q
some_then None P Q f h = tt
some_then (Some x) P Q f h = f x h

pub returns-in-Ok : goal.returns-in-Ok
returns-in-Ok g c =
    let f = g.V.TryClone.model in
    let l = c.args.self.now.entries in
    let i = c.in-Ok.index in
    let at = lookup_of_key_index c.args.key.now (map_entry_models f c.args.self.now) i (found_seen f l l c.args.key.now i c.in-Ok.ensures.key_index) in (
      λ own. c.entry_value_mut.ensures.value (unique_vec_at_of_all l i own) (unique_flat l own) ∙ sym at,
      some_then c.entry_value_mut.result _ _ (λ v e. at ∙ e) c.entry_value_mut.ensures.found,
    )

pub returns-in-Err : goal.returns-in-Err
returns-in-Err g c =
    let m = c.args.self.now in (
      λ own. sym (lookup_none_of_insert_index c.args.key.now (map_entry_models g.V.TryClone.model m) c.in-Err.field-0 (gap_seen g.V.TryClone.model m.entries m.entries c.args.key.now c.in-Err.field-0 c.in-Err.ensures.insert_index)),
      tt,
    )
