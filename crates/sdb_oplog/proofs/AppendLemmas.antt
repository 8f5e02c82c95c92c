-- Append preserves the invariant of a log.
use Rattle.std.proofs.Common.{◌≡◌, ℕ, ◌+◌, List, [], ◌∷◌, ◌++◌, length, cond, ◌&&◌, Some, bytes_eq, nat_eq, sym, ap, ◌∙◌, subst, arith, length-append}
use Rattle.std.specs.Option.{is_some}
use Rattle.sdb_oplog.specs.Plain.{PlainEntry}
use Rattle.sdb_oplog.specs.Snap.{snap, stored_at, are_identifiers_new}
use Rattle.sdb_oplog.specs.Moments.{MomentsOrderedFrom}
use Rattle.sdb_oplog.specs.laws.LogLaws.{moments_ordered_append}
use Rattle.sdb_oplog.specs.LogInvariant.{LogInvariant, CanAppend}
use Rattle.sdb_oplog.specs.IndexModel.{indexed_version}
use Rattle.sdb_oplog.specs.declared.index.Index.{Index}
use Rattle.sdb_oplog.proofs.LogGrowth.{first_more}
use Rattle.sdb_oplog.proofs.IndexLemmas.{one_more_placed}

-- a log and its index with one more entry
pub one_more : (es fs : List PlainEntry) (e : PlainEntry) (x y : Index) → fs ≡ es ++ e ∷ [] → LogInvariant es x → CanAppend es e
    → ((s : List ℕ) (n : ℕ) → indexed_version y s n ≡ cond (nat_eq e.arrived.seq n && bytes_eq e.arrived.src s) (Some (length es)) (indexed_version x s n)) → LogInvariant fs y
one_more es fs e x y is l can new = record {
  identifiers_unique = ap (are_identifiers_new []) is ∙ first_more [] es e l.identifiers_unique can.is_new;
  every_entry_applies = ap (λ t. is_some (snap t)) is ∙ can.entry_applies;
  moments_ordered = subst (MomentsOrderedFrom 0) (sym is) (moments_ordered_append 0 es e l.moments_ordered can.moment_ordered);
  length_in_range = let n : length fs ≡ length es + 1 = ap length is ∙ length-append es (e ∷ []) in omega (arith, n, can.has_room);
  index_is_exact = λ s n. one_more_placed x y es e can.is_new l.index_is_exact new s n ∙ ap (stored_at s n) (sym is);
}
