use Rattle.std.proofs.Common.{List, ℕ, Bor, ap, map}
use Rattle.sdb_sorted_map.specs.Iter.{remaining_entries}
use Rattle.sdb_sorted_map.specs.MapEntry.{key_value}
use Rattle.sdb_sorted_map.proofs.EntryLemmas.{steps_end}
use Rattle.sdb_sorted_map.proofs.iter.IterIterator.next.Goals as goal

pub returns-in_err-member-clause-steps : goal.returns-in_err-member-clause-steps
returns-in_err-member-clause-steps g c =
    let s = c.in_err-member.ensures.steps in
    steps_end (λ (m : Bor (List ℕ) × Bor g.row.V.Denot). (m.0.now, m.1.now)) remaining_entries c.args.self.now (record { entries = c.next.new.self })
    c.from_residual.result c.from_residual.ensures (ap (map key_value) s.0) (ap (map key_value) s.1)
