use Rattle.std.proofs.Common.{◌≡◌, ◌-◌, List, ℕ, take, drop, ap, ◌∙◌, sym, subst, arith}
use Rattle.std.specs.String.Boundary.{IsSplitPoint}
use Rattle.sdb_rope.specs.SharedStr.{str_bytes}
use Rattle.sdb_rope.specs.Utf16.{units}
use Rattle.sdb_rope.proofs.ChunkEdits.{units_removed}
use Rattle.sdb_rope.proofs.BoundaryLemmas.{char_boundary}
use Rattle.sdb_rope.proofs.rope_chunk.RopeChunk.remove.Goals as goal

pub range-requires-clause-end_boundary : goal.range-requires-clause-end_boundary
range-requires-clause-end_boundary c =
    char_boundary c.as_str.result.now c.args.to c.as_str.utf8 (subst (λ (t : List ℕ). IsSplitPoint t c.args.to) (sym c.as_str.ensures) c.requires.end)

pub overflow_sub-self : goal.overflow_sub-self
overflow_sub-self c =
    let old = c.args.self.now in
    let removed_units : c.units-removed_units.result ≡ units (take (c.args.to - c.args.from) (drop c.args.from (str_bytes old.text))) = c.units-removed_units.ensures.value ∙ ap units c.range.ensures.value ∙ ap (λ l. units (take (c.args.to - c.args.from) (drop c.args.from l))) c.as_str.ensures in
    omega (arith, removed_units, units_removed (str_bytes old.text) c.args.from c.args.to c.requires.ordered, old.utf16_len_is_units)

pub invariant_of-self : goal.invariant_of-self
invariant_of-self c =
    let old = c.args.self.now in
    let removed_units : c.units-removed_units.result ≡ units (take (c.args.to - c.args.from) (drop c.args.from (str_bytes old.text))) = c.units-removed_units.ensures.value ∙ ap units c.range.ensures.value ∙ ap (λ l. units (take (c.args.to - c.args.from) (drop c.args.from l))) c.as_str.ensures in
    let new = c.remove.new.self in
    let left : old.units - c.units-removed_units.result ≡ units (str_bytes new) = omega (arith, removed_units, ap units c.remove.ensures.bytes, units_removed (str_bytes old.text) c.args.from c.args.to c.requires.ordered, old.utf16_len_is_units) in
    record { utf16_len_is_units = left }
