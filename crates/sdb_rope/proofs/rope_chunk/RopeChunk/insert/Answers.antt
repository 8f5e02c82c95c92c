use Rattle.std.proofs.Common.{◌≡◌, ◌+◌, ◌<◌, ◌^◌, length, ap, ◌∙◌, sym, arith}
use Rattle.sdb_rope.specs.declared.shared_str.SharedStr.{SharedStr}
use Rattle.sdb_rope.specs.declared.shared_str.SharedStr.TheVariants.{Unique, Shared}
use Rattle.sdb_rope.specs.SharedStr.{str_bytes}
use Rattle.sdb_rope.specs.Utf16.{units}
use Rattle.sdb_rope.proofs.ChunkEdits.{units_put, units_few}
use Rattle.sdb_rope.proofs.rope_chunk.RopeChunk.insert.Goals as goal

short : (c : SharedStr) → length (str_bytes c) < 2 ^ 63
short (Unique s) = omega (arith, s.bytes.small, s.bytes.ok.0, s.bytes.ok.1)
short (Shared a) = omega (arith, a.value.bytes.small, a.value.bytes.ok.0, a.value.bytes.ok.1)

pub overflow_add-self : goal.overflow_add-self
overflow_add-self c =
    let old = c.args.self.now in
    let new = c.insert.new.self in
    let sum : units (str_bytes new) ≡ old.units + c.units.result = ap units c.in_ok-insert.ensures.ok ∙ units_put (str_bytes old.text) c.args.new.now c.args.at ∙ ap (λ n. n + units c.args.new.now) (sym old.utf16_len_is_units) ∙ ap (λ n. old.units + n) (sym c.units.ensures.value) in
    omega (arith, sum, units_few (str_bytes new), short new)

pub invariant_of-self-2 : goal.invariant_of-self-2
invariant_of-self-2 c =
    let old = c.args.self.now in
    let new = c.insert.new.self in
    let sum : units (str_bytes new) ≡ old.units + c.units.result = ap units c.in_ok-insert.ensures.ok ∙ units_put (str_bytes old.text) c.args.new.now c.args.at ∙ ap (λ n. n + units c.args.new.now) (sym old.utf16_len_is_units) ∙ ap (λ n. old.units + n) (sym c.units.ensures.value) in
    record { utf16_len_is_units = sym sum }
