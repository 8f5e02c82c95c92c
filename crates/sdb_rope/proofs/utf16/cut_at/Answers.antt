use Rattle.std.proofs.Common.{◌≡◌, ◌+◌, List, ℕ, Option, Some, None, option_map, sym, ap, subst, ◌∙◌}
use Rattle.std.specs.Str.{encode_utf8_all}
use Rattle.sdb_rope.specs.Utf16.{cut_at, IsUtf16Position}
use Rattle.sdb_rope.proofs.OffsetLemmas.{split_after, found_after}
use Rattle.sdb_rope.proofs.Utf8Lemmas.{position_of_chars}
use Rattle.sdb_rope.proofs.utf16.cut_at.Goals as goal

-- the position in the bytes of characters is that of the offset
position_encoded : (text : List ℕ) (p : ℕ) (r : Option ℕ) → cut_at text p ≡ r → (cs : List ℕ) → encode_utf8_all cs ≡ text → IsUtf16Position cs p r
position_encoded text p r is cs e = subst (IsUtf16Position cs p) (ap (λ t. cut_at t p) e ∙ is) (position_of_chars cs p)

pub returns-clause-boundary : goal.returns-clause-boundary
returns-clause-boundary c =
    split_after c.as_bytes-bytes.result.now c.args.text.now c.args.offset c.skip-start.result.1 c.skip-start.result.0 c.in_ok-walk_chars.field-0 c.as_bytes-bytes.ensures.value c.skip-start.ensures.equal c.in_ok-walk_chars.ensures.position

pub returns-clause-encoded : goal.returns-clause-encoded
returns-clause-encoded c =
    position_encoded c.args.text.now c.args.offset (Some (c.skip-start.result.0 + c.in_ok-walk_chars.field-0))
    (found_after c.as_bytes-bytes.result.now c.args.text.now c.args.offset c.skip-start.result.1 c.skip-start.result.0 (Some c.in_ok-walk_chars.field-0) c.as_bytes-bytes.ensures.value c.skip-start.ensures.equal c.in_ok-walk_chars.ensures.position)

pub returns-in_err-walk_chars-clause-encoded : goal.returns-in_err-walk_chars-clause-encoded
returns-in_err-walk_chars-clause-encoded c = λ cs e.
    position_encoded c.args.text.now c.args.offset c.from_residual.result
    (found_after c.as_bytes-bytes.result.now c.args.text.now c.args.offset c.skip-start.result.1 c.skip-start.result.0 None c.as_bytes-bytes.ensures.value c.skip-start.ensures.equal c.in_err-walk_chars.ensures.position ∙ sym c.from_residual.ensures)
    cs e
