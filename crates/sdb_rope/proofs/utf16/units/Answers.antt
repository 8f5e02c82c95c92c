use Rattle.std.proofs.Common.{◌≡◌, ◌+◌, ◌-◌, drop, ap, sym, ◌∙◌, arith, length-take}
use Rattle.sdb_rope.specs.Utf16.{units}
use Rattle.sdb_rope.proofs.OffsetLemmas.{units_more, units_all}
use Rattle.sdb_rope.proofs.Utf8Lemmas.{units_of_chars}
use Rattle.sdb_rope.proofs.utf16.units.Goals as goal

pub loop-start-preserved : goal.loop-start-preserved
loop-start-preserved c =
    let start = c.loop-start.start in
    let bytes = c.as_bytes-bytes.result.now in
    let next = start + 4096 in
    let more = units_more start next bytes (omega arith) in
    let size = length-take (next - start) (drop start bytes) in
    record {
      within = omega (arith, c.loop-start-test.true, c.loop-start.invariant.within);
      counted = omega (arith, more, c.loop-start.invariant.counted, c.units_in-chunk.ensures.value);
      few = omega (arith, size, c.loop-start.invariant.few, c.units_in-chunk.ensures.bound);
    }

pub returns : goal.returns
returns c =
    let bytes = c.as_bytes-bytes.result.now in
    let all = units_all c.loop-start.start bytes c.loop-start.invariant.within in
    let same = ap units c.as_bytes-bytes.ensures.value in
    let value : c.loop-start.count + c.units_in.result ≡ units c.args.text.now = omega (arith, all, same, c.loop-start.invariant.counted, c.units_in.ensures.value) in
    record {
      value = value;
      encoded = λ cs e. value ∙ sym (ap units e) ∙ units_of_chars cs;
    }
