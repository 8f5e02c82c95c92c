use Rattle.std.proofs.Common.{◌≡◌, ◌+◌, ◌%◌, get_or, take, sym, ap, ◌∙◌}
use Rattle.std.specs.List.{sum}
use Rattle.std.proofs.Math.Nat.{mod-add-mod}
use Rattle.std.proofs.lemmas.List.Sums.{sum_by_more}
use Rattle.sdb_oplog.proofs.keys.byte_sum.Goals as goal

pub loop-byte-preserved : goal.loop-byte-preserved
loop-byte-preserved c =
    let i = c.loop-byte.byte-index in
    let text = c.args.text.now in
    let bytes = c.as_bytes-byte-items.result.now in
    let same : bytes ≡ text = c.as_bytes-byte-items.ensures.value in
    let x = get_or bytes i 0 in
    ap (λ s. (s + x) % 8) c.loop-byte.invariant ∙ mod-add-mod (sum (take i text)) 8 x
    ∙ ap (λ t. (sum (take i t) + x) % 8) (sym same)
    ∙ ap (λ n. n % 8) (sym (sum_by_more (λ y. y) bytes i 0 c.loop-byte-test.true))
    ∙ ap (λ t. sum (take (i + 1) t) % 8) same
