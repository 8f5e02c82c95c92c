use Rattle.std.proofs.Common.{◌≡◌, ◌+◌, ◌-◌, length, min, take, drop, sym, ap, ◌∙◌, arith}
use Rattle.std.proofs.lemmas.List.{drop-take, drop_min, length-take, take_min}
use Rattle.sdb_desk.proofs.document.entries_between.Goals as goal

pub returns : goal.returns
returns c =
    let log = c.args.log.now in
    let to = c.args.to in
    let end = c.min-end.result in
    let start = c.min-start.result in
    let size = end - start in
    let last : end ≡ min to (length log) = c.min-end.ensures ∙ ap (min to) c.len.ensures.len in
    let first : start ≡ min c.args.from (length (take to log)) =
    c.min-start.ensures ∙ ap (min c.args.from) (last ∙ sym (length-take to log)) in
    let sum : start + size ≡ end = omega (arith, c.min-start.ensures) in
    ap (take size) c.entries_from.ensures
    ∙ sym (drop-take start size log)
    ∙ ap (λ n. drop start (take n log)) (sum ∙ last)
    ∙ ap (drop start) (take_min to log)
    ∙ ap (λ n. drop n (take to log)) first
    ∙ drop_min c.args.from (take to log)
