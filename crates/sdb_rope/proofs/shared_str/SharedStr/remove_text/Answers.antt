use Rattle.std.proofs.Common.{◌≡◌, ◌+◌, ◌-◌, List, ℕ, length, take, drop, nat_eq, true, ap, subst, sym, ◌∙◌}
use Rattle.std.specs.List.{starts_with}
use Rattle.std.specs.Str.{IsUtf8}
use Rattle.std.specs.String.Boundary.{IsSplitPoint}
use Rattle.sdb_rope.specs.SharedStr.{str_bytes}
use Rattle.sdb_rope.proofs.BoundaryLemmas.{other_end, to_end}
use Rattle.sdb_rope.proofs.shared_str.SharedStr.remove_text.Goals as goal

pub remove-requires-clause-end : goal.remove-requires-clause-end
remove-requires-clause-end c =
    let at = c.in-Some.at in
    let B = str_bytes c.args.self.now in
    let b = c.as_bytes.result.now in
    let old = c.args.old.now in
    let here : take (length b - at) (drop at b) ≡ drop at B = to_end b at ∙ ap (drop at) (c.as_bytes.ensures.value ∙ c.as_str-2.ensures) in
    let begins : starts_with nat_eq (drop at B) old ≡ true = ap (λ l. starts_with nat_eq l old) (sym here) ∙ ap (starts_with nat_eq (take (length b - at) (drop at b))) (sym c.as_bytes-2.ensures.value) ∙ sym c.starts_with.ensures.value ∙ c.if-not-starts_with.false in
    let end = other_end B old at (subst IsUtf8 c.as_str.ensures c.as_str.utf8) c.utf8.old (subst (λ (t : List ℕ). IsSplitPoint t at) c.as_str.ensures c.in-Some.ensures.boundary) begins in
    subst (λ (t : List ℕ). IsSplitPoint t (at + length old)) (sym c.make_unique.ensures.unchanged) end
