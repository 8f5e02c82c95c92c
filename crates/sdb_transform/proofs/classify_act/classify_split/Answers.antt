use Rattle.std.proofs.Common.{◌≡◌, Some, sym, ap, subst, ◌∙◌}
use Rattle.std.specs.String.Boundary.{IsSplitPoint}
use Rattle.sdb_rope.specs.Utf16.{cut_at}
use Rattle.sdb_transform.proofs.OffsetLemmas.{inner_cut, split_delete_cut}
use Rattle.sdb_transform.proofs.classify_act.classify_split.Goals as goal

pub returns-in-Some : goal.returns-in-Some
returns-in-Some c =
    let d = c.args.d.now in
    let i = c.in-Some.at in
    let e : cut_at d c.args.before ≡ Some i = ap (λ t. cut_at t c.args.before) (sym c.as_str.ensures.value) ∙ sym c.in-Some.ensures.position in
    let inside = inner_cut d c.args.before i e c.requires.some c.requires.rest in
    λ o. (
      split_delete_cut c.args.p d c.args.before c.args.offset i e,
      (inside.0, inside.1, subst (λ t. IsSplitPoint t i) c.as_str.ensures.value c.in-Some.ensures.boundary),
    )
