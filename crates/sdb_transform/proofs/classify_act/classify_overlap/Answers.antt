use Rattle.std.proofs.Common.{◌≡◌, Some, sym, ap, subst, ◌∙◌}
use Rattle.std.specs.String.Boundary.{IsSplitPoint}
use Rattle.sdb_rope.specs.Utf16.{cut_at}
use Rattle.sdb_transform.proofs.OffsetLemmas.{cut_mono, delete_without_overlap_cut}
use Rattle.sdb_transform.proofs.classify_act.classify_overlap.Goals as goal

pub returns-in-Some-Some : goal.returns-in-Some-Some
returns-in-Some-Some c =
    let d = c.args.d.now in
    let i = c.in-Some-Some.start in
    let j = c.in-Some-Some.end in
    let e : cut_at d c.args.before ≡ Some i = ap (λ t. cut_at t c.args.before) (sym c.as_str.ensures.value) ∙ sym c.in-Some-Some.ensures.position in
    let f : cut_at d c.args.after ≡ Some j = ap (λ t. cut_at t c.args.after) (sym c.as_str-2.ensures.value) ∙ sym c.in-Some-Some.ensures'.position in
    λ p o. (
      delete_without_overlap_cut c.args.offset d c.args.before c.args.after i j e f,
      (
        cut_mono d c.args.before c.args.after i j e f c.requires,
        subst (λ t. IsSplitPoint t i) c.as_str.ensures.value c.in-Some-Some.ensures.boundary,
        subst (λ t. IsSplitPoint t j) c.as_str-2.ensures.value c.in-Some-Some.ensures'.boundary,
      ),
    )
