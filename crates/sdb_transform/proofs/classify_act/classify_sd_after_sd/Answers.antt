use Rattle.std.proofs.Common.{◌≡◌, ◌+◌, ◌-◌, ◌<◌, min, arith, ap, ◌∙◌}
use Rattle.sdb_component.specs.Plain.{sd}
use Rattle.sdb_rope.specs.Utf16.{units}
use Rattle.sdb_transform.proofs.OffsetLemmas.{overlap_kind}
use Rattle.sdb_transform.proofs.classify_act.classify_sd_after_sd.Goals as goal
use Rattle.sdb_transform.proofs.classify_act.classify_sd_after_sd.Goals.{then-p-r-2, else-p-r-2, else-r-p-via-then-r-p+else-other_width-p, else-r-p-via-else-r-p, else-p-r-via-then-p-r+else-width-r, else-p-r-via-else-p-r}

pub returns : goal.returns
returns c d2 e =
    let p = c.args.p in
    let r = c.args.r in
    let d = c.args.d.now in
    let w : c.units-width.result ≡ units d = c.units-width.ensures.value ∙ ap units c.as_str.ensures.value in
    let after : c.min-2.result ≡ min (units d) (r + units d2 - p) =
    elim c.if-p-r-2.branch [ then-p-r-2 v ↦ omega (arith, w, e) | else-p-r-2 v ↦ omega (arith, w, e) ]
    in
    let low : p < r + units d2 =
    elim c.else-r-p.branch [ else-r-p-via-then-r-p+else-other_width-p v ↦ omega (arith, e) | else-r-p-via-else-r-p v ↦ omega (arith, e) ]
    in
    let high : r < p + units d =
    elim c.else-p-r.branch [ else-p-r-via-then-p-r+else-width-r v ↦ omega (arith, w) | else-p-r-via-else-p-r v ↦ omega (arith, w) ]
    in
    overlap_kind c.classify_overlap.result p r d d2 c.min.result c.saturating_sub.result c.min-2.result c.min.ensures c.saturating_sub.ensures after low high (c.classify_overlap.ensures p (sd r d2))
