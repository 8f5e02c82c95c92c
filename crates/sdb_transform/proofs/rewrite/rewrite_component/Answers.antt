use Rattle.std.proofs.Common.{refl, ◌∙◌}
use Rattle.sdb_transform.proofs.PrefixLemmas.{rest_after}
use Rattle.sdb_transform.proofs.rewrite.rewrite_component.Goals as goal

pub returns-in_ok-act-in-UpdatedValue-clause-ok : goal.returns-in_ok-act-in-UpdatedValue-clause-ok
returns-in_ok-act-in-UpdatedValue-clause-ok c =
    let s = c.args.component in
    let o = c.args.other.now in
    let rest = rest_after c.steps.result.now c.path-in-UpdatedValue.result.now s.path o.path (c.steps.ensures ∙ c.into_parts-path.ensures.path) c.path-in-UpdatedValue.ensures in
    rw (c.in-UpdatedValue.is, c.new-in-UpdatedValue.ensures, c.in_ok-act-in-UpdatedValue.ensures.ok, rest, c.act.ensures, c.into_parts-path.ensures.path, c.into_parts-path.ensures.act) refl
