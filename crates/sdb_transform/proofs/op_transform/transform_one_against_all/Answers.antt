use Rattle.std.proofs.Common.{◌≡◌, [], ◌∷◌, Some, sym, ap, ◌∙◌}
use Rattle.sdb_transform.specs.Cross.{transform_op}
use Rattle.sdb_transform.proofs.SideLemmas.{past_none}
use Rattle.sdb_transform.proofs.StackLemmas.{empty_list}
use Rattle.sdb_transform.proofs.op_transform.transform_one_against_all.Goals as goal

pub returns-clause-ok : goal.returns-clause-ok
returns-clause-ok c =
    let side = c.args.side in
    let current = c.loop-other.current in
    let rest = c.loop-other.rest.now in
    let kept : transform_op side (c.args.component ∷ []) c.args.others.now ≡ transform_op side (current ∷ []) rest = c.loop-other.invariant in
    let none : rest ≡ [] = empty_list rest c.in_default.ensures.cases in
    kept ∙ ap (transform_op side (current ∷ [])) none ∙ past_none side (current ∷ []) ∙ ap Some (sym c.one.ensures)
