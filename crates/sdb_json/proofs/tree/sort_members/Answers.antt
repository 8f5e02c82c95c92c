use Rattle.std.proofs.Common.{◌++◌, ◌∷◌, [], take, sym, ap, ◌∙◌}
use Rattle.std.proofs.lemmas.List.{take_more}
use Rattle.json.specs.Value.{members_view}
use Rattle.serde_json.specs.Data.{no_members, put}
use Rattle.sdb_json.specs.TreeData.{members_data, sorted_members, tree_data}
use Rattle.sdb_json.proofs.ObjectLemmas.{fields_more, sorted_insert}
use Rattle.sdb_json.proofs.tree.sort_members.Goals as goal

pub loop-name-preserved : goal.loop-name-preserved
loop-name-preserved c =
    let fs = c.args.members.now in
    let i = c.loop-name.name-index in
    let f = c.loop-name-item.result in
    let parts = take_more fs i f c.loop-name-test.true ∙ ap (λ g. take i fs ++ g ∷ []) (sym c.loop-name-item.is) in
    ap (sorted_members tree_data) c.in_ok-insert.ensures.entries ∙ sorted_insert tree_data c.loop-name.found.entries _ _
    ∙ ap (put f.0.now (tree_data f.1)) c.loop-name.invariant ∙ sym (ap (λ gs. members_data (members_view gs) no_members) parts ∙ fields_more (take i fs) f)
