use Rattle.std.proofs.Common.{ap, ◌∙◌}
use Rattle.serde_json.specs.Data.{put}
use Rattle.serde_json.specs.View.{view as data_view, members_view}
use Rattle.serde_json.proofs.Views.{members_view-insert_entry}
use Rattle.sdb_component.proofs.to_json.push_field.Goals as goal

pub returns : goal.returns
returns c =
    let es = c.args.members.now.entries in
    ap members_view c.in_ok-insert.ensures.entries ∙ members_view-insert_entry es c.in_ok-name.name c.args.value ∙ ap (λ k. put k (data_view c.args.value) (members_view es)) c.in_ok-name.ensures.ok
