use Rattle.std.proofs.Common.{◌≡◌, length, sym, ap, ◌∙◌}
use Rattle.sdb_desk.specs.Machine.{look_at, look_after, look_before}
use Rattle.sdb_desk.specs.ShardView.{log_at}
use Rattle.sdb_desk.specs.View.{plain_look}
use Rattle.sdb_desk.specs.laws.LookLaws.{look_has_first_missed, look_of_parts}
use Rattle.sdb_desk.proofs.shard.Shard.commit_newer.Goals as goal

pub commit_current-requires : goal.commit_current-requires
commit_current-requires c =
    let log = log_at c.args.self.now c.args.key.now in
    let a = c.args.work in
    let n = length a.look.missed in
    let newer : plain_look c.in-Ok.newer ≡ look_after n (look_at log a.submission) =
    c.in-Ok.ensures.look ∙ ap (λ es. look_after (length es) (look_at log c.submission-2.result.now)) c.missed.ensures
    ∙ ap (λ s. look_after n (look_at log s)) c.submission-2.ensures in
    let made = c.in-Ok-extend.ensures.ok in
    ap (λ w. w.look) made
    ∙ ap (look_before a.look.missed) newer
    ∙ look_of_parts log a.submission a.look.missed (look_has_first_missed log a c.requires)
    ∙ ap (λ w. look_at log w.submission) (sym made)
