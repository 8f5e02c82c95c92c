use Rattle.std.proofs.Common.{refl}
use Rattle.sdb_oplog.specs.Keys.{plain_key}
use Rattle.sdb_desk.specs.ShardView.{state_of}
use Rattle.sdb_desk.specs.ReplyView.{plain_reply}
use Rattle.sdb_submit.specs.laws.ShardLaws.{commit_now_call}
use Rattle.sdb_submit.proofs.solo.SoloDesk.commit_now.Goals as goal

pub returns : goal.returns
returns c =
    let s = c.args.pass.now in
    let x = commit_now_call 0 (plain_key c.args.key.now) (state_of s) (state_of c.commit_now.new.self) c.args.submission.now c.args.now (plain_reply c.commit_now.result) c.commit_now.ensures in
    record { call = record { pass = record { accepted = tt; number_unchanged = refl }; step = x.step; caches = x.caches } }
