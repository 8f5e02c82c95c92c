use Rattle.std.proofs.Common.{refl}
use Rattle.sdb_oplog.specs.Keys.{plain_key}
use Rattle.sdb_desk.specs.ShardView.{state_of}
use Rattle.sdb_desk.specs.View.{fetch_result_view}
use Rattle.sdb_submit.specs.laws.ShardLaws.{snapshot_call}
use Rattle.sdb_submit.proofs.solo.SoloDesk.snapshot_at.Goals as goal

pub returns : goal.returns
returns c =
    let s = c.args.pass.now in
    let x = snapshot_call 0 (plain_key c.args.key.now) (state_of s) (state_of c.snapshot_at.new.self) c.args.version (fetch_result_view c.snapshot_at.result) c.snapshot_at.ensures.snapshot c.snapshot_at.ensures.cache in
    record { call = record { pass = record { accepted = tt; number_unchanged = refl }; step = x.step; caches = x.caches } }
