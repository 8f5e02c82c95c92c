use Rattle.std.proofs.Common.{refl}
use Rattle.sdb_oplog.specs.Keys.{plain_key}
use Rattle.sdb_desk.specs.ShardView.{state_of}
use Rattle.sdb_desk.specs.View.{fetch_result_view}
use Rattle.sdb_submit.specs.laws.ShardLaws.{fetch_call}
use Rattle.sdb_submit.proofs.solo.SoloDesk.fetch.Goals as goal

pub returns : goal.returns
returns c =
    let s = c.args.pass.now in
    let x = fetch_call 0 (plain_key c.args.key.now) (state_of s) (state_of c.fetch.new.self) (fetch_result_view c.fetch.result) c.fetch.ensures.fetched c.fetch.ensures.unchanged in
    record { call = record { pass = record { accepted = tt; number_unchanged = refl }; step = x.step; caches = x.caches } }
