use Rattle.std.proofs.Common.{refl}
use Rattle.sdb_oplog.specs.Keys.{plain_key}
use Rattle.sdb_desk.specs.ShardView.{state_of}
use Rattle.sdb_submit.specs.laws.ShardLaws.{unsubscribe_call}
use Rattle.sdb_submit.proofs.solo.SoloDesk.unsubscribe.Goals as goal

pub returns : goal.returns
returns c =
    let s = c.args.pass.now in
    let x = unsubscribe_call 0 (plain_key c.args.key.now) (state_of s) (state_of c.unsubscribe.new.self) c.args.id c.unsubscribe.ensures.closed c.unsubscribe.ensures.removed in
    record { call = record { pass = record { accepted = tt; number_unchanged = refl }; step = x.step; caches = x.caches } }
