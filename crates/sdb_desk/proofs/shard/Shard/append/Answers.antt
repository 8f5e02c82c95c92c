use Rattle.std.proofs.Common.{subst}
use Rattle.sdb_oplog.specs.Keys.{plain_key}
use Rattle.sdb_oplog.specs.Plain.{PlainSubmission}
use Rattle.sdb_desk.specs.ShardView.{state_of}
use Rattle.sdb_desk.specs.StateChanges.{StateAfterStore}
use Rattle.sdb_desk.proofs.LookLemmas.{on_ok, on_err}
use Rattle.sdb_desk.proofs.StateLemmas.{state_of_entries, unchanged_of_write, store_of_write}
use Rattle.sdb_desk.proofs.shard.Shard.append.Goals as goal

pub returns-in-Some-clause-ok : goal.returns-in-Some-clause-ok
returns-in-Some-clause-ok c =
    let new = c.append.new.self in
    let k = plain_key c.args.key.now in
    let s = c.in_ok-submission.submission in
    let store = store_of_write c.args.self.now.slots.entries _ c.args.key.now c.in-Some.slot.now new c.in-Some.ensures.value (c.get_mut.follows.holds new).0 s c.args.now in
    let after = state_of_entries (c.get_mut.follows.lender new).entries in
    on_ok c.append.result
    (λ h. subst (λ (p : PlainSubmission). StateAfterStore k p c.args.now (state_of c.args.self.now) after) c.in_ok-submission.ensures (store h)) c.append.ensures.ok

pub returns-in-Some-clause-err : goal.returns-in-Some-clause-err
returns-in-Some-clause-err c =
    let new = c.append.new.self in
    on_err c.append.result (unchanged_of_write c.args.self.now.slots.entries _ c.args.key.now c.in-Some.slot.now new c.in-Some.ensures.value (c.get_mut.follows.holds new).0) c.append.ensures.err
