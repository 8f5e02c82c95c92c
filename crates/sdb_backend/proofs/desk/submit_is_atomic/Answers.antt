use Rattle.sdb_oplog.specs.Keys.{plain_key}
use Rattle.sdb_desk.specs.ReplyView.{plain_reply}
use Rattle.sdb_backend.proofs.StepLemmas.{in_one_step, step_adds}
use Rattle.sdb_backend.proofs.desk.submit_is_atomic.Goals as goal

pub returns-clause-decides : goal.returns-clause-decides
returns-clause-decides g c =
    in_one_step (plain_key c.args.key.now) c.args.submission c.args.now c.args.pass.now c.submit.new.pass (plain_reply c.submit.result) c.submit.ensures.chain

pub returns-clause-adds_entry : goal.returns-clause-adds_entry
returns-clause-adds_entry g c =
    let k = plain_key c.args.key.now in
    let s = c.args.submission in
    let now = c.args.now in
    let r = plain_reply c.submit.result in
    step_adds k s now c.args.pass.now c.submit.new.pass r (in_one_step k s now c.args.pass.now c.submit.new.pass r c.submit.ensures.chain) c.requires.by
