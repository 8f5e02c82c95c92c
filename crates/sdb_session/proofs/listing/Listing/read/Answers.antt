use Rattle.std.proofs.Common.{Option, ℕ, ◌∷◌, [], IfOk, sym, subst}
use Rattle.sdb_oplog.specs.Keys.{plain_key}
use Rattle.sdb_session.specs.Listing.{ReadsFrom}
use Rattle.sdb_session.proofs.BatchLemmas.{log_read, queue_read}
use Rattle.sdb_session.proofs.listing.Listing.read.Goals as goal

pub returns-in-None-clause-read : goal.returns-in-None-clause-read
returns-in-None-clause-read g c =
    let l = c.args.self.now in
    let acts = g.D.Desk.step c.args.desk.now in
    let R : Option ℕ → Type 0 = λ o. IfOk c.ops_between.result (λ entries. ReadsFrom acts o (plain_key l.base) l.next (record { size = c.args.size; entries = entries.items } ∷ []) c.args.pass.now c.ops_between.new.pass) in
    subst R (sym c.in-None.is)
    (log_read acts (plain_key l.base) l.next l.end c.args.size c.args.pass.now c.ops_between.new.pass c.ops_between.result c.version_after.result c.version_after.ensures c.ops_between.ensures.call.step)

pub returns-in-Some-clause-read : goal.returns-in-Some-clause-read
returns-in-Some-clause-read g c =
    let l = c.args.self.now in
    let acts = g.D.Desk.step c.args.desk.now in
    let R : Option ℕ → Type 0 = λ o. IfOk c.take_entries.result (λ entries. ReadsFrom acts o (plain_key l.base) l.next (record { size = c.args.size; entries = entries.items } ∷ []) c.args.pass.now c.take_entries.new.pass) in
    subst R (sym c.in-Some.is)
    (queue_read acts (plain_key l.base) l.next l.end c.args.size c.args.pass.now c.take_entries.new.pass c.take_entries.result c.in-Some.id c.take_entries.ensures.takes_one)
