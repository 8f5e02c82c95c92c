use Rattle.std.proofs.Common.{◌≡◌, Some, slice_get, sym, ◌∙◌, subst}
use Rattle.sdb_oplog.specs.Keys.{Logs, plain_key}
use Rattle.sdb_desk.specs.ShardView.{logs_of}
use Rattle.sdb_store.proofs.BetweenLemmas.{first_between}
use Rattle.sdb_store.proofs.saver.read_line.Goals as goal

pub returns-in-Some-clause-line : goal.returns-in-Some-clause-line
returns-in-Some-clause-line g c =
    let d = c.in_ok-entries.ensures.call.step in
    let k = plain_key c.args.place.now.key in
    let e = c.in-Some.entry.now in
    let from = c.args.place.now.version in
    let log = logs_of d.history.shard k in
    let first = c.in-Some.ensures.item in
    record {
      pass = c.ops_between.new.pass;
      is_own = c.in_ok-entries.ensures.call.pass.accepted;
      history = d.next;
      seen = d.seen_after;
      entry = e;
      stored = subst (λ (logs : Logs). slice_get (logs k) from ≡ Some e) (sym d.ran.1.0)
          (first_between from c.saturating_add.result log c.deref.result.now e (c.deref.ensures.value ∙ d.ran.0) first.3.0 (first.3.1 e));
      line_is = c.in_ok-entry_line-in-Some.ensures;
    }
