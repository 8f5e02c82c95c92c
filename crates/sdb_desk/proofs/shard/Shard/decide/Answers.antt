use Rattle.std.proofs.Common.{Err, sym, ap, ◌∙◌}
use Rattle.sdb_oplog.specs.Keys.{plain_key}
use Rattle.sdb_desk.specs.ReplyView.{plain_reply}
use Rattle.sdb_desk.specs.ShardView.{logs_of, state_of}
use Rattle.sdb_desk.proofs.DecideLemmas.{commits_rejected}
use Rattle.sdb_desk.proofs.StateLemmas.{follow_of_unchanged}
use Rattle.sdb_desk.proofs.shard.Shard.decide.Goals as goal

pub returns-in-Err-append_work : goal.returns-in-Err-append_work
returns-in-Err-append_work c =
    let e = c.in-Err-append_work.ensures in record {
      commits = commits_rejected (logs_of c.args.self.now) (logs_of c.append_work.new.self) (plain_key c.args.key.now) c.args.work.now c.args.now c.in-Err-append_work.rejection
          (plain_reply c.from-in-Err-append_work.result) c.from-in-Err-append_work.ensures (sym c.version.ensures ∙ c.if-version.false ∙ c.version-2.ensures) e.err
          (λ is. e.memory (ap Err is)) (λ is. e.found (ap Err is)) (ap (λ s. s.logs) e.unchanged_on_err);
      others = follow_of_unchanged (state_of c.args.self.now) (state_of c.append_work.new.self) e.unchanged_on_err;
    }
