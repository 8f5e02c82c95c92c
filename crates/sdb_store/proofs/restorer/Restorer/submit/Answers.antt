use Rattle.std.proofs.Common.{◌≡◌, refl, sym, ap, subst, ◌∙◌}
use Rattle.sdb_oplog.specs.Decide.{repeated, refused}
use Rattle.sdb_oplog.specs.Keys.{plain_key}
use Rattle.sdb_oplog.specs.declared.codes.Code.TheVariants.{E10}
use Rattle.sdb_desk.specs.ReplyView.{plain_reply}
use Rattle.sdb_backend.specs.RestorationModel.{restored_logs}
use Rattle.sdb_backend.proofs.HistoryGrowth.{IsStoredReply}
use Rattle.sdb_store.specs.RestorerModel.{restorer_logs}
use Rattle.sdb_store.proofs.RestoreLemmas.{restorer_after, stored_version, none_decided, refused_injective, if_ok_at, if_ok_of_err, if_err_at, if_err_of_ok}
use Rattle.sdb_store.proofs.restorer.Restorer.submit.Goals.{in-Stored, in-Repeat, in-Refused}
use Rattle.sdb_store.proofs.restorer.Restorer.submit.Goals as goal

pub returns-clause-restorer : goal.returns-clause-restorer
returns-clause-restorer c =
    restorer_after c.args.self.now _ c.args.submission.now.by c.requires.number.0 c.requires.number.1 refl c.commit.ensures.shares c.requires.restorer

pub returns-clause-ok : goal.returns-clause-ok
returns-clause-ok c =
    let old = restorer_logs c.args.self.now in
    let new = restored_logs c.commit.new.self in
    let k = plain_key c.args.key.now in
    elim c.match-commit.branch [
      | in-Stored w ↦
          if_ok_at c.match-commit.result _ w.in-Stored.v w.result-is
          (stored_version old new k c.args.submission.now c.args.moment (plain_reply c.commit.result) w.in-Stored.v _ (ap plain_reply w.in-Stored.is) c.commit.ensures.logs)
      | in-Repeat w ↦ if_ok_of_err c.match-commit.result _ _ w.result-is
      | in-Refused w ↦ if_ok_of_err c.match-commit.result _ _ w.result-is
    ]

pub returns-clause-err : goal.returns-clause-err
returns-clause-err c =
    let old = restorer_logs c.args.self.now in
    let new = restored_logs c.commit.new.self in
    let k = plain_key c.args.key.now in
    let r = plain_reply c.commit.result in
    elim c.match-commit.branch [
      | in-Stored w ↦ if_err_of_ok c.match-commit.result _ _ w.result-is
      | in-Repeat w ↦
          (let is : r ≡ repeated w.in-Repeat.v = ap plain_reply w.in-Repeat.is in
          if_err_at c.match-commit.result _ _ w.result-is
          (λ wrong. none_decided old new k c.args.submission.now c.args.moment r (λ h. subst IsStoredReply is h)
          (λ e. let no : repeated w.in-Repeat.v ≡ refused E10 = sym is ∙ e in cc) c.commit.ensures.logs))
      | in-Refused w ↦
          (let is : r ≡ refused w.in-Refused.code = ap plain_reply w.in-Refused.is in
          if_err_at c.match-commit.result _ _ w.result-is
          (λ wrong. none_decided old new k c.args.submission.now c.args.moment r (λ h. subst IsStoredReply is h)
          (λ e. w.refusal_fault.ensures wrong (refused_injective w.in-Refused.code E10 (sym is ∙ e))) c.commit.ensures.logs))
    ]
