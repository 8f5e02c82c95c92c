use Rattle.sdb_backend.proofs.StepLemmas.{run_at_same_history}
use Rattle.sdb_backend.proofs.desk.BackendDesk.forget.Goals as goal

pub returns : goal.returns
returns g c =
    let d = c.run.ensures.ran in
    record {
      call = record {
        pass = record { accepted = c.run.ensures.pass; number_unchanged = d.number_unchanged };
        step = run_at_same_history d d.ran.0;
        caches = (d.next, d.seen_after, d.ran.1);
      };
    }
