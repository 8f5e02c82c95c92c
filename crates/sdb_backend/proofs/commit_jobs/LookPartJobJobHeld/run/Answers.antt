use Rattle.std.proofs.Common.{◌≡◌, ℕ, List, true, Result, Ok, Err, IfOk, OnErr, refl}
use Rattle.std.specs.declared.alloc.AllocError.{AllocError}
use Rattle.sdb_oplog.specs.Keys.{plain_key}
use Rattle.sdb_oplog.specs.Plain.{PlainEntry, PlainSubmission}
use Rattle.sdb_desk.specs.Looks.{IsLookPart}
use Rattle.sdb_desk.specs.Machine.{look_allocates}
use Rattle.sdb_desk.specs.ShardView.{logs_of}
use Rattle.sdb_desk.specs.declared.work.LookPart.{LookPart}
use Rattle.sdb_backend.specs.LooksInParts.{IsLookPartOrError}
use Rattle.sdb_backend.proofs.commit_jobs.LookPartJobJobHeld.run.Goals as goal

part_or_error : (log : List PlainEntry) (s : PlainSubmission) (known max : ℕ) (r : Result LookPart AllocError) → IfOk r (IsLookPart log s known max)
    → OnErr r (look_allocates log s ≡ true) → IsLookPartOrError log s known max r
part_or_error log s known max (Ok part) ok err = ok
part_or_error log s known max (Err e) ok err = err

pub returns-clause-postcondition : goal.returns-clause-postcondition
returns-clause-postcondition c = (
  part_or_error (logs_of c.args.held.now.shard (plain_key c.args.self.key.now)) c.args.self.submission.now c.args.self.known c.args.self.max c.look_part.result c.look_part.ensures.part c.look_part.ensures.memory,
  (refl, refl),
)
