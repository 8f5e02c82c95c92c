use Rattle.std.proofs.Common.{◌≡◌, Ok, Err, rules, sym, ap, ◌∙◌}
use Rattle.sdb_desk.specs.View.{rebased_content_of}
use Rattle.sdb_desk.proofs.ResumeLemmas.{rest_allocates}
use Rattle.sdb_desk.proofs.resume.rebase_rest.Goals.{in-Unchanged, in-Changed}
use Rattle.sdb_desk.proofs.resume.rebase_rest.Goals as goal

pub returns-in-Err-E10-clause-memory : goal.returns-in-Err-E10-clause-memory
returns-in-Err-E10-clause-memory c = λ missed h.
    let reached : rebased_content_of c.args.arrived.now c.args.worked ≡ Ok c.match-worked.current.now =
    elim c.match-worked.branch [ in-Unchanged w ↦ search rules | in-Changed w ↦ search rules ] in
    rest_allocates c.args.arrived.now missed c.args.entries.now c.match-worked.current.now (sym h ∙ reached) (c.in-Err-E10.ensures.memory (ap Err c.in-Err-E10.field-0-is))
