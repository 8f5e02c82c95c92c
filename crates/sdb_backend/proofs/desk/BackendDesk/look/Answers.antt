use Rattle.std.proofs.Common.{◌≡◌, List, [], rules, refl, sym, subst}
use Rattle.sdb_oplog.specs.Keys.{plain_key}
use Rattle.sdb_oplog.specs.Plain.{PlainEntry}
use Rattle.sdb_backend.specs.LooksInParts.{KnowsFirstMissed}
use Rattle.sdb_backend.proofs.desk.BackendDesk.look.Goals as goal

pub look_from-requires-clause-missed : goal.look_from-requires-clause-missed
look_from-requires-clause-missed g c =
    let none : c.new.result.items ≡ [] = search rules in
    subst (λ (es : List PlainEntry). KnowsFirstMissed c.args.pass.now (plain_key c.args.key.now) c.args.submission.now es) (sym none) (λ x saw. (_, refl))
