use Rattle.sdb_value.proofs.PutLemmas.{object_found}
use Rattle.sdb_value.proofs.path.member.Goals as goal

pub returns : goal.returns
returns c = object_found c.get.result (λ x. x.now) c.args.members.now c.args.name.now c.get.ensures
