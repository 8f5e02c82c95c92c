use Rattle.sdb_value.proofs.ListLemmas.{found_view}
use Rattle.sdb_value.proofs.path.item.Goals as goal

pub returns : goal.returns
returns c = found_view c.get.result (λ x. x.now) c.args.items.now c.args.number c.get.ensures
