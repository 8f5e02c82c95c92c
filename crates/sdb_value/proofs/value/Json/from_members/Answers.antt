use Rattle.sdb_value.proofs.UniquenessLemmas.{unique_object}
use Rattle.sdb_value.proofs.ViewLemmas.{seen_object}
use Rattle.sdb_value.proofs.value.Json.from_members.Goals as goal

pub returns : goal.returns
returns c = record { value = seen_object c.args.members; unique = unique_object c.args.members }
