use Rattle.sdb_oplog.specs.Keys.{plain_key}
use Rattle.sdb_backend.proofs.ReplayPartLemmas.{only_read_refl}
use Rattle.sdb_backend.proofs.backend.Backend.replay_in_place.Goals as goal

pub returns-in_default-clause-read : goal.returns-in_default-clause-read
returns-in_default-clause-read g c = only_read_refl (plain_key c.args.key.now) c.args.pass.now
