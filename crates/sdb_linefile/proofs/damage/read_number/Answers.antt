use Rattle.std.proofs.Common.{refl}
use Rattle.sqlite_wal.specs.Format.{be32}
use Rattle.sdb_linefile.proofs.damage.read_number.Goals as goal

pub returns : goal.returns
unfolding be32
returns c = refl
