use Rattle.sdb_dump.proofs.ActLimitLemmas.{transform_fits}
use Rattle.sdb_dump.proofs.laws.transform_fits.Goals as goal

pub returns : goal.returns
returns c = transform_fits
