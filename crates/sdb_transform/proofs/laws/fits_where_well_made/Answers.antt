use Rattle.sdb_transform.proofs.ConvergeBounds.{fits_where_made}
use Rattle.sdb_transform.proofs.laws.fits_where_well_made.Goals as goal

pub returns : goal.returns
returns c = fits_where_made
