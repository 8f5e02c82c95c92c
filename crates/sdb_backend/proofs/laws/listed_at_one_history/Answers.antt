use Rattle.sdb_backend.specs.laws.ListingLaws as listing
use Rattle.sdb_backend.proofs.laws.listed_at_one_history.Goals as goal

pub returns : goal.returns
returns c = λ k v p q r h. listing.listed_at_one_history k v p q r h
