use Rattle.sdb_chunks.proofs.FlattenLemmas.{joined_alike, unique_alike, among_alike}
use Rattle.sdb_chunks.proofs.ChunkBounds.{longest_alike}
use Rattle.sdb_chunks.proofs.chunk_list.make_chunks_unique.Goals as goal

pub returns-in_err-make_unique-clause-same : goal.returns-in_err-make_unique-clause-same
returns-in_err-make_unique-clause-same g c = joined_alike g.T.TryClone.model _ _ c.make_unique.ensures.unchanged

pub returns-in_err-make_unique-clause-unchanged : goal.returns-in_err-make_unique-clause-unchanged
returns-in_err-make_unique-clause-unchanged g c = unique_alike g.T.TryClone.model _ _ c.make_unique.ensures.unchanged

pub returns-clause-same : goal.returns-clause-same
returns-clause-same g c = joined_alike g.T.TryClone.model _ _ c.make_unique.ensures.unchanged

pub returns-clause-unchanged : goal.returns-clause-unchanged
returns-clause-unchanged g c = unique_alike g.T.TryClone.model _ _ c.make_unique.ensures.unchanged

pub returns-in_err-make_unique-clause-uniqueness_unchanged : goal.returns-in_err-make_unique-clause-uniqueness_unchanged
returns-in_err-make_unique-clause-uniqueness_unchanged g c = among_alike g.T.TryClone.model _ _ c.make_unique.ensures.unchanged

pub returns-clause-uniqueness_unchanged : goal.returns-clause-uniqueness_unchanged
returns-clause-uniqueness_unchanged g c = among_alike g.T.TryClone.model _ _ c.make_unique.ensures.unchanged

pub returns-in_err-make_unique-clause-bound : goal.returns-in_err-make_unique-clause-bound
returns-in_err-make_unique-clause-bound g c = longest_alike g.T.TryClone.model _ _ c.make_unique.ensures.unchanged

pub returns-clause-bound : goal.returns-clause-bound
returns-clause-bound g c = longest_alike g.T.TryClone.model _ _ c.make_unique.ensures.unchanged
