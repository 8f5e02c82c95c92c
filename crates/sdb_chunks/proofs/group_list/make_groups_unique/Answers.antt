use Rattle.sdb_chunks.proofs.GroupLemmas.{groups_alike, in_groups_alike}
use Rattle.sdb_chunks.proofs.ChunkBounds.{longest_grouped_alike}
use Rattle.sdb_chunks.proofs.group_list.make_groups_unique.Goals as goal

pub returns-in_err-make_unique-clause-unchanged : goal.returns-in_err-make_unique-clause-unchanged
returns-in_err-make_unique-clause-unchanged g c = groups_alike g.T.TryClone.model _ _ c.make_unique.ensures.unchanged

pub returns-in_err-make_unique-clause-uniqueness_unchanged : goal.returns-in_err-make_unique-clause-uniqueness_unchanged
returns-in_err-make_unique-clause-uniqueness_unchanged g c = in_groups_alike g.T.TryClone.model _ _ c.make_unique.ensures.unchanged

pub returns-clause-unchanged : goal.returns-clause-unchanged
returns-clause-unchanged g c = groups_alike g.T.TryClone.model _ _ c.make_unique.ensures.unchanged

pub returns-clause-uniqueness_unchanged : goal.returns-clause-uniqueness_unchanged
returns-clause-uniqueness_unchanged g c = in_groups_alike g.T.TryClone.model _ _ c.make_unique.ensures.unchanged

pub returns-in_err-make_unique-clause-bound : goal.returns-in_err-make_unique-clause-bound
returns-in_err-make_unique-clause-bound g c = longest_grouped_alike g.T.TryClone.model _ _ c.make_unique.ensures.unchanged

pub returns-clause-bound : goal.returns-clause-bound
returns-clause-bound g c = longest_grouped_alike g.T.TryClone.model _ _ c.make_unique.ensures.unchanged
