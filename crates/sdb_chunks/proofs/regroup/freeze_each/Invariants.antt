use Rattle.std.proofs.Common.{◌≡◌, length}
use Rattle.sdb_chunks.specs.ChunkGroup.{flatten_group_models, max_grouped_length}
use Rattle.sdb_chunks.proofs.regroup.freeze_each.Given as goal

abbrev pub invariant-loop-at : goal.invariant-loop-at
invariant-loop-at g l = record {
  same : flatten_group_models g.T.TryClone.model l.groups.items ≡ flatten_group_models g.T.TryClone.model l.initial.groups.items;
  short : max_grouped_length l.groups.items ≡ max_grouped_length l.initial.groups.items;
  many : length l.groups.items ≡ l.at-end;
}
