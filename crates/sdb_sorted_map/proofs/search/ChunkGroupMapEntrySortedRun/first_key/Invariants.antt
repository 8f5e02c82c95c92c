use Rattle.std.proofs.Common.{◌≡◌, []}
use Rattle.sdb_sorted_map.specs.SearchModel.{chunk_keys, keys_of_first_runs}
use Rattle.sdb_sorted_map.proofs.search.ChunkGroupMapEntrySortedRun.first_key.Given as goal

abbrev pub invariant-loop-chunk : goal.invariant-loop-chunk
invariant-loop-chunk g l = keys_of_first_runs chunk_keys l.chunk-items l.chunk-index ≡ []
