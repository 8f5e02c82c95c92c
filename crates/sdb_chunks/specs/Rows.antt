-- The types of borrowed items, for clauses about mutable borrows.
use denote.RattleType.{RattleType}
use Rattle.std.specs.contracts.alloc.Global as heap
use Rattle.std.specs.contracts.impls.GlobalAllocator.TheImpl.{ghosts}
use Rattle.std.specs.contracts.vec.Vec as vec
use Rattle.sdb_chunks.specs.contracts.chunk.Chunk as chunk
use Rattle.sdb_chunks.specs.contracts.chunked_vec.ChunkedVec as chunked_vec

abbrev pub chunk_row : RattleType → RattleType
chunk_row R = chunk.the_row R

abbrev pub chunks_row : RattleType → RattleType
chunks_row R = vec.the_row (chunk.the_row R) heap.the_row ghosts

abbrev pub chunked_vec_row : RattleType → RattleType
chunked_vec_row R = chunked_vec.the_row R
