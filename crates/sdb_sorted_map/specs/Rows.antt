-- The type of a borrowed value, for the clause about a mutable borrow.
use denote.RattleType.{RattleType}
use Rattle.sdb_chunks.specs.contracts.chunked_vec.ChunkedVec as chunked_vec
use Rattle.sdb_sorted_map.specs.contracts.map_entry.MapEntry as member

abbrev pub entries_row : RattleType → RattleType
entries_row R = chunked_vec.the_row (member.the_row R)
