-- The types inside a `Json`, for clauses about mutable borrows.
use denote.RattleType.{RattleType}
use Rattle.sdb_chunks.specs.contracts.chunked_vec.ChunkedVec as chunked_vec
use Rattle.sdb_sorted_map.specs.contracts.sorted_map.SortedMap as members
use Rattle.sdb_rope.specs.contracts.rope.Rope as text
use Rattle.sdb_value.specs.contracts.value.Json.{the_row}

abbrev pub json_row : RattleType
json_row = the_row

abbrev pub list_row : RattleType
list_row = chunked_vec.the_row the_row

abbrev pub text_row : RattleType
text_row = text.the_row

abbrev pub members_row : RattleType
members_row = members.the_row the_row
