-- An iterator over the items of a list.
use Rattle.std.specs.Prelude.{List, ◌++◌}
use Rattle.std.specs.List.{flat_map}
use Rattle.sdb_chunks.specs.Chunk.{items_of}
use Rattle.sdb_chunks.specs.ChunkGroup.{group_chunks}
use Rattle.sdb_chunks.specs.declared.chunk.Chunk.{Chunk}
use Rattle.sdb_chunks.specs.declared.iter.Chunks.{Chunks}
use Rattle.sdb_chunks.specs.declared.iter.Iter.{Iter}

-- the remaining chunks
abbrev pub remaining_chunks : {X : Type 0} → Chunks X → List (Chunk X)
remaining_chunks b = b.chunks.now ++ flat_map group_chunks b.groups.now

-- the remaining items
abbrev pub remaining_items : {X : Type 0} → Iter X → List X
remaining_items i = i.items.now ++ flat_map items_of (remaining_chunks i.chunks)
