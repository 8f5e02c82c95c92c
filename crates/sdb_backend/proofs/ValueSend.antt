-- Values are Send and Sync: they share by `Arc`.
use denote.RattleType.{RattleType}
use denote.Struct.Field.{row_field}
use denote.Param.Send.{IsSend, IsSync, sendable}
use denote.Param.SendFields.{as_row_send, as_row_sync, declared_send, declared_sync, variants_send, variants_sync}
use Rattle.std.proofs.Crossing.{Vec-send, Vec-sync, Arc-send, Arc-sync, crosses}
use Rattle.std.proofs.MapsCrossing as maps
use Rattle.sdb_chunks.specs.contracts.chunk.Chunk as Block
use Rattle.sdb_chunks.specs.contracts.chunk_group.ChunkGroup as Group
use Rattle.sdb_chunks.specs.contracts.chunked_vec.Repr as Form
use Rattle.sdb_chunks.specs.contracts.chunked_vec.ChunkedVec as Pieces
use Rattle.sdb_sorted_map.specs.contracts.map_key.MapKey as Key
use Rattle.sdb_sorted_map.specs.contracts.map_entry.MapEntry as Member
use Rattle.sdb_sorted_map.specs.contracts.sorted_map.SortedMap as Members
use Rattle.sdb_value.specs.contracts.value.Json as Json
use Rattle.sdb_value.proofs.value.Json.TheLaws.TheKnot as knot

module _ (T : RattleType) (s : IsSend T) (y : IsSync T) where
  Block-send : IsSend (Block.the_row T)
  Block-send = variants_send (Block.enum T) ((Vec-send T s, tt), ((Arc-send _ (Vec-send T s) (Vec-sync T y), tt), tt))

  Block-sync : IsSync (Block.the_row T)
  Block-sync = variants_sync (Block.enum T) ((Vec-sync T y, tt), ((Arc-sync _ (Vec-send T s) (Vec-sync T y), tt), tt))

module _ (T : RattleType) (s : IsSend T) (y : IsSync T) where
  Group-send : IsSend (Group.the_row T)
  Group-send = declared_send (Group.the_type T) (search sendable, (Block-send _ (Block-send T s y) (Block-sync T s y), tt))

  Group-sync : IsSync (Group.the_row T)
  Group-sync = declared_sync (Group.the_type T) (search sendable, (Block-sync _ (Block-send T s y) (Block-sync T s y), tt))

module _ (T : RattleType) (s : IsSend T) (y : IsSync T) where
  Form-send : IsSend (Form.the_row T)
  Form-send = variants_send (Form.enum T) ((Block-send T s y, tt), ((Block-send _ (Block-send T s y) (Block-sync T s y), tt), ((Block-send _ (Group-send T s y) (Group-sync T s y), tt), tt)))

  Form-sync : IsSync (Form.the_row T)
  Form-sync = variants_sync (Form.enum T) ((Block-sync T s y, tt), ((Block-sync _ (Block-send T s y) (Block-sync T s y), tt), ((Block-sync _ (Group-send T s y) (Group-sync T s y), tt), tt)))

  Pieces-send : IsSend (Pieces.the_row T)
  Pieces-send = declared_send (Pieces.the_type T) (Form-send, tt)

  Pieces-sync : IsSync (Pieces.the_row T)
  Pieces-sync = declared_sync (Pieces.the_type T) (Form-sync, tt)

-- a key, by its fields
Key-send : IsSend Key.the_row
Key-send = search (sendable, crosses, maps.crosses) depth 40

Key-sync : IsSync Key.the_row
Key-sync = search (sendable, crosses, maps.crosses) depth 40

module _ (T : RattleType) (s : IsSend T) (y : IsSync T) where
  Member-send : IsSend (Member.the_row T)
  Member-send = declared_send (Member.the_type T) (Key-send, (as_row_send (row_field T) s, tt))

  Member-sync : IsSync (Member.the_row T)
  Member-sync = declared_sync (Member.the_type T) (Key-sync, (as_row_sync (row_field T) y, tt))

module _ (T : RattleType) (s : IsSend T) (y : IsSync T) where
  Members-send : IsSend (Members.the_row T)
  Members-send = declared_send (Members.the_type T) (Pieces-send (Member.the_row T) (Member-send T s y) (Member-sync T s y), tt)

  Members-sync : IsSync (Members.the_row T)
  Members-sync = declared_sync (Members.the_type T) (Pieces-sync (Member.the_row T) (Member-send T s y) (Member-sync T s y), tt)

pub Json-send : IsSend (Json.the_field).row
Json-send =
    knot.both_send-Json (search sendable) (search sendable) (search sendable) (search sendable) (search (sendable, crosses, maps.crosses) depth 60 fits 100000)
    (search (sendable, crosses, maps.crosses) depth 60 fits 100000) (λ h s y. Pieces-send h s y) (λ h s y. Pieces-sync h s y)
    (λ h s y. Members-send h s y) (λ h s y. Members-sync h s y)

pub Json-sync : IsSync (Json.the_field).row
Json-sync =
    knot.both_sync-Json (search sendable) (search sendable) (search sendable) (search sendable) (search (sendable, crosses, maps.crosses) depth 60 fits 100000)
    (search (sendable, crosses, maps.crosses) depth 60 fits 100000) (λ h s y. Pieces-send h s y) (λ h s y. Pieces-sync h s y)
    (λ h s y. Members-send h s y) (λ h s y. Members-sync h s y)
