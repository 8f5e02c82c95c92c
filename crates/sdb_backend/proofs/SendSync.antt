-- Documents, locks and passes are Send.
use denote.RattleType.{RattleType}
use denote.Param.Send.{IsSend, IsSync, sendable, view_send, view_sync}
use denote.Struct.Field.{row_field}
use denote.Param.SendFields.{as_row_send, as_row_sync, declared_send, declared_sync}
use Rattle.circular_buffer.proofs.Crosses as rings
use Rattle.lru.proofs.Crosses as lru
use Rattle.std.proofs.Crossing.{crosses, frees}
use Rattle.std.proofs.MapsCrossing as maps
use Rattle.sdb_value.specs.contracts.value.Json as Json
use Rattle.sdb_value.specs.contracts.path.Step as Step
use Rattle.sdb_component.specs.contracts.component.Act as Act
use Rattle.sdb_component.specs.contracts.component.Component as Component
use Rattle.sdb_component.specs.contracts.component.Component.TheInside as component
use Rattle.sdb_component.specs.contracts.operation.Components as Components
use Rattle.sdb_component.specs.contracts.operation.Op as Op
use Rattle.sdb_component.specs.contracts.operation.Op.TheInside as op
use Rattle.sdb_component.specs.contracts.path.Path as Path
use Rattle.sdb_component.specs.contracts.path.Path.TheInside as path
use Rattle.sdb_oplog.specs.contracts.content.Kind as Kind
use Rattle.sdb_oplog.specs.contracts.content.Content as Content
use Rattle.sdb_oplog.specs.contracts.content.Content.TheInside as content
use Rattle.sdb_oplog.specs.contracts.entry.Entry as Entry
use Rattle.sdb_oplog.specs.contracts.entry.Fields as Fields
use Rattle.sdb_oplog.specs.contracts.entry.Submission as Submission
use Rattle.sdb_oplog.specs.contracts.entry.Submission.TheInside as submission
use Rattle.sdb_oplog.specs.contracts.log.Log as Log
use Rattle.sdb_oplog.specs.contracts.decided_log.DecidedLog as DecidedLog
use Rattle.sdb_oplog.specs.contracts.decided_log.DecidedLog.TheInside as decided
use Rattle.sdb_snapcache.specs.contracts.cache.Cache as Cache
use Rattle.sdb_snapcache.specs.contracts.cache.Cache.TheInside as cache
use Rattle.sdb_subscribe.specs.contracts.queue.Queue as Queue
use Rattle.sdb_subscribe.specs.contracts.queue.Queue.TheInside as queue
use Rattle.sdb_subscribe.specs.contracts.queues.Queues as Queues
use Rattle.sdb_subscribe.specs.contracts.queues.Queues.TheInside as queues
use Rattle.sdb_desk.specs.contracts.document.Document as Document
use Rattle.sdb_desk.specs.contracts.document.Document.TheInside as document
use Rattle.sdb_desk.specs.contracts.document_slot.DocumentSlot as Slot
use Rattle.sdb_desk.specs.contracts.document_slot.DocumentSlot.TheInside as slot
use Rattle.sdb_desk.specs.contracts.shard.Shard as Shard
use Rattle.sdb_striped_lock.specs.contracts.striped_lock.StripedLock as Locks
use Rattle.sdb_striped_lock.proofs.striped_lock.StripedLock.TheSendSync as locks
use Rattle.sdb_striped_lock.proofs.striped_lock.SeatSet.TheSendSync as seats
use Rattle.sdb_backend.specs.contracts.backend.Backend as Backend
use Rattle.sdb_backend.specs.contracts.counts.StoredCounts as StoredCounts
use Rattle.sdb_backend.specs.contracts.work_limits.WorkLimits as WorkLimits
use Rattle.sdb_backend.proofs.ValueSend.{Json-send, Json-sync}
use Rattle.sdb_backend.specs.contracts.shard_value.Held as Held
use Rattle.sdb_backend.specs.contracts.shard_value.HeldGrows.TheImpl as grows
use Rattle.sdb_backend.specs.contracts.pass.Pass as Pass
use Rattle.sdb_backend.specs.contracts.unsaved.EntryAt as EntryAt

pub Act-send : IsSend Act.the_row
Act-send = search (sendable, crosses, maps.crosses, Json-send, Json-sync) depth 20

pub Act-sync : IsSync Act.the_row
Act-sync = search (sendable, crosses, maps.crosses, Json-send, Json-sync) depth 20

pub Step-send : IsSend Step.the_row
Step-send = search (sendable, crosses, maps.crosses) depth 20

pub Step-sync : IsSync Step.the_row
Step-sync = search (sendable, crosses, maps.crosses) depth 20

path-send : IsSend path.the_row
path-send = declared_send path.the_type (search (sendable, crosses, Step-send, Step-sync) depth 20, tt)

path-sync : IsSync path.the_row
path-sync = declared_sync path.the_type (search (sendable, crosses, Step-send, Step-sync) depth 20, tt)

pub Path-send : IsSend Path.the_row
Path-send = view_send _ _ _ _ _ path-send

pub Path-sync : IsSync Path.the_row
Path-sync = view_sync _ _ _ _ _ path-sync

component-send : IsSend component.the_row
component-send = declared_send component.the_type (search (sendable, Path-send) depth 20, (search (sendable, Act-send) depth 20, tt))

component-sync : IsSync component.the_row
component-sync = declared_sync component.the_type (search (sendable, Path-sync) depth 20, (search (sendable, Act-sync) depth 20, tt))

pub Component-send : IsSend Component.the_row
Component-send = view_send _ _ _ _ _ component-send

pub Component-sync : IsSync Component.the_row
Component-sync = view_sync _ _ _ _ _ component-sync

Components-send : IsSend Components.the_row
Components-send = search (sendable, crosses, maps.crosses, Component-send) depth 20

Components-sync : IsSync Components.the_row
Components-sync = search (sendable, crosses, maps.crosses, Component-sync) depth 20

op-send : IsSend op.the_row
op-send = declared_send op.the_type (search (sendable, Components-send) depth 20, tt)

op-sync : IsSync op.the_row
op-sync = declared_sync op.the_type (search (sendable, Components-sync) depth 20, tt)

pub Op-send : IsSend Op.the_row
Op-send = view_send _ _ _ _ _ op-send

pub Op-sync : IsSync Op.the_row
Op-sync = view_sync _ _ _ _ _ op-sync

pub Kind-send : IsSend Kind.the_row
Kind-send = search (sendable, crosses, maps.crosses, Json-send, Json-sync, Op-send, Op-sync) depth 20

content-send : IsSend content.the_row
content-send = declared_send content.the_type (search (sendable, Kind-send) depth 20, tt)

pub Content-send : IsSend Content.the_row
Content-send = view_send _ _ _ _ _ content-send

Kind-sync : IsSync Kind.the_row
Kind-sync = search (sendable, crosses, maps.crosses, Json-send, Json-sync, Op-send, Op-sync) depth 20

content-sync : IsSync content.the_row
content-sync = declared_sync content.the_type (search (sendable, Kind-sync) depth 20, tt)

pub Content-sync : IsSync Content.the_row
Content-sync = view_sync _ _ _ _ _ content-sync

Fields-send : IsSend Fields.the_row
Fields-send = search (sendable, crosses, maps.crosses, Content-send) depth 20

Fields-sync : IsSync Fields.the_row
Fields-sync = search (sendable, crosses, maps.crosses, Content-sync) depth 20

submission-send : IsSend submission.the_row
submission-send = declared_send submission.the_type (search (sendable, crosses, Fields-send, Fields-sync) depth 20, tt)

submission-sync : IsSync submission.the_row
submission-sync = declared_sync submission.the_type (search (sendable, crosses, Fields-send, Fields-sync) depth 20, tt)

pub Submission-send : IsSend Submission.the_row
Submission-send = view_send _ _ _ _ _ submission-send

pub Submission-sync : IsSync Submission.the_row
Submission-sync = view_sync _ _ _ _ _ submission-sync

pub Entry-send : IsSend Entry.the_row
Entry-send = search (sendable, crosses, maps.crosses, Content-send, Submission-send) depth 20

pub Log-send : IsSend Log.the_row
Log-send = search (sendable, crosses, maps.crosses, Entry-send) depth 20

row-send : IsSend Json.the_row
row-send = search (sendable, Json-send) depth 20

cache-send : IsSend cache.the_row
cache-send = declared_send cache.the_type (search (sendable, crosses) depth 20, (search (sendable, crosses, maps.crosses, lru.List-send, lru.Deed-send, lru.KeyRef-send, frees, row-send) depth 30, tt))

pub Cache-send : IsSend Cache.the_row
Cache-send = view_send _ _ _ _ _ cache-send

decided-send : IsSend decided.the_row
decided-send = declared_send decided.the_type (search (sendable, Log-send) depth 20, (search (sendable, crosses, Json-send) depth 20, tt))

DecidedLog-send : IsSend DecidedLog.the_row
DecidedLog-send = view_send _ _ _ _ _ decided-send

document-send : IsSend document.the_row
document-send = declared_send document.the_type (search (sendable, DecidedLog-send) depth 20, (search (sendable, Cache-send) depth 20, tt))

pub Document-send : IsSend Document.the_row
Document-send = view_send _ _ _ _ _ document-send

queue-send : IsSend queue.the_row
queue-send = declared_send queue.the_type (search sendable, (search sendable, (search sendable, (search (sendable, crosses, rings.Cells-send, rings.Deed-send, frees, Entry-send) depth 30, tt))))

pub Queue-send : IsSend Queue.the_row
Queue-send = view_send _ _ _ _ _ queue-send

queues-send : IsSend queues.the_row
queues-send = declared_send queues.the_type (search (sendable, crosses) depth 20, (search sendable, (search (sendable, crosses, maps.crosses, Queue-send) depth 20, tt)))

pub Queues-send : IsSend Queues.the_row
Queues-send = view_send _ _ _ _ _ queues-send

slot-send : IsSend slot.the_row
slot-send = declared_send slot.the_type (search (sendable, crosses, Document-send) depth 20, (search (sendable, Queues-send) depth 20, tt))

pub Slot-send : IsSend Slot.the_row
Slot-send = view_send _ _ _ _ _ slot-send

pub Shard-send : IsSend Shard.the_row
Shard-send = search (sendable, crosses, maps.crosses, Slot-send) depth 20

EntryAt-send : IsSend EntryAt.the_row
EntryAt-send = search (sendable, crosses) depth 20

pub Held-send : IsSend Held.the_row
Held-send = declared_send Held.the_type (Shard-send, (search (sendable, crosses, EntryAt-send) depth 20, tt))

Locks-send : IsSend (Locks.the_row Held.the_row grows.ghosts)
Locks-send = search (locks.the_send, Held-send) depth 20

Locks-sync : IsSync (Locks.the_row Held.the_row grows.ghosts)
Locks-sync = search (locks.the_sync, Held-send) depth 20

pub Pass-send : IsSend Pass.the_row
Pass-send = declared_send Pass.the_type (search (sendable, seats.the_send, Held-send) depth 20, tt)

StoredCounts-send : IsSend StoredCounts.the_row
StoredCounts-send = declared_send StoredCounts.the_type (search (sendable, crosses) depth 20)

StoredCounts-sync : IsSync StoredCounts.the_row
StoredCounts-sync = declared_sync StoredCounts.the_type (search (sendable, crosses) depth 20)

WorkLimits-send : IsSend WorkLimits.the_row
WorkLimits-send = declared_send WorkLimits.the_type (search (sendable, crosses) depth 20)

WorkLimits-sync : IsSync WorkLimits.the_row
WorkLimits-sync = declared_sync WorkLimits.the_type (search (sendable, crosses) depth 20)

module _ (R : RattleType) where
  pub Backend-send : IsSend R → IsSend (Backend.the_row R)
  Backend-send s = declared_send (Backend.the_type R) (search (sendable, crosses) depth 20, (as_row_send (row_field R) s, (Locks-send, (StoredCounts-send, (WorkLimits-send, tt)))))

  pub Backend-sync : IsSync R → IsSync (Backend.the_row R)
  Backend-sync y = declared_sync (Backend.the_type R) (search (sendable, crosses) depth 20, (as_row_sync (row_field R) y, (Locks-sync, (StoredCounts-sync, (WorkLimits-sync, tt)))))
