-- Send of what the threads of loops share.
use denote.RattleType.{RattleType}
use denote.Param.Send.{IsSend, IsSync, sendable}
use denote.Param.SendFields.{declared_send, declared_sync}
use Rattle.std.proofs.Crossing.{crosses}
use Rattle.mio.specs.contracts.waker.Waker as Waker
use Rattle.sdb_progress.specs.contracts.progress.SaveProgress as SaveProgress
use Rattle.sdb_loop_state.specs.contracts.client_counts.ClientCounts as ClientCounts
use Rattle.sdb_loop_state.specs.contracts.connection_lists.ConnectionLists as ConnectionLists
use Rattle.sdb_loop_state.specs.contracts.large_turns.LargeTurns as LargeTurns
use Rattle.sdb_loop_state.specs.contracts.loop_port.LoopPort as LoopPort
use Rattle.sdb_loop_state.specs.contracts.loop_ports.LoopPorts as LoopPorts
use Rattle.sdb_loop_state.specs.contracts.loop_settings.LoopSettings as LoopSettings
use Rattle.sdb_loop_state.specs.contracts.loop_slot.LoopSlot as LoopSlot
use Rattle.sdb_loop_state.specs.contracts.loop_slots.LoopSlots as LoopSlots
use Rattle.sdb_loop_state.specs.contracts.loop_slots.Waiting as Waiting
use Rattle.sdb_loop_state.specs.contracts.loop_state.LoopState as LoopState
use Rattle.sdb_loop_state.specs.contracts.server_flags.ServerFlags as ServerFlags
use Rattle.sdb_loop_state.specs.contracts.subscribers.Subscribers as Subscribers

Waker-send : IsSend Waker.the_row
Waker-send = search (sendable, crosses) depth 20

LoopPort-send : IsSend LoopPort.the_row
LoopPort-send = declared_send LoopPort.the_type (search (crosses, sendable, Waker-send) depth 12)

LoopPort-sync : IsSync LoopPort.the_row
LoopPort-sync = declared_sync LoopPort.the_type (search (crosses, sendable, Waker-send) depth 12)

LoopPorts-send : IsSend LoopPorts.the_row
LoopPorts-send = declared_send LoopPorts.the_type (search (crosses, sendable, LoopPort-send) depth 12)

LoopPorts-sync : IsSync LoopPorts.the_row
LoopPorts-sync = declared_sync LoopPorts.the_type (search (crosses, sendable, LoopPort-sync) depth 12)

LargeTurns-send : IsSend LargeTurns.the_row
LargeTurns-send = declared_send LargeTurns.the_type (search (crosses, sendable) depth 20)

LargeTurns-sync : IsSync LargeTurns.the_row
LargeTurns-sync = declared_sync LargeTurns.the_type (search (crosses, sendable) depth 20)

ClientCounts-send : IsSend ClientCounts.the_row
ClientCounts-send = declared_send ClientCounts.the_type (search (crosses, sendable) depth 20)

ClientCounts-sync : IsSync ClientCounts.the_row
ClientCounts-sync = declared_sync ClientCounts.the_type (search (crosses, sendable) depth 20)

ServerFlags-send : IsSend ServerFlags.the_row
ServerFlags-send = declared_send ServerFlags.the_type (search (crosses, sendable) depth 20)

ServerFlags-sync : IsSync ServerFlags.the_row
ServerFlags-sync = declared_sync ServerFlags.the_type (search (crosses, sendable) depth 20)

pub SaveProgress-send : IsSend SaveProgress.the_row
SaveProgress-send = declared_send SaveProgress.the_type (search (sendable, crosses) depth 20)

pub SaveProgress-sync : IsSync SaveProgress.the_row
SaveProgress-sync = declared_sync SaveProgress.the_type (search (sendable, crosses) depth 20)

LoopSettings-send : IsSend LoopSettings.the_row
LoopSettings-send = declared_send LoopSettings.the_type (search (crosses, sendable, SaveProgress-send, SaveProgress-sync) depth 20)

LoopSettings-sync : IsSync LoopSettings.the_row
LoopSettings-sync = declared_sync LoopSettings.the_type (search (crosses, sendable, SaveProgress-send, SaveProgress-sync) depth 20)

pub LoopState-send : IsSend LoopState.the_row
LoopState-send =
    declared_send LoopState.the_type (search (crosses, sendable, LoopSettings-send, ServerFlags-send, ClientCounts-send, LoopPorts-send, LargeTurns-send) depth 20)

pub LoopState-sync : IsSync LoopState.the_row
LoopState-sync =
    declared_sync LoopState.the_type (search (crosses, sendable, LoopSettings-sync, ServerFlags-sync, ClientCounts-sync, LoopPorts-sync, LargeTurns-sync) depth 20)

pub ConnectionLists-send : IsSend ConnectionLists.the_row
ConnectionLists-send = declared_send ConnectionLists.the_type (search (crosses, sendable) depth 20)

pub Subscribers-send : IsSend Subscribers.the_row
Subscribers-send = declared_send Subscribers.the_type (search (crosses, sendable) depth 20)

Waiting-send : IsSend Waiting.the_row
Waiting-send = declared_send Waiting.the_type (search (crosses, sendable) depth 20)

module _ (L T : RattleType) where
  pub LoopSlot-send : IsSend L → IsSend T → IsSend (LoopSlot.the_row L T)
  LoopSlot-send l t = declared_send (LoopSlot.the_type L T) (search (sendable, crosses) depth 40)

  pub LoopSlot-sync : IsSend L → IsSend T → IsSync (LoopSlot.the_row L T)
  LoopSlot-sync l t = declared_sync (LoopSlot.the_type L T) (search (sendable, crosses) depth 40)

module _ (L T K : RattleType) where
  pub LoopSlots-send : IsSend L → IsSend T → IsSend K → IsSend (LoopSlots.the_row L T K)
  LoopSlots-send l t k = declared_send (LoopSlots.the_type L T K) (search (sendable, crosses, LoopSlot-send, Waiting-send) depth 40)

  pub LoopSlots-sync : IsSend L → IsSend T → IsSend K → IsSync (LoopSlots.the_row L T K)
  LoopSlots-sync l t k = declared_sync (LoopSlots.the_type L T K) (search (sendable, crosses, LoopSlot-sync, Waiting-send) depth 40)
