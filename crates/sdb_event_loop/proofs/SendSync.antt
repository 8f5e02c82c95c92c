-- Send of loops and of the threads that run them.
use denote.RattleType.{RattleType}
use denote.Param.Send.{IsSend, IsSync, sendable}
use denote.Param.SendFields.{declared_send}
use Rattle.std.proofs.Crossing.{crosses}
use Rattle.mio.specs.contracts.net.listener.TcpListener as TcpListener
use Rattle.sdb_connection.specs.declared.loop_pass.PassBrand as brand
use Rattle.sdb_connection.proofs.SendSync.{ConnectionSlot-send, EndedTurn-send, LoopContext-send, LoopPass-send}
use Rattle.sdb_link.proofs.SendSync.{LoopBuffers-send}
use Rattle.sdb_loop_state.proofs.SendSync.{ConnectionLists-send, Subscribers-send}
use Rattle.sdb_loop_state.proofs.SendSync as state
use Rattle.sdb_loop_state.specs.contracts.loop_slots.LoopSlots as LoopSlots
use Rattle.sdb_connection.specs.contracts.loop_pass.LoopPass as LoopPass
use Rattle.sdb_connection.specs.contracts.turn.EndedTurn as EndedTurn
use Rattle.sdb_event_loop.specs.contracts.acceptor.Acceptor as Acceptor
use Rattle.sdb_event_loop.specs.contracts.connections.Connections as Connections
use Rattle.sdb_event_loop.specs.contracts.kept_passes.KeptPasses as KeptPasses
use Rattle.sdb_event_loop.specs.contracts.loop_clock.LoopClock as LoopClock
use Rattle.sdb_event_loop.specs.contracts.event_loop.EventLoop as EventLoop
use Rattle.sdb_event_loop.specs.contracts.polled_loop.PolledLoop as PolledLoop
use Rattle.sdb_event_loop.specs.contracts.polled_loop.LoopRunner as LoopRunner

TcpListener-send : IsSend TcpListener.the_row
TcpListener-send = search (sendable, crosses) depth 20

TcpListener-sync : IsSync TcpListener.the_row
TcpListener-sync = search (sendable, crosses) depth 20

Acceptor-send : IsSend Acceptor.the_row
Acceptor-send = declared_send Acceptor.the_type (search (sendable, crosses, TcpListener-send, TcpListener-sync) depth 20)

LoopClock-send : IsSend LoopClock.the_row
LoopClock-send = declared_send LoopClock.the_type (search (sendable, crosses) depth 20)

module _ (B : RattleType) (g : brand.Ghosts B.Denot) where
  Connections-send : IsSend B → IsSend (Connections.the_row B g)
  Connections-send b = declared_send (Connections.the_type B g) (search (sendable, crosses, ConnectionSlot-send, ConnectionLists-send) depth 40)

  KeptPasses-send : IsSend B → IsSend (KeptPasses.the_row B g)
  KeptPasses-send b = declared_send (KeptPasses.the_type B g) (search (sendable, crosses, LoopPass-send) depth 40)

module _ (R P B : RattleType) (g : brand.Ghosts B.Denot) where
  EventLoop-send : IsSend R → IsSync R → IsSend P → IsSync P → IsSend B → IsSend (EventLoop.the_row R P B g)
  EventLoop-send s y p q b =
      declared_send (EventLoop.the_type R P B g) (
        search (sendable, crosses) depth 20,
        (
          LoopContext-send R P B g s y p q b,
          (
            search sendable depth 20,
            (
              Acceptor-send,
              (
                Connections-send B g b,
                (
                  Subscribers-send,
                  (LoopBuffers-send, (LoopClock-send, (search sendable depth 20, (KeptPasses-send B g b, tt)))),
                ),
              ),
            ),
          ),
        ),
      )

  PolledLoop-send : IsSend R → IsSync R → IsSend P → IsSync P → IsSend B → IsSend (PolledLoop.the_row R P B g)
  PolledLoop-send s y p q b = declared_send (PolledLoop.the_type R P B g) (search (sendable, crosses, EventLoop-send) depth 40)

  pub SlotsOfLoops-send : IsSend R → IsSync R → IsSend P → IsSync P → IsSend B
      → IsSend (LoopSlots.the_row (PolledLoop.the_row R P B g) (EndedTurn.the_row B g) (LoopPass.the_row B g))
  SlotsOfLoops-send s y p q b = state.LoopSlots-send _ _ _ (PolledLoop-send s y p q b) (EndedTurn-send B g b) (LoopPass-send B g b)

  pub SlotsOfLoops-sync : IsSend R → IsSync R → IsSend P → IsSync P → IsSend B
      → IsSync (LoopSlots.the_row (PolledLoop.the_row R P B g) (EndedTurn.the_row B g) (LoopPass.the_row B g))
  SlotsOfLoops-sync s y p q b = state.LoopSlots-sync _ _ _ (PolledLoop-send s y p q b) (EndedTurn-send B g b) (LoopPass-send B g b)

  pub LoopRunner-send : IsSend R → IsSync R → IsSend P → IsSync P → IsSend B → IsSend (LoopRunner.the_row R P B g)
  LoopRunner-send s y p q b = declared_send (LoopRunner.the_type R P B g) (search (sendable, crosses, LoopContext-send, SlotsOfLoops-send, SlotsOfLoops-sync, LoopBuffers-send) depth 40)
