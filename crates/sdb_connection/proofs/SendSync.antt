-- Send of clients, of their passes, and of what the loops of a run share.
use denote.RattleType.{RattleType}
use denote.Param.Send.{IsSend, IsSync, sendable}
use denote.Param.SendFields.{as_row_send, as_row_sync, declared_send, declared_sync, variants_send}
use denote.Struct.Field.{row_field}
use Rattle.std.proofs.Crossing.{crosses}
use Rattle.std.proofs.MapsCrossing as maps
use Rattle.sdb_backend.proofs.SendSync.{Backend-send, Backend-sync, Pass-send}
use Rattle.sdb_backend.proofs.ValueSend.{Json-send, Json-sync}
use Rattle.sdb_value_text.specs.contracts.level.Level as Level
use Rattle.sdb_value_text.specs.contracts.levels.ValueText as ValueText
use Rattle.sdb_wire.specs.contracts.parts.DocumentParts as DocumentParts
use Rattle.sdb_session.specs.contracts.session.Session as Session
use Rattle.sdb_session.specs.contracts.listing.Listing as Listing
use Rattle.sdb_link.specs.contracts.deadlines.Deadlines as Deadlines
use Rattle.sdb_link.specs.contracts.handshake.WaitingClient as WaitingClient
use Rattle.sdb_link.specs.contracts.pending_document.PendingDocument as PendingDocument
use Rattle.sdb_link.proofs.SendSync.{ClosingConnection-send, Handshake-send, Link-send, Metrics-send, Metrics-sync, TcpStream-send}
use Rattle.sdb_loop_state.proofs.SendSync.{LoopState-send, LoopState-sync}
use Rattle.sdb_connection.specs.declared.loop_pass.PassBrand as brand
use Rattle.sdb_connection.specs.contracts.loop_server.LoopServer as LoopServer
use Rattle.sdb_connection.specs.contracts.loop_pass.LoopPass as LoopPass
use Rattle.sdb_connection.specs.contracts.connection.Connection as Connection
use Rattle.sdb_connection.specs.contracts.connection_slot.ConnectionSlot as ConnectionSlot
use Rattle.sdb_connection.specs.contracts.turn.EndedTurn as EndedTurn
use Rattle.sdb_connection.specs.contracts.turn.TurnEvents as TurnEvents
use Rattle.sdb_connection.specs.contracts.pass_supply.PassSupply as PassSupply
use Rattle.sdb_connection.specs.contracts.loop_context.LoopContext as LoopContext

module _ (R P : RattleType) where
  pub LoopServer-send : IsSend R → IsSend P → IsSend (LoopServer.the_row R P)
  LoopServer-send s p =
      declared_send (LoopServer.the_type R P) (Backend-send R s, (as_row_send (row_field P) p, (Metrics-send, (LoopState-send, tt))))

  pub LoopServer-sync : IsSync R → IsSync P → IsSync (LoopServer.the_row R P)
  LoopServer-sync y q =
      declared_sync (LoopServer.the_type R P) (Backend-sync R y, (as_row_sync (row_field P) q, (Metrics-sync, (LoopState-sync, tt))))

Session-send : IsSend Session.the_row
Session-send = declared_send Session.the_type (search (sendable, crosses, maps.crosses) depth 40)

Listing-send : IsSend Listing.the_row
Listing-send = search (sendable, crosses, maps.crosses) depth 40

Level-send : IsSend Level.the_row
Level-send = search (sendable, crosses, maps.crosses, Json-send, Json-sync) depth 60 fits 100000

ValueText-send : IsSend ValueText.the_row
ValueText-send = declared_send ValueText.the_type (search (sendable, crosses, Level-send) depth 40)

DocumentParts-send : IsSend DocumentParts.the_row
DocumentParts-send = declared_send DocumentParts.the_type (search (sendable, crosses, ValueText-send) depth 40)

PendingDocument-send : IsSend PendingDocument.the_row
PendingDocument-send = declared_send PendingDocument.the_type (search (sendable, crosses, DocumentParts-send) depth 40)

WaitingClient-send : IsSend WaitingClient.the_row
WaitingClient-send =
    declared_send WaitingClient.the_type (
      search (sendable, TcpStream-send) depth 20,
      (search (sendable, crosses) depth 20, (search sendable depth 20, tt)),
    )

Deadlines-send : IsSend Deadlines.the_row
Deadlines-send = declared_send Deadlines.the_type (search (sendable, crosses) depth 40)

TurnEvents-send : IsSend TurnEvents.the_row
TurnEvents-send = declared_send TurnEvents.the_type (search sendable depth 20)

module _ (B : RattleType) (g : brand.Ghosts B.Denot) where
  pub LoopPass-send : IsSend B → IsSend (LoopPass.the_row B g)
  LoopPass-send b = declared_send (LoopPass.the_type B g) (search (sendable, Pass-send) depth 20)

  Connection-send : IsSend B → IsSend (Connection.the_row B g)
  Connection-send b = declared_send (Connection.the_type B g) (search (sendable, crosses, Link-send, LoopPass-send, Session-send, Listing-send, PendingDocument-send, Deadlines-send) depth 60)

  pub ConnectionSlot-send : IsSend B → IsSend (ConnectionSlot.the_row B g)
  ConnectionSlot-send b =
      variants_send (ConnectionSlot.enum B g) (
        (search (sendable, Handshake-send) depth 20, tt),
        (
          (search (sendable, WaitingClient-send) depth 20, tt),
          (
            (search (sendable, crosses, Connection-send) depth 20, tt),
            ((search (sendable, TurnEvents-send) depth 20, tt), ((search (sendable, ClosingConnection-send) depth 20, tt), (tt, tt))),
          ),
        ),
      )

  pub EndedTurn-send : IsSend B → IsSend (EndedTurn.the_row B g)
  EndedTurn-send b = declared_send (EndedTurn.the_type B g) (search (sendable, crosses, Connection-send) depth 40)

  PassSupply-send : IsSend B → IsSend (PassSupply.the_row B g)
  PassSupply-send b = declared_send (PassSupply.the_type B g) (search (sendable, crosses, LoopPass-send) depth 40)

  PassSupply-sync : IsSend B → IsSync (PassSupply.the_row B g)
  PassSupply-sync b = declared_sync (PassSupply.the_type B g) (search (sendable, crosses, LoopPass-send) depth 40)

module _ (R P B : RattleType) (g : brand.Ghosts B.Denot) where
  pub LoopContext-send : IsSend R → IsSync R → IsSend P → IsSync P → IsSend B → IsSend (LoopContext.the_row R P B g)
  LoopContext-send s y p q b = declared_send (LoopContext.the_type R P B g) (search (sendable, crosses, LoopServer-send, LoopServer-sync, PassSupply-send, PassSupply-sync) depth 40)
