-- Send of the sockets of clients and of what serves them.
use denote.Param.Send.{IsSend, IsSync, sendable}
use denote.Param.SendFields.{declared_send, declared_sync}
use Rattle.std.proofs.Crossing.{crosses}
use Rattle.mio.specs.contracts.net.stream.TcpStream as TcpStream
use Rattle.sdb_loop_state.proofs.SendSync.{SaveProgress-send, SaveProgress-sync}
use Rattle.sdb_link.specs.contracts.closing.ClosingConnection as ClosingConnection
use Rattle.sdb_link.specs.contracts.handshake.Handshake as Handshake
use Rattle.sdb_link.specs.contracts.link.Link as Link
use Rattle.sdb_link.specs.contracts.loop_buffers.LoopBuffers as LoopBuffers
use Rattle.sdb_link.specs.contracts.metrics.Metrics as Metrics

pub Metrics-send : IsSend Metrics.the_row
Metrics-send = declared_send Metrics.the_type (search (crosses, sendable) depth 20)

pub Metrics-sync : IsSync Metrics.the_row
Metrics-sync = declared_sync Metrics.the_type (search (crosses, sendable) depth 20)

pub TcpStream-send : IsSend TcpStream.the_row
TcpStream-send = search (sendable, crosses) depth 20

pub Handshake-send : IsSend Handshake.the_row
Handshake-send = declared_send Handshake.the_type (search (sendable, crosses) depth 40)

pub Link-send : IsSend Link.the_row
Link-send = declared_send Link.the_type (search (sendable, crosses) depth 40)

pub ClosingConnection-send : IsSend ClosingConnection.the_row
ClosingConnection-send = declared_send ClosingConnection.the_type (search (sendable, crosses) depth 40)

pub LoopBuffers-send : IsSend LoopBuffers.the_row
LoopBuffers-send = declared_send LoopBuffers.the_type (search (sendable, crosses, SaveProgress-send, SaveProgress-sync) depth 30)
