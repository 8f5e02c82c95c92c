-- What the threads of a server with a store own is Send.
use denote.RattleType.{RattleType}
use denote.Param.Send.{IsSend, IsSync, sendable}
use denote.Param.SendFields.{as_row_send, declared_send}
use denote.Struct.Field.{row_field}
use Rattle.std.proofs.Crossing.{crosses}
use Rattle.std.proofs.MapsCrossing as maps
use Rattle.sdb_projection.specs.contracts.table.Table as Table
use Rattle.sdb_backend.specs.contracts.unsaved.EntryAt as EntryAt
use Rattle.sdb_backend.proofs.SendSync.{Pass-send}
use Rattle.sdb_connection.proofs.SendSync.{LoopServer-send, LoopServer-sync}
use Rattle.sdb_loop_state.proofs.SendSync.{SaveProgress-send, SaveProgress-sync}
use Rattle.sdb_store.specs.contracts.saver.Saver as Saver
use Rattle.sdb_server_cli.specs.contracts.stored.SavingThread as SavingThread

pub Table-send : IsSend Table.the_row
Table-send = search (sendable, crosses, maps.crosses) depth 20

pub Table-sync : IsSync Table.the_row
Table-sync = search (sendable, crosses, maps.crosses) depth 20

EntryAt-send : IsSend EntryAt.the_row
EntryAt-send = search (sendable, crosses) depth 20

pub Saver-send : IsSend Saver.the_row
Saver-send =
    declared_send Saver.the_type (
      search (sendable, crosses) depth 20,
      (
        Pass-send,
        (
          search (sendable, crosses, EntryAt-send) depth 20,
          (search sendable, (search (sendable, crosses) depth 20, (search sendable, (search sendable, tt)))),
        ),
      ),
    )

module _ (R W : RattleType) where
  pub SavingThread-send : IsSend R → IsSync R → IsSend W → IsSend (SavingThread.the_row R W)
  SavingThread-send s y w =
      declared_send (SavingThread.the_type R W) (
        as_row_send (row_field R) s,
        (
          search (LoopServer-send, LoopServer-sync, Table-send, Table-sync, sendable, crosses) depth 40,
          (
            Saver-send,
            (
              as_row_send (row_field W) w,
              (search (SaveProgress-send, SaveProgress-sync, sendable, crosses) depth 40, tt),
            ),
          ),
        ),
      )
