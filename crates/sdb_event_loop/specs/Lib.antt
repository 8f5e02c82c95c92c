pub use Rattle.sdb_connection.specs.LoopModel
