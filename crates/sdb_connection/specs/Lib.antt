pub mod LoopModel
pub mod PassLocks
pub mod PassModel
