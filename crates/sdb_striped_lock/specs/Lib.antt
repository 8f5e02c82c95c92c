pub mod CloseModel
pub mod AtIndex
pub mod Capacity
pub mod SeatSetModel
pub mod laws
