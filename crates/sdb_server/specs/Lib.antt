pub mod Clocks
pub mod Runs
pub mod LineSource
pub mod LineView
