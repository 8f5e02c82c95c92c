mod Keys
pub mod Tallies
