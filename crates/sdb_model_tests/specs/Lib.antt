pub mod LongestLine
pub mod Tally
