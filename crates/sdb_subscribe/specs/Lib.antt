pub mod Coding
pub mod Queue
pub mod Ring
pub mod laws
pub mod worked
