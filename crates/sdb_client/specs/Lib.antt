pub mod Coding
pub mod Fault
pub mod Send
pub mod View
