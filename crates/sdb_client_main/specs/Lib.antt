pub mod Answers
pub mod Commands
pub mod Outcome
pub mod Reading
pub mod View
