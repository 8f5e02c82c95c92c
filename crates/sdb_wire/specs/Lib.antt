pub mod Answers
pub mod DocumentParts
pub mod View
pub mod Wire
