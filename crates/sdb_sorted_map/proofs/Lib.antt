pub mod RunLemmas
pub mod EditLemmas
pub mod EntryLemmas
pub mod OrderLemmas
pub mod BinarySearch
