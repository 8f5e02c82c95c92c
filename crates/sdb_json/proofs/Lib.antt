pub mod DataLemmas
pub mod ObjectLemmas
