mod ListLemmas
pub mod SendSync
