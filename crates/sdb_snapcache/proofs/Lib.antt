pub mod NearestLemmas
pub mod LruLemmas
