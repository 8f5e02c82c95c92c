pub mod QueueMapLemmas
pub mod RingLemmas
pub mod TakeLemmas
