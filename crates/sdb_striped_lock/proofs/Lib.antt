pub mod CloseLemmas
pub mod IndexLemmas
