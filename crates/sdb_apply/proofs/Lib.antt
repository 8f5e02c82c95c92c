pub mod ChangeLemmas
pub mod FoldLemmas
pub mod OutcomeLemmas
pub mod BelowLemmas
