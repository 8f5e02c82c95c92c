pub mod LastStep
pub mod LimitLemmas
pub mod PrintLemmas
pub mod SizeLemmas
pub mod WriteLemmas
