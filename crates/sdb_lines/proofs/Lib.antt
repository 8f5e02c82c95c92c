pub mod ChunkLemmas
pub mod Runs
pub mod WriteLemmas
pub mod ProgressLemmas
pub mod AnswerParts
