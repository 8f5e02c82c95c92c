mod RebaseLemmas
mod RebasedContentLemmas
mod MadeEntryLemmas
mod RefusalCauseLemmas
mod IndexUpdates
pub mod LogGrowth
pub mod VersionSearch
pub mod IndexLemmas
pub mod AppendLemmas
pub mod DecidedLogLemmas
