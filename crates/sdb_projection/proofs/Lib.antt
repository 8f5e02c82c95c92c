pub mod CommuteLemmas
pub mod FieldLemmas
pub mod MemberWalk
mod ObjectLemmas
