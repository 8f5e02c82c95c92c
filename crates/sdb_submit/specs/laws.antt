pub mod ShardLaws
pub mod SubmitLaws
