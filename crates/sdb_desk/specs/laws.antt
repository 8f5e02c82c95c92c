pub mod CachesLaws
pub mod KeyLaws
pub mod LookLaws
pub mod MapLaws
pub mod StateLaws
