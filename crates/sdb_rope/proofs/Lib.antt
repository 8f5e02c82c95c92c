pub mod ChunkLemmas
pub mod OffsetLemmas
pub mod Utf8Lemmas
pub mod GroupLemmas
pub mod ChunkEdits
pub mod ChunkListLemmas
pub mod PositionLemmas
pub mod BoundaryLemmas
