mod ChunkBounds
mod GroupLemmas
pub mod FlattenLemmas
