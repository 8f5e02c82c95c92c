pub mod ChunkGroup
