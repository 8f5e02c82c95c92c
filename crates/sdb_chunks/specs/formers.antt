pub mod chunk_group
