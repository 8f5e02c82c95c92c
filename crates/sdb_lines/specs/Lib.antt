pub mod Counts
pub mod Prefixes
pub mod Limits
pub mod Lines
pub mod Chunks
pub mod Runs
pub mod WriteFaults
pub mod Streams
