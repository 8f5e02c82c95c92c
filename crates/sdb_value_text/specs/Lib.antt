pub mod ValueText
pub mod Level
pub mod Remaining
