pub mod CacheModel
pub mod Borrows
pub mod SnapInvariant
pub mod View
pub mod laws
pub mod worked
