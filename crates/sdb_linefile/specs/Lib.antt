pub mod Causes
pub mod Contents
pub mod Damage
pub mod LineFile
pub mod LineTable
pub mod Lines
