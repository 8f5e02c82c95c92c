pub mod Coding
pub mod ProjectionLaw
pub mod ProjectionModel
pub mod Table
pub mod View
pub mod worked
