pub mod BatchLaws
pub mod ListingLaws
pub mod MachineLaws
pub mod RequestLaws
pub mod SessionLaws
