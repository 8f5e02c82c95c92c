pub mod ListingLaws
pub mod RestorationLaws
