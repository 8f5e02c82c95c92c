pub mod BatchLemmas
pub mod ListingPartLemmas
pub mod PassLemmas
pub mod ResponseLemmas
pub mod SubscriptionMapLemmas
pub mod PumpLemmas
