pub mod AddedLemmas
pub mod Carry
pub mod Chains
pub mod ClassLemmas
pub mod FinalLemmas
pub mod GroupLemmas
pub mod LateLemmas
pub mod Members
pub mod NearestLaws
pub mod PlaceLemmas
pub mod PlaceTable
pub mod RivalLemmas
pub mod SiteLemmas
pub mod StepLemmas
pub mod TableLemmas
mod Words
