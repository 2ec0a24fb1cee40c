pub mod ByEventLemmas
pub mod FoundLemmas
pub mod GivenLemmas
pub mod SortedLemmas
