pub mod Fronts
pub mod Machine
pub mod Language
pub mod Values
mod Digits
mod Peeling
pub mod Listing
mod LineEnds
mod Passing
pub mod EntryLemmas
pub mod ScanLemmas
pub mod Bad
pub mod Injective
mod Words
