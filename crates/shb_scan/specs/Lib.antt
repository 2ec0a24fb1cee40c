pub mod Errors
pub mod FoundNames
pub mod Scans
pub mod Outcomes
