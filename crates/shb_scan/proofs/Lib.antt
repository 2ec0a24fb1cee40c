pub mod FoundNames
pub mod RaceBlocks
pub mod CountedPlaces
pub mod Pushes
pub mod Noted
pub mod Taking
pub mod Places
pub mod StoredEvents
pub mod Endings
pub mod Listed
pub mod Outcomes
pub mod OneScan
mod Words
