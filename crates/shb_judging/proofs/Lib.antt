mod LongSchedules
pub mod GoodBlocks
mod GoodRaces
mod ShownPlaces
mod JudgedBlocks
mod MorePlaces
mod TextVerdicts
pub mod WrittenGood
pub mod VerdictLaws
mod Words
