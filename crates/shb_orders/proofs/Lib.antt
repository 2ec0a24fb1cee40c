pub mod ClockLemmas
pub mod LearnedLemmas
pub mod MarksLemmas
pub mod MayLearn
pub mod RowLemmas
pub mod Times
mod Words
