pub mod Blocks
pub mod Counting
pub mod Listing
pub mod Parts
pub mod Reports
pub mod Scheduling
pub mod PieceLemmas
pub mod TextLemmas
mod Words
