pub mod EachLemmas
pub mod LineLemmas
pub mod Blocks
pub mod Numbered
pub mod KeyedLemmas
pub mod PlaceLemmas
pub mod WrittenText
mod Words
