pub mod CutLemmas
pub mod Ends
pub mod Grouping
pub mod Places
pub mod Printed
mod Words
