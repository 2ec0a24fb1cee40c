pub mod OneReport
pub mod OwnReport
pub mod Reports
pub mod Endings
pub mod Outcomes
pub mod Within
mod Words
