pub mod Written
pub mod Blocks
pub mod Listed
pub mod Texts
