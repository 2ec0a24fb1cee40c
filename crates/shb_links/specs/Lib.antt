pub mod Latest
pub mod Links
pub mod Sharing
