pub mod Reasons
pub mod Walks
