pub mod text
pub mod events
pub mod Growing
pub mod Lowest
