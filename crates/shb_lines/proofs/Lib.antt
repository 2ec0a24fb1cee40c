pub mod text
pub mod events
