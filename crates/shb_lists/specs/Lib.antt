pub mod Found
pub mod Given
pub mod Listed
