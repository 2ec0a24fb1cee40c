pub mod Reading
pub mod Forms
pub mod Lines
pub mod Parts
