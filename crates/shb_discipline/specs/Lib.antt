pub mod Faults
pub mod State
