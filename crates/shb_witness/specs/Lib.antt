pub mod Cuts
pub mod Schedules
pub mod ThreadEvents
