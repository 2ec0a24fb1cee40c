-- Traces: lists of events, their orders, races and schedules.
pub mod Events
pub mod Discipline
pub mod Order
pub mod Race
pub mod Sizes
pub mod Schedule
pub mod Tests
pub mod Reach
