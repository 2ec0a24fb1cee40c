pub mod OneTrace
pub mod OneVerdict
pub mod Endings
mod Words
