-- Texts: lines, names, faults, and the trace of some lines.
pub mod Grammar
pub mod Meaning
pub mod Reading
pub mod Limits
pub mod Text
pub mod Numbers
pub mod Faults
pub mod Messages
pub mod TraceData
pub mod Taking
pub mod Lines
pub mod Numbering
pub mod Taken
-- what the reader and the trace hold
pub mod Hashing
pub mod Parsed
pub mod Stored
