pub mod Standing
pub mod Closed
pub mod Cuts
pub mod FrontDiscipline
pub mod LastWrites
pub mod Law
pub mod Origins
pub mod Lowest
pub mod OneAnswer
pub mod OrderReasons
pub mod OperationReasons
pub mod WalkSteps
pub mod Clearing
mod Words
