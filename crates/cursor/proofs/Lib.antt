pub mod Steps
pub mod MoreSteps
pub mod Reading
pub mod Room
