mod Calls
mod Lanes
mod Makes
mod Opens
mod Plays
mod Writes
pub mod NextLoads
pub mod NextRows
pub mod NextSteps
