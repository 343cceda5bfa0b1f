pub mod Cases
pub mod Trials
