pub mod Steps
pub mod Lists
pub mod Parts
pub mod Turns
