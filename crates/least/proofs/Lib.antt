pub mod Notes
pub mod Lists
pub mod Leasts
pub mod Finds
