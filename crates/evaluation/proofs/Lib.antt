pub mod Rights
pub mod Joins
pub mod Places
pub mod Orders
pub mod Sizes
