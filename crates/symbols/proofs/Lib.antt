pub mod Sides
pub mod Found
pub mod Sums
